-- The cells of one class are visited, class after class.
use Rattle.std.proofs.Common.{◌≡◌, ℕ, ◌<◌, List, [], ◌∷◌, ◌++◌, get_or, set, sym, ap, ◌∙◌, subst, inl, inr, arith}
use Rattle.std.proofs.lemmas.Bool.{cases_lt}
use Rattle.xorset.specs.Search.{Between, Going, IsCell, Touches, Waits}
use Rattle.std.specs.List.{Contains}
use Rattle.std.proofs.lemmas.List.Elements.{Contains-push}
use Rattle.xorset.proofs.Stepping.{pop, root}

module _ (n : ℕ) (t : ℕ → ℕ) (l r : ℕ) where
  module _ (vs held rest : List ℕ) (c : ℕ) (e : held ≡ rest ++ c ∷ []) where
    -- the latest cell c of the stack has a value
    pub popped_valued : Going n t l r vs held (Waits n l r held) → get_or vs c 2 < 2
    popped_valued g = g.stacked c (subst (λ x. Contains x c) (sym e) (Contains-push rest c))

    -- so it is the cell of an assignment
    pub popped_cell : Going n t l r vs held (Waits n l r held) → IsCell n l r c
    popped_cell g = g.cells c (λ q. let valued = popped_valued g in omega arith)

    -- it is visited next
    pub popped : (cell : ℕ) → cell ≡ c → Going n t l r vs held (Waits n l r held) → Going n t l r vs rest (Touches n l r rest cell)
    popped cell same g =
        subst (λ x. Going n t l r vs rest (Touches n l r rest x)) (sym same) (pop n t l r vs rest c (subst (λ x. Going n t l r vs x (Waits n l r x)) e g))

  module _ (vs held : List ℕ) (k : ℕ) (b : Between n t l r k vs held) where
    -- one that waits is the first of its class
    pub first_of : (after : List ℕ) → get_or vs k 2 ≡ 3 → after ≡ held ++ k ∷ [] → Going n t l r (set vs k 0) after (Waits n l r after)
    first_of after wait e =
        subst (λ x. Going n t l r (set vs k 0) x (Waits n l r x)) (sym (e ∙ ap (λ x. x ++ k ∷ []) b.empty))
        (root n t l r vs k b.going wait (λ w q. elim (cases_lt w k) [ inl lt ↦ absurd (b.past w lt q) | inr le ↦ le ]))
