-- The links of a cell are followed one by one.
use Rattle.std.proofs.Common.{◌≡◌, ℕ, ◌+◌, ◌-◌, ◌^◌, ◌<◌, ◌≤◌, ◌⊎◌, List, [], ◌∷◌, ◌++◌, length, get_or, set, sym, ap, ◌∙◌, subst, inl, inr, arith}
use lib.Bits.{bit_and, and_le_l, and_le_r, and_self}
use Rattle.std.proofs.lemmas.List.{get_or_default, length_push}
use Rattle.std.proofs.lemmas.Bool.{cases_eq}
use Rattle.std.specs.List.{Contains}
use Rattle.std.proofs.lemmas.List.Elements.{Contains-append_left, Contains-push}
use Rattle.xorset.specs.Search.{Conflicts, Ends, Followed, Going, NoValues, Remains, Touches, Visits, Went, cell_of, waiting, wanted}
use Rattle.xorset.specs.declared.frame.Visit.{Visit}
use Rattle.xorset.proofs.Linking.{wanted_small}
use Rattle.xorset.proofs.Stepping.{reopen, link_none, link_same, link_pushed, link_conflict}
use Rattle.xorset.proofs.Masking.{add_below, add-clear, and_inside, next_part}
use Rattle.xorset.proofs.Writing.{inside, written_kept, written_fewer, written_waiting}

-- the numbers below which subsets of a group are still to come: one above the group, or a subset of it
abbrev pub IsBound : ℕ → ℕ → Type 0
IsBound group bound = (bound ≡ group + 1) ⊎ (bit_and bound group ≡ bound)

-- the state at a turn: from the values and the stack at the visit's start to those now, where the subsets of the group from `bound` on are done
pub record Turning (n : ℕ) (t : ℕ → ℕ) (l r : ℕ) (visit : Visit) (first_vs first_held vs held : List ℕ) (value bound : ℕ) : Type 0 where
  pub going : Going n t l r vs held (Remains n l r held visit.group visit.base bound)
  pub fewer : (c : ℕ) → get_or vs c 2 ≡ 3 → get_or first_vs c 2 ≡ 3
  pub less : waiting vs + length held ≤ waiting first_vs + length first_held
  pub value_is : get_or vs visit.cell 2 ≡ value
  pub small : value < 2

module _ (n : ℕ) (t : ℕ → ℕ) (l r : ℕ) (visit : Visit) (visits : Visits n l r visit) where
  -- the assignment of a subset of the group
  pub assignment_below : (part : ℕ) → bit_and part visit.group ≡ part → visit.base + part < 2 ^ n
  assignment_below part e =
      let low = and_le_r part visit.group in
      add_below n part visit.group visit.base visits.base (omega (arith, visits.group)) visits.apart e

  -- its cells are the cell visited and one of the other side
  ends_at : (part : ℕ) → bit_and part visit.group ≡ part
      → Ends n l r (visit.base + part) visit.cell (cell_of n l r visit.other (visit.base + part))
  ends_at part e = visits.ends (visit.base + part) (assignment_below part e) (add-clear part visit.group visit.base visits.apart e)

  module _ (vs₀ held₀ : List ℕ) where
    -- the visit begins
    pub turn_first : get_or vs₀ visit.cell 2 < 2 → Going n t l r vs₀ held₀ (Touches n l r held₀ visit.cell)
        → Turning n t l r visit vs₀ held₀ vs₀ held₀ (get_or vs₀ visit.cell 0) (visit.group + 1)
    turn_first valued g =
        record {
          going = reopen n t l r vs₀ held₀ _ _ g (λ i hi _ o. inr (remains i hi o));
          fewer = λ c e. e;
          less = omega arith;
          value_is = sym read;
          small = omega (arith, read);
        }
      where
        read : get_or vs₀ visit.cell 0 ≡ get_or vs₀ visit.cell 2
        read = get_or_default vs₀ visit.cell 0 2 (inside vs₀ visit.cell (λ e. omega arith))

        remains : (i : ℕ) → i < 2 ^ n → Touches n l r held₀ visit.cell i → Remains n l r held₀ visit.group visit.base (visit.group + 1) i
        remains i hi (inl w) = inl w
        remains i hi (inr e) = inr (visits.all i hi e, omega (arith, and_le_r i visit.group))

    module _ (vs held : List ℕ) (value part : ℕ) (whole : bit_and part visit.group ≡ part)
        (turn : Turning n t l r visit vs₀ held₀ vs held value (part + 1)) where
      -- a link that remains is that of the part, or remains after
      rest : (j : ℕ) → Remains n l r held visit.group visit.base (part + 1) j → (j ≡ visit.base + part) ⊎ Remains n l r held visit.group visit.base part j
      rest j (inl w) = inr (inl w)
      rest j (inr (e, lt)) =
          elim (cases_eq (bit_and j visit.group) part) [
            | inl q ↦ inl (omega (arith, and_le_l j visit.group))
            | inr ne ↦ inr (inr (e, omega arith))
          ]

      -- a cell more on the stack leaves the links that remain
      more : (j y : ℕ) → Remains n l r held visit.group visit.base part j → Remains n l r (held ++ y ∷ []) visit.group visit.base part j
      more j y (inl (inl a)) = inl (inl (Contains-append_left held (y ∷ []) _ a))
      more j y (inl (inr a)) = inl (inr (Contains-append_left held (y ∷ []) _ a))
      more j y (inr e) = inr e

      -- the cell visited has a value
      valued : get_or vs visit.cell 2 < 2
      valued = omega (arith, turn.value_is, turn.small)

      -- a turn that changes no value
      kept : Going n t l r vs held (Remains n l r held visit.group visit.base part) → Turning n t l r visit vs₀ held₀ vs held value part
      kept g = record { going = g; fewer = turn.fewer; less = turn.less; value_is = turn.value_is; small = turn.small }

      -- the link of the part is followed to its other cell
      pub turn_done : (vs' held' : List ℕ) → Followed (t (visit.base + part)) value (cell_of n l r visit.other (visit.base + part)) vs held vs' held'
          → Turning n t l r visit vs₀ held₀ vs' held' value part
      turn_done vs' held' (inl (inl none, same_vs, same_held)) =
          rw (same_vs, same_held) (kept (link_none n t l r vs held (visit.base + part) _ _ turn.going none rest))
      turn_done vs' held' (inl (inr (link, e), same_vs, same_held)) =
          let wants = e ∙ ap (λ v. wanted v (t (visit.base + part))) (sym turn.value_is) in
          rw (same_vs, same_held) (kept (link_same n t l r vs held (visit.base + part) visit.cell _ _ _ turn.going (ends_at part whole) valued wants rest))
      turn_done vs' held' (inr (link, wait, new_vs, new_held)) =
          rw (new_vs ∙ ap (λ v. set vs other (wanted v (t i))) (sym turn.value_is), new_held) pushed
        where
          i : ℕ
          i = visit.base + part

          other : ℕ
          other = cell_of n l r visit.other (visit.base + part)

          v : ℕ
          v = wanted (get_or vs visit.cell 2) (t i)

          small : v < 2
          small = wanted_small (get_or vs visit.cell 2) (t i)

          pushed : Turning n t l r visit vs₀ held₀ (set vs other v) (held ++ other ∷ []) value part
          pushed =
              record {
                going = link_pushed n t l r vs held i visit.cell other _ _ turn.going (assignment_below part whole) link (ends_at part whole) valued wait
                    (λ j o. elim (rest j o) [ inl q ↦ inl q | inr m ↦ inr (more j other m) ])
                    (λ j e. elim e [ inl q ↦ inl (inl (subst (Contains (held ++ other ∷ [])) (sym q) (Contains-push held other))) | inr q ↦ inl (inr (subst (Contains (held ++ other ∷ [])) (sym q) (Contains-push held other))) ]);
                fewer = λ c e. turn.fewer c (written_fewer vs other v wait small c e);
                less = omega (arith, turn.less, written_waiting vs other v wait small, length_push held other);
                value_is = written_kept vs other v wait small visit.cell valued ∙ turn.value_is;
                small = turn.small;
              }

      -- which has the other value
      pub turn_conflict : Conflicts (t (visit.base + part)) value (cell_of n l r visit.other (visit.base + part)) vs → NoValues n t l r
      turn_conflict (link, conflict, differs) =
          link_conflict n t l r vs held (visit.base + part) visit.cell (cell_of n l r visit.other (visit.base + part)) _ turn.going
          (assignment_below part whole) link (ends_at part whole) valued conflict
          (λ e. differs (e ∙ ap (λ v. wanted v (t (visit.base + part))) turn.value_is))

    -- no part is left: the visit is over
    pub turn_last : (vs held : List ℕ) (value bound : ℕ) → bound ≡ 0 → Turning n t l r visit vs₀ held₀ vs held value bound → Went n t l r vs₀ held₀ vs held
    turn_last vs held value bound none turn =
        record {
          going = reopen n t l r vs held _ _ turn.going (λ i _ _ o. inr (elim o [ inl w ↦ w | inr (_, lt) ↦ absurd (let z : ⊥ = omega arith in z) ]));
          fewer = turn.fewer;
          less = turn.less;
        }

    -- the next part is the highest below the bound
    pub turn_next : (vs held : List ℕ) (value bound : ℕ) → IsBound visit.group bound → Turning n t l r visit vs₀ held₀ vs held value bound
        → Turning n t l r visit vs₀ held₀ vs held value (bit_and (bound - 1) visit.group + 1)
    turn_next vs held value bound shape turn =
        record {
          going = reopen n t l r vs held _ _ turn.going (λ i _ _ o. inr (elim o [ inl w ↦ inl w | inr (e, lt) ↦ inr (e, down i lt shape) ]));
          fewer = turn.fewer;
          less = turn.less;
          value_is = turn.value_is;
          small = turn.small;
        }
      where
        down : (i : ℕ) → bit_and i visit.group < bound → IsBound visit.group bound → bit_and i visit.group < bit_and (bound - 1) visit.group + 1
        down i lt (inl whole) = let same : bound - 1 ≡ visit.group = omega arith in rw same (omega (arith, and_self visit.group, and_le_r i visit.group))
        down i lt (inr part) = omega (arith, next_part bound visit.group (bit_and i visit.group) part (and_inside i visit.group) lt)
