-- The steps of the search: each keeps what `Going` says, or shows that no values meet the links.
use Rattle.std.proofs.Common.{◌≡◌, ℕ, ◌+◌, ◌^◌, ◌<◌, ◌≤◌, Bool, true, false, cond, not, ltb, ◌⊎◌, List, [], ◌∷◌, ◌++◌, get_or, set, sym, refl, ap, ◌∙◌, subst, ap₂, inl, inr, arith}
use Rattle.std.proofs.lemmas.List.{length-set, length_push}
use Rattle.std.proofs.lemmas.Bool.{cases_Bool, cond-true, cond-false, lt-ltb, le-ltb, ne_eqb}
use Rattle.std.specs.List.{Contains}
use Rattle.std.proofs.lemmas.List.Elements.{Contains-append_left, Contains-push, Contains-push_cases}
use Rattle.tables.specs.Groups.{clear}
use Rattle.tables.proofs.Clearing.{clear_le}
use Rattle.xorset.specs.Cells.{Meets, Together, is_one, left_cell, right_cell, xor}
use Rattle.xorset.specs.Xor.{linked, value_code}
use Rattle.xorset.specs.Search.{Ends, Extended, Going, NoValues, Rooted, Settled, Stands, Touches, Untouched, Valued, Waits, wanted}
use Rattle.xorset.proofs.Linking.{none_contained, xor_back, xor_flip, cond_one, wanted_one, wanted_small, stands_linked, link_linked, linked_link, ends_together, ends_met, ends_settled}
use Rattle.xorset.proofs.Writing.{written, written_here, written_kept, written_fewer, written_free, written_stands, written_waiting}

-- a settled link stays so where its cells keep their values
settled_kept : (a b x y : ℕ) (d : Bool) → x ≡ a → y ≡ b → (a < 2) × (b < 2) × (xor (is_one a) (is_one b) ≡ d) → (x < 2) × (y < 2) × (xor (is_one x) (is_one y) ≡ d)
settled_kept a b x y d e f h = rw (e, f) h

-- the number of a cell that does not wait is its code
value_code_lem : (b : Bool) (v : ℕ) → Stands b v → (v ≡ 3 → ⊥) → v ≡ value_code b (is_one v)
value_code_lem true v (inl e) done = absurd (done e)
value_code_lem true v (inr lt) done = cond_one v lt
value_code_lem false v e done = e

module _ (n : ℕ) (t : ℕ → ℕ) (l r : ℕ) where
  -- the links that may be open are others: those that no longer may are settled
  pub reopen : (vs held : List ℕ) (before after : ℕ → Type 0) → Going n t l r vs held before
      → ((i : ℕ) → i < 2 ^ n → t i < 2 → before i → Settled n t l r vs i ⊎ after i) → Going n t l r vs held after
  reopen vs held before after g h =
      record {
        long = g.long;
        cells = g.cells;
        left_stands = g.left_stands;
        right_stands = g.right_stands;
        extends = g.extends;
        links = λ i hi ht. elim (g.links i hi ht) [ inl u ↦ inl u | inr (inl s) ↦ inr (inl s) | inr (inr o) ↦ inr (h i hi ht o) ];
        rooted = g.rooted;
        stacked = g.stacked;
        room = g.room;
      }

  -- a waiting cell y gets a value and is put on the stack
  pub write : (vs held : List ℕ) (y v : ℕ) (before after : ℕ → Type 0) → Going n t l r vs held before → get_or vs y 2 ≡ 3 → v < 2
      → ((i : ℕ) → i < 2 ^ n → t i < 2 → before i → Settled n t l r (set vs y v) i ⊎ after i)
      → ((i : ℕ) → (left_cell r i ≡ y) ⊎ (right_cell n l i ≡ y) → after i)
      → ((f : ℕ → Bool) → Meets n t l r f (2 ^ n) → Extended n t l r (set vs y v))
      → Rooted n t l r (set vs y v) y
      → Going n t l r (set vs y v) (held ++ y ∷ []) after
  write vs held y v before after g wait small still touched extended root =
      record {
        long = length-set vs y v ∙ g.long;
        cells = λ c h. g.cells c (λ e. h (written_free vs y v wait small c e));
        left_stands = λ i hi. written_stands vs y v wait small (linked n t r i) (left_cell r i) (g.left_stands i hi);
        right_stands = λ i hi. written_stands vs y v wait small (linked n t l i) (right_cell n l i) (g.right_stands i hi);
        extends = extended;
        links = λ i hi ht. link i hi ht (g.links i hi ht);
        rooted = λ c h. rooted c h (written vs y v wait small c);
        stacked = λ c h. stacked c (Contains-push_cases held y c h);
        room = let one = written_waiting vs y v wait small in let more = length_push held y in omega (arith, g.room);
      }
    where
      link : (i : ℕ) → i < 2 ^ n → t i < 2 → Untouched n l r vs i ⊎ (Settled n t l r vs i ⊎ before i)
          → Untouched n l r (set vs y v) i ⊎ (Settled n t l r (set vs y v) i ⊎ after i)
      link i hi ht (inl (ul, ur)) =
          elim (written vs y v wait small (left_cell r i)) [
            | inl (e, _, _) ↦ inr (inr (touched i (inl e)))
            | inr (_, p) ↦ elim (written vs y v wait small (right_cell n l i)) [
              | inl (e, _, _) ↦ inr (inr (touched i (inr e)))
              | inr (_, q) ↦ inl (rw p ul, rw q ur)
            ]
          ]
      link i hi ht (inr (inl s)) =
          inr (inl (settled_kept _ _ _ _ _ (written_kept vs y v wait small (left_cell r i) s.0) (written_kept vs y v wait small (right_cell n l i) s.1) s))
      link i hi ht (inr (inr o)) = inr (still i hi ht o)

      rooted : (c : ℕ) → get_or (set vs y v) c 2 < 2 → ((c ≡ y) × (get_or vs c 2 ≡ 3) × (get_or (set vs y v) c 2 ≡ v)) ⊎ ((c ≡ y → ⊥) × (get_or (set vs y v) c 2 ≡ get_or vs c 2))
          → Rooted n t l r (set vs y v) c
      rooted c h (inl (e, _, _)) = subst (λ x. Rooted n t l r (set vs y v) x) (sym e) root
      rooted c h (inr (_, q)) = keep (g.rooted c (omega arith))
        where
          keep : Rooted n t l r vs c → Rooted n t l r (set vs y v) c
          keep (d, le, tog, z, low) = (d, le, tog, written_kept vs y v wait small d (omega arith) ∙ z, λ w e. low w (written_fewer vs y v wait small w e))

      stacked : (c : ℕ) → Contains held c ⊎ (y ≡ c) → get_or (set vs y v) c 2 < 2
      stacked c (inl a) = let h = g.stacked c a in let q = written_kept vs y v wait small c h in omega arith
      stacked c (inr e) = let q = ap (λ x. get_or (set vs y v) x 2) (sym e) ∙ written_here vs y v wait small in omega arith

  -- a link whose other cell has the wanted value
  pub link_same : (vs held : List ℕ) (i x y : ℕ) (before after : ℕ → Type 0) → Going n t l r vs held before → Ends n l r i x y
      → get_or vs x 2 < 2 → get_or vs y 2 ≡ wanted (get_or vs x 2) (t i) → ((j : ℕ) → before j → (j ≡ i) ⊎ after j) → Going n t l r vs held after
  link_same vs held i x y before after g ends hx e others =
      let small = wanted_small (get_or vs x 2) (t i) in
      let settled : Settled n t l r vs i =
      ends_settled n t l r vs i x y ends hx (omega arith)
      (ap (λ w. xor (is_one (get_or vs x 2)) (is_one w)) e ∙ ap (xor (is_one (get_or vs x 2))) (wanted_one (get_or vs x 2) (t i)) ∙ xor_back (is_one (get_or vs x 2)) (is_one (t i))) in
      reopen vs held before after g (λ j _ _ o. elim (others j o) [ inl q ↦ inl (subst (λ k. Settled n t l r vs k) (sym q) settled) | inr a ↦ inr a ])

  -- an assignment that has no link
  pub link_none : (vs held : List ℕ) (i : ℕ) (before after : ℕ → Type 0) → Going n t l r vs held before → 2 ≤ t i → ((j : ℕ) → before j → (j ≡ i) ⊎ after j)
      → Going n t l r vs held after
  link_none vs held i before after g none others =
      reopen vs held before after g
      (λ j _ ht o. elim (others j o) [ inl q ↦ absurd (let e = ap t q in let z : ⊥ = omega arith in z) | inr a ↦ inr a ])

  -- a link whose other cell waits
  pub link_pushed : (vs held : List ℕ) (i x y : ℕ) (before after : ℕ → Type 0) → Going n t l r vs held before → i < 2 ^ n → t i < 2 → Ends n l r i x y
      → get_or vs x 2 < 2 → get_or vs y 2 ≡ 3 → ((j : ℕ) → before j → (j ≡ i) ⊎ after j) → ((j : ℕ) → (left_cell r j ≡ y) ⊎ (right_cell n l j ≡ y) → after j)
      → Going n t l r (set vs y (wanted (get_or vs x 2) (t i))) (held ++ y ∷ []) after
  link_pushed vs held i x y before after g hi ht ends hx wait others touched =
      write vs held y v before after g wait small
      (λ j _ _ o. elim (others j o) [ inl q ↦ inl (subst (λ k. Settled n t l r (set vs y v) k) (sym q) settled) | inr a ↦ inr a ])
      touched (λ f met. extended (g.extends f met)) (rooted (g.rooted x hx))
    where
      v : ℕ
      v = wanted (get_or vs x 2) (t i)

      small : v < 2
      small = wanted_small (get_or vs x 2) (t i)

      here : get_or (set vs y v) y 2 ≡ v
      here = written_here vs y v wait small

      there : get_or (set vs y v) x 2 ≡ get_or vs x 2
      there = written_kept vs y v wait small x hx

      settled : Settled n t l r (set vs y v) i
      settled =
          ends_settled n t l r (set vs y v) i x y ends (omega (arith, there)) (omega (arith, here, small))
          (ap₂ (λ a b. xor (is_one a) (is_one b)) there here ∙ ap (xor (is_one (get_or vs x 2))) (wanted_one (get_or vs x 2) (t i)) ∙ xor_back (is_one (get_or vs x 2)) (is_one (t i)))

      extended : Extended n t l r vs → Extended n t l r (set vs y v)
      extended (f, met, agrees) = (
        f,
        met,
        λ c h. elim (written vs y v wait small c) [
          | inl (e, _, q) ↦ ap f e ∙ ends_met n t l r f i x y met hi ht ends ∙ ap (λ b. xor b (is_one (t i))) (agrees x hx)
              ∙ sym (wanted_one (get_or vs x 2) (t i)) ∙ ap is_one (sym q)
          | inr (_, q) ↦ agrees c (omega arith) ∙ ap is_one (sym q)
        ],
      )

      rooted : Rooted n t l r vs x → Rooted n t l r (set vs y v) y
      rooted (d, le, tog, z, low) = (
        d,
        low y wait,
        λ s closed. ends_together n t l r i x y hi ht ends s closed ∙ tog s closed,
        written_kept vs y v wait small d (omega arith) ∙ z,
        λ w e. low w (written_fewer vs y v wait small w e),
      )

  -- the other cell of a link has a value or waits
  other_stands : (vs held : List ℕ) (i x y : ℕ) (before : ℕ → Type 0) → Going n t l r vs held before → i < 2 ^ n → t i < 2 → Ends n l r i x y
      → (get_or vs y 2 ≡ 3) ⊎ (get_or vs y 2 < 2)
  other_stands vs held i x y before g hi ht (inl (a, b)) =
      subst (λ c. (get_or vs c 2 ≡ 3) ⊎ (get_or vs c 2 < 2)) b (stands_linked (linked n t l i) _ (link_linked n t l i hi ht) (g.right_stands i hi))
  other_stands vs held i x y before g hi ht (inr (a, b)) =
      subst (λ c. (get_or vs c 2 ≡ 3) ⊎ (get_or vs c 2 < 2)) b (stands_linked (linked n t r i) _ (link_linked n t r i hi ht) (g.left_stands i hi))

  -- a link whose other cell has the other value
  pub link_conflict : (vs held : List ℕ) (i x y : ℕ) (before : ℕ → Type 0) → Going n t l r vs held before → i < 2 ^ n → t i < 2 → Ends n l r i x y
      → get_or vs x 2 < 2 → (get_or vs y 2 ≡ 3 → ⊥) → (get_or vs y 2 ≡ wanted (get_or vs x 2) (t i) → ⊥) → NoValues n t l r
  link_conflict vs held i x y before g hi ht ends hx valued other f met =
      elim (other_stands vs held i x y before g hi ht ends) [ inl e ↦ valued e | inr lt ↦ other (forced lt (g.extends f met)) ]
    where
      forced : get_or vs y 2 < 2 → Extended n t l r vs → get_or vs y 2 ≡ wanted (get_or vs x 2) (t i)
      forced lt (h, met_h, agrees) =
          cond_one (get_or vs y 2) lt
          ∙ ap (λ b. cond b 1 0) (sym (agrees y lt) ∙ ends_met n t l r h i x y met_h hi ht ends ∙ ap (λ b. xor b (is_one (t i))) (agrees x hx))

  -- the latest cell of the stack is visited
  pub pop : (vs held : List ℕ) (c : ℕ) → Going n t l r vs (held ++ c ∷ []) (Waits n l r (held ++ c ∷ [])) → Going n t l r vs held (Touches n l r held c)
  pop vs held c g =
      record {
        long = g.long;
        cells = g.cells;
        left_stands = g.left_stands;
        right_stands = g.right_stands;
        extends = g.extends;
        links = λ i hi ht. elim (g.links i hi ht) [ inl u ↦ inl u | inr (inl s) ↦ inr (inl s) | inr (inr o) ↦ inr (inr (touches i o)) ];
        rooted = g.rooted;
        stacked = λ d a. g.stacked d (Contains-append_left held (c ∷ []) d a);
        room = omega (arith, g.room, length_push held c);
      }
    where
      touches : (i : ℕ) → Waits n l r (held ++ c ∷ []) i → Touches n l r held c i
      touches i (inl a) = elim (Contains-push_cases held c (left_cell r i) a) [ inl h ↦ inl (inl h) | inr e ↦ inr (inl (sym e)) ]
      touches i (inr a) = elim (Contains-push_cases held c (right_cell n l i) a) [ inl h ↦ inl (inr h) | inr e ↦ inr (inr (sym e)) ]

  -- with no cell left to visit every link is untouched or settled
  pub closed : (vs : List ℕ) → Going n t l r vs [] (Waits n l r []) → (i : ℕ) → i < 2 ^ n → t i < 2 → Untouched n l r vs i ⊎ Settled n t l r vs i
  closed vs g i hi ht =
      elim (g.links i hi ht) [ inl u ↦ inl u | inr (inl s) ↦ inr s | inr (inr (inl z)) ↦ absurd (none_contained _ z) | inr (inr (inr z)) ↦ absurd (none_contained _ z) ]

  -- values that meet the links still do when all cells that have no value yet change
  flipped : (vs : List ℕ) (f : ℕ → Bool) → Going n t l r vs [] (Waits n l r []) → Meets n t l r f (2 ^ n)
      → Meets n t l r (λ c. cond (ltb (get_or vs c 2) 2) (f c) (not (f c))) (2 ^ n)
  flipped vs f g met i hi ht =
      elim (closed vs g i hi ht) [
        | inl u ↦ ap₂ xor (changed (left_cell r i) u.0) (changed (right_cell n l i) u.1) ∙ xor_flip (f (left_cell r i)) (f (right_cell n l i)) ∙ met i hi ht
        | inr s ↦ ap₂ xor (kept (left_cell r i) s.0) (kept (right_cell n l i) s.1) ∙ met i hi ht
      ]
    where
      changed : (c : ℕ) → 2 ≤ get_or vs c 2 → cond (ltb (get_or vs c 2) 2) (f c) (not (f c)) ≡ not (f c)
      changed c h = cond-false (ltb (get_or vs c 2) 2) (f c) (not (f c)) (le-ltb (get_or vs c 2) 2 h)

      kept : (c : ℕ) → get_or vs c 2 < 2 → cond (ltb (get_or vs c 2) 2) (f c) (not (f c)) ≡ f c
      kept c h = cond-true (ltb (get_or vs c 2) 2) (f c) (not (f c)) (lt-ltb (get_or vs c 2) 2 h)

  -- the first waiting cell gets the value 0
  pub root : (vs : List ℕ) (c : ℕ) → Going n t l r vs [] (Waits n l r []) → get_or vs c 2 ≡ 3 → ((w : ℕ) → get_or vs w 2 ≡ 3 → c ≤ w)
      → Going n t l r (set vs c 0) (c ∷ []) (Waits n l r (c ∷ []))
  root vs c g wait low =
      write vs [] c 0 (Waits n l r []) (Waits n l r (c ∷ [])) g wait small (λ i _ _ o. elim o [ inl z ↦ absurd (none_contained _ z) | inr z ↦ absurd (none_contained _ z) ])
      (λ i e. elim e [ inl q ↦ inl (subst (Contains (c ∷ [])) (sym q) (Contains-push [] c)) | inr q ↦ inr (subst (Contains (c ∷ [])) (sym q) (Contains-push [] c)) ]) (λ f met. extended (g.extends f met))
      (c, omega arith, λ s closed. refl, written_here vs c 0 wait small, λ w e. low w (written_fewer vs c 0 wait small w e))
    where
      small : 0 < 2
      small = omega arith

      with_zero : (f : ℕ → Bool) → Meets n t l r f (2 ^ n) → f c ≡ false → ((d : ℕ) → get_or vs d 2 < 2 → f d ≡ is_one (get_or vs d 2)) → Extended n t l r (set vs c 0)
      with_zero f met zero_there agrees = (
        f,
        met,
        λ d h. elim (written vs c 0 wait small d) [
          | inl (e, _, q) ↦ ap f e ∙ zero_there ∙ ap is_one (sym q)
          | inr (_, q) ↦ agrees d (omega arith) ∙ ap is_one (sym q)
        ],
      )

      extended : Extended n t l r vs → Extended n t l r (set vs c 0)
      extended (f, met, agrees) =
          elim (cases_Bool (f c)) [
            | inr e ↦ with_zero f met e agrees
            | inl e ↦ with_zero (λ d. cond (ltb (get_or vs d 2) 2) (f d) (not (f d))) (flipped vs f g met)
                (cond-false (ltb (get_or vs c 2) 2) (f c) (not (f c)) (le-ltb (get_or vs c 2) 2 (omega arith)) ∙ ap not e)
                (λ d h. cond-true (ltb (get_or vs d 2) 2) (f d) (not (f d)) (lt-ltb (get_or vs d 2) 2 h) ∙ agrees d h)
          ]

  module _ (vs : List ℕ) (g : Going n t l r vs [] (Waits n l r [])) (past : (c : ℕ) → c < 2 ^ n → get_or vs c 2 ≡ 3 → ⊥) where
    -- no left cell waits
    left_done : (i : ℕ) → i < 2 ^ n → get_or vs (left_cell r i) 2 ≡ 3 → ⊥
    left_done i hi = past (left_cell r i) (omega (arith, clear_le r i))

    -- when no left cell waits every link is settled
    all_settled : (i : ℕ) → i < 2 ^ n → t i < 2 → Settled n t l r vs i
    all_settled i hi ht =
        elim (closed vs g i hi ht) [
          | inl u ↦ elim (stands_linked (linked n t r i) _ (link_linked n t r i hi ht) (g.left_stands i hi)) [
            | inl e ↦ absurd (left_done i hi e)
            | inr lt ↦ absurd (let z : ⊥ = omega (arith, u.0) in z)
          ]
          | inr s ↦ s
        ]

    -- nor does a right cell, whose links are settled
    right_done : (i : ℕ) → i < 2 ^ n → get_or vs (right_cell n l i) 2 ≡ 3 → ⊥
    right_done i hi e =
        elim (cases_Bool (linked n t l i)) [
          | inl has ↦ settled (linked_link n t l i has)
          | inr lacks ↦ let free : get_or vs (right_cell n l i) 2 ≡ 2 = subst (λ b. Stands b (get_or vs (right_cell n l i) 2)) lacks (g.right_stands i hi) in omega arith
        ]
      where
        settled : (j : ℕ) × (j < 2 ^ n) × ((clear l i ≡ clear l j) × (t j < 2)) → ⊥
        settled (j, hj, (q, ht)) =
            let same : get_or vs (right_cell n l j) 2 ≡ 3 = ap (λ x. get_or vs (2 ^ n + x) 2) (sym q) ∙ e in
            omega (arith, (all_settled j hj ht).1)

    -- the lowest cell of a class has the value 0
    lowest_zero : (c : ℕ) → ((d : ℕ) → Together n t l r c d → c ≤ d) → is_one (get_or vs c 2) ≡ false
    lowest_zero c low = ne_eqb (get_or vs c 2) 1 (λ e. odd e (g.rooted c (omega arith)))
      where
        odd : get_or vs c 2 ≡ 1 → Rooted n t l r vs c → ⊥
        odd e (d, le, tog, z, _) =
            let up = low d tog in
            let same : d ≡ c = omega arith in
            let zero_there = ap (λ x. get_or vs x 2) (sym same) ∙ z in
            omega arith

    -- the search is at its end: the values are found
    pub finish : Valued n t l r vs
    finish =
        record {
          values = record { met = λ i hi ht. (all_settled i hi ht).2; lowest = lowest_zero };
          left = λ i hi. value_code_lem (linked n t r i) _ (g.left_stands i hi) (left_done i hi);
          right = λ i hi. value_code_lem (linked n t l i) _ (g.right_stands i hi) (right_done i hi);
        }
