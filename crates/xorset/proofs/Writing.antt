-- A value is written at a cell that waits: what that changes.
use Rattle.std.proofs.Common.{◌≡◌, ℕ, ◌+◌, ◌<◌, Bool, true, false, cond, eqb, ◌⊎◌, List, length, get_or, set, sym, ap, ◌∙◌, inl, inr, arith}
use Rattle.std.proofs.lemmas.List.{get_or-set_same, get_or-set_other, get_or_past}
use Rattle.std.proofs.lemmas.List.Sums.{sum_by-set}
use Rattle.std.proofs.lemmas.Bool.{cases_eq, cases_lt}
use Rattle.std.proofs.lemmas.Bool.Decides.{nat_tests}
use Rattle.xorset.specs.Search.{Stands, waiting}

-- a cell that is not free has a number in the row
pub inside : (vs : List ℕ) (y : ℕ) → (get_or vs y 2 ≡ 2 → ⊥) → y < length vs
inside vs y h = elim (cases_lt y (length vs)) [ inl lt ↦ lt | inr le ↦ absurd (h (get_or_past vs y 2 le)) ]

module _ (vs : List ℕ) (y v : ℕ) (wait : get_or vs y 2 ≡ 3) (small : v < 2) where
  -- the cell that waits stands in the row
  within : y < length vs
  within = inside vs y (λ e. omega arith)

  -- it has the value then
  pub written_here : get_or (set vs y v) y 2 ≡ v
  written_here = get_or-set_same vs y v 2 within

  -- a cell is the one written, or as it was
  pub written : (c : ℕ) → ((c ≡ y) × (get_or vs c 2 ≡ 3) × (get_or (set vs y v) c 2 ≡ v)) ⊎ ((c ≡ y → ⊥) × (get_or (set vs y v) c 2 ≡ get_or vs c 2))
  written c =
      elim (cases_eq c y) [
        | inl e ↦ inl (e, ap (λ x. get_or vs x 2) e ∙ wait, ap (λ x. get_or (set vs y v) x 2) e ∙ written_here)
        | inr ne ↦ inr (ne, get_or-set_other vs y c v 2 ne)
      ]

  -- a cell with a value keeps it
  pub written_kept : (c : ℕ) → get_or vs c 2 < 2 → get_or (set vs y v) c 2 ≡ get_or vs c 2
  written_kept c h = elim (written c) [ inl (e, o, q) ↦ absurd (let z : ⊥ = omega arith in z) | inr (ne, q) ↦ q ]

  -- no other cell waits than before
  pub written_fewer : (c : ℕ) → get_or (set vs y v) c 2 ≡ 3 → get_or vs c 2 ≡ 3
  written_fewer c h = elim (written c) [ inl (e, o, q) ↦ o | inr (ne, q) ↦ sym q ∙ h ]

  -- a free cell is as it was
  pub written_free : (c : ℕ) → get_or vs c 2 ≡ 2 → get_or (set vs y v) c 2 ≡ 2
  written_free c h = elim (written c) [ inl (e, o, q) ↦ absurd (let z : ⊥ = omega arith in z) | inr (ne, q) ↦ q ∙ h ]

  -- a cell still stands as its links say
  pub written_stands : (b : Bool) (c : ℕ) → Stands b (get_or vs c 2) → Stands b (get_or (set vs y v) c 2)
  written_stands true c h =
      elim (written c) [
        | inl (e, o, q) ↦ inr (omega arith)
        | inr (ne, q) ↦ elim h [ inl e ↦ inl (q ∙ e) | inr lt ↦ inr (omega arith) ]
      ]
  written_stands false c h = written_free c h

  -- one cell less waits
  pub written_waiting : waiting (set vs y v) + 1 ≡ waiting vs
  written_waiting =
      let one : cond {A = ℕ} (eqb (get_or vs y 2) 3) 1 0 ≡ 1 = grind (arith, nat_tests) in
      let none : cond {A = ℕ} (eqb v 3) 1 0 ≡ 0 = grind (arith, nat_tests) in
      omega (arith, sum_by-set (λ x. cond (eqb x 3) 1 0) vs y v 2 within)
