-- Complements of codes, rows and functions: what they keep.
use Rattle.std.proofs.Common.{◌≡◌, ℕ, zero, suc, ◌+◌, ◌^◌, ◌<◌, ◌≤◌, Bool, not, ltb, List, [], ◌∷◌, ◌++◌, map, length, take, drop, set, sym, refl, ap, ◌∙◌, subst, ap₂, arith}
use Rattle.std.proofs.lemmas.List.Edits.{map_over_more}
use Rattle.std.proofs.lemmas.List.{drop_at, get_or_default, get_or-map, length-map, take_at}
use Rattle.tables.specs.Gates.{complement}
use Rattle.tables.specs.Groups.{Ignores}
use Rattle.tables.specs.Tables.{Allows}
use Rattle.tables.proofs.Passing.{clash}
use Rattle.gatesets.specs.Derived.{complemented_to}
use Rattle.gatesets.specs.Splits.{code, laid}

-- the complement of the complement of a code is the code
pub complement_twice : (c : ℕ) → complement (complement c) ≡ c
complement_twice zero = refl
complement_twice (suc zero) = refl
complement_twice (suc (suc c)) = refl

-- and so for rows
pub complements_twice : (row : List ℕ) → map complement (map complement row) ≡ row
complements_twice [] = refl
complements_twice (c ∷ row) = ap₂ (λ d rest. d ∷ rest) (complement_twice c) (complements_twice row)

-- a complement is a code where the code is one
pub complement_small : (c : ℕ) → c ≤ 2 → complement c ≤ 2
complement_small zero h = omega arith
complement_small (suc zero) h = omega arith
complement_small (suc (suc c)) h = h

-- a complement is above 2 where the code is
above_same : (c : ℕ) → ltb 2 (complement c) ≡ ltb 2 c
above_same zero = refl
above_same (suc zero) = refl
above_same (suc (suc c)) = refl

-- a row whose first codes are complemented: it is as long, its codes are above 2 where the row's are, its table is complemented, and complementing again gives the row
pub length_complemented : (m : ℕ) (row : List ℕ) → length (complemented_to m row) ≡ length row
length_complemented zero row = refl
length_complemented (suc m) [] = refl
length_complemented (suc m) (c ∷ row) = ap suc (length_complemented m row)

-- its codes are above 2 where those of the row are
pub wrong_same : (m : ℕ) (row : List ℕ) (i : ℕ) → ltb 2 (code (complemented_to m row) i) ≡ ltb 2 (code row i)
wrong_same zero row i = refl
wrong_same (suc m) [] i = refl
wrong_same (suc m) (c ∷ row) zero = above_same c
wrong_same (suc m) (c ∷ row) (suc i) = wrong_same m row i

-- its front is the complement of the row's front
pub take_complemented : (m : ℕ) (row : List ℕ) → take m (complemented_to m row) ≡ map complement (take m row)
take_complemented zero row = refl
take_complemented (suc m) [] = refl
take_complemented (suc m) (c ∷ row) = ap (λ rest. complement c ∷ rest) (take_complemented m row)

-- and complementing the front again gives the row
pub complemented_twice : (m : ℕ) (row : List ℕ) → complemented_to m (complemented_to m row) ≡ row
complemented_twice zero row = refl
complemented_twice (suc m) [] = refl
complemented_twice (suc m) (c ∷ row) = ap₂ (λ d rest. d ∷ rest) (complement_twice c) (complemented_twice m row)

-- a code allows a value where its complement allows the complement
pub allows_complement : (c : ℕ) (v : Bool) → Allows c v → Allows (complement c) (not v)
allows_complement zero v h = (λ e. clash (sym e), λ e. ap not (h.0 refl))
allows_complement (suc zero) v h = (λ e. ap not (h.1 refl), λ e. clash e)
allows_complement (suc (suc c)) v h = (λ e. absurd (omega arith), λ e. absurd (omega arith))

-- and back
pub allows_back : (c : ℕ) (v : Bool) → Allows (complement c) v → Allows c (not v)
allows_back c v h = subst (λ d. Allows d (not v)) (complement_twice c) (allows_complement (complement c) v h)

-- the codes of a complemented row
pub code-complement : (row : List ℕ) (i : ℕ) → i < length row → code (map complement row) i ≡ complement (code row i)
code-complement row i h = get_or-map complement row i 0 0 h

-- the values that they allow
pub row_allows : (row : List ℕ) (i : ℕ) (v : Bool) → i < length row → Allows (code row i) v → Allows (code (map complement row) i) (not v)
row_allows row i v h a = subst (λ c. Allows c (not v)) (sym (code-complement row i h)) (allows_complement (code row i) v a)

-- and back
pub row_allows_back : (row : List ℕ) (i : ℕ) (v : Bool) → i < length row → Allows (code (map complement row) i) v → Allows (code row i) (not v)
row_allows_back row i v h a = allows_back (code row i) v (subst (λ c. Allows c v) (code-complement row i h) a)

-- a complemented row ignores a group that the row ignores
pub ignores_complement : (n g : ℕ) (row : List ℕ) → 2 ^ n ≤ length row → Ignores n g (code row) → Ignores n g (code (map complement row))
ignores_complement n g row long h i j hi hj same =
    code-complement row i (omega arith) ∙ ap complement (h i j hi hj same) ∙ sym (code-complement row j (omega arith))

-- a complemented function ignores a group that the function ignores
pub ignores_not : (n g : ℕ) (f : ℕ → Bool) → Ignores n g f → Ignores n g (λ i. not (f i))
ignores_not n g f h i j hi hj same = ap not (h i j hi hj same)

-- a loop that complements a row: one code more
pub complement_more : (row now : List ℕ) (i y : ℕ) → i < length row → now ≡ complemented_to i row → length now ≡ length row
    → y ≡ complement (code now i) → set now i y ≡ complemented_to (i + 1) row
complement_more row now i y h e long value =
    ap (set now i) value ∙ map_over_more complement row now i (code now i) h e (get_or_default now i 0 (code now i) (omega arith))

-- a part that is laid at the front of a row is complemented there
pub complement-laid : (part row : List ℕ) (m : ℕ) → length part ≡ m → complemented_to m (laid part row) ≡ laid (map complement part) row
complement-laid part row m e =
    ap₂ (λ front rest. map complement front ++ rest) (take_at part (drop (length part) row) m e) (drop_at part (drop (length part) row) m e)
    ∙ ap (λ k. map complement part ++ drop k row) (sym (length-map part complement))
