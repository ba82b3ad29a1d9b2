-- Rows made from a code for each assignment, the rulings made of two such rows, and gates made from a function.
use Rattle.std.proofs.Common.{◌≡◌, ℕ, ◌^◌, ◌<◌, ◌≤◌, Bool, true, false, List, length, sym, refl, ◌∙◌, subst, arith}
use Rattle.std.proofs.lemmas.List.FromFn.{fill_by_all, get_or-map-range_with_len, length-map-range_with_len}
use Rattle.tables.specs.Gates.{gate_of, joined}
use Rattle.tables.specs.Groups.{Ignores}
use Rattle.tables.specs.Tables.{Allows}
use Rattle.tables.proofs.Clearing.{SameCleared, cleared_ignores, ignores_cleared}
use Rattle.tables.proofs.Passing.{clash}
use Rattle.gatesets.specs.declared.request.Request.{Request}
use Rattle.gatesets.specs.Rules.{codes, no_pair, ruled, two_parts}
use Rattle.gatesets.specs.Splits.{Parts, code}

-- the gate of a function joins as the function does
pub joined_of : (op : Bool → Bool → Bool) (a b : Bool) → joined (gate_of op) a b ≡ op a b
joined_of op true true = refl
joined_of op true false = refl
joined_of op false true = refl
joined_of op false false = refl

-- a rule that says no pair has found that there is none
pub ruled_none : (none : Bool) (a b : List ℕ) → ruled none a b ≡ no_pair → none ≡ true
ruled_none true a b e = refl
ruled_none false a b e = clash (cc)

-- a rule that says two parts has not, and they are its two rows
pub ruled_parts : (none : Bool) (a b left right : List ℕ) → ruled none a b ≡ two_parts left right → (none ≡ false) × (a ≡ left) × (b ≡ right)
ruled_parts true a b left right e = clash (cc)
ruled_parts false a b left right e = (refl, cc, cc)

module _ (n : ℕ) (f : ℕ → ℕ) where
  -- the row has a code for each assignment
  pub codes_long : length (codes n f) ≡ 2 ^ n
  codes_long = length-map-range_with_len f 0 (2 ^ n)

  -- the code that it was made from
  pub code_at : (i : ℕ) → i < 2 ^ n → code (codes n f) i ≡ f i
  code_at i h = get_or-map-range_with_len f 0 (2 ^ n) i i 0 h (omega arith)

  -- rows with the same codes are one
  pub codes_same : (g : ℕ → ℕ) → ((i : ℕ) → i < 2 ^ n → f i ≡ g i) → codes n f ≡ codes n g
  codes_same g h = fill_by_all g (codes n f) (2 ^ n) 0 codes_long (λ i hi. code_at i hi ∙ h i hi)

  -- the row ignores a group that the codes ignore
  pub codes_ignore : (g : ℕ) → SameCleared n g f → Ignores n g (code (codes n f))
  codes_ignore g h = cleared_ignores n g _ (λ i j hi hj e. code_at i hi ∙ h i j hi hj e ∙ sym (code_at j hj))

module _ (op : Bool → Bool → Bool) (ask : Request) (table : List ℕ) (a b : ℕ → ℕ) where
  -- the number of variables
  abbrev n : ℕ
  n = ask.variables

  -- two rows are parts of a table by what is shown of the codes that they are made from
  pub codes_parts : ((i : ℕ) → i < 2 ^ n → a i ≤ 2) → ((i : ℕ) → i < 2 ^ n → b i ≤ 2)
      → SameCleared n ask.right a → SameCleared n ask.left b
      → ((i : ℕ) → i < 2 ^ n → (u v : Bool) → Allows (a i) u → Allows (b i) v → Allows (code table i) (op u v))
      → ((k : ℕ) → k < n → SameCleared n (2 ^ k) (code table) → SameCleared n (2 ^ k) a)
      → ((k : ℕ) → k < n → SameCleared n (2 ^ k) (code table) → SameCleared n (2 ^ k) b)
      → Parts (gate_of op) ask table (codes n a) (codes n b)
  codes_parts a_codes b_codes a_ignores b_ignores join a_needs b_needs =
      record {
        left_long = codes_long n a;
        right_long = codes_long n b;
        left_codes = λ i hi. subst (λ c. c ≤ 2) (sym (code_at n a i hi)) (a_codes i hi);
        right_codes = λ i hi. subst (λ c. c ≤ 2) (sym (code_at n b i hi)) (b_codes i hi);
        left_ignores = codes_ignore n a ask.right a_ignores;
        right_ignores = codes_ignore n b ask.left b_ignores;
        joins = λ i hi u v p q.
            subst (Allows (code table i)) (sym (joined_of op u v))
            (join i hi u v (subst (λ c. Allows c u) (code_at n a i hi) p) (subst (λ c. Allows c v) (code_at n b i hi) q));
        left_needs = λ k kn h. codes_ignore n a (2 ^ k) (a_needs k kn (ignores_cleared n (2 ^ k) (code table) h));
        right_needs = λ k kn h. codes_ignore n b (2 ^ k) (b_needs k kn (ignores_cleared n (2 ^ k) (code table) h));
      }
