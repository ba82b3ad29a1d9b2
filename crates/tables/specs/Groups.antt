-- Groups of variables, and rows that ignore one.
-- A group is a number whose digit of weight 2 ^ k says that variable k belongs to it.
use Rattle.std.specs.Prelude.{◌≡◌, ℕ, zero, suc, ◌-◌, ◌^◌, ◌<◌, Bool, false, ◌&&◌, ◌||◌, ◌==◌, bit_and, nat_lt}
use Rattle.tables.specs.Tables.{digit}

-- the assignments i and j agree outside the group g: they differ in none but its variables
abbrev pub Agree : ℕ → ℕ → ℕ → Type 0
Agree g i j = (k : ℕ) → digit k g ≡ 0 → digit k i ≡ digit k j

-- a row over n variables, of any kind of entry, ignores the group g: its entries are equal wherever two assignments agree outside g
abbrev pub Ignores : {A : Type 0} → ℕ → ℕ → (ℕ → A) → Type 0
Ignores n g entry = (i j : ℕ) → i < 2 ^ n → j < 2 ^ n → Agree g i j → entry i ≡ entry j

-- the number i with the digits of the group g cleared
abbrev pub clear : ℕ → ℕ → ℕ
clear g i = i - bit_and i g

-- whether two assignments agree outside a group: cleared of it they are the same
abbrev pub agree : ℕ → ℕ → ℕ → Bool
agree g i j = clear g i == clear g j

-- a test passes at some number below m
abbrev pub some : ℕ → (ℕ → Bool) → Bool
some zero p = false
some (suc m) p = p m || some m p

-- some assignment below m that agrees with i outside the group g passes a test
abbrev pub within : ℕ → ℕ → (ℕ → Bool) → ℕ → Bool
within m g p i = some m (λ j. agree g i j && p j)

-- a lawful pair of groups of a table of n variables: non-empty, disjoint and inside its variables
abbrev pub lawful_groups : ℕ → ℕ → ℕ → Bool
lawful_groups n l r = nat_lt 0 l && (nat_lt 0 r && (bit_and l r == 0 && (nat_lt l (2 ^ n) && nat_lt r (2 ^ n))))
