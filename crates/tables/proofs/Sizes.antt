-- A number of variables that has a number of assignments is lawful.
use Rattle.std.proofs.Common.{◌≡◌, ℕ, ◌^◌, Bool, true, false, cond, Some, None, refl}
use Rattle.tables.specs.Tables.{lawful_size, sized}
use Rattle.tables.proofs.Passing.{clash}

-- a test that gives a number has passed
cond-some : (b : Bool) (p q : ℕ) → Some p ≡ cond b (Some q) None → (b ≡ true) × (p ≡ q)
cond-some true p q e = (refl, cc)
cond-some false p q e = clash (cc)

-- so the number of variables is lawful, and the number is that of its assignments
pub sized-some : (n p : ℕ) → Some p ≡ sized n → (lawful_size n ≡ true) × (p ≡ 2 ^ n)
sized-some n p e = cond-some (lawful_size n) p (2 ^ n) e
