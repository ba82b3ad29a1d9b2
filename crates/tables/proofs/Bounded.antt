-- A test at some number below m.
use Rattle.std.proofs.Common.{◌≡◌, ℕ, ◌<◌, Bool, true, Decides, refl}
use Rattle.std.proofs.lemmas.Bool.Decides.{Decides-below_or}
use Rattle.tables.specs.Groups.{some}

-- it passes exactly where there is such a number
pub some_decides : (p : ℕ → Bool) (P : ℕ → Type 0) → ((k : ℕ) → Decides (p k) (P k)) → (m : ℕ) → Decides (some m p) ((k : ℕ) × (k < m) × P k)
some_decides p P each = Decides-below_or p P (λ m. some m p) each refl (λ _. refl)

-- a truth value decides that it is true
pub itself : (b : Bool) → Decides b (b ≡ true)
itself b = (λ e. e, λ e. e)
