-- The subsets of a group: numbers whose digits are all in it.
use Rattle.std.specs.Prelude.{◌≡◌, ℕ, ◌-◌, ◌<◌, Option, MatchOption, bit_and}
use Rattle.xorset.specs.declared.submasks.Submasks.{Submasks}

-- a step gives the highest subset of the group below the bound, which is then the bound; or nothing where no number is below it
abbrev pub StepsDown : Submasks → Option ℕ → Submasks → Type 0
StepsDown before r after =
    MatchOption r ((before.bound ≡ 0) × (after ≡ before))
    (λ subset. (0 < before.bound) × (subset ≡ bit_and (before.bound - 1) before.group) × (after.group ≡ before.group) × (after.bound ≡ subset))
