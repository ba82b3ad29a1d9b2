-- The steps of the search, said of the search as the program holds it.
use Rattle.std.proofs.Common.{◌≡◌, ℕ, ◌+◌, ◌-◌, ◌^◌, ◌<◌, List, [], ◌∷◌, ◌++◌, get_or, sym, ap, ◌∙◌, subst}
use lib.Bits.{bit_and}
use Rattle.tables.specs.Stacks.{held}
use Rattle.gatesets.specs.Splits.{code}
use Rattle.xorset.specs.Search.{FollowsLink, Going, HasCell, HasNoValues, HasVisit, IsGoing, IsOpen, Kept, LinkConflicts, Touches, WentOn}
use Rattle.xorset.specs.declared.frame.Visit.{Visit}
use Rattle.xorset.specs.declared.search.Search.{Search}
use Rattle.xorset.specs.declared.submasks.Submasks.{Submasks}
use Rattle.xorset.proofs.Classing.{popped, popped_cell, popped_valued}
use Rattle.xorset.proofs.Masking.{and_inside}
use Rattle.xorset.proofs.Visiting.{IsBound, Turning, assignment_below, turn_conflict, turn_done, turn_next}

-- what two steps keep is kept
pub kept_on : (first middle last : Search) → Kept first middle → Kept middle last → Kept first last
kept_on first middle last before after = record { table = after.table ∙ before.table; frame = after.frame ∙ before.frame }

-- a table without values had none before
pub none_before : (first now : Search) → Kept first now → HasNoValues now → HasNoValues first
none_before first now kept none = rw (kept.frame, kept.table) at none

-- the latest cell of the stack is taken, where the search went on
module _ (first now : Search) (kept : Kept first now) (went : WentOn first now) (rest : List ℕ) (cell : ℕ) (last : held now.stack ≡ rest ++ cell ∷ []) where
  -- the search goes on
  going : IsGoing now (IsOpen now)
  going = rw (kept.frame, kept.table) went.going

  -- the cell is one of an assignment
  pub latest_cell : HasCell now.frame cell
  latest_cell =
      popped_cell now.frame.variables (code now.table.now) now.frame.left now.frame.right now.values.now (held now.stack) rest cell last going

  -- it has a value
  pub latest_valued : (visited : ℕ) → visited ≡ cell → get_or now.values.now visited 2 < 2
  latest_valued visited same =
      let vs : List ℕ = now.values.now in
      subst (λ x. get_or vs x 2 < 2) (sym same)
      (popped_valued now.frame.variables (code now.table.now) now.frame.left now.frame.right vs (held now.stack) rest cell last going)

  -- and is visited next
  pub latest_going : (visited : ℕ) → visited ≡ cell
      → Going now.frame.variables (code now.table.now) now.frame.left now.frame.right now.values.now rest (Touches now.frame.variables now.frame.left now.frame.right rest visited)
  latest_going visited same =
      popped now.frame.variables (code now.table.now) now.frame.left now.frame.right now.values.now (held now.stack) rest cell last visited same going

-- the state at a turn of a visit that began with the first search: the subsets of the group from `bound` on are done
abbrev pub Turns : Search → Visit → ℕ → ℕ → Search → Type 0
Turns first visit value bound now =
    Turning first.frame.variables (code first.table.now) first.frame.left first.frame.right visit first.values.now (held first.stack)
    now.values.now (held now.stack) value bound

module _ (first now : Search) (kept : Kept first now) (visit : Visit) (visits : HasVisit first.frame visit)
    (parts : Submasks) (group : parts.group ≡ visit.group) (part : ℕ) (given : part ≡ bit_and (parts.bound - 1) parts.group) where
  -- the part that comes is the highest of the visit's group below the bound
  highest : bit_and (parts.bound - 1) visit.group ≡ part
  highest = ap (λ x. bit_and (parts.bound - 1) x) (sym group) ∙ sym given

  -- so it is a subset of the group
  pub turn_part : bit_and part visit.group ≡ part
  turn_part = ap (λ x. bit_and x visit.group) (sym highest) ∙ and_inside (parts.bound - 1) visit.group ∙ highest

  -- and its assignment is one of the table's
  pub turn_inside : visit.base + part < 2 ^ now.frame.variables
  turn_inside =
      rw kept.frame (assignment_below first.frame.variables (code first.table.now) first.frame.left first.frame.right visit visits part turn_part)

  module _ (value : ℕ) (bound : IsBound visit.group parts.bound) (turn : Turns first visit value parts.bound now) where
    -- the parts above it are done
    above : Turns first visit value (part + 1) now
    above =
        subst (λ x. Turns first visit value (x + 1) now) highest
        (turn_next first.frame.variables (code first.table.now) first.frame.left first.frame.right visit visits first.values.now (held first.stack)
        now.values.now (held now.stack) value parts.bound bound turn)

    -- its link is followed
    pub turn_followed : (next : Search) → FollowsLink now (visit.base + part) value visit.other next → Turns first visit value part next
    turn_followed next followed =
        turn_done first.frame.variables (code first.table.now) first.frame.left first.frame.right visit visits first.values.now (held first.stack)
        now.values.now (held now.stack) value part turn_part above next.values.now (held next.stack) (rw (kept.frame, kept.table) at followed)

    -- or leads to a cell of the other value
    pub turn_refused : LinkConflicts now (visit.base + part) value visit.other → HasNoValues first
    turn_refused conflict =
        turn_conflict first.frame.variables (code first.table.now) first.frame.left first.frame.right visit visits first.values.now (held first.stack)
        now.values.now (held now.stack) value part turn_part above (rw (kept.frame, kept.table) at conflict)
