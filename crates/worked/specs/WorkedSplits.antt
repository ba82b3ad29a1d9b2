-- The worked questions about splits, as one table.
use Rattle.std.specs.Prelude.{◌≡◌, ℕ, ◌*◌, List, [], ◌∷◌, map, replicate, Some, None, Option}
use Rattle.gatesets.specs.Refusals.{split_number, split_spot}
use Rattle.gatesets.specs.Rules.{Rule, Ruling, no_pair, two_parts, left_inverted_rule, opposite_rule}
use Rattle.gatesets.specs.Derived.{LeftInvertedGives, OppositeGives}
use Rattle.gatesets.specs.Splits.{Giving, early, rows, table_in}
use Rattle.gatesets.specs.declared.refusal.SplitRefusal.{SplitRefusal}
use Rattle.gatesets.specs.declared.refusal.SplitRefusal.TheVariants.{NoPair}
use Rattle.gatesets.specs.declared.request.Request.{Request}
use Rattle.orset.specs.Or.{OrGives, or_rule}
use Rattle.xorset.specs.Xor.{XorGives, xor_rule}

-- sets of one gate
pub data Set : Type 0 where
  or_set and_set xor_set : Set
  -- the same with the first input complemented
  left_inverted : Set → Set

-- AND is the opposite of OR
abbrev pub rule_of : Set → Rule
rule_of or_set = or_rule
rule_of and_set = opposite_rule or_rule
rule_of xor_set = xor_rule
rule_of (left_inverted set) = left_inverted_rule (rule_of set)

-- which parts these sets may give
abbrev pub gives_of : Set → Giving
gives_of or_set = OrGives
gives_of and_set = OppositeGives OrGives
gives_of xor_set = XorGives
gives_of (left_inverted set) = LeftInvertedGives (gives_of set)

-- what is asked: a split by a set, for n, a gate number, a left and a right group, of a row of codes, with part rows of so many codes and work rows of twice as many numbers
pub data SplitQuestion : Type 0 where
  split : Set → ℕ → ℕ → ℕ → ℕ → List ℕ → ℕ → SplitQuestion

-- what the rules answer
pub data SplitAnswer : Type 0 where
  -- the left and the right part
  parts : List ℕ → List ℕ → SplitAnswer
  -- the number of a refusal and its spot
  refused : ℕ → ℕ → SplitAnswer

-- a split is refused by its first check that refuses, or else as the rule says
abbrev pub split_answer : Option SplitRefusal → Ruling → SplitAnswer
split_answer (Some refusal) ruling = refused (split_number refusal) (split_spot refusal)
split_answer None no_pair = refused (split_number NoPair) (split_spot NoPair)
split_answer None (two_parts left right) = parts left right

abbrev pub split_by : Set → Request → List ℕ → ℕ → SplitAnswer
split_by set ask codes room =
    split_answer (early 1 ask (rows codes (replicate room 0) (replicate room 0) (replicate (2 * room) 0) (replicate (2 * room) 0))) (rule_of set ask (table_in ask codes))

abbrev pub answer_split : SplitQuestion → SplitAnswer
answer_split (split set n gate left right codes room) = split_by set (record { variables = n; gate = gate; left = left; right = right }) codes room

pub record SplitCase : Type 0 where
  pub asked : SplitQuestion
  pub gives : SplitAnswer

abbrev pub split_case : SplitQuestion → SplitAnswer → SplitCase
split_case asked gives = record { asked = asked; gives = gives }

abbrev pub split_questions : List SplitCase
split_questions =
    -- splits under OR, AND and XOR
    split_case (split or_set 2 0 1 2 (0 ∷ 1 ∷ 1 ∷ 1 ∷ []) 4) (parts (0 ∷ 1 ∷ 0 ∷ 1 ∷ []) (0 ∷ 0 ∷ 1 ∷ 1 ∷ []))
    ∷ split_case (split and_set 2 0 1 2 (0 ∷ 1 ∷ 1 ∷ 1 ∷ []) 4) (refused 20 0)
    ∷ split_case (split xor_set 2 0 1 2 (0 ∷ 1 ∷ 1 ∷ 1 ∷ []) 4) (refused 20 0)
    ∷ split_case (split xor_set 2 0 1 2 (0 ∷ 1 ∷ 1 ∷ 0 ∷ []) 4) (parts (0 ∷ 1 ∷ 0 ∷ 1 ∷ []) (0 ∷ 0 ∷ 1 ∷ 1 ∷ []))
    ∷ split_case (split or_set 2 0 1 2 (0 ∷ 2 ∷ 1 ∷ 2 ∷ []) 4) (parts (0 ∷ 2 ∷ 0 ∷ 2 ∷ []) (0 ∷ 0 ∷ 1 ∷ 1 ∷ []))
    ∷ split_case (split and_set 2 0 1 2 (0 ∷ 0 ∷ 0 ∷ 1 ∷ []) 4) (parts (0 ∷ 1 ∷ 0 ∷ 1 ∷ []) (0 ∷ 0 ∷ 1 ∷ 1 ∷ []))
    -- four variables: every two links agree, all of them do not
    ∷ split_case (split xor_set 4 0 3 12 (1 ∷ 2 ∷ 0 ∷ 2 ∷ 0 ∷ 0 ∷ 2 ∷ 2 ∷ 2 ∷ 0 ∷ 0 ∷ 2 ∷ 2 ∷ 2 ∷ 2 ∷ 2 ∷ []) 16) (refused 20 0)
    -- OR leaves to the right part what the left need not be
    ∷ split_case (split or_set 2 0 1 2 (0 ∷ 2 ∷ 2 ∷ 1 ∷ []) 4) (parts (0 ∷ 2 ∷ 0 ∷ 2 ∷ []) (0 ∷ 0 ∷ 1 ∷ 1 ∷ []))
    ∷ split_case (split or_set 2 0 1 2 (2 ∷ 2 ∷ 2 ∷ 1 ∷ []) 4) (parts (2 ∷ 2 ∷ 2 ∷ 2 ∷ []) (2 ∷ 2 ∷ 1 ∷ 1 ∷ []))
    -- XOR: the lowest left cell of a class is 0, and a cell without links is free
    ∷ split_case (split xor_set 2 0 1 2 (2 ∷ 1 ∷ 0 ∷ 1 ∷ []) 4) (parts (0 ∷ 1 ∷ 0 ∷ 1 ∷ []) (0 ∷ 0 ∷ 0 ∷ 0 ∷ []))
    ∷ split_case (split xor_set 2 0 1 2 (1 ∷ 2 ∷ 2 ∷ 2 ∷ []) 4) (parts (0 ∷ 2 ∷ 0 ∷ 2 ∷ []) (1 ∷ 1 ∷ 2 ∷ 2 ∷ []))
    ∷ split_case (split xor_set 2 0 1 2 (2 ∷ 2 ∷ 2 ∷ 2 ∷ []) 4) (parts (2 ∷ 2 ∷ 2 ∷ 2 ∷ []) (2 ∷ 2 ∷ 2 ∷ 2 ∷ []))
    -- the first input complemented
    ∷ split_case (split (left_inverted or_set) 2 0 1 2 (1 ∷ 0 ∷ 1 ∷ 1 ∷ []) 4) (parts (0 ∷ 1 ∷ 0 ∷ 1 ∷ []) (0 ∷ 0 ∷ 1 ∷ 1 ∷ []))
    ∷ split_case (split (left_inverted and_set) 2 0 1 2 (0 ∷ 0 ∷ 1 ∷ 2 ∷ []) 4) (parts (0 ∷ 2 ∷ 0 ∷ 2 ∷ []) (0 ∷ 0 ∷ 1 ∷ 1 ∷ []))
    ∷ split_case (split (left_inverted xor_set) 2 0 1 2 (1 ∷ 0 ∷ 0 ∷ 1 ∷ []) 4) (parts (1 ∷ 0 ∷ 1 ∷ 0 ∷ []) (1 ∷ 1 ∷ 0 ∷ 0 ∷ []))
    ∷ split_case (split (left_inverted or_set) 2 0 1 2 (0 ∷ 1 ∷ 1 ∷ 0 ∷ []) 4) (refused 20 0)
    -- what a split refuses, in its order
    ∷ split_case (split or_set 0 1 1 1 (9 ∷ []) 0) (refused 1 0)
    ∷ split_case (split or_set 11 1 1 1 (9 ∷ []) 0) (refused 1 0)
    ∷ split_case (split or_set 2 1 1 1 (9 ∷ 1 ∷ 1 ∷ []) 4) (refused 2 0)
    ∷ split_case (split or_set 2 1 1 1 (9 ∷ 1 ∷ 1 ∷ 1 ∷ []) 3) (refused 2 0)
    ∷ split_case (split or_set 2 1 1 1 (0 ∷ 3 ∷ 9 ∷ 1 ∷ []) 4) (refused 5 1)
    ∷ split_case (split or_set 2 1 1 1 (0 ∷ 1 ∷ 1 ∷ 0 ∷ 9 ∷ []) 5) (refused 8 0)
    ∷ split_case (split or_set 2 0 1 1 (0 ∷ 1 ∷ 1 ∷ 0 ∷ []) 4) (refused 9 0)
    ∷ split_case (split or_set 2 0 0 2 (0 ∷ 1 ∷ 1 ∷ 0 ∷ []) 4) (refused 9 0)
    ∷ split_case (split or_set 2 0 1 4 (0 ∷ 1 ∷ 1 ∷ 0 ∷ []) 4) (refused 9 0)
    ∷ split_case (split or_set 2 0 1 2 (0 ∷ 1 ∷ 1 ∷ 0 ∷ []) 4) (refused 20 0)
    ∷ []

-- each of these questions is answered as the table says
abbrev pub WorkedSplits : Type 0
WorkedSplits = map (λ c. answer_split c.asked) split_questions ≡ map (λ c. c.gives) split_questions

-- the parts that a set may give are those of its rule
abbrev pub Ruled : Type 0
Ruled = (set : Set) (ask : Request) (codes left right : List ℕ) → gives_of set ask codes left right → rule_of set ask codes ≡ two_parts left right
