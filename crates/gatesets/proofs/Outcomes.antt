-- How a split is shown by how it ended, and what is known where the early checks pass.
use Rattle.std.proofs.Common.{◌≡◌, ℕ, ◌*◌, ◌^◌, ◌<◌, ◌≤◌, Bool, true, not, eqb, List, length, None, Ok, ap}
use Rattle.std.specs.Bool.{then_some}
use Rattle.std.proofs.lemmas.Bool.{and_parts, leb-false, leb-true, not-false}
use Rattle.tables.specs.Tables.{Allows, lawful_size}
use Rattle.tables.proofs.Passing.{all_pass, then_some-none}
use Rattle.gatesets.specs.declared.refusal.SplitRefusal.{SplitRefusal}
use Rattle.gatesets.specs.declared.refusal.SplitRefusal.TheVariants.{Variables, TooShort, Gate}
use Rattle.gatesets.specs.declared.request.Request.{Request}
use Rattle.gatesets.specs.Splits.{Giving, Pair, Parts, Rows, Split, checks, code, early, laid, table_in}

-- a code allows the value that is 1 where the code is 1
own_value : (c : ℕ) → Allows c (eqb c 1)
own_value c = (λ e. ap (λ x. eqb x 1) e, λ e. ap (λ x. eqb x 1) e)

-- a table that has parts admits a pair: each function 1 where the part's code is 1
pub parts_pair : (gate : List Bool) (ask : Request) (table left right : List ℕ) → Parts gate ask table left right → Pair gate ask table
parts_pair gate ask table left right p =
    record {
      first = λ i. eqb (code left i) 1;
      second = λ i. eqb (code right i) 1;
      first_ignores = λ i j hi hj a. ap (λ c. eqb c 1) (p.left_ignores i j hi hj a);
      second_ignores = λ i j hi hj a. ap (λ c. eqb c 1) (p.right_ignores i j hi hj a);
      admitted = λ i hi. p.joins i hi _ _ (own_value (code left i)) (own_value (code right i));
    }

-- what is used of the early checks where none of them refuses
pub record Passed (count : ℕ) (ask : Request) (lent : Rows) : Type 0 where
  pub size_lawful : lawful_size ask.variables ≡ true
  pub table_room : 2 ^ ask.variables ≤ length lent.table
  pub left_room : 2 ^ ask.variables ≤ length lent.left
  pub right_room : 2 ^ ask.variables ≤ length lent.right
  pub first_room : 2 * 2 ^ ask.variables ≤ length lent.first
  pub second_room : 2 * 2 ^ ask.variables ≤ length lent.second
  pub gate_below : ask.gate < count

-- a test whose failure would refuse has not failed
not_refused : (b : Bool) (refusal : SplitRefusal) → then_some (not b) refusal ≡ None → b ≡ true
not_refused b refusal e = not-false b (then_some-none (not b) refusal e)

module _ (count : ℕ) (ask : Request) (lent : Rows) where
  -- they follow where no check refuses
  pub passed_facts : early count ask lent ≡ None → Passed count ask lent
  passed_facts e =
      let each = all_pass (checks count ask lent) e in
      let table_and = and_parts _ _ (not_refused _ TooShort each.1.0) in
      let left_and = and_parts _ _ table_and.1 in
      let right_and = and_parts _ _ left_and.1 in
      let work = and_parts _ _ right_and.1 in
      record {
        size_lawful = not_refused (lawful_size ask.variables) Variables each.0;
        table_room = leb-true _ _ table_and.0;
        left_room = leb-true _ _ left_and.0;
        right_room = leb-true _ _ right_and.0;
        first_room = leb-true _ _ work.0;
        second_room = leb-true _ _ work.1;
        gate_below = leb-false _ _ (then_some-none _ Gate each.1.1.1.0);
      }

  module _ (gate : List Bool) (gives : Giving) where
    -- a split that is answered with parts
    pub parted_by : (left right left_row right_row : List ℕ) → early count ask lent ≡ None → gives ask (table_in ask lent.table) left right
        → Parts gate ask (table_in ask lent.table) left right → left_row ≡ laid left lent.left → right_row ≡ laid right lent.right
        → Split count gate gives ask lent left_row right_row (Ok tt)
    parted_by left right left_row right_row e given parts left_holds right_holds =
        record {
          passed = e;
          left = left;
          right = right;
          given = given;
          parts = parts;
          pair = parts_pair gate ask (table_in ask lent.table) left right parts;
          left_holds = left_holds;
          right_holds = right_holds;
        }
