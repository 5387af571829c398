use Rattle.std.proofs.Common.{◌≡◌, ℕ, List, length, sym, ◌∙◌, subst, arith, rules}
use Rattle.cover_table.specs.Cover.{order_of_rows}
use Rattle.cover_table.specs.SizedTables.{LacksTable}
use Rattle.exception_graph.specs.Chains.{IsOrderOf, none}
use Rattle.exception_graph.proofs.Mutual.{first_cycle, mutual_from_cycle, order_without_cycle}
use Rattle.exception_graph.proofs.graph.table_of_pairs.Goals as goal

pub returns-in-Some-clause-refusal : goal.returns-in-Some-clause-refusal
returns-in-Some-clause-refusal c =
    let rows : List ℕ = c.tell_chains.new.rows in
    let many : length rows ≡ c.args.count = search rules in
    let is : IsOrderOf c.args.count c.args.pairs.now (order_of_rows rows) =
    subst (λ (n : ℕ). IsOrderOf n c.args.pairs.now (order_of_rows rows))
    (sym c.tell_chains.ensures.as_many ∙ many) c.tell_chains.ensures.chains in
    (omega arith, first_cycle _ _ _ is c.in-Some.at c.in-Some.ensures.found)

pub from_rows-requires-clause-order : goal.from_rows-requires-clause-order
from_rows-requires-clause-order c =
    let rows : List ℕ = c.tell_chains.new.rows in
    let is : IsOrderOf (length rows) c.args.pairs.now (order_of_rows rows) =
    subst (λ (n : ℕ). IsOrderOf n c.args.pairs.now (order_of_rows rows))
    (sym c.tell_chains.ensures.as_many) c.tell_chains.ensures.chains in
    order_without_cycle _ rows c.tell_chains.ensures.transitive is c.in_default.ensures.none

pub returns-in-Err-NoLeast-clause-refusal : goal.returns-in-Err-NoLeast-clause-refusal
returns-in-Err-NoLeast-clause-refusal c =
    let rows : List ℕ = c.tell_chains.new.rows in
    let many : length rows ≡ c.args.count = search rules in
    let is : IsOrderOf c.args.count c.args.pairs.now (order_of_rows rows) =
    subst (λ (n : ℕ). IsOrderOf n c.args.pairs.now (order_of_rows rows))
    (sym c.tell_chains.ensures.as_many ∙ many) c.tell_chains.ensures.chains in (
      omega arith,
      record {
        acyclic = λ a a_in cycle. c.in_default.ensures.none a (omega arith) (mutual_from_cycle _ _ _ is a a_in cycle);
        order = order_of_rows rows;
        is_order_of = is;
        first = subst (LacksTable (order_of_rows rows)) c.in-Err-NoLeast.field-0-is c.in-Err-NoLeast.ensures.refused;
      },
    )

pub first_in_cycle-requires-clause-itself : goal.first_in_cycle-requires-clause-itself
first_in_cycle-requires-clause-itself c = λ b b_in. (c.tell_chains.ensures.chains.tells b b (omega arith) (omega arith)).1 none
