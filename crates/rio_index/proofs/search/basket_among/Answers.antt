use Rattle.std.proofs.{Common.{rules, ◌∙◌, ℕ, ◌-◌, Option, Some, leb, sym, ap, arith}, lemmas.List.Sorted.{IsPartitionPoint-from_clause, IsPartitionedBy-leb}}
use Rattle.rio_tree.specs.declared.basket_at.BasketAt.{BasketAt}
use Rattle.rio_entry.proofs.IndexLaws.{firsts_rise, holds, none_holds, one_passed, search_ends}
use Rattle.rio_index.proofs.search.basket_among.Goals as goal

pub returns-then-entry-entries-clause-exact : goal.returns-then-entry-entries-clause-exact
returns-then-entry-entries-clause-exact c = sym (none_holds c.args.baskets.now c.args.entries c.args.entry c.requires c.if-entry-entries.true)

pub overflow_sub-result : goal.overflow_sub-result
overflow_sub-result c =
    let point = IsPartitionPoint-from_clause (λ (b : BasketAt). leb b.first c.args.entry) c.args.baskets.now c.partition_point.result c.partition_point.ensures.partitioned (IsPartitionedBy-leb (λ (b : BasketAt). b.first) c.args.baskets.now c.args.entry (firsts_rise c.args.baskets.now c.args.entries c.requires)) (λ a r f k. search rules) in
    let ends = search_ends c.args.baskets.now c.args.entry c.partition_point.result c.partition_point.ensures.bound point.0 point.1 in
    let one = one_passed c.args.baskets.now c.args.entries c.args.entry c.requires (omega (arith, c.if-entry-entries.false)) in
    omega (arith, ends, one)

pub returns-clause-exact : goal.returns-clause-exact
returns-clause-exact c =
    let point = IsPartitionPoint-from_clause (λ (b : BasketAt). leb b.first c.args.entry) c.args.baskets.now c.partition_point.result c.partition_point.ensures.partitioned (IsPartitionedBy-leb (λ (b : BasketAt). b.first) c.args.baskets.now c.args.entry (firsts_rise c.args.baskets.now c.args.entries c.requires)) (λ a r f k. search rules) in
    let ends = search_ends c.args.baskets.now c.args.entry c.partition_point.result c.partition_point.ensures.bound point.0 point.1 in
    ap (λ (k : ℕ). let o : Option ℕ = Some (k - 1) in o) (sym ends) ∙ sym (holds c.args.baskets.now c.args.entries c.args.entry c.requires (omega (arith, c.if-entry-entries.false)))
