use Rattle.std.proofs.Common.{◌≡◌, List, [], IfOk, ap, nat_cmp, subst}
use Rattle.std.specs.{Map.{lookup}, Ordering.{is_eq}, Cmp.Lexicographic.{slice_cmp}}
use Rattle.rio_format.specs.declared.value.Value.{Value}
use Rattle.rio_entry.specs.Counted.{noted_branches}
use Rattle.rio_entry.proofs.CountedLaws.{all_counted}
use Rattle.rio_entry.proofs.counts.count_by_name.Goals as goal

pub returns : goal.returns
returns c =
    let says = c.in_ok-note_branches.ensures [] (λ name. ap (lookup (λ k. is_eq (slice_cmp nat_cmp name k.now))) c.new-numbers.ensures.empty) in
    subst (λ (all : List Value). IfOk c.leaf_counts.result (λ found. found ≡ all)) (all_counted c.args.branches.now c.args.row.now c.args.counters.now c.args.leaves.now)
    (c.leaf_counts.ensures (noted_branches c.args.branches.now c.args.row.now c.args.counters.now []) says)
