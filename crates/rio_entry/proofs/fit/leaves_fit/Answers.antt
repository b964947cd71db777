use Rattle.std.proofs.{Common.{◌≡◌, ℕ, ℤ, List, Option, length, [], drop, take, true, false, rules, ◌∙◌, sym, ap, arith}, lemmas.Int.{to_z-of_z}, lemmas.List.{length-take}}
use Rattle.std.specs.Int.{w128}
use Rattle.rio_machine.specs.Rows.{leaf_kind}
use Rattle.rio_entry.specs.{Counting.{counter_at}, Leaves.{entry_kind, kind_fits, numbers_after}}
use Rattle.rio_machine.specs.Entries.{counter_saying, said_count}
use Rattle.rio_entry.proofs.Counting.{counter_there}
use Rattle.rio_entry.proofs.LeafBytes.{fits_fail, fits_go_on, too_few}
use Rattle.rio_entry.proofs.fit.leaves_fit.Goals as goal

pub returns-then-leaves-row : goal.returns-then-leaves-row
returns-then-leaves-row c = sym (too_few c.args.leaves.now c.args.counts.now c.args.row.now [] (λ e. omega (arith, e)))

pub returns-then-not-leaf_fits : goal.returns-then-not-leaf_fits
returns-then-not-leaf_fits c =
    let l = c.index-leaves-k.result in
    let v = c.index-row-k.result in
    let own = numbers_after (take c.loop-k.k c.args.leaves.now) (take c.loop-k.k c.args.row.now) [] in
    let given = to_z-of_z w128 c.given_count.result (search rules) ∙ c.given_count.ensures in
    let there = c.get.ensures ∙ ap (λ (cs : List (Option ℕ)). counter_at cs c.loop-k.k) c.requires ∙ counter_there c.args.leaves.now c.loop-k.k l (omega arith) c.index-leaves-k.is in
    let long : length (take c.loop-k.k c.args.leaves.now) ≡ length (take c.loop-k.k c.args.row.now) = omega (arith, length-take c.loop-k.k c.args.leaves.now, length-take c.loop-k.k c.args.row.now) in
    let count = c.said_count-count.ensures l.dim (take c.loop-k.k c.args.leaves.now) long there ∙ ap (λ (n : ℤ). said_count l.dim n own) given in
    let said = to_z-of_z w128 c.said_count-count.result (search rules) ∙ count in
    let fit : kind_fits (entry_kind l (drop c.loop-k.k c.args.counts.now) own) v ≡ false = sym (c.leaf_fits.ensures ∙ ap (λ (n : ℤ). kind_fits (leaf_kind (counter_saying l.dim n) l) v) said) ∙ c.if-not-leaf_fits.true in
    sym (fits_fail c.args.leaves.now c.args.counts.now c.args.row.now c.loop-k.k l v (omega arith) (omega arith) c.index-leaves-k.is c.index-row-k.is _ fit c.loop-k.invariant)

pub loop-k-preserved : goal.loop-k-preserved
loop-k-preserved c =
    let l = c.index-leaves-k.result in
    let v = c.index-row-k.result in
    let own = numbers_after (take c.loop-k.k c.args.leaves.now) (take c.loop-k.k c.args.row.now) [] in
    let given = to_z-of_z w128 c.given_count.result (search rules) ∙ c.given_count.ensures in
    let there = c.get.ensures ∙ ap (λ (cs : List (Option ℕ)). counter_at cs c.loop-k.k) c.requires ∙ counter_there c.args.leaves.now c.loop-k.k l (omega arith) c.index-leaves-k.is in
    let long : length (take c.loop-k.k c.args.leaves.now) ≡ length (take c.loop-k.k c.args.row.now) = omega (arith, length-take c.loop-k.k c.args.leaves.now, length-take c.loop-k.k c.args.row.now) in
    let count = c.said_count-count.ensures l.dim (take c.loop-k.k c.args.leaves.now) long there ∙ ap (λ (n : ℤ). said_count l.dim n own) given in
    let said = to_z-of_z w128 c.said_count-count.result (search rules) ∙ count in
    let fit : kind_fits (entry_kind l (drop c.loop-k.k c.args.counts.now) own) v ≡ true = sym (c.leaf_fits.ensures ∙ ap (λ (n : ℤ). kind_fits (leaf_kind (counter_saying l.dim n) l) v) said) ∙ c.if-not-leaf_fits.false in
    fits_go_on c.args.leaves.now c.args.counts.now c.args.row.now c.loop-k.k l v (omega arith) (omega arith) c.index-leaves-k.is c.index-row-k.is _ fit c.loop-k.invariant
