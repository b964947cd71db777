use Rattle.std.proofs.{Common.{◌≡◌, ℕ, ℤ, Option, List, length, [], ◌∷◌, ◌++◌, drop, take, rules, Ok, ◌∙◌, sym, ap, arith}, lemmas.Int.{to_z-of_z}, lemmas.List.{length-append, length-take}}
use Rattle.std.proofs.lemmas.Result.{err_from_is_err_and}
use Rattle.std.specs.Int.{w128}
use Rattle.rio_num.specs.Meanings.{read}
use Rattle.rio_format.specs.{Frames.{Step}, declared.value.Value.{Value, Int}}
use Rattle.rio_machine.specs.Rows.{leaf_kind}
use Rattle.rio_entry.specs.{Counting.{counter_at}, Leaves.{kind_layout, numbers_after, number_of_value}}
use Rattle.rio_machine.specs.Entries.{counter_saying, given_count, said_count}
use Rattle.rio_entry.proofs.Counting.{counter_there}
use Rattle.rio_entry.proofs.LeafNumbers.{numbers_done, numbers_fail, numbers_go_on}
use Rattle.rio_entry.proofs.check_leaves.pass_counting.Goals as goal

pub returns-in_err-value-clause-exact : goal.returns-in_err-value-clause-exact
returns-in_err-value-clause-exact c = λ classes.
    let p = err_from_is_err_and c.from_residual.result c.from_residual.ensures.1 in
    let l = c.index-leaves-k.result in
    let own = take c.loop-k.k c.args.leaves.now in
    let given = to_z-of_z w128 c.given_count-given.result (search rules) ∙ c.given_count-given.ensures in
    let there = c.get.ensures ∙ ap (λ (cs : List (Option ℕ)). counter_at cs c.loop-k.k) c.requires ∙ counter_there c.args.leaves.now c.loop-k.k l (omega arith) c.index-leaves-k.is in
    let long : length own ≡ length c.as_slice.result.now = omega (arith, length-take c.loop-k.k c.args.leaves.now, ap (λ (vs : List Value). length vs) c.as_slice.ensures, c.loop-k.invariant.1) in
    let counted = c.said_count-count.ensures l.dim own long there ∙ ap (λ (n : ℤ). said_count l.dim n (numbers_after own c.as_slice.result.now [])) given in
    let count = counted ∙ ap (λ (vs : List Value). said_count l.dim (given_count (drop c.loop-k.k c.args.counts.now)) (numbers_after own vs [])) c.as_slice.ensures in
    let said = to_z-of_z w128 c.said_count-count.result (search rules) ∙ count in
    let layout = ap (λ (n : ℤ). read (number_of_value (kind_layout (leaf_kind (counter_saying l.dim n) l))) c.loop-k.reader) (sym said) in
    rw (p.1, p.2) (λ ne. numbers_fail classes c.args.leaves.now c.args.counts.now c.loop-k.kept c.loop-k.k c.loop-k.reader _ l (omega arith) c.index-leaves-k.is c.in_err-value.field-0.0 (layout ∙ c.in_err-value.ensures.exact ne) (c.loop-k.invariant.0 classes))

pub loop-k-preserved : goal.loop-k-preserved
loop-k-preserved c =
    let l = c.index-leaves-k.result in
    let own = take c.loop-k.k c.args.leaves.now in
    let n = c.number.result in
    let given = to_z-of_z w128 c.given_count-given.result (search rules) ∙ c.given_count-given.ensures in
    let there = c.get.ensures ∙ ap (λ (cs : List (Option ℕ)). counter_at cs c.loop-k.k) c.requires ∙ counter_there c.args.leaves.now c.loop-k.k l (omega arith) c.index-leaves-k.is in
    let long : length own ≡ length c.as_slice.result.now = omega (arith, length-take c.loop-k.k c.args.leaves.now, ap (λ (vs : List Value). length vs) c.as_slice.ensures, c.loop-k.invariant.1) in
    let counted = c.said_count-count.ensures l.dim own long there ∙ ap (λ (n : ℤ). said_count l.dim n (numbers_after own c.as_slice.result.now [])) given in
    let count = counted ∙ ap (λ (vs : List Value). said_count l.dim (given_count (drop c.loop-k.k c.args.counts.now)) (numbers_after own vs [])) c.as_slice.ensures in
    let said = to_z-of_z w128 c.said_count-count.result (search rules) ∙ count in
    let layout = ap (λ (n : ℤ). read (number_of_value (kind_layout (leaf_kind (counter_saying l.dim n) l))) c.loop-k.reader) (sym said) in
    let number = ap (λ (m : ℤ). let r : Step ℤ = Ok (m, c.pass_leaf.new.reader) in r) (sym c.number.ensures) in
    let back = to_z-of_z w128 n (search rules) in
    let pushed : c.push.new.self ≡ c.loop-k.kept ++ Int n ∷ [] = c.in_ok-push.ensures.ok ∙ ap (λ (m : ℤ). c.loop-k.kept ++ Int m ∷ []) back in (
      (λ classes. rw pushed (numbers_go_on classes c.args.leaves.now c.args.counts.now c.loop-k.kept c.loop-k.k c.loop-k.reader _ l (omega arith) c.index-leaves-k.is n c.pass_leaf.new.reader c.loop-k.invariant.1 (layout ∙ c.in_ok-value.ensures.exact ∙ number) (c.loop-k.invariant.0 classes))),
      rw pushed (omega (arith, length-append c.loop-k.kept (Int n ∷ []), c.loop-k.invariant.1)),
      search rules,
    )

pub returns-clause-exact : goal.returns-clause-exact
returns-clause-exact c = λ classes. numbers_done classes c.args.leaves.now c.args.counts.now c.loop-k.kept c.loop-k.k c.loop-k.reader _ (omega arith) (c.loop-k.invariant.0 classes)
