use Rattle.std.proofs.Common.{◌∙◌, List, ap, sym, subst}
use Rattle.rio_tree_table.specs.{Table.{TableRoom}, declared.table.KeptTree.{KeptTree}}
use Rattle.rio_step.specs.KeptItems.{AreItemsOfState}
use Rattle.rio_judge.specs.{Trees.{IsJudgementWithTrees}, declared.work.JudgedWithTrees.{JudgedWithTrees, TheVariants.{Accepted}}}
use Rattle.rio_judge.proofs.KeyStates.{keys_of_objects_are_items}
use Rattle.rio_judge.proofs.judging.judge.Goals as goal

pub returns-in-Refused-clause-judged : goal.returns-in-Refused-clause-judged
returns-in-Refused-clause-judged c m same are =
    let none = ap (λ (t : TableRoom). t.trees) c.new-trees.ensures in
    let items = subst (λ (ts : List KeptTree). AreItemsOfState c.args.table.now.heads ts m) (sym none) (keys_of_objects_are_items c.args.table.now.heads m are) in
    subst (λ (j : JudgedWithTrees). IsJudgementWithTrees m c.args.command.now j) c.in-Refused.is (c.in_ok-refusal.ensures.judged m same items)

pub returns-in-Accepted-Item-clause-judged : goal.returns-in-Accepted-Item-clause-judged
returns-in-Accepted-Item-clause-judged c m same are =
    let none = ap (λ (t : TableRoom). t.trees) c.new-trees.ensures in
    let items = subst (λ (ts : List KeptTree). AreItemsOfState c.args.table.now.heads ts m) (sym none) (keys_of_objects_are_items c.args.table.now.heads m are) in
    subst (λ (j : JudgedWithTrees). IsJudgementWithTrees m c.args.command.now j) (c.in-Accepted-Item.is ∙ ap Accepted c.in-Accepted-Item.field-0-is) (c.in_ok-refusal.ensures.judged m same items)
