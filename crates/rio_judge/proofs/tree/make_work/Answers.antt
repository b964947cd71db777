use Rattle.std.proofs.Common.{◌∙◌, List, ap, rules, sym}
use Rattle.rio_leaf.specs.declared.branch.BranchDef.{BranchDef}
use Rattle.rio_step.specs.Refusing.{first_of}
use Rattle.rio_judge.specs.Stops.{tree_tests}
use Rattle.rio_judge.proofs.TreeTests.{make_refusal}
use Rattle.rio_judge.proofs.tree.make_work.Goals as goal

pub returns-in-Some-clause-answers : goal.returns-in-Some-clause-answers
returns-in-Some-clause-answers c trees m same are =
    make_refusal c.args.table.now.heads trees m are c.args.name.now c.args.classes.now c.args.branches.now same
    ∙ ap (λ (bs : List BranchDef). first_of (tree_tests c.args.classes.now c.args.table.now.heads c.args.name.now bs)) (sym c.as_slice.ensures) ∙ sym c.tree_refusal.ensures ∙ c.in-Some.is

pub returns-in_ok-branches-in-None-clause-answers : goal.returns-in_ok-branches-in-None-clause-answers
returns-in_ok-branches-in-None-clause-answers c trees m same are = (
  make_refusal c.args.table.now.heads trees m are c.args.name.now c.args.classes.now c.args.branches.now same
      ∙ ap (λ (bs : List BranchDef). first_of (tree_tests c.args.classes.now c.args.table.now.heads c.args.name.now bs)) (sym c.as_slice.ensures) ∙ sym c.tree_refusal.ensures ∙ c.in-None.is,
  search rules,
)
