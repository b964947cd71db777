use Rattle.std.proofs.Common.{rules}
use Rattle.rio_judge.proofs.judging.tree_work_of.Goals as goal

pub returns-in-Tree-clause-sound : goal.returns-in-Tree-clause-sound
returns-in-Tree-clause-sound c =
    let sound = c.make_work.ensures.sound c.args.trees.now.trees in
    search rules

pub returns-in-Save-clause-sound : goal.returns-in-Save-clause-sound
returns-in-Save-clause-sound c =
    let sound = c.save_work.ensures.sound c.args.classes.now in
    search rules
