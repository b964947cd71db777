use Rattle.rio_judge.proofs.BatchLaws.{batch_can, batch_goes, batch_stops, batch_untreed}
use Rattle.rio_judge.proofs.batch.batch_work.Goals as goal

pub returns-in-Some-clause-answers : goal.returns-in-Some-clause-answers
returns-in-Some-clause-answers c =
    batch_stops c.args.classes.now c.args.table.now.heads c.args.trees.now.trees c.args.puts.now c.in_ok-found.found c.in_ok-found.ensures c.in-Some.refusal c.in-Some.is

pub returns-in-None-clause-answers : goal.returns-in-None-clause-answers
returns-in-None-clause-answers c =
    batch_goes c.args.classes.now c.args.table.now.heads c.args.trees.now.trees c.args.puts.now c.in_ok-found.found c.in_ok-found.ensures c.in-None.is

pub returns-in-None-clause-sound : goal.returns-in-None-clause-sound
returns-in-None-clause-sound c =
    batch_can c.args.classes.now c.args.table.now.heads c.args.trees.now.trees c.args.puts.now c.in_ok-found.found c.in_ok-found.ensures c.in-None.is

pub returns-in-None-clause-no_tree : goal.returns-in-None-clause-no_tree
returns-in-None-clause-no_tree c =
    batch_untreed c.args.classes.now c.args.table.now.heads c.args.trees.now.trees c.args.puts.now c.in_ok-found.found c.in_ok-found.ensures c.in-None.is
