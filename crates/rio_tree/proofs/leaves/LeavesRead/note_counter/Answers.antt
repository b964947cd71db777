use Rattle.std.proofs.Common.{ap}
use Rattle.std.specs.Option.{option_map}
use Rattle.rio_tree.specs.Tables.{leaf_of, leaves_of_branch}
use Rattle.rio_tree.proofs.NumberLaws.{counter_noted}
use Rattle.rio_tree.proofs.leaves.LeavesRead.note_counter.Goals as goal

pub returns-in_ok-insert-in-Some : goal.returns-in_ok-insert-in-Some
returns-in_ok-insert-in-Some c =
    counter_noted c.args.own (option_map leaf_of c.args.counter) (leaf_of c.in-Some.leaf) (leaves_of_branch c.args.self.now) c.insert.new.self.keys (ap (option_map leaf_of) c.in-Some.is) c.if-leaf-own.true c.in_ok-insert-in-Some.ensures.keys
