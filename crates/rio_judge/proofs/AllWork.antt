-- Work with objects and classes, among all work.
use Rattle.std.proofs.Common.{List, Result, Ok, Err, IfOk}
use Rattle.rio_key.specs.declared.head.KeyHead.{KeyHead}
use Rattle.rio_tree_table.specs.declared.table.KeptTree.{KeptTree}
use Rattle.rio_format.specs.declared.class.ClassDef.{ClassDef}
use Rattle.rio_machine.specs.{State.{State}, declared.command.Command.{Command}}
use Rattle.rio_judge.specs.{Judging.{WorkCanBeDone}, Stops.{GoesByItems, GoesByState, as_item}, Trees.{AnyWorkCanBeDone, HasNoTree}}
use Rattle.rio_judge.specs.declared.{stop.Stop.{Stop}, work.Work.{Work}}

pub goes_with_items : (m : State) (c : Command) (r : Result Work Stop) → GoesByState m c r → GoesByItems m c (as_item r)
goes_with_items m c (Ok work) goes = goes
goes_with_items m c (Err stop) goes = goes

pub sound_with_items : (classes : List ClassDef) (heads : List KeyHead) (trees : List KeptTree) (c : Command) (r : Result Work Stop)
    → IfOk r (WorkCanBeDone classes heads c) → IfOk r (λ _. HasNoTree trees c) → IfOk (as_item r) (AnyWorkCanBeDone classes heads trees c)
sound_with_items classes heads trees c (Ok work) sound apart = (sound, apart)
sound_with_items classes heads trees c (Err stop) sound apart = tt

-- a declaration is of no item
pub no_trees : (r : Result Work Stop) → IfOk r (λ _. Unit {0})
no_trees (Ok work) = tt
no_trees (Err stop) = tt
