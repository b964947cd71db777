-- Keys that stand for the objects of a state.
use Rattle.std.specs.{Prelude.{◌≡◌, List, map}, FinMap.{empty, entries}}
use Rattle.rio_key.specs.declared.head.KeyHead.{KeyHead}
use Rattle.rio_machine.specs.State.{NameAndCycle, State}
use Rattle.rio_step.specs.Step.{Listed, listed_object, object_listed}

-- what a key tells of its object: name and cycle, and the class
abbrev pub told_by_key : KeyHead → NameAndCycle × Listed
told_by_key head = ((head.name, head.cycle), object_listed head.class)

-- These keys, in this order, tell what is listed of the state's objects. No command makes a tree yet, so the state has none.
pub record AreKeysOfState (heads : List KeyHead) (m : State) : Type 0 where
  pub objects : map told_by_key heads ≡ map listed_object (entries m.objects)
  pub trees : m.trees ≡ empty
