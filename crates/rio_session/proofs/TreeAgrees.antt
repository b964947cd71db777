-- A tree that is made by the records of a file agrees with that by what is kept beside it.
use Rattle.std.proofs.Common.{◌≡◌, ℕ, ◌<◌, ◌^◌, List, true, false, refl}
use Rattle.rio_leaf.specs.declared.branch.BranchDef.{BranchDef}
use Rattle.rio_machine.specs.{State.{State}, declared.command.Command.TheVariants.{Tree as MakeTree}}
use Rattle.rio_step.specs.Statable.{is_statable}
use Rattle.rio_effect.specs.{HeaderRecords.{HeadersHaveRecords}, TreeChanges.{changes_of_tree}}
use Rattle.rio_session.specs.{Session.{HoldsState}, SessionState.{SessionState}, Sound.{IsSoundState}}
use Rattle.rio_session.proofs.{Agreeing.{AgreesWithFile}, TreeEffects.{tree_done_at, tree_mark_at, tree_puts_at, tree_segments_at}}

pub tree_agrees : HeadersHaveRecords → (s : SessionState) (m : State) (file : List ℕ) (h : HoldsState s m file) → IsSoundState s → s.failed ≡ false → s.datime < 2 ^ 32 → (name : List ℕ) (branches : List BranchDef)
    → is_statable (MakeTree name branches) ≡ true → AgreesWithFile s m (MakeTree name branches) h.links
tree_agrees headers s m file h sound fresh soon name branches statable = record {
  changes = changes_of_tree s.datime h.links m name branches;
  changes_are = refl;
  done = λ free. tree_done_at headers s m file h sound fresh soon name branches statable free;
  segments = λ free. tree_segments_at headers s m file h sound fresh soon name branches statable free;
  puts = λ free other. tree_puts_at headers s m file h sound fresh soon name branches statable free other;
  mark = λ free. tree_mark_at headers s m file h sound fresh soon name branches statable free;
}
