-- What a call of the reader returns: what reading gives, a refusal of the branch, or no memory.
use Rattle.std.specs.Prelude.{◌≡◌, Result, Ok, Err}
use Rattle.rio_tree.specs.{declared.refusal.BranchRefusal.{BranchRefusal}, declared.unread.Unread.{Unread, TheVariants.{Refused, NoMemory}}}
use Rattle.rio_tree.specs.HeaderLeaves.{LeavesMet}

-- reading refuses the branch for this reason, unless memory ran out
abbrev pub RefusesSo : {A : Type 0} → Unread → Result A BranchRefusal → Type 0
RefusesSo (Refused why) read = read ≡ Err why
RefusesSo NoMemory read = Unit {0}

-- what was returned is what reading gives, unless memory ran out
abbrev pub GivesOrRefuses : {X A : Type 0} → (X → A) → Result X Unread → Result A BranchRefusal → Type 0
GivesOrRefuses view (Ok x) read = read ≡ Ok (view x)
GivesOrRefuses view (Err unread) read = RefusesSo unread read

-- reading leaves refuses the branch for this reason, and leaves after them are read with this table, unless memory ran out
abbrev pub RefusesLeaves : {A : Type 0} → Unread → Result A BranchRefusal → LeavesMet → LeavesMet → Type 0
RefusesLeaves (Refused why) read behind met = (read ≡ Err why) × (met ≡ behind)
RefusesLeaves NoMemory read behind met = Unit {0}

-- what was returned of leaves is what reading gives, and leaves after them are read with this table, unless memory ran out
abbrev pub ReadsLeaves : {X A : Type 0} → (X → A) → Result X Unread → Result A BranchRefusal → LeavesMet → LeavesMet → Type 0
ReadsLeaves view (Ok x) read behind met = (read ≡ Ok (view x)) × (met ≡ behind)
ReadsLeaves view (Err unread) read behind met = RefusesLeaves unread read behind met
