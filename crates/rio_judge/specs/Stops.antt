-- Where a judgement stops.
use Rattle.std.specs.{Prelude.{◌≡◌, ℕ, ◌+◌, List, [], ◌∷◌, length, Bool, true, false, not, ◌||◌, nat_le, nat_lt, Option, Some, None, is_some, unwrap_or, Result, Ok, Err, if◌then◌else◌}, List.{list_any}}
use Rattle.rio_key.specs.declared.head.KeyHead.{KeyHead}
use Rattle.rio_dir.specs.Table.{greatest_cycle, head_of}
use Rattle.rio_tree_table.specs.{Table.{tree_of}, declared.table.KeptTree.{KeptTree}}
use Rattle.rio_format.specs.{declared.value.Value.{Value}, declared.class.ClassDef.{ClassDef}}
use Rattle.rio_leaf.specs.declared.branch.BranchDef.{BranchDef}
use Rattle.rio_machine.specs.{Limits.{batch_limit, cycle_limit, has_long_list, has_many_branches, is_too_deep, is_too_long, item_limit}, declared.entry_fault.EntryFault.{EntryFault, TheVariants.{BadRow as BadEntryRow, TooLarge as EntryTooLarge}}}
use Rattle.rio_machine.specs.{RefusalText.{refusal_number}, State.{Row, State}, declared.command.Command.{Command}, declared.refusal.Refusal.{Refusal, TheVariants.{BadName, NameIsTree, NameInUse, NoSuchClass, SameVersion, HoldsItself, DoesNotFit, BadRow, CycleLimit, TooLarge, TooDeep, TooMany}}}
use Rattle.rio_model.specs.declared.declare.DeclareFault as declaring
use Rattle.rio_step.specs.Refusing.{first_of, is_fit, is_kept_out, is_list_name, object_length, refusal_of, refused_if}
use Rattle.rio_model.specs.{Declaring.{shape_lacks_class}, Resolving.{resolved}}
use Rattle.rio_valtext.specs.declared.resolving.ResolveFault.{ResolveFault, TheVariants.{NoSuchClass as Unknown, NoMemory as NoRoom}}
use Rattle.rio_judge.specs.{Judging.{IsWorkOf, refused_by_object}, Trees.{IsAnyWorkOf, IsTreeWorkOf}, declared.stop.Stop.{Stop, TheVariants.{Refused, NoMemory}}}
use Rattle.rio_judge.specs.declared.work.{AnyWork.{AnyWork, TheVariants.{Item, Tree as OfTree}}, TreeWork.{TreeWork}, Work.{Work}}

-- a class that isn't known refuses a command
abbrev pub stop_of : ResolveFault → Stop
stop_of Unknown = Refused NoSuchClass
stop_of NoRoom = NoMemory

-- a rule that a declaration breaks refuses it
abbrev pub stop_of_declaration : declaring.DeclareFault → Stop
stop_of_declaration declaring.TheVariants.NoSuchClass = Refused NoSuchClass
stop_of_declaration declaring.TheVariants.SameVersion = Refused SameVersion
stop_of_declaration declaring.TheVariants.HoldsItself = Refused HoldsItself
stop_of_declaration declaring.TheVariants.TooMany = Refused TooMany
stop_of_declaration declaring.TheVariants.NoMemory = NoMemory

-- it stops at this refusal, or memory ran out
abbrev pub StopsAt : Option Refusal → Stop → Type 0
StopsAt first (Refused refusal) = first ≡ Some refusal
StopsAt first NoMemory = Unit {0}

-- it goes on where no test gives a refusal, and else stops at the first
abbrev pub GoesByTests : {A : Type 0} → List (Option Refusal) → Result A Stop → Type 0
GoesByTests tests (Ok x) = first_of tests ≡ None
GoesByTests tests (Err stop) = StopsAt (first_of tests) stop

-- it gives what the command is to do where the state doesn't refuse it, unless by its object, and else stops at the refusal
abbrev pub GoesByState : State → Command → Result Work Stop → Type 0
GoesByState m c (Ok work) = (refusal_of m c None ≡ refused_by_object m c) × IsWorkOf m c work
GoesByState m c (Err stop) = StopsAt (refusal_of m c None) stop

-- the same of what is to be done with trees
abbrev pub GoesByTree : State → Command → Result TreeWork Stop → Type 0
GoesByTree m c (Ok work) = (refusal_of m c None ≡ refused_by_object m c) × IsTreeWorkOf m c work
GoesByTree m c (Err stop) = StopsAt (refusal_of m c None) stop

abbrev pub GoesByItems : State → Command → Result AnyWork Stop → Type 0
GoesByItems m c (Ok work) = (refusal_of m c None ≡ refused_by_object m c) × IsAnyWorkOf m c work
GoesByItems m c (Err stop) = StopsAt (refusal_of m c None) stop

-- work with objects or classes, and with trees, among all work
abbrev pub as_item : Result Work Stop → Result AnyWork Stop
as_item (Ok work) = Ok (Item work)
as_item (Err stop) = Err stop

abbrev pub as_tree : Result TreeWork Stop → Result AnyWork Stop
as_tree (Ok work) = Ok (OfTree work)
as_tree (Err stop) = Err stop

-- ---- objects that are put

-- the tests that can refuse an object as it is stored with its versions, behind so many puts of its name
abbrev pub tests_of_stored : List ClassDef → List KeyHead → List KeptTree → List ℕ → Value → ℕ → Value → List (Option Refusal)
tests_of_stored classes heads trees name v before stored =
    refused_if (is_list_name name) BadName
    ∷ refused_if (is_some (tree_of name trees)) NameIsTree
    ∷ refused_if (not (is_some (resolved classes v))) NoSuchClass
    ∷ refused_if (is_kept_out classes stored) NoSuchClass
    ∷ refused_if (not (is_fit classes stored)) DoesNotFit
    ∷ refused_if (nat_lt cycle_limit (greatest_cycle name heads + 1 + before)) CycleLimit
    ∷ refused_if (is_too_long (object_length classes name stored)) TooLarge
    ∷ refused_if (is_too_deep stored) TooDeep
    ∷ refused_if (has_long_list stored) TooMany
    ∷ []

abbrev pub object_tests : List ClassDef → List KeyHead → List KeptTree → List ℕ → Value → ℕ → List (Option Refusal)
object_tests classes heads trees name v before = tests_of_stored classes heads trees name v before (unwrap_or (resolved classes v) v)

-- the one of the lower number; of equal ones the first
abbrev pub lower : Option Refusal → Option Refusal → Option Refusal
lower None y = y
lower (Some x) None = Some x
lower (Some x) (Some y) = if nat_le (refusal_number x) (refusal_number y) then Some x else Some y

-- more puts than a batch may have, or more items than a file
abbrev pub has_many_puts : List KeyHead → ℕ → Bool
has_many_puts heads n = nat_lt batch_limit n || nat_lt item_limit (length heads + n)

-- ---- trees and rows

-- the tests that can refuse a tree that is made
abbrev pub tree_tests : List ClassDef → List KeyHead → List ℕ → List BranchDef → List (Option Refusal)
tree_tests classes heads name branches =
    refused_if (is_list_name name) BadName
    ∷ refused_if (is_some (head_of name None heads)) NameInUse
    ∷ refused_if (list_any (λ b. shape_lacks_class classes b.shape) branches) NoSuchClass
    ∷ refused_if (nat_le item_limit (length heads) || has_many_branches branches) TooMany
    ∷ []

-- the tests that can refuse a row of a tree in this cycle, which has no entries for this reason, or has them
abbrev pub row_tests : ℕ → Option EntryFault → Row → List (Option Refusal)
row_tests cycle fault row =
    refused_if (is_bad_row fault) BadRow
    ∷ refused_if (nat_le cycle_limit cycle) CycleLimit
    ∷ refused_if (is_long_row fault) TooLarge
    ∷ refused_if (list_any is_too_deep row) TooDeep
    ∷ refused_if (list_any has_long_list row) TooMany
    ∷ []
  where
    is_bad_row : Option EntryFault → Bool
    is_bad_row (Some BadEntryRow) = true
    is_bad_row other = false

    is_long_row : Option EntryFault → Bool
    is_long_row (Some EntryTooLarge) = true
    is_long_row other = false
