-- Laws of steps and of runs.
use Rattle.std.specs.Prelude.{◌≡◌, ◌≢◌, ◌<◌, ◌≤◌, ◌⊎◌, ℕ, ◌+◌, ◌-◌, List, [], ◌∷◌, ◌++◌, drop, length, slice_get, take, Option, Some, None, IsSome, Bool, true, false}
use Rattle.std.specs.{declared.cmp.Ordering.{Ordering}, FinMap.{FinMap, get}, List.{last_or, list_all}, Option.{IsSomeAnd, option_map}}
use Rattle.rio_format.specs.{declared.class.ClassDef.{ClassDef}, declared.value.Value.{Value}, Fits.{fits}, Written.{written_form}}
use Rattle.rio_machine.specs.{RefusalText.{refusal_number}, Rows.{row_fits}, State.{NameAndCycle, Row, State, Tree, names_object, names_tree, next_cycle}}
use Rattle.rio_machine.specs.{declared.command.Command.{Command, TheVariants.{Put, Batch, Delete}}, declared.command.PutItem.{PutItem}, declared.refusal.Refusal.{Refusal}}
use Rattle.rio_step.specs.{Refusing.{FullMark, is_fit, items_put, refusal_of, refusals, put_value, rows_of_tree}, ReplyText.{text_of}}
use Rattle.rio_step.specs.Runs.{Marks, closed_of, closing_saves, first_step, said_of, saved_of, saved_tree, state_after, states_of_run}
use Rattle.rio_step.specs.Step.{Reply, refused, step, with_object, with_objects}

-- ---- refusals

-- the test with the refusal's number gives the refusal, and no test before it gives one
pub record IsLowest (tests : List (Option Refusal)) (refusal : Refusal) : Type 0 where
  pub told : slice_get tests (refusal_number refusal - 1) ≡ Some (Some refusal)
  pub none_before : (k : ℕ) → k + 1 < refusal_number refusal → slice_get tests k ≡ Some None

-- of several refusals the one of the lowest number is told, and none is told where no test gives one
pub record LowestIsTold : Type 0 where
  pub some : (m : State) (c : Command) (mark : Option FullMark) (refusal : Refusal)
      → refusal_of m c mark ≡ Some refusal → IsLowest (refusals m c mark) refusal
  pub none : (m : State) (c : Command) (mark : Option FullMark)
      → refusal_of m c mark ≡ None → (k : ℕ) → k < 19 → slice_get (refusals m c mark) k ≡ Some None

-- ---- steps

-- a refused command changes nothing
abbrev pub RefusedChangesNothing : Type 0
RefusedChangesNothing = (m : State) (c : Command) (mark : Option FullMark) (refusal : Refusal)
    → (step m c mark).reply ≡ refused refusal → (step m c mark).state ≡ m

-- the second state has one object more: the value, in the next cycle of its name, where nothing was
pub record HasOneMore (m n : State) (name : List ℕ) (v : Value) : Type 0 where
  pub classes : n.classes ≡ m.classes
  pub trees : n.trees ≡ m.trees
  pub free : get m.objects (name, next_cycle m name) ≡ None
  pub object : get n.objects (name, next_cycle m name) ≡ Some (put_value m v)
  pub others : (item : NameAndCycle) → item ≢ (name, next_cycle m name) → get n.objects item ≡ get m.objects item

-- a put that isn't refused adds its object and changes nothing else
abbrev pub PutsAddOne : Type 0
PutsAddOne = (m : State) (name : List ℕ) (v : Value) (mark : Option FullMark)
    → refusal_of m (Put name v) mark ≡ None → HasOneMore m (step m (Put name v) mark).state name v

-- no name is that of an object and of a tree
abbrev pub AreNamesApart : State → Type 0
AreNamesApart m = (name : List ℕ) → names_object m name ≡ true → names_tree m name ≡ false

-- the second state has one object less
pub record HasOneLess (m n : State) (item : NameAndCycle) : Type 0 where
  pub classes : n.classes ≡ m.classes
  pub trees : n.trees ≡ m.trees
  pub there : IsSome (get m.objects item)
  pub object : get n.objects item ≡ None
  pub others : (other : NameAndCycle) → other ≢ item → get n.objects other ≡ get m.objects other

-- the second state has one tree less
pub record HasOneTreeLess (m n : State) (name : List ℕ) (cycle : ℕ) : Type 0 where
  pub classes : n.classes ≡ m.classes
  pub objects : n.objects ≡ m.objects
  pub there : IsSomeAnd (get m.trees name) (λ t. t.cycle ≡ cycle)
  pub tree : get n.trees name ≡ None
  pub others : (other : List ℕ) → other ≢ name → get n.trees other ≡ get m.trees other

-- a delete that isn't refused takes its object away, or its tree with all rows, and changes nothing else
abbrev pub DeletesTakeOne : Type 0
DeletesTakeOne = (m : State) (name : List ℕ) (cycle : ℕ) (mark : Option FullMark) → AreNamesApart m → refusal_of m (Delete name cycle) mark ≡ None
    → let n = (step m (Delete name cycle) mark).state in HasOneLess m n (name, cycle) ⊎ HasOneTreeLess m n name cycle

abbrev pub NamesStayApart : Type 0
NamesStayApart = (m : State) (c : Command) (mark : Option FullMark) → AreNamesApart m → AreNamesApart (step m c mark).state

-- what stands in the first map stands in the second
abbrev pub Keeps : {K X : Type 0} {R : K → K → Ordering} → FinMap R X → FinMap R X → Type 0
Keeps {K} {X} old new = (k : K) (x : X) → get old k ≡ Some x → get new k ≡ Some x

-- the tree has the same branches, and all its rows, with more rows behind them or without
pub record HasRowsOf (old new : Tree) : Type 0 where
  pub branches : new.branches ≡ old.branches
  pub more : List Row
  pub rows : rows_of_tree new ≡ rows_of_tree old ++ more

-- each tree of the first state is there in the second, with all its rows
abbrev pub KeepsRows : State → State → Type 0
KeepsRows m n = (name : List ℕ) (t : Tree) → get m.trees name ≡ Some t → (u : Tree) × (get n.trees name ≡ Some u) × HasRowsOf t u

abbrev pub is_delete : Command → Bool
is_delete (Delete name cycle) = true
is_delete other = false

-- no command but a delete takes an object or a row away, or changes one
pub record NothingIsLost : Type 0 where
  pub objects : (m : State) (c : Command) (mark : Option FullMark) → is_delete c ≡ false → Keeps m.objects (step m c mark).state.objects
  pub rows : (m : State) (c : Command) (mark : Option FullMark) → is_delete c ≡ false → KeepsRows m (step m c mark).state

-- ---- batches

-- the items that puts give their objects, one put after the other
abbrev pub items_along : State → List PutItem → List NameAndCycle
items_along m [] = []
items_along m (p ∷ ps) = (p.name, next_cycle m p.name) ∷ items_along (with_object m p.name p.value) ps

-- the objects of a batch get the cycles that they would get one put after the other
abbrev pub CyclesCountUp : Type 0
CyclesCountUp = (m : State) (puts : List PutItem) → items_put m [] puts ≡ items_along m puts

-- puts one after the other, none of which is refused
abbrev pub AreTaken : State → List PutItem → Type 0
AreTaken m [] = Unit {0}
AreTaken m (p ∷ ps) = (refusal_of m (Put p.name p.value) None ≡ None) × AreTaken (with_object m p.name p.value) ps

-- a batch that isn't refused leaves what its puts leave one after the other, none of which is refused
pub record TakesAll (m n : State) (puts : List PutItem) : Type 0 where
  pub state : n ≡ with_objects m puts
  pub taken : AreTaken m puts

abbrev pub BatchesTakeAll : Type 0
BatchesTakeAll = (m : State) (puts : List PutItem) (mark : Option FullMark)
    → refusal_of m (Batch puts) mark ≡ None → TakesAll m (step m (Batch puts) mark).state puts

-- ---- one class more

-- a value that fits its class still fits it
abbrev pub FitsStay : Type 0
FitsStay = (classes : List ClassDef) (class : ClassDef) (own : List ℕ) (v : Value)
    → fits classes own v ≡ true → fits (classes ++ class ∷ []) own v ≡ true

-- and what is written for it is the same
abbrev pub WrittenStays : Type 0
WrittenStays = (classes : List ClassDef) (class : ClassDef) (own : List ℕ) (v : Value) (start : ℕ)
    → fits classes own v ≡ true → written_form (classes ++ class ∷ []) start v ≡ written_form classes start v

-- every object fits its class, and every row of a tree its branches
pub record AllFit (m : State) : Type 0 where
  pub objects : (item : NameAndCycle) (v : Value) → get m.objects item ≡ Some v → is_fit m.classes v ≡ true
  pub rows : (name : List ℕ) (t : Tree) → get m.trees name ≡ Some t
      → list_all (row_fits m.classes t.branches) (rows_of_tree t) ≡ true

-- no command makes an object or a row one that doesn't fit, a declaration neither
abbrev pub AllStayFit : Type 0
AllStayFit = (m : State) (c : Command) (mark : Option FullMark) → AllFit m → AllFit (step m c mark).state

-- ---- runs

-- a run with one command more says its reply more
abbrev pub EachSaysItsReply : Type 0
EachSaysItsReply = (m : State) (cs : List Command) (c : Command) (marks : Marks)
    → said_of m (cs ++ c ∷ []) marks ≡ said_of m cs marks ++ text_of (first_step (state_after m cs marks) c (drop (length cs) marks)).reply

-- what a run says begins with what its first commands say, and goes on as a run from the state behind them
abbrev pub SaidInParts : Type 0
SaidInParts = (m : State) (cs : List Command) (marks : Marks) (k : ℕ)
    → said_of m cs marks ≡ said_of m (take k cs) marks ++ said_of (state_after m (take k cs) marks) (drop k cs) (drop k marks)

-- each reply says something
abbrev pub RepliesSaySomething : Type 0
RepliesSaySomething = (reply : Reply) → 0 < length (text_of reply)

-- one state at the start, one behind each command and one behind each closing save
abbrev pub RunsHaveStates : Type 0
RunsHaveStates = (m : State) (cs : List Command) (marks : Marks)
    → length (states_of_run m cs marks) ≡ length cs + 1 + length (closing_saves (state_after m cs marks))

-- the last of them is the state behind the commands with all pending rows saved
abbrev pub RunsEndClosed : Type 0
RunsEndClosed = (m : State) (cs : List Command) (marks : Marks)
    → last_or None (states_of_run m cs marks) ≡ Some (closed_of (state_after m cs marks))

-- the states are those behind the first commands, so a run of fewer commands has the same at its front
abbrev pub RunsBeginAlike : Type 0
RunsBeginAlike = (m : State) (cs : List Command) (marks : Marks) (k : ℕ) → k ≤ length cs
    → slice_get (states_of_run m cs marks) k ≡ Some (state_after m (take k cs) marks)

-- ---- rows

-- a state without its pending rows has the same trees, each without its own
abbrev pub SavedKeepsTheRest : Type 0
SavedKeepsTheRest = (m : State) (name : List ℕ) → get (saved_of m).trees name ≡ option_map saved_tree (get m.trees name)

-- a closed state has no pending rows
abbrev pub ClosedHasNonePending : Type 0
ClosedHasNonePending = (m : State) (name : List ℕ) (t : Tree) → get (closed_of m).trees name ≡ Some t → t.pending ≡ []
