-- What is found of a command: why it is refused, or what it is to do.
use Rattle.std.specs.{Prelude.{◌≡◌, ◌≤◌, ◌<◌, ℕ, ◌+◌, List, [], ◌∷◌, ◌++◌, length, Bool, true, false, Option, Some, None, IsSome}, FinMap.{get}}
use Rattle.rio_key.specs.declared.head.KeyHead.{KeyHead}
use Rattle.rio_dir.specs.Table.{AreOrdered, greatest_cycle, head_of}
use Rattle.rio_format.specs.{declared.class.ClassDef.{ClassDef}, declared.value.Value.{Value}, Written.{written_form}, WrittenBytes.{length_limit, written_list}}
use Rattle.rio_model.specs.{Declaring.{declare_fault, declared}, Resolving.{resolved}}
use Rattle.rio_machine.specs.{Limits.{batch_limit, cycle_limit, item_limit}, State.{State, next_cycle}, declared.command.Command.{Command, TheVariants.{Bad, Class, Put, Batch, Delete, Fill, Get, Scan, Ls}}, declared.command.PutItem.{PutItem}}
use Rattle.rio_machine.specs.declared.refusal.Refusal.{Refusal, TheVariants.{BadRow, NoVersion, CycleLimit, TooLarge, TooDeep, TooMany}}
use Rattle.rio_step.specs.ItemKeys.{AreKeysOfState}
use Rattle.rio_step.specs.Refusing.{first_of, goes_too_deep, has_too_many, is_at_last_cycle, is_bad_row, is_list_name, is_too_large, kind_change, lacks_version, meant_cycle, meant_object, object_class, put_value, refusal_of, refused_if, times_put, with_class}
use Rattle.rio_step.specs.{Costs.{info_size}, Step.{with_object}, Storable.{IsStoredObject}}
use Rattle.rio_judge.specs.declared.work.Judged.{Judged, TheVariants.{Accepted, Refused}}
use Rattle.rio_judge.specs.declared.work.{NewClass.{NewClass}, StoredObject.{StoredObject}}
use Rattle.rio_judge.specs.declared.work.Work.{Work, TheVariants.{Class as Declaring, Put as Storing, Batch as StoringAll, Delete as Deleting, Get as Telling, Ls as Listing}}

-- The commands that are judged as of now. It goes out when the others are built.
abbrev pub is_judged : Command → Bool
is_judged (Bad line place) = true
is_judged (Class class) = true
is_judged (Put name v) = true
is_judged (Batch puts) = true
is_judged (Delete name cycle) = true
is_judged (Get name cycle version) = true
is_judged Ls = true
is_judged other = false

-- ---- by a state

-- what a put stores: the value with its versions, its class, the next cycle of its name, and how many bytes are written of it
pub record IsStep (m : State) (v : Value) (o : StoredObject) : Type 0 where
  pub value : o.value ≡ put_value m v
  pub class : object_class o.value ≡ Some o.class
  pub cycle : o.cycle ≡ next_cycle m o.name
  pub written : o.length ≡ length (written_form m.classes 0 o.value)

-- what the puts of a batch store, one after the other
abbrev pub AreSteps : State → List PutItem → List StoredObject → Type 0
AreSteps m [] [] = Unit {0}
AreSteps m (p ∷ ps) (o ∷ os) = (o.name ≡ p.name) × IsStep m p.value o × AreSteps (with_object m p.name p.value) ps os
AreSteps m puts objects = ⊥

-- what a command is to do to a state: what its step does, and the object that a get prints or a delete takes away is there
abbrev pub IsWorkOf : State → Command → Work → Type 0
IsWorkOf m (Class class) (Declaring d) = (d.class ≡ declared m.classes class) × (d.length ≡ info_size (with_class m.classes class))
IsWorkOf m (Put name v) (Storing o) = (o.name ≡ name) × IsStep m v o
IsWorkOf m (Batch puts) (StoringAll os) = AreSteps m puts os
IsWorkOf m (Delete name cycle) (Deleting h) = (h.name ≡ name) × (h.cycle ≡ cycle) × IsSome (get m.objects (name, cycle))
IsWorkOf m (Get name cycle version) (Telling h asked) = (h.name ≡ name) × (h.cycle ≡ meant_cycle m name cycle) × IsSome (meant_object m name cycle) × (asked ≡ version)
IsWorkOf m Ls Listing = Unit {0}
IsWorkOf m other work = ⊥

-- Why a row is refused that a fill adds, once its classes are known.
abbrev pub refused_by_row : State → Command → Option Refusal
refused_by_row m c =
    first_of
    (refused_if (is_bad_row m c) BadRow
    ∷ refused_if (is_at_last_cycle m c) CycleLimit
    ∷ refused_if (is_too_large m c) TooLarge
    ∷ refused_if (goes_too_deep m c) TooDeep
    ∷ refused_if (has_too_many m c) TooMany
    ∷ [])

-- Why a command is refused by what neither classes nor keys tell. An object that is asked for in a version of its class may
-- have changed a kind, or there is no such version; so may the rows of a tree have changed a kind, where the version is
-- known. A row may not fit the branches of its tree or pass a limit. These are the last refusals of these commands, and no
-- other command has one.
abbrev pub refused_by_object : State → Command → Option Refusal
refused_by_object m (Get name cycle (Some version)) =
    first_of (kind_change m (Get name cycle (Some version)) ∷ refused_if (lacks_version m (Get name cycle (Some version))) NoVersion ∷ [])
refused_by_object m (Fill name row) = refused_by_row m (Fill name row)
refused_by_object m (Scan name class) = kind_change m (Scan name class)
refused_by_object m other = None

-- It tells the state's first refusal, or what the command is to do. The state then refuses the command for no other reason
-- than one that the object tells, and but for a get in a version not at all.
abbrev pub IsJudgement : State → Command → Judged → Type 0
IsJudgement m c (Refused refusal) = refusal_of m c None ≡ Some refusal
IsJudgement m c (Accepted work) = (refusal_of m c None ≡ refused_by_object m c) × IsWorkOf m c work

-- it is so for each state that has these classes and for whose objects these keys stand
abbrev pub IsJudgementOfStates : List ClassDef → List KeyHead → Command → Judged → Type 0
IsJudgementOfStates classes heads c judged = (m : State) → m.classes ≡ classes → AreKeysOfState heads m → IsJudgement m c judged

-- ---- by classes and keys alone

-- What is declared breaks no rule and passes no limit: no state of the classes refuses it but for want of room, it can be put
-- after them just as it is, and the list of all of them can be written.
pub record CanBeDeclared (classes : List ClassDef) (c : ClassDef) (d : NewClass) : Type 0 where
  pub class : d.class ≡ declared classes c
  pub stays : declared classes d.class ≡ d.class
  pub fault : declare_fault classes d.class ≡ None
  pub written : (start : ℕ) → d.length ≡ length (written_list start (classes ++ d.class ∷ []))
  pub short : d.length ≤ length_limit
  pub free : (m : State) → m.classes ≡ classes → refusal_of m (Class c) None ≡ None

-- What a put stores passes no limit, whatever the keys stand for: a record of it can be made, and a key put into the table.
pub record CanBeStored (classes : List ClassDef) (heads : List KeyHead) (v : Value) (o : StoredObject) : Type 0 where
  pub value : resolved classes v ≡ Some o.value
  pub class : object_class o.value ≡ Some o.class
  pub object : IsStoredObject classes o.name o.value
  pub written : (start : ℕ) → o.length ≡ length (written_form classes start o.value)
  pub free : is_list_name o.name ≡ false
  pub cycle : o.cycle ≡ greatest_cycle o.name heads + 1
  pub last : o.cycle ≤ cycle_limit
  pub new : head_of o.name (Some o.cycle) heads ≡ None
  pub room : length heads < item_limit

-- the same of one put of a batch, behind so many puts of the same name
pub record CanBePut (classes : List ClassDef) (heads : List KeyHead) (before : ℕ) (v : Value) (o : StoredObject) : Type 0 where
  pub value : resolved classes v ≡ Some o.value
  pub class : object_class o.value ≡ Some o.class
  pub object : IsStoredObject classes o.name o.value
  pub written : (start : ℕ) → o.length ≡ length (written_form classes start o.value)
  pub free : is_list_name o.name ≡ false
  pub cycle : o.cycle ≡ greatest_cycle o.name heads + 1 + before
  pub last : o.cycle ≤ cycle_limit

-- and of all puts of a batch, behind these
abbrev pub CanEachBePut : List ClassDef → List KeyHead → List PutItem → List PutItem → List StoredObject → Type 0
CanEachBePut classes heads before [] [] = Unit {0}
CanEachBePut classes heads before (p ∷ ps) (o ∷ os) =
    (o.name ≡ p.name) × CanBePut classes heads (times_put p.name before) p.value o × CanEachBePut classes heads (before ++ p ∷ []) ps os
CanEachBePut classes heads before puts objects = ⊥

-- there is room for the keys of all of them
pub record CanAllBePut (classes : List ClassDef) (heads : List KeyHead) (puts : List PutItem) (os : List StoredObject) : Type 0 where
  pub each : CanEachBePut classes heads [] puts os
  pub few : length puts ≤ batch_limit
  pub room : length heads + length puts ≤ item_limit

-- what a command is to do can be done: the class can be declared, the object can be stored, or its key is the table's
abbrev pub WorkCanBeDone : List ClassDef → List KeyHead → Command → Work → Type 0
WorkCanBeDone classes heads (Class class) (Declaring d) = CanBeDeclared classes class d
WorkCanBeDone classes heads (Put name v) (Storing o) = (o.name ≡ name) × CanBeStored classes heads v o
WorkCanBeDone classes heads (Batch puts) (StoringAll os) = CanAllBePut classes heads puts os
WorkCanBeDone classes heads (Delete name cycle) (Deleting h) = head_of name (Some cycle) heads ≡ Some h
WorkCanBeDone classes heads (Get name cycle version) (Telling h asked) = (asked ≡ version) × (head_of name (Some h.cycle) heads ≡ Some h)
WorkCanBeDone classes heads Ls Listing = Unit {0}
WorkCanBeDone classes heads other work = ⊥

-- what is accepted can be done
abbrev pub IsSoundJudgement : List ClassDef → List KeyHead → Command → Judged → Type 0
IsSoundJudgement classes heads c (Refused refusal) = Unit {0}
IsSoundJudgement classes heads c (Accepted work) = WorkCanBeDone classes heads c work

-- ---- laws

-- The keys of any table stand for a state, whatever the classes are: so a judgement that is right for each state is right for one.
abbrev pub KeysHaveStates : Type 0
KeysHaveStates = (classes : List ClassDef) (heads : List KeyHead) → AreOrdered heads → (m : State) × (m.classes ≡ classes) × AreKeysOfState heads m
