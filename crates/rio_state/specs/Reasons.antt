-- Why nothing is written to a file that breaks no rule: all reasons, in the order of testing; the first of them is told.
use Rattle.std.specs.Prelude.{◌≡◌, ◌⊎◌, ℕ, ◌+◌, List, [], ◌∷◌, ◌++◌, length, slice_get, Bool, true, false, ◌==◌, ◌&&◌, not, nat_lt, MatchBool, Option, Some, None, is_some, Ok}
use Rattle.std.specs.{List.{flat_map, list_any}, Option.{option_map_or}}
use Rattle.rio_num.specs.Word.{is_item_text}
use Rattle.rio_head.specs.{Form.{is_large_head}, Head.{head_at}, declared.head.FileHead.{FileHead}}
use Rattle.rio_head.specs.declared.reason.Reason.{Reason, TheVariants.{LargeForm, NoChain, OtherDirectory, BadInfo, BadName, BadKey, BadObject, BadTree, DoubleKey, MixedName, TooMany, NoRoom}}
use Rattle.rio_dir.specs.Unborn.{is_unborn}
use Rattle.rio_chain.specs.Segments.{BreaksAt, IsChain, Link, chain_end}
use Rattle.rio_machine.specs.Limits.{item_limit}
use Rattle.rio_state.specs.{Closing.{close_need, end_limit, kept_in}, Contents.{FileClasses, HasStateClasses, file_classes, object_in}, Trees.{TreesBeside, tree_of}}
use Rattle.rio_state.specs.KeyedRecords.{KeyedRecord, has_item, info_key, is_elsewhere, is_mixed_name, is_tree_key, is_tree_record, item_of_key, keyed_records, object_records, top_keys, tree_records}

-- a reason, and the place where
pub record ReasonAt : Type 0 where
  pub place : ℕ
  pub reason : Reason

abbrev pub reason_at : ℕ → Reason → ReasonAt
reason_at place reason = record { place = place; reason = reason }

-- the reason, where the test holds
abbrev pub reason_if : Bool → ℕ → Reason → List ReasonAt
reason_if true place reason = reason_at place reason ∷ []
reason_if false place reason = []

-- ---- why a file reads as no state

-- keys of another directory, each at its key
abbrev pub directory_reasons : List KeyedRecord → List ReasonAt
directory_reasons records = flat_map (λ r. reason_if (is_elsewhere r.head) r.head.seek OtherDirectory) records

-- the class list that counts, where its classes have no reading
abbrev pub info_reasons : Bool → Option KeyedRecord → List ReasonAt
info_reasons listed info = reason_if (not listed) (option_map_or (λ r. r.head.seek) info 0) BadInfo

-- what is to be known beside a key: the classes and all records of the file, and all keys of objects and trees
pub record Beside : Type 0 where
  pub classes : FileClasses
  pub records : List KeyedRecord
  pub tops : List KeyedRecord

abbrev pub is_bad_object : Beside → KeyedRecord → Bool
is_bad_object beside r = not (is_tree_key r.head) && not (is_some (object_in beside.classes.declared r))

-- what is to be known beside a tree's key
abbrev pub beside_trees : Beside → TreesBeside
beside_trees beside = record { classes = beside.classes; records = beside.records; headers = tree_records beside.tops }

-- a tree's key that isn't its name's highest cycle isn't read
abbrev pub is_bad_tree : Beside → KeyedRecord → Bool
is_bad_tree beside r = is_tree_record beside.tops r && not (is_some (tree_of (beside_trees beside) r))

-- a key of an object or a tree, behind the keys before it, in the order of testing
abbrev pub key_reasons : Beside → List KeyedRecord → KeyedRecord → List ReasonAt
key_reasons beside before r =
    let place = r.head.seek in
    reason_if (not (is_item_text r.head.name)) place BadName
    ++ reason_if (not (length r.head.title == 0)) place BadKey
    ++ reason_if (is_bad_object beside r) place BadObject
    ++ reason_if (is_bad_tree beside r) place BadTree
    ++ reason_if (list_any (has_item (item_of_key r.head)) before) place DoubleKey
    ++ reason_if (is_mixed_name beside.tops r.head.name) place MixedName

-- one key after the other
abbrev pub keys_reasons : Beside → List KeyedRecord → List KeyedRecord → List ReasonAt
keys_reasons beside before [] = []
keys_reasons beside before (r ∷ rs) = key_reasons beside before r ++ keys_reasons beside (before ++ r ∷ []) rs

-- Why the records stand for no state; whether the classes have a reading is known.
unfoldable pub state_reasons : Bool → List KeyedRecord → List ReasonAt
state_reasons listed records =
    let tops = top_keys records in
    let beside : Beside = record { classes = file_classes (info_key records); records = records; tops = tops } in
    directory_reasons records ++ (info_reasons listed (info_key records) ++ keys_reasons beside [] tops)

-- ---- why nothing can be written behind a state

-- how many objects and trees there are
abbrev pub items_among : List KeyedRecord → ℕ
items_among tops = length (object_records tops) + length (tree_records tops)

-- more items than commands can make, or no room for what a close writes
unfoldable pub room_reasons : List Link → List ReasonAt
room_reasons links =
    reason_if (nat_lt item_limit (items_among (top_keys (keyed_records links)))) 0 TooMany
    ++ reason_if (nat_lt end_limit (chain_end links + close_need (kept_in links))) 0 NoRoom

-- ---- the first

-- the file has segments; whether its classes have a reading is told, and this is the first of all reasons
pub record IsReasonOfChain (file : List ℕ) (found : Option ReasonAt) : Type 0 where
  pub links : List Link
  pub chain : IsChain links file
  pub listed : Bool
  pub listed_is : MatchBool listed (HasStateClasses (info_key (keyed_records links))) (¬ HasStateClasses (info_key (keyed_records links)))
  pub first : found ≡ slice_get (state_reasons listed (keyed_records links) ++ room_reasons links) 0

-- the chain breaks
abbrev pub IsReasonOfBreak : List ℕ → Option ReasonAt → Type 0
IsReasonOfBreak file found = (place : ℕ) × BreaksAt place file × (found ≡ Some (reason_at place NoChain))

abbrev pub IsReasonOfSmall : List ℕ → Option ReasonAt → Type 0
IsReasonOfSmall file found = IsReasonOfBreak file found ⊎ IsReasonOfChain file found

-- the header breaks no rule; the large form is the first reason
pub record IsReasonOfMade (file : List ℕ) (found : Option ReasonAt) : Type 0 where
  pub head : FileHead
  pub head_is : head_at file ≡ Ok head
  pub reason : MatchBool (is_large_head head.version) (found ≡ Some (reason_at 4 LargeForm)) (IsReasonOfSmall file found)

-- This is the first reason not to write to a file whose header breaks no rule, or there is none. A file that isn't made yet has
-- none. (That a file isn't new is a reason for making one alone.)
abbrev pub IsFirstReason : List ℕ → Option ReasonAt → Type 0
IsFirstReason file found = MatchBool (is_unborn file) (found ≡ None) (IsReasonOfMade file found)
