-- What is told of a file's records, by the tests of their keys and of the class list.
use Rattle.std.proofs.Common.{◌≡◌, ◌∙◌, ℕ, List, [], ◌++◌, Bool, true, false, MatchBool, Option, Some, None, Err, refl, sym, ap, subst, slice_get}
use Rattle.std.specs.{Option.{option_map_or}, List.Sorted.{IsPermutation}}
use Rattle.rio_format.specs.declared.class.ClassDef.{ClassDef}
use Rattle.rio_key.specs.declared.head.KeyHead.{KeyHead}
use Rattle.rio_head.specs.declared.reason.Reason.TheVariants.{BadInfo}
use Rattle.rio_chain.specs.Segments.{Link}
use Rattle.rio_state.specs.{Contents.{FileClasses, HasStateClasses, file_classes}, KeyedRecords.{KeyedRecord, info_key, keyed_records, top_keys, tree_records}}
use Rattle.rio_state.specs.Reasons.{ReasonAt, directory_reasons, info_reasons, keys_reasons, reason_at, room_reasons, state_reasons}
use Rattle.rio_recover.specs.{Causes.{Judges, Obtains}, Checks.{IsChecking, beside_of}, Classes.{AreClassesOf, classes_in}, Trees.{trees_at}}
use Rattle.rio_recover.specs.{declared.classes.ListedClasses.{ListedClasses}, declared.judge.KeyCheck.{KeyCheck}, declared.trees.TreeAt.{TreeAt}}
use Rattle.rio_recover.specs.Recovered.{AreItemsOf, JudgesLinks, JudgesState}
use Rattle.rio_recover.specs.declared.fault.RecoverFault.{RecoverFault, TheVariants.{BadFile, ReadOnly, NoMemory, HostFault}}
use Rattle.rio_recover.proofs.{ItemsRead.{items_moved}, Judging.{first_in, judges_on}}

module _ (records : List KeyedRecord) where
  abbrev pub info : Option KeyedRecord
  info = info_key records

  abbrev pub directory : List ReasonAt
  directory = directory_reasons records

  abbrev pub of_keys : FileClasses → List ReasonAt
  of_keys classes = keys_reasons (record { classes = classes; records = records; tops = top_keys records }) [] (top_keys records)

  parts : (listed : Bool) → state_reasons listed records ≡ directory ++ (info_reasons listed info ++ of_keys (file_classes info))
  unfolding state_reasons
  parts listed = refl

  all_told : {X : Type 0} (listed : Bool) (e : RecoverFault) (xs : List ReasonAt) (P : X → Type 0) → MatchBool listed (HasStateClasses info) (¬ HasStateClasses info)
      → state_reasons listed records ≡ xs → Judges (Err e) xs P → JudgesState (Err e) records
  all_told listed (BadFile place kind) xs P told is j = j
  all_told listed (ReadOnly place reason) xs P told is j = (listed, told, ap (λ (rs : List ReasonAt). slice_get rs 0) is ∙ j)
  all_told listed NoMemory xs P told is j = tt
  all_told listed HostFault xs P told is j = tt

  -- a key of another directory
  pub directory_first : {X : Type 0} (o : Option ListedClasses) (e : RecoverFault) (P : X → Type 0) → AreClassesOf info o → Judges (Err e) directory P → JudgesState (Err e) records
  directory_first (Some classes) e P is j =
      all_told true e (directory ++ (info_reasons true info ++ of_keys (file_classes info))) P is.0 (parts true)
      (judges_on e directory (info_reasons true info ++ of_keys (file_classes info)) P P j)
  directory_first None e P is j =
      all_told false e (directory ++ (info_reasons false info ++ of_keys (file_classes info))) P is (parts false)
      (judges_on e directory (info_reasons false info ++ of_keys (file_classes info)) P P j)

  -- classes without a reading
  pub info_first : (place : ℕ) → place ≡ option_map_or (λ r. r.head.seek) info 0 → directory ≡ [] → ¬ HasStateClasses info → JudgesState (Err (ReadOnly place BadInfo)) records
  info_first place is none unread_list = (
    false,
    unread_list,
    ap (λ (rs : List ReasonAt). slice_get rs 0) (parts false ∙ ap (λ (xs : List ReasonAt). xs ++ (info_reasons false info ++ of_keys (file_classes info))) none)
        ∙ ap (λ (p : ℕ). some (reason_at p BadInfo)) (sym is),
  )
    where
      some : ReasonAt → Option ReasonAt
      some r = Some r

  -- where the classes are read and nothing is in another directory, the keys decide
  keys_left : (classes : ListedClasses) → directory ≡ [] → classes_in classes ≡ file_classes info → state_reasons true records ≡ of_keys (classes_in classes)
  keys_left classes none is = parts true ∙ ap (λ (xs : List ReasonAt). xs ++ of_keys (file_classes info)) none ∙ ap of_keys (sym is)

  pub key_first : {X : Type 0} (classes : ListedClasses) (e : RecoverFault) (P : X → Type 0) → AreClassesOf info (Some classes) → directory ≡ [] → Judges (Err e) (of_keys (classes_in classes)) P → JudgesState (Err e) records
  key_first classes e P is none j = all_told true e (of_keys (classes_in classes)) P is.0 (keys_left classes none is.1) j

  pub none_against : (classes : ListedClasses) (check : KeyCheck) → AreClassesOf info (Some classes) → directory ≡ [] → of_keys (classes_in classes) ≡ [] → IsChecking (beside_of classes records) (top_keys records) check
      → AreItemsOf records classes.registry check.items.heads check.trees
  none_against classes check is none keys checking = record {
    listed = is.0;
    none = keys_left classes none is.1 ∙ keys;
    classes_are = ap (λ (c : FileClasses). c.declared) is.1;
    heads_are = items_moved (top_keys records) check.items.heads checking.keys.items;
    trees_are = subst (λ (c : FileClasses). IsPermutation (trees_at c (tree_records (top_keys records))) check.trees) is.1 checking.trees;
    headers = checking.plain;
  }

  pub unread : {X : Type 0} (e : RecoverFault) (P : X → Type 0) → Obtains (Err e) P → JudgesState (Err e) records
  unread (BadFile place kind) P o = o
  unread (ReadOnly place reason) P o = absurd o
  unread NoMemory P o = tt
  unread HostFault P o = tt

-- ---- all of a file's links

pub state_refused : (links : List Link) (e : RecoverFault) → JudgesState (Err e) (keyed_records links) → JudgesLinks (Err e) links
state_refused links (BadFile place kind) j = j
state_refused links (ReadOnly place reason) j = (j.0, j.1, first_in (state_reasons j.0 (keyed_records links)) (room_reasons links) (reason_at place reason) j.2)
state_refused links NoMemory j = tt
state_refused links HostFault j = tt

pub room_refused : {X : Type 0} (links : List Link) (classes : List ClassDef) (heads : List KeyHead) (trees : List TreeAt) (e : RecoverFault) (P : X → Type 0) → AreItemsOf (keyed_records links) classes heads trees → Judges (Err e) (room_reasons links) P
    → JudgesLinks (Err e) links
room_refused links classes heads trees (BadFile place kind) P items j = j
room_refused links classes heads trees (ReadOnly place reason) P items j = (true, items.listed, ap (λ (xs : List ReasonAt). slice_get (xs ++ room_reasons links) 0) items.none ∙ j)
room_refused links classes heads trees NoMemory P items j = tt
room_refused links classes heads trees HostFault P items j = tt
