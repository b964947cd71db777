-- One key is checked: its name, its value, those beside it, and its tree is noted.
use Rattle.std.proofs.Common.{◌≡◌, ◌∙◌, ℕ, List, [], ◌∷◌, ◌++◌, Bool, true, false, cond, not, ◌&&◌, Option, Some, None, Result, Ok, Err, refl, sym, ap, subst}
use Rattle.std.specs.{List.{All, Contains, find, list_any}, Option.{is_none}, Result.{OnOk}}
use Rattle.rio_key.specs.declared.head.KeyHead.{KeyHead}
use Rattle.rio_head.specs.declared.reason.Reason.TheVariants.{DoubleKey, MixedName}
use Rattle.rio_tree.specs.declared.head.TreeHead.{TreeHead}
use Rattle.rio_state.proofs.Unreasoned.{if_none, nil_two}
use Rattle.rio_state.specs.{KeyedRecords.{KeyedRecord, has_item, is_mixed_name, is_outdated, is_tree_record, item_of_key, top_keys}, Reasons.{Beside, key_reasons, reason_if}, Trees.{header_in}}
use Rattle.rio_recover.specs.{Causes.{Judges}, Checks.{GivesTree, GivesValue, HasChecked, IsChecking, IsNext, NotesHeader, NotesTree, PassesKey, header_records, is_header_key, is_untitled, item_reasons, kind_of, tree_named, value_reasons}, Keys.{keyed, keyed_by}, TreeTable.{has_name, with_tree}}
use Rattle.rio_recover.specs.declared.fault.RecoverFault.{RecoverFault, TheVariants.{BadFile, ReadOnly, NoMemory, HostFault}}
use Rattle.rio_recover.specs.{declared.judge.KeyCheck.{KeyCheck}, declared.named.NamedPlaces.{NamedPlaces}, declared.trees.TreeAt.{TreeAt}}
use Rattle.rio_recover.specs.declared.judge.KeyKind.{KeyKind, TheVariants.{Object, Tree, Outdated}}
use Rattle.rio_recover.proofs.{KeyJudged.{name_reasons, no_reasons}, KeyKinds.{kind_is, object_record, old_record, tree_record}, SameCycles.{named_twice}, TreesChecked.{no_tree_checked, no_tree_more, tree_checked, tree_more}}

-- ---- what was given of the value

none_given : (heads : List KeyHead) (kind : KeyKind) (old new : NamedPlaces) → GivesValue heads kind old new None → (kind ≡ Tree → ⊥) × (new ≡ old)
none_given heads Object old new gives = ((λ e. cc), gives.1)
none_given heads Tree old new gives = absurd gives
none_given heads Outdated old new gives = ((λ e. cc), gives.1)

some_given : (heads : List KeyHead) (kind : KeyKind) (old new : NamedPlaces) (tree : TreeHead) → GivesValue heads kind old new (Some tree) → (kind ≡ Tree) × NotesHeader heads old new tree
some_given heads Object old new tree gives = let f = gives.0 in absurd cc
some_given heads Tree old new tree gives = (refl, gives)
some_given heads Outdated old new tree gives = let f = gives.0 in absurd cc

no_header_key : (tops : List KeyedRecord) (head : KeyHead) (kind : KeyKind) → kind ≡ kind_of tops head → (kind ≡ Tree → ⊥) → is_header_key tops head ≡ false
no_header_key tops head Object kinds other = ap (λ (b : Bool). b && not (is_outdated tops (keyed head))) ((kind_is tops head).object (sym kinds))
no_header_key tops head Tree kinds other = absurd (other refl)
no_header_key tops head Outdated kinds other = let is = (kind_is tops head).old (sym kinds) in λ i. is.0 i && not (is.1 i)

header_key : (tops : List KeyedRecord) (head : KeyHead) (kind : KeyKind) → kind ≡ kind_of tops head → kind ≡ Tree → is_header_key tops head ≡ true
header_key tops head kind kinds same = let is = (kind_is tops head).header (sym kinds ∙ same) in λ i. is.0 i && not (is.1 i)

-- ---- by the records of the file

module _ (beside : Beside) (before : List KeyedRecord) (r : KeyedRecord) (head : KeyHead) (same : r.head ≡ head) (kind : KeyKind) (kinds : kind ≡ kind_of beside.tops head) (old mid : KeyCheck) (so : IsChecking beside before old)
    (named : NamedPlaces) (passes : PassesKey head kind (record old { named = named }) mid) (next : IsNext beside before r) (none : name_reasons head ≡ []) (valued : value_reasons beside r ≡ []) (single : item_reasons beside before r ≡ []) where
  reasons : key_reasons beside before r ≡ []
  reasons = no_reasons beside before r (ap name_reasons same ∙ none) valued single

  is_record : is_tree_record beside.tops r ≡ is_header_key beside.tops head
  is_record = ap (λ (h : KeyHead). is_header_key beside.tops h) same

  pub none_told : (heads : List KeyHead) → GivesTree beside before r named None → GivesValue heads kind old.named named None → (key_reasons beside before r ≡ []) × IsChecking beside (before ++ r ∷ []) mid
  none_told heads gives value =
      let other = none_given heads kind old.named named value in
      (reasons, no_tree_more beside before r head same kind kinds old mid so named passes gives.noted (is_record ∙ no_header_key beside.tops head kind kinds other.0))

  alone : list_any (has_item (item_of_key r.head)) before ≡ false
  alone =
      if_none (list_any (has_item (item_of_key r.head)) before) r.head.seek DoubleKey
      (nil_two (reason_if (list_any (has_item (item_of_key r.head)) before) r.head.seek DoubleKey) (reason_if (is_mixed_name beside.tops r.head.name) r.head.seek MixedName) single).0

  module _ (heads : List KeyHead) (tree : TreeHead) (gives : GivesTree beside before r named (Some tree)) (value : GivesValue heads kind old.named named (Some tree)) where
    counts : is_tree_record beside.tops r ≡ true
    counts = is_record ∙ header_key beside.tops head kind kinds (some_given heads kind old.named named tree value).0

    header : header_in beside.classes r ≡ Some tree
    header = sym (gives.header ∙ ap (λ (b : Bool). cond b (header_in beside.classes r) None) counts)

    twice : is_none (find (has_name head.name) mid.trees) ≡ false → ⊥
    twice there =
        let again = named_twice beside.tops before beside.classes r old.trees counts next.top next.others so.trees
        (ap (λ (k : KeyHead). is_none (find (has_name k.name) old.trees)) same ∙ ap (λ (ts : List TreeAt). is_none (find (has_name head.name) ts)) (sym passes.trees) ∙ there) in
        let f : true ≡ false = sym again ∙ alone in cc

    pub some_told : (new : KeyCheck) (result : Result (Unit {0}) RecoverFault) → NotesTree head tree mid new result → Judges result (key_reasons beside before r) (λ x. IsChecking beside (before ++ r ∷ []) new)
    some_told new (Ok x) notes = (reasons, tree_more beside before r head same kind kinds old mid so named passes gives.noted tree new counts (gives.plain counts) header notes.1)
    some_told new (Err (ReadOnly place reason)) notes = absurd (twice notes.2)
    some_told new (Err (BadFile place kind)) notes = absurd notes
    some_told new (Err NoMemory) notes = tt
    some_told new (Err HostFault) notes = absurd notes

-- ---- whatever the host tells

module _ (all before : List KeyHead) (head : KeyHead) (kind : KeyKind) (old mid : KeyCheck) (named : NamedPlaces) (passes : PassesKey head kind (record old { named = named }) mid) (so : HasChecked all before old)
    (untitled : is_untitled head ≡ true) (kinds : kind ≡ kind_of (top_keys (keyed_by all)) head) where
  pub none_checked : GivesValue all kind old.named named None → HasChecked all (before ++ head ∷ []) mid
  none_checked value =
      let other = none_given all kind old.named named value in
      no_tree_checked all before head kind old mid named passes so untitled kinds (no_header_key (top_keys (keyed_by all)) head kind kinds other.0) other.1

  pub some_checked : (tree : TreeHead) (new : KeyCheck) → GivesValue all kind old.named named (Some tree) → new ≡ record mid { trees = with_tree (tree_named head tree) mid.trees } → HasChecked all (before ++ head ∷ []) new
  some_checked tree new value are =
      let given = some_given all kind old.named named tree value in
      tree_checked all before head kind old mid named passes so untitled kinds tree new (header_key (top_keys (keyed_by all)) head kind kinds given.0) given.1 are

pub on_tree : {P : Type 0} (head : KeyHead) (tree : TreeHead) (mid new : KeyCheck) (result : Result (Unit {0}) RecoverFault) → NotesTree head tree mid new result
    → (new ≡ record mid { trees = with_tree (tree_named head tree) mid.trees } → P) → OnOk result P
on_tree head tree mid new (Ok x) notes f = f notes.1
on_tree head tree mid new (Err e) notes f = tt
