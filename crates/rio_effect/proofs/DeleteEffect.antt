-- With the record of its object released the records stand for the state behind a delete.
use Rattle.std.proofs.Common.{◌≡◌, ◌≢◌, ◌⊎◌, inl, inr, ℕ, ◌∙◌, codes, List, [], ◌∷◌, Bool, true, false, cond, not, ◌||◌, ◌&&◌, ◌==◌, Option, Some, None, refl, sym, ap, subst}
use Rattle.std.proofs.lemmas.Bool.{and_parts, not-false, not-true, or_parts}
use Rattle.std.specs.{Prelude.{if◌then◌else◌, is_some}, FinMap.{contains_key, get, get-remove, remove}, List.{find, list_any}, Option.{option_map_or}}
use Rattle.rio_num.proofs.Cases.{some_of}
use Rattle.rio_key.specs.declared.head.KeyHead.{KeyHead}
use Rattle.rio_dir.specs.Table.{AreOrdered, is_at_cycle, without_head}
use Rattle.rio_chain.specs.Segments.{IsChain, Link}
use Rattle.rio_machine.proofs.OrderLaws.{items_total}
use Rattle.rio_machine.specs.{State.{NameAndCycle, State, Tree, names_item, names_tree}, declared.command.Command.TheVariants.{Delete}}
use Rattle.rio_machine.specs.declared.refusal.Refusal.TheVariants.{NoSuchCycle, NoSuchName}
use Rattle.rio_state.specs.{Contents.{file_classes}, Trees.{places_named}, KeyedRecords.{KeyedRecord, first_place, has_class, has_info_name, has_item, info_key, is_elsewhere, is_in_directory, is_internal, is_top_key, is_tree_key, item_of_key, keyed_records, object_records, top_keys, tree_records}, OneLess.{links_without}}
use Rattle.rio_state.specs.{DirectoryKeys.{AreKeysOf}, OneMore.{HasOneMoreIn}, Reads.{AreRecordsOf}}
use Rattle.rio_state.proofs.{Collected.{item_same, own_item}, KeysFollow.{items_more}, KeyRecords.{holder, item_is, record_key}, LessRecords.{record_less}, Members.{In, all_at, contains_in, filter_in, in_contained}}
use Rattle.rio_step.proofs.ApartLaws.{none_at, not_refused}
use Rattle.rio_step.specs.{Refusing.{FullMark, has_cycle, lacks_cycle, lacks_name, refusal_of, refusals}, Runs.{saved_of}}
use Rattle.rio_effect.specs.Deletes.{DeleteKeyFollows, DeleteLeavesOthers, DeleteTakesEffect, DeletesHaveRecords, HasObject, LeavesOthers, state_without}
use Rattle.rio_effect.proofs.{DeleteKeys.{apart_at, keys_less, own_cycle}, DeleteObject.{no_tree_of_name, none_left, records_less, tops_less}}
use Rattle.rio_effect.proofs.Unnamed.{not_named}
use Rattle.rio_effect.proofs.{Needs.{not_info}, NextCycles.{keys_tell_next_cycle}, SavedDeletes.{deletes_ignore_pending}}

-- a key of the directory isn't that of a basket
pub no_basket : (head : KeyHead) → is_top_key head ≡ true → has_class (codes "TBasket") head ≡ false
no_basket head top = by (has_class (codes "TBasket") head) refl
  where
    inside : is_in_directory head ≡ true
    inside = (and_parts (is_in_directory head) (not (has_info_name head)) top).0

    outside : is_internal head ≡ false
    outside = not-true _ (and_parts (head.pdir == first_place) (not (is_internal head)) inside).1

    by : (b : Bool) → has_class (codes "TBasket") head ≡ b → b ≡ false
    by false e = refl
    by true e = let f = (or_parts (has_class (codes "TFile") head) (has_class (codes "TBasket") head) outside).1 in let g : true ≡ false = sym e ∙ f in absurd cc

-- ---- the state behind

abbrev item_gone : Bool → State → List ℕ → ℕ → State
item_gone b m name cycle = if b then record m { trees = remove m.trees name } else record m { objects = remove m.objects (name, cycle) }

module _ (file : List ℕ) (links : List Link) (m : State) (r : KeyedRecord) (has : HasObject file links r) (is : AreRecordsOf (keyed_records links) m) where
  abbrev old : List KeyedRecord
  old = keyed_records links

  abbrev new : List KeyedRecord
  new = keyed_records (links_without links r)

  less : HasOneMoreIn new old r
  less = record_less file links r has.record_is

  -- the object is no basket, so no tree names its place
  apart : (s : KeyedRecord) → In s (tree_records (top_keys old)) → list_any (λ p. p == r.head.seek) (places_named (file_classes (info_key old)) s) ≡ false
  apart s i = not_named file links m r has.record_is.chain is (in_contained r old has.record_is.among) (no_basket r.head has.key.top) s i

  -- the name isn't a tree's, so it is the object that goes
  behind_is : item_gone false m r.head.name r.head.cycle ≡ state_without m r
  behind_is = ap (λ b. item_gone b m r.head.name r.head.cycle) (sym (no_tree_of_name old new r less m is has.key))

  takes_effect : AreRecordsOf new (state_without m r)
  takes_effect = subst (λ (n : State). AreRecordsOf new n) behind_is (records_less old new r less m is has.key apart)

  module _ (heads : List KeyHead) (are : AreKeysOf old heads) where
    key_follows : AreKeysOf new (without_head r.head.name r.head.cycle heads)
    key_follows =
        keys_less old new r.head (items_more (top_keys new) (top_keys old) r (tops_less old new r less m is has.key) has.key.object) (none_left old new r less m is has.key) heads are

    gone : get (remove m.objects (item_of_key r.head)) (item_of_key r.head) ≡ None
    gone =
        get-remove items_total m.objects (item_of_key r.head) (item_of_key r.head)
        ∙ ap (λ b. cond b None (get m.objects (item_of_key r.head))) (item_same (item_of_key r.head) r ∙ own_item r)

    others : (item : NameAndCycle) → item ≢ item_of_key r.head → get (remove m.objects (item_of_key r.head)) item ≡ get m.objects item
    others item other =
        get-remove items_total m.objects (item_of_key r.head) item
        ∙ ap (λ b. cond b None (get m.objects item)) (item_same item r ∙ not_its (has_item item r) refl)
      where
        not_its : (b : Bool) → has_item item r ≡ b → b ≡ false
        not_its false e = refl
        not_its true e =
            let own = item_is item r e in
            let name = own.0 in
            let cycle = own.1 in
            absurd (other (λ i. (sym name i, sym cycle i)))

    no_tree : names_tree (state_without m r) r.head.name ≡ false
    no_tree = ap (λ (n : State). names_tree n r.head.name) (sym behind_is) ∙ no_tree_of_name old new r less m is has.key

    leaves_others : LeavesOthers m heads r
    leaves_others = record {
      gone = ap (λ (n : State). get n.objects (item_of_key r.head)) (sym behind_is) ∙ gone;
      others = λ item other. ap (λ (n : State). get n.objects item) (sym behind_is) ∙ others item other;
      next = (keys_tell_next_cycle new (without_head r.head.name r.head.cycle heads) (state_without m r) r.head.name key_follows takes_effect no_tree).told;
    }

pub delete_takes_effect : DeleteTakesEffect (λ m. m)
delete_takes_effect file links m r has is = takes_effect file links m r has is

-- the same of the state without its pending rows
pub saved_delete_takes_effect : DeleteTakesEffect saved_of
saved_delete_takes_effect file links m r has is =
    subst (λ (n : State). AreRecordsOf (keyed_records (links_without links r)) n) (deletes_ignore_pending m r.head.name r.head.cycle).behind
    (delete_takes_effect file links (saved_of m) r has is)

pub delete_key_follows : DeleteKeyFollows
delete_key_follows file links m heads r has is are = key_follows file links m r has is heads are

pub delete_leaves_others : DeleteLeavesOthers
delete_leaves_others file links m heads r has is are = leaves_others file links m r has is heads are

-- ---- the record of an object

object_at : (file : List ℕ) (links : List Link) (m : State) → IsChain links file → AreRecordsOf (keyed_records links) m → (r : KeyedRecord) → In r (object_records (top_keys (keyed_records links))) → HasObject file links r
object_at file links m chain is r i =
    let object = filter_in (λ t. not (is_tree_key t.head)) r (top_keys (keyed_records links)) i in
    let top = filter_in (λ t. is_top_key t.head) r (keyed_records links) object.0 in
    record {
      record_is = record { chain = chain; among = contains_in r (keyed_records links) top.0 };
      key = record {
        top = top.1;
        object = not-true _ object.1;
        here = not-true _ (all_at (λ t. not (is_elsewhere t.head)) r (keyed_records links) is.here top.0);
        other = not_info r.head top.1;
      };
    }

-- ---- what a delete names

pub head_found : (h : KeyHead) (heads : List KeyHead) → AreOrdered heads → In h heads → find (is_at_cycle h.name h.cycle) heads ≡ Some h
head_found h [] are i = absurd i
head_found h (k ∷ ks) are i = by (is_at_cycle h.name h.cycle k) refl i (head_found h ks are.1)
  where
    by : (b : Bool) → is_at_cycle h.name h.cycle k ≡ b → (k ≡ h) ⊎ In h ks → (In h ks → find (is_at_cycle h.name h.cycle) ks ≡ Some h) → cond b (Some k) (find (is_at_cycle h.name h.cycle) ks) ≡ Some h
    by true e (inl same) rest = ap (λ (x : KeyHead). let o : Option KeyHead = Some x in o) same
    by true e (inr j) rest = absurd (apart_at h k ks e are.0 j)
    by false e (inl same) rest = let f = sym (ap (is_at_cycle h.name h.cycle) same ∙ own_cycle h) ∙ e in absurd cc
    by false e (inr j) rest = rest j

no_tree_passes : (t : Option Tree) (cycle : ℕ) → is_some t ≡ false → option_map_or (λ t. t.cycle == cycle) t false ≡ false
no_tree_passes None cycle e = refl
no_tree_passes (Some t) cycle e = absurd cc

-- something has the name and cycle of a delete that isn't refused
pub cycle_there : (m : State) (name : List ℕ) (cycle : ℕ) (mark : Option FullMark) → refusal_of m (Delete name cycle) mark ≡ None → has_cycle m name cycle ≡ true
unfolding refusal_of
cycle_there m name cycle mark e =
    let tests = refusals m (Delete name cycle) mark in
    let named = not-false (names_item m name) (not_refused (lacks_name m (Delete name cycle)) NoSuchName (none_at tests 2 e)) in
    by (names_item m name) (has_cycle m name cycle) named (not_refused (lacks_cycle m (Delete name cycle)) NoSuchCycle (none_at tests 3 e))
  where
    by : (b c : Bool) → b ≡ true → (b && not c) ≡ false → c ≡ true
    by true c e f = not-false c f
    by false c e f = absurd cc

-- which is an object, where it is no tree
object_there : (m : State) (name : List ℕ) (cycle : ℕ) (mark : Option FullMark) → names_tree m name ≡ false → refusal_of m (Delete name cycle) mark ≡ None → contains_key m.objects (name, cycle) ≡ true
object_there m name cycle mark no_tree e = by (contains_key m.objects (name, cycle)) (cycle_there m name cycle mark e)
  where
    by : (b : Bool) → (b || option_map_or (λ t. t.cycle == cycle) (get m.trees name) false) ≡ true → b ≡ true
    by true f = refl
    by false f = sym (no_tree_passes (get m.trees name) cycle no_tree) ∙ f

pub deletes_have_records : DeletesHaveRecords
deletes_have_records file links heads m name cycle mark chain are is no_tree e =
    let held = some_of (get m.objects (name, cycle)) (object_there m name cycle mark no_tree e) in
    let x = holder (keyed_records links) m is (name, cycle) held.0 held.1 in
    let own = item_is (name, cycle) x.r x.has in
    let among = record_key (keyed_records links) m is heads are x.r x.among in
    record {
      r = x.r;
      object = object_at file links m chain is x.r x.among;
      name_is = own.0;
      cycle_is = own.1;
      found = ap (λ (k : NameAndCycle). find (is_at_cycle k.0 k.1) heads) (λ i. (sym own.0 i, sym own.1 i)) ∙ head_found x.r.head heads are.ordered among;
    }
