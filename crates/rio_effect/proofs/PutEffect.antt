-- With the record of an object that a put adds the records stand for the state behind the put.
use Rattle.std.proofs.Common.{◌≡◌, ℕ, ◌+◌, ◌-◌, ◌%◌, ◌^◌, ◌<◌, ◌∙◌, List, length, true, false, not, ◌||◌, ◌==◌, Option, Some, None, refl, sym, ap, subst, arith}
use Rattle.std.proofs.lemmas.Bool.{and_from, and_left, and_right}
use Rattle.std.specs.FinMap.{insert}
use Rattle.rio_num.specs.Word.{is_item_text}
use Rattle.rio_format.specs.{declared.class.ClassDef.{ClassDef}, declared.value.Value.{Value}}
use Rattle.rio_key.specs.declared.head.KeyHead.{KeyHead}
use Rattle.rio_chain.specs.{Changes.{with_record}, Segments.{Link}}
use Rattle.rio_model.specs.StateClasses.{StateClasses}
use Rattle.rio_machine.specs.State.{State, next_cycle}
use Rattle.rio_state.specs.Contents.{HasStateClasses, object_in, state_classes}
use Rattle.rio_state.specs.KeyedRecords.{KeyedRecord, begins_at, first_place, has_info_name, info_key, is_elsewhere, is_in_directory, is_internal, is_top_key, keyed_records, top_keys}
use Rattle.rio_state.specs.{Reads.{AreRecordsOf, StandsForState}, Closing.{padded_length}, OneMore.{HasOneMoreIn}}
use Rattle.rio_chain.specs.Record.{key_size}
use Rattle.rio_step.specs.{Costs.{value_size}, Refusing.{put_value}, Runs.{saved_of}}
use Rattle.rio_effect.proofs.{FreeItems.{no_item, no_tree_named}, PutClasses.{IsObjectClass}}
use Rattle.rio_tree.proofs.WrittenLengths.{written_length}
use Rattle.rio_effect.proofs.{PutObject.{IsAccepted, accepted, object_read, own_class, new_record, put_record, words_fit}, SavedPuts.{puts_ignore_pending}}
use Rattle.rio_step.proofs.StepLaws.{next_is_free}
use Rattle.rio_effect.specs.Laws.{IsObjectKey, PutTakesEffect, PutsHaveRecords, SavedPutTakesEffect}
use Rattle.rio_effect.specs.ObjectRecord.{data_of_put, object_key, object_record, record_of_put, words_of_put}
use Rattle.rio_state.proofs.{Insertion.{all_more, filter_more}, MoreRecords.{record_more}, ObjectStands.{IsNewObject, object_stands}, Stays.{info_same}}

-- ---- the key of an object

pub is_object_key : (head : KeyHead) → (head.pdir == first_place) ≡ true → IsObjectClass head.class → has_info_name head ≡ false → IsObjectKey head
is_object_key head at class name =
    let file = class.file in
    let basket = class.basket in
    let internal : is_internal head ≡ false = λ i. file i || basket i in
    let inside : is_in_directory head ≡ true = and_from _ _ at (ap not internal) in
    record {
      top = and_from _ _ inside (ap not name);
      object = class.tree;
      here = and_left _ _ (ap not at);
      other = and_right (is_in_directory head) (has_info_name head) name;
    }

-- ---- the classes of a state

listed_classes : (info : Option KeyedRecord) → HasStateClasses info → StateClasses (state_classes info)
listed_classes None has = tt
listed_classes (Some info) has = has.declared

pub classes_of_records : (records : List KeyedRecord) (m : State) → AreRecordsOf records m → StateClasses m.classes
classes_of_records records m is = subst StateClasses (sym is.stand.classes) (listed_classes (info_key records) is.stand.listed)

-- ---- the put

module _ (links : List Link) (m : State) (place datime : ℕ) (name : List ℕ) (v : Value) (low : place < 2 ^ 32) (soon : datime < 2 ^ 32)
    (is : AreRecordsOf (keyed_records links) m) (named : is_item_text name ≡ true) (ok : IsAccepted m name (put_value m v)) where
  abbrev old : List KeyedRecord
  old = keyed_records links

  abbrev new : List KeyedRecord
  new = keyed_records (with_record place (record_of_put m place datime name v) links)

  abbrev are : StateClasses m.classes
  are = classes_of_records old m is

  abbrev r : KeyedRecord
  r = put_record m place datime name v ok are named low soon

  pub put_more : HasOneMoreIn old new r
  unfolding object_record
  put_more = record_more links place r.bytes r.head ((new_record m place datime name v ok are named low soon).key_read place)

  pub put_key : IsObjectKey r.head
  put_key = is_object_key r.head refl (own_class m place datime name v ok are named) ok.free

  pub put_is_new : IsNewObject (state_classes (info_key old)) (top_keys old) r (put_value m v)
  put_is_new =
      let no_tree = no_tree_named old (info_key old) (top_keys old) m is.stand name ok.no_tree in
      record {
        named = and_from _ _ named refl;
        object = put_key.object;
        read = ap (λ (cs : List ClassDef). object_in cs r) (sym is.stand.classes) ∙ object_read m place datime name v ok are named low soon;
        new = no_item old (info_key old) (top_keys old) m is.stand (name, next_cycle m name) (next_is_free m name) no_tree;
        no_tree = no_tree;
      }

  pub tops_more : HasOneMoreIn (top_keys old) (top_keys new) r
  tops_more = filter_more (λ s. is_top_key s.head) r old new put_more put_key.top

  pub put_stands : begins_at old place ≡ false → AreRecordsOf new (record m { objects = insert m.objects (name, next_cycle m name) (put_value m v) })
  put_stands free =
      let info = info_same old new r put_more put_key.other in
      let after : State = record m { objects = insert m.objects (name, next_cycle m name) (put_value m v) } in
      let stand : StandsForState new (info_key old) (top_keys new) after = object_stands old new r (info_key old) (top_keys old) (top_keys new) m (put_value m v) put_more free tops_more put_is_new is.stand in
      record {
        here = all_more (λ s. not (is_elsewhere s.head)) r old new put_more (ap not put_key.here) is.here;
        stand = subst (λ (o : Option KeyedRecord). StandsForState new o (top_keys new) after) (sym info) stand;
      }

-- how long a record is, with data as long as other data
pub padded_as : (k n size : ℕ) → n ≡ size → k + (n + (4 - (k + n) % 4) % 4) ≡ padded_length (k + size)
padded_as k n size e = ap (λ (j : ℕ). k + (j + (4 - (k + j) % 4) % 4)) e ∙ omega arith

-- the record of the put, on its own
pub puts_have_records : PutsHaveRecords
unfolding object_key object_record
puts_have_records m place datime name v mark low soon are named e =
    let ok = accepted m name v mark e in
    let r = put_record m place datime name v ok are named low soon in
    let new = new_record m place datime name v ok are named low soon in
    let words = words_of_put m place datime name v in
    let contents = data_of_put m place datime name v in
    record {
      fit = words_fit m place datime name v ok are named low soon;
      whole = new.whole;
      read = new.key_read place;
      key = is_object_key r.head refl (own_class m place datime name v ok are named) ok.free;
      long = new.size ∙ padded_as (key_size words) (length contents) (value_size m.classes (put_value m v)) (written_length m.classes (key_size words) 0 (put_value m v));
    }

pub put_takes_effect : PutTakesEffect
put_takes_effect links m place datime name v mark low soon free is named e = put_stands links m place datime name v low soon is named (accepted m name v mark e) free

-- the same of the state without its pending rows
pub saved_put_takes_effect : SavedPutTakesEffect
unfolding saved_of
saved_put_takes_effect links m place datime name v mark low soon free is named e =
    put_takes_effect links (saved_of m) place datime name v mark low soon free is named ((puts_ignore_pending m name v).refused mark ∙ e)
