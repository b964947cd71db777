-- Objects that are stored, and their records.
use Rattle.std.proofs.{Common.{◌≡◌, ℕ, ◌+◌, ◌-◌, ◌%◌, ◌^◌, ◌<◌, ◌≤◌, List, [], length, Option, Some, Result, Ok, Err, IfOk, true, false, not, sym, ap, subst, ◌∙◌, arith}, lemmas.Bool.{ltb-false, not-false}}
use Rattle.std.proofs.lemmas.List.{length-append, length-replicate}
use Rattle.std.specs.{Prelude.{unwrap_or}, Option.{option_map_or}}
use Rattle.rio_num.specs.{Room.{padding}, Word.{is_item_text}}
use Rattle.rio_num.proofs.TextLengths.{short_text_bytes}
use Rattle.rio_format.specs.{declared.class.ClassDef.{ClassDef}, Slots.{can_be_put}, Written.{written_form}, WrittenBytes.{length_limit}}
use Rattle.rio_key.specs.Written.{written_key}
use Rattle.rio_chain.specs.Segments.{IsRecord}
use Rattle.rio_model.specs.StateClasses.{StateClasses}
use Rattle.rio_machine.specs.Limits.{cycle_limit, data_length, head_length}
use Rattle.rio_chain.specs.{Record.{FitsWords, key_size, new_key, record_bytes, unpadded}, declared.record.NewRecord.{NewRecord}}
use Rattle.rio_chain.specs.declared.key_words.KeyWords.{KeyWords}
use Rattle.rio_chain.proofs.Records.{key_long}
use Rattle.rio_state.specs.Closing.{padded_length}
use Rattle.rio_step.specs.{Refusing.{object_class}, Storable.{IsStoredObject}}
use Rattle.rio_effect.specs.ObjectRecord.{object_data}
use Rattle.rio_effect.proofs.PutClasses.{IsObjectClass, object_class_is, short_item}
use Rattle.rio_judge.specs.declared.work.StoredObject.{StoredObject}
use Rattle.rio_session.specs.{Puts.{IsStored, IsStoredRecord, stored_data, stored_words}, Session.{SessionState}}

-- an object that passes the limits of a put
module _ (classes : List ClassDef) (o : StoredObject) (class : object_class o.value ≡ Some o.class) (object : IsStoredObject classes o.name o.value) (written : (start : ℕ) → o.length ≡ length (written_form classes start o.value))
    (last : o.cycle ≤ cycle_limit) (sound : StateClasses classes) (named : is_item_text o.name ≡ true) where
  own_class : IsObjectClass o.class
  own_class = object_class_is classes o.class sound
      (not-false (can_be_put classes o.class) (ap (λ (x : Option (List ℕ)). option_map_or (λ c. not (can_be_put classes c)) x false) (sym class) ∙ object.taken))

  short_data : data_length classes (unwrap_or (object_class o.value) []) o.name o.value ≤ length_limit
  short_data = ltb-false length_limit (data_length classes (unwrap_or (object_class o.value) []) o.name o.value) object.short

  pub is_stored : IsStored classes o
  is_stored = record {
    class = class;
    class_short = own_class.short;
    name_short = short_item o.name named;
    key_short = omega (arith, short_text_bytes o.class own_class.short, short_text_bytes o.name (short_item o.name named));
    size_is = written;
    size_short = omega (arith, short_data, written 0);
    last = last;
  }

-- ---- records

-- a record is as long as its key and its data make it
pub record_size : (words : KeyWords) (contents : List ℕ) → length (record_bytes words contents) ≡ padded_length (key_size words + length contents)
unfolding record_bytes
record_size words contents =
    let front : List ℕ = unpadded words contents in
    let long : length (unpadded words contents) ≡ key_size words + length contents = length-append (written_key (new_key words (length contents))) contents ∙ ap (λ (n : ℕ). n + length contents) (key_long words (length contents)) in
    length-append front (padding front)
    ∙ ap (λ (n : ℕ). length front + n) (length-replicate ((4 - length front % 4) % 4) 0)
    ∙ ap padded_length long

module _ (classes : List ClassDef) (place datime : ℕ) (o : StoredObject) (is : IsStored classes o) where
  pub data_size : length (stored_data classes place datime o) ≡ o.length
  data_size = sym (is.size_is (key_size (stored_words place datime o)))

  pub record_long : length (record_bytes (stored_words place datime o) (stored_data classes place datime o)) ≡ padded_length (head_length o.class o.name + o.length)
  record_long =
      let words : KeyWords = stored_words place datime o in
      record_size words (stored_data classes place datime o) ∙ ap (λ (n : ℕ). padded_length (key_size words + n)) data_size

  pub words_fit : place < 2 ^ 32 → datime < 2 ^ 32 → FitsWords (stored_words place datime o) (length (stored_data classes place datime o))
  words_fit low soon = record {
    place = low;
    directory = omega arith;
    datime = soon;
    cycle = omega (arith, is.last);
    key = omega (arith, is.key_short);
    whole = omega (arith, is.key_short, is.size_short, data_size);
  }

-- what is made is the record
pub made_is : {E : Type 0} (r : Result NewRecord E) (s : SessionState) (keyed : KeyWords) (classes : List ClassDef) (place : ℕ) (o : StoredObject)
    → IsStored s.classes o → place < 2 ^ 32 → s.datime < 2 ^ 32 → keyed ≡ stored_words place s.datime o → classes ≡ s.classes
    → IfOk r (λ made. made.head ≡ new_key keyed (length (object_data classes keyed o.value))) → IfOk r (λ made. made.bytes.bytes ≡ record_bytes keyed (object_data classes keyed o.value))
    → IfOk r (λ made. 4 ≤ made.bytes.spare) → IfOk r (λ made. IsRecord keyed.place made.bytes.bytes) → IfOk r (IsStoredRecord s place o)
made_is (Err e) s keyed classes place o is low soon w c head bytes spare whole = tt
made_is (Ok made) s keyed classes place o is low soon w c head bytes spare whole =
    let all : made.bytes.bytes ≡ record_bytes (stored_words place s.datime o) (stored_data s.classes place s.datime o) = bytes ∙ (λ i. record_bytes (w i) (object_data (c i) (w i) o.value)) in
    record {
      head = head ∙ (λ i. new_key (w i) (length (object_data (c i) (w i) o.value)));
      bytes = all;
      spare = spare;
      whole = subst (λ (x : KeyWords). IsRecord x.place made.bytes.bytes) w whole;
      long = ap length all ∙ record_long s.classes place s.datime o is;
    }
