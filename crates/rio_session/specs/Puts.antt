-- Records that can be put: when there is room, and what of an object is stored.
use Rattle.std.specs.{Prelude.{◌≡◌, ◌<◌, ◌≤◌, ℕ, ◌+◌, true, List, [], ◌∷◌, length, map, Some, None}, List.{concat, find}}
use Rattle.rio_dir.specs.Table.{head_of, is_at_cycle, with_head, with_heads}
use Rattle.rio_key.specs.declared.head.KeyHead.{KeyHead}
use Rattle.rio_chain.specs.{Batches.{AreRecords, cut_by}, Changes.{with_record, with_records}, Segments.{IsRecord}}
use Rattle.rio_chain.specs.Placing.{file_end, place_of, record_count, with_segment, with_segments}
use Rattle.rio_chain.specs.{declared.fault.PlanFault.{PlanFault, TheVariants.{Full, NoMemory as NoRoomFor}}, declared.segment.Segment.{Segment}}
use Rattle.rio_format.specs.{declared.class.ClassDef.{ClassDef}, Written.{written_form}}
use Rattle.rio_machine.specs.Limits.{batch_limit, head_length}
use Rattle.rio_judge.specs.declared.work.StoredObject.{StoredObject}
use Rattle.rio_chain.specs.{Record.{new_key, record_bytes}, declared.record.NewRecord.{NewRecord}, declared.key_words.KeyWords.{KeyWords}}
use Rattle.rio_state.specs.Closing.{end_limit, is_full, padded_length}
use Rattle.rio_step.specs.Refusing.{object_class}
use Rattle.rio_effect.specs.ObjectRecord.{object_data, object_words}
use Rattle.rio_recover.specs.Closable.{is_fit_key, is_sized}
use Rattle.rio_session.specs.declared.batch.NewBatch.{NewBatch}
use Rattle.rio_session.specs.{Changing.{Changing}, Due.{need_with}, SessionState.{SessionState}}

-- there is no room for a record of n bytes with what a close needs behind it: where the file ends, and the length
abbrev pub IsFullFor : List Segment → ℕ → ℕ → PlanFault → Type 0
IsFullFor segments n need (Full end wanted) = (is_full segments (n ∷ []) need ≡ true) × (end ≡ file_end segments) × (wanted ≡ n)
IsFullFor segments n need NoRoomFor = ⊥

-- ---- a record that can be put

-- the put of an object's record that was made, and what is printed then
abbrev pub putting : SessionState → NewRecord → List ℕ → ℕ → Changing
putting s made text cost = record {
  changes = with_record made.head.seek made.bytes.bytes ∷ [];
  kept = record s { segments = with_segment made.head.seek (length made.bytes.bytes) s.segments; heads = with_head made.head s.heads };
  text = text;
  cost = cost;
}

-- It is a whole record for the place of the rule, its key is new and can be kept, and it leaves room for a close.
pub record CanBePut (s : SessionState) (made : NewRecord) : Type 0 where
  pub whole : IsRecord made.head.seek made.bytes.bytes
  pub place : made.head.seek ≡ place_of s.segments (length made.bytes.bytes)
  pub spare : 4 ≤ made.bytes.spare
  pub new : find (is_at_cycle made.head.name made.head.cycle) s.heads ≡ None
  pub sized : is_sized made.head ≡ true
  pub fit : is_fit_key made.head ≡ true
  pub room : file_end (with_segment made.head.seek (length made.bytes.bytes) s.segments)
      + need_with s.name (with_head made.head s.heads) (record_count s.segments + 1) s.trees ≤ end_limit

-- ---- the records of a batch

-- the put of the records of a batch that were made, and what is printed then
abbrev pub putting_all : SessionState → NewBatch → List ℕ → ℕ → Changing
putting_all s made text cost = record {
  changes = with_records made.place (cut_by made.lengths made.records.bytes) ∷ [];
  kept = record s { segments = with_segments made.place made.lengths s.segments; heads = with_heads made.heads.items s.heads };
  text = text;
  cost = cost;
}

-- where records of these lengths begin, one after the other from a place on
abbrev pub places_from : ℕ → List ℕ → List ℕ
places_from place [] = []
places_from place (n ∷ lengths) = place ∷ places_from (place + n) lengths

-- their keys are new, each after those before it, and can be kept
abbrev pub AreNewKeys : List KeyHead → List KeyHead → Type 0
AreNewKeys heads [] = Unit {0}
AreNewKeys heads (h ∷ hs) =
    (find (is_at_cycle h.name h.cycle) heads ≡ None) × (is_sized h ≡ true) × (is_fit_key h ≡ true) × AreNewKeys (with_head h heads) hs

-- They are whole records for places from that of the rule for all of them on, their keys are new and can be kept, and they leave room for a close.
pub record CanPutAll (s : SessionState) (made : NewBatch) : Type 0 where
  pub whole : AreRecords made.place made.lengths made.records.bytes
  pub place : made.place ≡ place_of s.segments (length made.records.bytes)
  pub spare : 4 ≤ made.records.spare
  pub places : map (λ h. h.seek) made.heads.items ≡ places_from made.place made.lengths
  pub new : AreNewKeys s.heads made.heads.items
  pub room : file_end (with_segments made.place made.lengths s.segments)
      + need_with s.name (with_heads made.heads.items s.heads) (record_count s.segments + length made.lengths) s.trees ≤ end_limit

-- ---- an object that is stored

-- It passes no limit, and so many bytes are written of it, at whatever place.
pub record IsStored (classes : List ClassDef) (o : StoredObject) : Type 0 where
  pub class : object_class o.value ≡ Some o.class
  pub class_short : length o.class ≤ 100
  pub name_short : length o.name ≤ 100
  pub key_short : head_length o.class o.name ≤ 229
  pub size_is : (start : ℕ) → o.length ≡ length (written_form classes start o.value)
  pub size_short : o.length ≤ 16777216
  pub last : o.cycle ≤ 32767

-- and objects, each after those before it: no key has the name and cycle of one yet
abbrev pub AreStored : List ClassDef → List KeyHead → List StoredObject → Type 0
AreStored classes heads [] = Unit {0}
AreStored classes heads (o ∷ os) =
    IsStored classes o × (head_of o.name (Some o.cycle) heads ≡ None) × ((h : KeyHead) → h.name ≡ o.name → h.cycle ≡ o.cycle → AreStored classes (with_head h heads) os)

-- keys with the class and name of these objects, in turn, each as long as they make it
abbrev pub AreKeysFor : List StoredObject → List KeyHead → Type 0
AreKeysFor [] [] = Unit {0}
AreKeysFor (o ∷ os) (h ∷ hs) = (is_sized h ≡ true) × (h.class ≡ o.class) × (h.name ≡ o.name) × AreKeysFor os hs
AreKeysFor os hs = ⊥

-- at least one, and no more than a batch may have
pub record CanStoreAll (s : SessionState) (os : List StoredObject) : Type 0 where
  pub some : 0 < length os
  pub few : length os ≤ batch_limit
  pub each : AreStored s.classes s.heads os

-- what its key says, for this place and time
abbrev pub stored_words : ℕ → ℕ → StoredObject → KeyWords
stored_words place datime o = object_words place datime o.name o.cycle o.class

-- its data, behind that key
abbrev pub stored_data : List ClassDef → ℕ → ℕ → StoredObject → List ℕ
stored_data classes place datime o = object_data classes (stored_words place datime o) o.value

-- the record of the object, for this place
pub record IsStoredRecord (s : SessionState) (place : ℕ) (o : StoredObject) (made : NewRecord) : Type 0 where
  pub head : made.head ≡ new_key (stored_words place s.datime o) (length (stored_data s.classes place s.datime o))
  pub bytes : made.bytes.bytes ≡ record_bytes (stored_words place s.datime o) (stored_data s.classes place s.datime o)
  pub spare : 4 ≤ made.bytes.spare
  pub whole : IsRecord place made.bytes.bytes
  pub long : length made.bytes.bytes ≡ padded_length (head_length o.class o.name + o.length)

-- ---- objects that are stored by one word

-- how long the record of an object is, with its zero bytes
abbrev pub stored_length : StoredObject → ℕ
stored_length o = padded_length (head_length o.class o.name + o.length)

-- the key of its record for this place, and the record
abbrev pub stored_key : SessionState → ℕ → StoredObject → KeyHead
stored_key s place o = new_key (stored_words place s.datime o) (length (stored_data s.classes place s.datime o))

abbrev pub stored_record : SessionState → ℕ → StoredObject → List ℕ
stored_record s place o = record_bytes (stored_words place s.datime o) (stored_data s.classes place s.datime o)

-- those of several, one after the other from this place on
abbrev pub stored_keys : SessionState → ℕ → List StoredObject → List KeyHead
stored_keys s place [] = []
stored_keys s place (o ∷ os) = stored_key s place o ∷ stored_keys s (place + stored_length o) os

abbrev pub stored_records : SessionState → ℕ → List StoredObject → List (List ℕ)
stored_records s place [] = []
stored_records s place (o ∷ os) = stored_record s place o ∷ stored_records s (place + stored_length o) os

-- the batch of the objects, for this place
pub record IsStoredBatch (s : SessionState) (place : ℕ) (os : List StoredObject) (made : NewBatch) : Type 0 where
  pub place_is : made.place ≡ place
  pub lengths : made.lengths ≡ map stored_length os
  pub heads : made.heads.items ≡ stored_keys s place os
  pub bytes : made.records.bytes ≡ concat (stored_records s place os)
  pub spare : 4 ≤ made.records.spare
  pub whole : AreRecords place (map stored_length os) (concat (stored_records s place os))
