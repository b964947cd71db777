-- What it is to declare a class, and to write the list of all classes in place of the one before.
use Rattle.std.specs.Prelude.{◌≡◌, ◌≤◌, ◌<◌, ℕ, ◌+◌, ◌^◌, List, [], ◌∷◌, ◌++◌, length, Some, None}
use Rattle.rio_format.specs.{declared.class.ClassDef.{ClassDef}, WrittenBytes.{length_limit, written_list}}
use Rattle.rio_model.specs.{Declaring.{declare_fault, declared}, StateClasses.{StateClasses}}
use Rattle.rio_chain.specs.{Changes.{with_record}, Placing.{file_end, place_of, with_segment}, Segments.{IsRecord}, declared.record.NewRecord.{NewRecord}}
use Rattle.rio_judge.specs.declared.work.NewClass.{NewClass}
use Rattle.rio_state.specs.Closing.{end_limit, padded_length}
use Rattle.rio_step.specs.Costs.{info_size}
use Rattle.rio_effect.specs.ClassRecord.{list_key, list_key_size, list_record, next_list_cycle}
use Rattle.rio_session.specs.{Changing.{Changing}, Due.{need_with}, Kept.{released_link, released_segment}, SessionState.{SessionState, baskets_of}}

-- ---- a class that is declared

-- It can be declared after the others just as it is, and the list of all of them can be written.
pub record IsDeclarable (classes : List ClassDef) (d : NewClass) : Type 0 where
  pub stays : declared classes d.class ≡ d.class
  pub fault : declare_fault classes d.class ≡ None
  pub after : StateClasses (classes ++ d.class ∷ [])
  pub size_is : (start : ℕ) → d.length ≡ length (written_list start (classes ++ d.class ∷ []))
  pub size_short : d.length ≤ length_limit

-- what the session keeps with it declared
abbrev pub with_new : SessionState → NewClass → SessionState
with_new s d = record s { classes = s.classes ++ d.class ∷ [] }

-- ---- the list of all classes

-- A list of the session's classes can be written at this place, which is that of the rule, and leaves room for a close.
pub record CanBeListedAt (s : SessionState) (place : ℕ) : Type 0 where
  pub place_is : place ≡ place_of s.segments (padded_length (list_key_size + info_size s.classes))
  pub low : place < 2 ^ 32
  pub short : (start : ℕ) → length (written_list start s.classes) ≤ length_limit
  pub cycle : next_list_cycle s.info ≤ length s.classes + 1
  pub room : file_end (with_segment place (padded_length (list_key_size + info_size s.classes)) s.segments)
      + need_with s.name s.heads (2 + length s.heads + length (baskets_of s)) s.trees ≤ end_limit

-- the record of the list of all classes, for this place
pub record IsListRecord (s : SessionState) (place : ℕ) (made : NewRecord) : Type 0 where
  pub head : made.head ≡ list_key place s.datime (next_list_cycle s.info) s.classes
  pub bytes : made.bytes.bytes ≡ list_record place s.datime (next_list_cycle s.info) s.classes
  pub spare : 4 ≤ made.bytes.spare
  pub whole : IsRecord place made.bytes.bytes
  pub long : length made.bytes.bytes ≡ padded_length (list_key_size + info_size s.classes)

-- It is a whole record for the place of the rule, it leaves room for a close, and its cycle is low enough for one more.
pub record CanReplace (s : SessionState) (made : NewRecord) : Type 0 where
  pub whole : IsRecord made.head.seek made.bytes.bytes
  pub place : made.head.seek ≡ place_of s.segments (length made.bytes.bytes)
  pub spare : 4 ≤ made.bytes.spare
  pub cycle : made.head.cycle ≤ length s.classes + 1
  pub room : file_end (with_segment made.head.seek (length made.bytes.bytes) s.segments)
      + need_with s.name s.heads (2 + length s.heads + length (baskets_of s)) s.trees ≤ end_limit

-- the put of the record, the release of the one before, and what is printed then
abbrev pub listing : SessionState → NewRecord → List ℕ → ℕ → Changing
listing s made text cost = record {
  changes = with_record made.head.seek made.bytes.bytes ∷ released_link s.info;
  kept = record s {
    segments = released_segment s.info (with_segment made.head.seek (length made.bytes.bytes) s.segments);
    info = Some made.head;
  };
  text = text;
  cost = cost;
}

-- the same for the record that is made for a place
abbrev pub listing_at : SessionState → ℕ → List ℕ → ℕ → Changing
listing_at s place text cost = let bytes = list_record place s.datime (next_list_cycle s.info) s.classes in record {
  changes = with_record place bytes ∷ released_link s.info;
  kept = record s {
    segments = released_segment s.info (with_segment place (length bytes) s.segments);
    info = Some (list_key place s.datime (next_list_cycle s.info) s.classes);
  };
  text = text;
  cost = cost;
}
