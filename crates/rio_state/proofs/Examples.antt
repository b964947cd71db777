-- Records of files, and what they stand for, computed.
use Rattle.std.proofs.Common.{◌≡◌, ℕ, ◌+◌, List, [], ◌∷◌, ◌++◌, length, true, false, Some, refl, slice_get}
use Rattle.std.specs.Prelude.{codes, replicate}
use Rattle.byteorder.specs.Endian.{big_bytes}
use Rattle.rio_num.specs.{Reading.{text_at}, Layout.{each}}
use Rattle.rio_key.specs.Key.{key_fields, key_layout}
use Rattle.rio_head.specs.declared.reason.Reason.TheVariants.{OtherDirectory, BadInfo, BadName, BadKey, BadObject}
use Rattle.rio_format.specs.{Frames.{header}, Objects.{object_of, formed, headed, body, unread, whole_object, closed, parts, base_part, member_parts, member_part, kind_value, text_value, bare_layout}}
use Rattle.rio_chain.specs.{Segments.{Link, RecordAt}, declared.segment.Segment.TheVariants.{Record, Gap}}
use Rattle.rio_machine.specs.State.{empty_state}
use Rattle.rio_state.specs.{Closing.{close_need, held_of, held_with, is_full, kept_in, kept_with, lay_all}, TreeLengths.{put_among}, Contents.{object_in}, KeyedRecords.{keyed_records}}
use Rattle.rio_state.specs.{Reads.{AreRecordsOf}, Reasons.{reason_at, room_reasons, state_reasons}}
use Rattle.rio_state.proofs.EmptyState.{none_counts}

-- ---- records

short_text : List ℕ → List ℕ
short_text text = length text ∷ text

-- a key by the lengths of its record, its data and itself, its cycle, its place, its directory, its class, name and title
key_bytes : ℕ → ℕ → ℕ → ℕ → ℕ → ℕ → List ℕ → List ℕ → List ℕ → List ℕ
key_bytes nbytes objlen keylen cycle seek pdir class name title =
    big_bytes 4 nbytes ++ big_bytes 2 4 ++ big_bytes 4 objlen ++ big_bytes 4 1 ++ big_bytes 2 keylen ++ big_bytes 2 cycle
    ++ big_bytes 4 seek ++ big_bytes 4 pdir ++ short_text class ++ short_text name ++ short_text title

-- the first record, the key list and the free record of the file a.root, which has no object
first_record : Link
first_record =
    RecordAt 100 (key_bytes 108 68 40 1 100 0 (codes "TFile") (codes "a.root") []
    ++ short_text (codes "a.root") ++ (0 ∷ []) ++ big_bytes 2 5 ++ replicate 58 0)

list_record : Link
list_record = RecordAt 208 (key_bytes 44 4 40 1 208 100 (codes "TFile") (codes "a.root") [] ++ big_bytes 4 0)

free_record : Link
free_record =
    RecordAt 252 (key_bytes 52 12 40 1 252 100 (codes "TFile") (codes "a.root") []
    ++ big_bytes 2 1 ++ big_bytes 4 304 ++ big_bytes 4 2000000000 ++ replicate 2 0)

empty_links : List Link
empty_links = first_record ∷ list_record ∷ free_record ∷ []

-- the string hi as an object, with this name, title and directory, and zero bytes behind it, at 208
string_record : List ℕ → List ℕ → ℕ → ℕ → Link
string_record name title pdir zeros =
    let keylen = 39 + length name + length title in
    RecordAt 208 (key_bytes (keylen + 19 + zeros) (19 + zeros) keylen 1 208 pdir (codes "TObjString") name title
    ++ big_bytes 4 0x4000000F ++ big_bytes 2 1 ++ big_bytes 2 1 ++ big_bytes 8 0 ++ short_text (codes "hi") ++ replicate zeros 0)

-- a record without data
bare_record : ℕ → ℕ → List ℕ → List ℕ → Link
bare_record place cycle class name =
    let keylen = 29 + length class + length name in
    RecordAt place (key_bytes keylen 0 keylen cycle place 100 class name [])

-- ---- what they stand for

empty_stands : AreRecordsOf (keyed_records empty_links) empty_state
unfolding empty_links first_record list_record free_record key_bytes short_text key_layout key_fields text_at
empty_stands = none_counts (keyed_records empty_links) refl refl refl

-- no reason, and room: a close writes 44 bytes for the key list and 72 for the free record
no_reasons : state_reasons true (keyed_records empty_links) ≡ []
unfolding empty_links first_record list_record free_record key_bytes short_text key_layout key_fields text_at state_reasons
no_reasons = refl

small_need : close_need (kept_in empty_links) ≡ 116
unfolding empty_links first_record list_record free_record key_bytes short_text key_layout key_fields text_at close_need kept_with put_among
small_need = refl

has_room : room_reasons empty_links ≡ []
unfolding empty_links first_record list_record free_record key_bytes short_text key_layout key_fields text_at close_need kept_with put_among room_reasons
has_room = refl

-- END is 304; the lengths are 44 and 70, each with three bytes more
some_held : held_of empty_links ≡ 424
unfolding empty_links first_record list_record free_record key_bytes short_text key_layout key_fields text_at kept_with held_with put_among
some_held = refl

-- ---- reasons

directory_of_others : slice_get (state_reasons true (keyed_records (first_record ∷ string_record (codes "s") [] 208 1 ∷ []))) 0 ≡ Some (reason_at 208 OtherDirectory)
unfolding first_record string_record key_bytes short_text key_layout key_fields text_at state_reasons
directory_of_others = refl

blank_in_a_name : slice_get (state_reasons true (keyed_records (first_record ∷ string_record (codes "s s") [] 100 3 ∷ []))) 0 ≡ Some (reason_at 208 BadName)
unfolding first_record string_record key_bytes short_text key_layout key_fields text_at state_reasons
blank_in_a_name = refl

some_title : slice_get (state_reasons true (keyed_records (first_record ∷ string_record (codes "s") (codes "t") 100 0 ∷ []))) 0 ≡ Some (reason_at 208 BadKey)
unfolding first_record string_record key_bytes short_text key_layout key_fields text_at state_reasons
some_title = refl

-- four zero bytes behind the object
many_zeros : state_reasons true (keyed_records (first_record ∷ string_record (codes "abcd") [] 100 4 ∷ [])) ≡ reason_at 208 BadObject ∷ []
unfolding first_record string_record key_bytes short_text key_layout key_fields text_at state_reasons object_in object_of formed headed body unread header whole_object closed each parts base_part member_parts member_part kind_value text_value bare_layout
many_zeros = refl

-- of two class lists with the greatest cycle the later one counts, whatever its class
last_list : state_reasons false (keyed_records (first_record ∷ bare_record 208 1 (codes "TList") (codes "StreamerInfo") ∷ bare_record 256 2 (codes "TList") (codes "StreamerInfo") ∷ bare_record 304 2 (codes "TMap") (codes "StreamerInfo") ∷ bare_record 348 1 (codes "TList") (codes "StreamerInfo") ∷ [])) ≡ reason_at 304 BadInfo ∷ []
unfolding first_record bare_record key_bytes short_text key_layout key_fields text_at state_reasons
last_list = refl

-- ---- placing

-- a record of 8 bytes goes into the first gap of 8, then into the longer one, then to END
some_places : lay_all (8 ∷ 8 ∷ 8 ∷ []) (Record 100 20 ∷ Gap 120 12 ∷ Record 132 20 ∷ Gap 152 8 ∷ Record 160 20 ∷ []) ≡ 188
unfolding lay_all
some_places = refl

just_room : is_full (Record 100 20 ∷ []) (8 ∷ []) 1999999868 ≡ false
unfolding is_full lay_all
just_room = refl

no_room : is_full (Record 100 20 ∷ []) (8 ∷ []) 1999999869 ≡ true
unfolding is_full lay_all
no_room = refl
