-- The file that a close leaves: it reads as before, by the walk and by its key list.
use Rattle.std.proofs.Common.{◌≡◌, ◌↔◌, ◌⊎◌, inl, inr, ℕ, ◌+◌, ◌^◌, ◌<◌, ◌≤◌, Bool, false, cond, ltb, not, List, [], ◌∷◌, ◌++◌, length, codes, length-append, map, take, drop, Option, Some, None, Result, Ok, Err, refl, sym, ap, subst, ◌∙◌, arith}
use Rattle.std.proofs.{lemmas.Bool.{le-ltb}, lemmas.List.Elements.{All-cons, All-nil}, lemmas.Option.{slice_get_within}}
use Rattle.std.proofs.lemmas.List.Sums.{sum_by-cons}
use Rattle.std.specs.{List.{All, Contains, flat_map, slice_get}, Int.{w32, cast_unsigned}}
use Rattle.byteorder.specs.{Endian.{big_bytes, big_number}, Numbers.{length-bytes_high_first}}
use Rattle.rio_num.proofs.ReadLaws.{bind_is}
use Rattle.rio_num.specs.Reading.{◌>>=◌}
use Rattle.rio_key.specs.{Written.{written_key}, declared.head.KeyHead.{KeyHead}}
use Rattle.rio_key.proofs.KeyParts.{parts_of_key}
use Rattle.rio_head.specs.{Head.{fault_at, head_at}, declared.head.FileHead.{FileHead}, declared.dir.DirRecord.{DirRecord}}
use Rattle.rio_head.specs.{declared.fault.HeadFault.{HeadFault}, declared.fault.FileFault.TheVariants.{BadDir, NotClosed}}
use Rattle.rio_dir.specs.{Closed.{closed_dir, closed_file, closed_head, closed_keys, dir_place, or_fault}, Table.{AreWritable, heads_size, key_list_bytes}}
use Rattle.rio_dir.specs.{Listing.{key_lines, listed_file}, declared.closed.Closed.{Closed}}
use Rattle.rio_dir.proofs.TableWritten.{length-flat}
use Rattle.rio_free.specs.Record.{free_bytes}
use Rattle.rio_host.specs.Image.{Has, Put}
use Rattle.rio_host.proofs.Images.{has_back, has_front, has_keeps}
use Rattle.rio_chain.specs.{Adjoining.{AreSegments}, Changes.{with_record}, Placing.{file_end, gaps_in, with_segment}}
use Rattle.rio_chain.specs.Segments.{IsChain, IsRecord, Link, RecordAt, chain_end, end_from, segment_of}
use Rattle.rio_chain.specs.declared.segment.Segment.{Segment, TheVariants.{Record}}
use Rattle.rio_chain.proofs.{Words.{record_long, record_word}, Chains.{end-le}, Laying.{laid_put}, Placed.{end_grows as grows_at_end}}
use Rattle.rio_chain.proofs.PutChain.{map_end, map_with}
use Rattle.rio_machine.specs.State.{State}
use Rattle.rio_chain.specs.Record.{new_key}
use Rattle.rio_state.specs.{Closing.{item_heads}, DirectoryKeys.{AreKeysOf}}
use Rattle.rio_state.specs.KeyedRecords.{KeyedRecord, info_key, keyed_records, top_keys, is_top_key, is_tree_key, is_tree_record}
use Rattle.rio_state.specs.{Left.{info_head}, Reads.{AreRecordsOf, IsFreeRecordAt, ReadsAsState, ReadsClosed, info_place}, OneMore.{keyed_bytes}}
use Rattle.rio_state.proofs.{KeyRecords.{ObjectOf, TreeOf, key_record}, Members.{In, contains_in, filter_in}, Places.{info_among}}
use Rattle.rio_close.specs.{Fields.{FieldsThenEnd, IsOutsideFields, WritesFields}, Leaving.{IsClosedWith, IsKeptByte, IsKeptInFirst}}
use Rattle.rio_close.specs.Written.{AreCloseRecords, OpenFile, dir_field_bytes, free_field_bytes, free_place, info_field_bytes, list_place, own_words, with_both, with_list}
use Rattle.rio_close.specs.declared.parts.CloseRecords.{CloseRecords}
use Rattle.rio_close.proofs.FieldsChain.{FirstLink, OtherFields, first_link, other_fields}
use Rattle.rio_close.proofs.{FirstBytes.{first_class, first_keyed, info_changes, records_change, tops_change}, LeftImages.{reads_made}}
use Rattle.rio_close.proofs.{ListRead.{Writable, all_writable, list_read, writable}, ListedRecords.{Listing, in_records, listed_stand, listed_tops, listing}}
use Rattle.rio_close.proofs.Numbers.{HasNumber, any_number, number_of_bytes, word_of_number}
use Rattle.rio_close.proofs.OwnRecords.{own_data, own_info, own_keys, own_link, own_nbytes, own_padding, own_spelled, own_stays, own_whole, own_zeros}
use Rattle.rio_close.proofs.{RecordPlaces.{in_keyed, in_put, in_with, stands_there, whole_records}, SmallDir.{SmallDir, dir_read}}
use Rattle.rio_close.proofs.SmallHead.{IsFixed, SmallHead, head_changes, small_read}

-- ---- lists

all_in : {A : Type 0} (P : A → Type 0) (xs : List A) → ((x : A) → In x xs → P x) → All P xs
all_in P [] each = All-nil P
all_in P (x ∷ xs) each = All-cons P x xs (each x (inl refl)) (all_in P xs (λ y i. each y (inr i)))

pub few_heads : (heads : List KeyHead) → length heads ≤ heads_size heads
few_heads [] = omega arith
few_heads (h ∷ hs) = omega (arith, few_heads hs, sum_by-cons (λ (k : KeyHead). length (written_key k)) h hs)

-- ---- keys that are listed

keys_written : (file : List ℕ) (links : List Link) (m : State) (heads : List KeyHead) → IsChain links file → AreRecordsOf (keyed_records links) m → AreKeysOf (keyed_records links) heads → AreWritable heads
keys_written file links m heads chain records keys = all_writable heads (λ h i. by h (key_record (keyed_records links) m records heads keys h i))
  where
    tops : List KeyedRecord
    tops = top_keys (keyed_records links)

    whole : (r : KeyedRecord) → In r (top_keys (keyed_records links)) → Writable r.head
    whole r i =
        let w = whole_records file 100 links chain.links_are r (filter_in (λ s. is_top_key s.head) r (keyed_records links) i).0 in
        subst Writable w.key (writable w.place r.bytes w.whole)

    by : (h : KeyHead) → ObjectOf (keyed_records links) m records h ⊎ TreeOf (keyed_records links) m records h → Writable h
    by h (inl o) = subst Writable o.head_is (whole o.r (filter_in (λ s. not (is_tree_key s.head)) o.r (top_keys (keyed_records links)) o.among).0)
    by h (inr t) = subst Writable t.head_is (whole t.r (filter_in (is_tree_record (top_keys (keyed_records links))) t.r (top_keys (keyed_records links)) t.among).0)

-- ---- the class list's place

abbrev seek_of : Option KeyHead → ℕ
seek_of None = 0
seek_of (Some head) = head.seek

seek_is : (o : Option KeyedRecord) → info_place o ≡ seek_of (info_head o)
seek_is None = refl
seek_is (Some r) = refl

-- the place of a record fits four bytes
small_seek : (file : List ℕ) (links : List Link) → IsChain links file → (o : Option KeyedRecord) → ((r : KeyedRecord) → o ≡ Some r → In r (keyed_records links)) → seek_of (info_head o) < 2 ^ 32
small_seek file links chain None among = omega arith
small_seek file links chain (Some r) among =
    let w = whole_records file 100 links chain.links_are r (among r refl) in
    let small : ltb 1000 w.whole.head.version ≡ false = le-ltb _ _ w.whole.small in
    let lt : w.whole.head.seek < 256 ^ cond (ltb 1000 w.whole.head.version) 8 4 = (parts_of_key w.whole.head w.whole.key.0 w.whole.key.3).fields.numbers.seek in
    let four : w.whole.head.seek < 2 ^ 32 = subst (λ (b : Bool). w.whole.head.seek < 256 ^ cond b 8 4) small lt in
    subst (λ (h : KeyHead). h.seek < 2 ^ 32) w.key four

info_number : (file : List ℕ) (o : Option KeyHead) → seek_of o < 2 ^ 32 → Has file 37 (info_field_bytes o) → HasNumber 4 file 37 (seek_of o)
info_number file None lt has = number_of_bytes file 37 0 lt (has_front file 37 (big_bytes 4 0) (big_bytes 4 0) has)
info_number file (Some h) lt has = number_of_bytes file 37 h.seek lt (has_front file 37 (big_bytes 4 h.seek) (big_bytes 4 (cast_unsigned w32 h.nbytes)) has)

-- ---- the records of a close, in the chain

module _ (f : OpenFile) (r : CloseRecords) (made : AreCloseRecords f r) (file : List ℕ) (links : List Link) (m : State) (chain : IsChain links file) (same : f.segments ≡ map segment_of links)
    (records : AreRecordsOf (keyed_records links) m) (keys : AreKeysOf (keyed_records links) f.heads) (info : f.info ≡ info_head (info_key (keyed_records links))) where
  abbrev pub list_at : ℕ
  list_at = list_place f r

  abbrev pub free_at : ℕ
  free_at = free_place f r

  abbrev pub list_bytes : List ℕ
  list_bytes = r.list.bytes.bytes

  abbrev pub free_record_bytes : List ℕ
  free_record_bytes = r.free.bytes.bytes

  abbrev list_contents : List ℕ
  list_contents = key_list_bytes f.heads

  abbrev free_contents : List ℕ
  free_contents = free_bytes (gaps_in (with_both f r)) (file_end (with_both f r))

  -- the links with the key list, and those with both
  abbrev pub links_1 : List Link
  links_1 = with_record (list_place f r) r.list.bytes.bytes links

  abbrev pub links_2 : List Link
  links_2 = with_record (free_place f r) r.free.bytes.bytes (with_record (list_place f r) r.list.bytes.bytes links)

  -- both stand for the state, where each is the chain of a file
  pub list_stands : (file_1 : List ℕ) → IsChain links_1 file_1 → AreRecordsOf (keyed_records links_1) m
  list_stands file_1 chain_1 = own_stays list_at f.datime f.name list_contents list_bytes made.list.fits made.list.bytes links file_1 chain_1 m records

  pub both_stand : (file_2 : List ℕ) → IsChain links_2 file_2 → AreRecordsOf (keyed_records links_1) m → AreRecordsOf (keyed_records links_2) m
  both_stand file_2 chain_2 records_1 = own_stays free_at f.datime f.name free_contents free_record_bytes made.free.fits made.free.bytes links_1 file_2 chain_2 m records_1

  pub keys_2 : AreKeysOf (keyed_records links_2) f.heads
  keys_2 = own_keys free_at f.datime f.name free_contents free_record_bytes made.free.fits made.free.bytes links_1 f.heads
      (own_keys list_at f.datime f.name list_contents list_bytes made.list.fits made.list.bytes links f.heads keys)

  pub info_2 : info_key (keyed_records links_2) ≡ info_key (keyed_records links)
  info_2 = own_info free_at f.datime f.name free_contents free_record_bytes made.free.fits made.free.bytes links_1
      ∙ own_info list_at f.datime f.name list_contents list_bytes made.list.fits made.list.bytes links

  pub list_whole : IsRecord list_at list_bytes
  list_whole = own_whole list_at f.datime f.name list_contents list_bytes made.list.fits made.list.bytes

  pub free_whole : IsRecord free_at free_record_bytes
  free_whole = own_whole free_at f.datime f.name free_contents free_record_bytes made.free.fits made.free.bytes

  written : AreWritable f.heads
  written = keys_written file links m f.heads chain records keys

  few : length f.heads < 2 ^ 32
  few =
      let fits = made.list.fits.whole in
      let size = length-append (big_bytes 4 (length f.heads)) (flat_map written_key f.heads) in
      omega (arith, fits, size, length-flat written_key f.heads, few_heads f.heads)

  info_seek : seek_of f.info < 2 ^ 32
  info_seek = subst (λ (o : Option KeyHead). seek_of o < 2 ^ 32) (sym info)
      (small_seek file links chain (info_key (keyed_records links)) (λ t e. (info_among (keyed_records links) t e).0))

  -- ---- and then the fields

  module _ (file_2 last : List ℕ) (chain_2 : IsChain links_2 file_2) (records_2 : AreRecordsOf (keyed_records links_2) m) (h : FileHead) (s : SmallHead file_2 h) (place end : ℕ) (at : place ≡ h.nbytes_name + 106)
      (done : FieldsThenEnd r.free_fields.bytes r.info_fields.bytes place r.dir_fields.bytes end file_2 last) (end_is : end ≡ file_end (with_both f r)) where
    abbrev first : FirstLink links file
    first = first_link links file chain

    abbrev behind : List Link
    behind = with_record (free_place f r) r.free.bytes.bytes (with_record (list_place f r) r.list.bytes.bytes first.others)

    links_are : links_2 ≡ RecordAt 100 first.bytes ∷ behind
    links_are = ap (λ (l : List Link). with_record free_at free_record_bytes (with_record list_at list_bytes l)) first.links_are

    whole_2 : IsChain (RecordAt 100 first.bytes ∷ behind) file_2
    whole_2 = subst (λ (l : List Link). IsChain l file_2) links_are chain_2

    abbrev staged : List ℕ
    staged = done.0

    fields : WritesFields r.free_fields.bytes r.info_fields.bytes place r.dir_fields.bytes file_2 done.0
    fields = done.1

    put : Put 12 (big_bytes 4 end) done.0 last
    put = done.2

    -- what stands behind the word stays
    put_keeps : (i x : ℕ) → 16 ≤ i → slice_get done.0 i ≡ Some x → slice_get last i ≡ Some x
    put_keeps i x le was = put.outside i x (inr le) was

    there : (p : ℕ) (bytes : List ℕ) → 16 ≤ p → Has done.0 p bytes → Has last p bytes
    there p bytes le has = has_keeps done.0 last p bytes (λ i x low high was. put_keeps i x (omega (arith, low, le)) was) has

    keeps_chain : (i x : ℕ) → 28 ≤ i → IsOutsideFields place i → slice_get file_2 i ≡ Some x → slice_get last i ≡ Some x
    keeps_chain i x le out was = put_keeps i x (omega (arith, le)) (fields.others i x out was)

    keeps_fixed : (i x : ℕ) → IsFixed i → slice_get file_2 i ≡ Some x → slice_get last i ≡ Some x
    keeps_fixed i x (inl low) was = put.outside i x (inl low) (fields.others i x (inl (omega (arith, low)), inl (omega (arith, low)), inl (omega (arith, low, at))) was)
    keeps_fixed i x (inr (inl mid)) was = put_keeps i x (omega (arith, mid.0)) (fields.others i x (inr mid.0, inl mid.1, inl (omega (arith, mid.1, at))) was)
    keeps_fixed i x (inr (inr high)) was = put_keeps i x (omega (arith, high.0)) (fields.others i x (inr (omega (arith, high.0)), inr high.0, inl (omega (arith, high.1, at))) was)

    o : OtherFields file_2 last first.bytes behind whole_2.links_are.0.1.whole.head h.nbytes_name
    o = other_fields file_2 last first.bytes behind whole_2 h.nbytes_name place (word_of_number file_2 28 h.nbytes_name s.nbytes_name) at keeps_chain

    -- ---- its records

    abbrev own : IsRecord 100 first.bytes
    own = whole_2.links_are.0.1.whole

    class : whole_2.links_are.0.1.whole.head.class ≡ codes "TFile"
    class = first_class file_2 first.bytes own (whole_2.links_are.0.1.first refl)

    keyed_2 : keyed_records links_2 ≡ keyed_bytes whole_2.links_are.0.1.whole.head first.bytes ∷ keyed_records behind
    keyed_2 = ap keyed_records links_are ∙ first_keyed 100 first.bytes behind own

    keyed_3 : keyed_records (RecordAt 100 o.new ∷ behind) ≡ keyed_bytes whole_2.links_are.0.1.whole.head o.new ∷ keyed_records behind
    keyed_3 = first_keyed 100 o.new behind o.whole ∙ ap (λ (k : KeyHead). keyed_bytes k o.new ∷ keyed_records behind) o.head_is

    records_3 : AreRecordsOf (keyed_records (RecordAt 100 o.new ∷ behind)) m
    records_3 =
        let one = subst (λ (rs : List KeyedRecord). AreRecordsOf rs m) keyed_2 records_2 in
        subst (λ (rs : List KeyedRecord). AreRecordsOf rs m) (sym keyed_3) (records_change own.head class first.bytes o.new (keyed_records behind) m one)

    info_3 : info_key (keyed_records (RecordAt 100 o.new ∷ behind)) ≡ info_key (keyed_records links)
    info_3 = ap info_key keyed_3 ∙ info_changes own.head class first.bytes o.new (keyed_records behind) ∙ sym (ap info_key keyed_2) ∙ info_2

    tops_3 : top_keys (keyed_records (RecordAt 100 o.new ∷ behind)) ≡ top_keys (keyed_records links_2)
    tops_3 = ap top_keys keyed_3 ∙ tops_change own.head class first.bytes o.new (keyed_records behind) ∙ sym (ap top_keys keyed_2)

    keys_3 : AreKeysOf (keyed_records (RecordAt 100 o.new ∷ behind)) f.heads
    keys_3 = record { ordered = keys_2.ordered; each = subst (λ (ts : List KeyedRecord). (head : KeyHead) → Contains f.heads head ↔ Contains (item_heads ts) head) (sym tops_3) keys_2.each }

    listed : Listing (keyed_records (RecordAt 100 o.new ∷ behind)) m records_3 f.heads keys_3 f.heads
    listed = listing (keyed_records (RecordAt 100 o.new ∷ behind)) m records_3 f.heads keys_3

    -- ---- its segments

    segments_2 : map segment_of links_2 ≡ with_both f r
    segments_2 = map_with free_at free_record_bytes links_1 ∙ ap (with_segment free_at (length free_record_bytes)) (map_with list_at list_bytes links ∙ ap (with_segment list_at (length list_bytes)) (sym same))

    segments_3 : map segment_of (RecordAt 100 o.new ∷ behind) ≡ with_both f r
    segments_3 = ap (λ (n : ℕ). Record 100 n ∷ map segment_of behind) o.long ∙ sym (ap (map segment_of) links_are) ∙ segments_2

    end_3 : chain_end (RecordAt 100 o.new ∷ behind) ≡ end
    end_3 = sym (map_end 100 (RecordAt 100 o.new ∷ behind)) ∙ ap file_end segments_3 ∙ sym end_is

    low : end < 2 ^ 32
    low = let fits = made.low in omega (arith, fits, end_is)

    long : end + 4 ≤ length last
    long =
        let within = o.end_within in
        let same_end : chain_end (RecordAt 100 first.bytes ∷ behind) ≡ chain_end (RecordAt 100 o.new ∷ behind) = ap (λ (n : ℕ). end_from (100 + n) behind) (sym o.long) in
        omega (arith, within, same_end, end_3)

    room : h.nbytes_name + 164 ≤ length last
    room = let within = o.end_within in let size = o.room in omega (arith, within, size, end-le (100 + length first.bytes) behind)

    -- ---- its header

    free_there : Has last 16 (free_field_bytes free_at (length free_record_bytes) (length (gaps_in (with_both f r)) + 1))
    free_there = subst (Has last 16) made.free_fields (there 16 r.free_fields.bytes (omega arith) fields.free_there)

    info_there : Has last 37 (info_field_bytes f.info)
    info_there = subst (Has last 37) made.info_fields (there 37 r.info_fields.bytes (omega arith) fields.info_there)

    directory_there : Has last place (dir_field_bytes f.datime (length list_bytes) f.nbytes_name list_at)
    directory_there = subst (Has last place) made.dir_fields (there place r.dir_fields.bytes (omega (arith, at)) fields.directory_there)

    abbrev head_3 : FileHead
    head_3 = record h {
      end = end;
      seek_free = free_at;
      nbytes_free = big_number 4 (drop 20 last);
      nfree = big_number 4 (drop 24 last);
      seek_info = seek_of f.info;
      nbytes_info = big_number 4 (drop 41 last);
    }

    small_3 : SmallHead last head_3
    small_3 = head_changes file_2 last h s keeps_fixed end free_at (big_number 4 (drop 20 last)) (big_number 4 (drop 24 last)) (seek_of f.info) (big_number 4 (drop 41 last))
        (number_of_bytes last 12 end low put.written)
        (number_of_bytes last 16 free_at made.free.fits.place (has_front last 16 (big_bytes 4 free_at) (big_bytes 4 (length free_record_bytes) ++ big_bytes 4 (length (gaps_in (with_both f r)) + 1)) free_there))
        (any_number 4 last 20 (omega (arith, room)))
        (any_number 4 last 24 (omega (arith, room)))
        (info_number last f.info info_seek info_there)
        (any_number 4 last 41 (omega (arith, room)))

    head_read : closed_head last ≡ Ok head_3
    unfolding closed_head
    head_read =
        let within : ltb (length last) end ≡ false = le-ltb _ _ (omega (arith, long)) in
        bind_is (head_at last) head_3 (λ head. cond (ltb (length last) head.end) (Err (fault_at 12 NotClosed)) (Ok head)) (small_read last head_3 small_3) ∙ rw within refl

    -- ---- its directory record

    abbrev at_dir : ℕ
    at_dir = 100 + h.nbytes_name

    behind_word : (p x : ℕ) (rest : List ℕ) → Has last p (big_bytes 4 x ++ rest) → Has last (p + 4) rest
    behind_word p x rest has = has_back last p (p + 4) (big_bytes 4 x) rest (ap (λ (k : ℕ). p + k) (sym (length-bytes_high_first 4 x))) has

    list_seek : HasNumber 4 last (100 + h.nbytes_name + 26) list_at
    list_seek =
        let r5 : List ℕ = big_bytes 4 list_at in
        let r4 : List ℕ = big_bytes 4 0 ++ r5 in
        let r3 : List ℕ = big_bytes 4 100 ++ r4 in
        let r2 : List ℕ = big_bytes 4 f.nbytes_name ++ r3 in
        let r1 : List ℕ = big_bytes 4 (length list_bytes) ++ r2 in
        let a : Has last (place + 4) r1 = behind_word place f.datime r1 directory_there in
        let b : Has last (place + 4 + 4) r2 = behind_word (place + 4) (length list_bytes) r2 a in
        let c : Has last (place + 4 + 4 + 4) r3 = behind_word (place + 4 + 4) f.nbytes_name r3 b in
        let d : Has last (place + 4 + 4 + 4 + 4) r4 = behind_word (place + 4 + 4 + 4) 100 r4 c in
        let e : Has last (place + 4 + 4 + 4 + 4 + 4) r5 = behind_word (place + 4 + 4 + 4 + 4) 0 r5 d in
        let q : place + 4 + 4 + 4 + 4 + 4 ≡ 100 + h.nbytes_name + 26 = omega (arith, at) in
        number_of_bytes last (100 + h.nbytes_name + 26) list_at made.list.fits.place (subst (λ (p : ℕ). Has last p r5) q e)

    abbrev dir_3 : DirRecord
    dir_3 = record {
      version = o.version;
      created = big_number 4 (drop (100 + h.nbytes_name + 2) last);
      changed = big_number 4 (drop (100 + h.nbytes_name + 6) last);
      nbytes_keys = big_number 4 (drop (100 + h.nbytes_name + 10) last);
      nbytes_name = big_number 4 (drop (100 + h.nbytes_name + 14) last);
      seek_dir = big_number 4 (drop (100 + h.nbytes_name + 18) last);
      seek_parent = big_number 4 (drop (100 + h.nbytes_name + 22) last);
      seek_keys = list_at;
      uuid = take 18 (drop (100 + h.nbytes_name + 30) last);
    }

    small_dir : SmallDir last (100 + h.nbytes_name) dir_3
    small_dir = record {
      version = o.version_there;
      created = any_number 4 last (at_dir + 2) (omega (arith, room));
      changed = any_number 4 last (at_dir + 6) (omega (arith, room));
      nbytes_keys = any_number 4 last (at_dir + 10) (omega (arith, room));
      nbytes_name = any_number 4 last (at_dir + 14) (omega (arith, room));
      seek_dir = any_number 4 last (at_dir + 18) (omega (arith, room));
      seek_parent = any_number 4 last (at_dir + 22) (omega (arith, room));
      seek_keys = list_seek;
      long = omega (arith, room);
      uuid = refl;
      small = le-ltb 1000 (o.version) o.small;
    }

    dir_ok : closed_dir last (dir_place head_3) ≡ Ok dir_3
    dir_ok = ap (or_fault (fault_at (100 + h.nbytes_name) BadDir)) (dir_read last (100 + h.nbytes_name) dir_3 small_dir)

    -- ---- its key list and its free record

    in_list : In (RecordAt list_at list_bytes) behind
    in_list = in_with free_at free_record_bytes (with_record list_at list_bytes first.others) list_at list_bytes (in_put list_at list_bytes first.others)

    in_free : In (RecordAt free_at free_record_bytes) behind
    in_free = in_put free_at free_record_bytes (with_record list_at list_bytes first.others)

    keys_ok : closed_keys last list_at ≡ Ok f.heads
    keys_ok =
        let stands = stands_there last (100 + length o.new) behind list_at list_bytes o.chain.links_are.1 in_list in
        let some = record_long list_bytes (record_word list_at list_bytes list_whole) in
        list_read last list_at list_bytes (new_key (own_words list_at f.datime f.name) (length list_contents)) f.heads
        (own_zeros list_at f.datime f.name list_contents list_bytes made.list.fits made.list.bytes)
        (λ none. let far = stands.behind in omega (arith, none, far)) (omega (arith, some)) stands.there
        (own_spelled list_at f.datime f.name list_contents list_bytes made.list.fits made.list.bytes)
        (own_nbytes list_at f.datime f.name list_contents list_bytes made.list.fits made.list.bytes)
        (own_data list_at f.datime f.name list_contents list_bytes made.list.fits made.list.bytes)
        few written

    free_told : free_bytes (gaps_in (with_both f r)) (file_end (with_both f r)) ≡ free_bytes (gaps_in (map segment_of (RecordAt 100 o.new ∷ behind))) (chain_end (RecordAt 100 o.new ∷ behind))
    free_told = ap (λ (l : List Segment). free_bytes (gaps_in l) (file_end l)) (sym segments_3) ∙ ap (free_bytes (gaps_in (map segment_of (RecordAt 100 o.new ∷ behind)))) (map_end 100 (RecordAt 100 o.new ∷ behind))

    free_record : IsFreeRecordAt (RecordAt 100 o.new ∷ behind) free_at
    free_record = record {
      r = keyed_bytes (new_key (own_words free_at f.datime f.name) (length free_contents)) free_record_bytes;
      there = contains_in _ _ (in_keyed (RecordAt 100 o.new ∷ behind) free_at free_record_bytes _ (own_link free_at f.datime f.name free_contents free_record_bytes made.free.fits made.free.bytes) (inr in_free));
      seek = refl;
      zeros = own_zeros free_at f.datime f.name free_contents free_record_bytes made.free.fits made.free.bytes;
      padding = own_padding free_at f.datime f.name free_contents free_record_bytes made.free.fits made.free.bytes;
      written = own_data free_at f.datime f.name free_contents free_record_bytes made.free.fits made.free.bytes
          ∙ ap (λ (l : List ℕ). l ++ own_zeros free_at f.datime f.name free_contents free_record_bytes made.free.fits made.free.bytes) free_told;
    }

    -- ---- all of it

    abbrev closed_3 : Closed
    closed_3 = record { head = head_3; dir = dir_3; keys = f.heads }

    file_read : closed_file last ≡ Ok closed_3
    unfolding closed_file
    file_read =
        let to_end : FileHead → DirRecord → List KeyHead → Result Closed HeadFault = λ head dir keys. Ok (record { head = head; dir = dir; keys = keys }) in
        let to_keys : FileHead → DirRecord → Result Closed HeadFault = λ head dir. closed_keys last dir.seek_keys >>= to_end head dir in
        let to_dir : FileHead → Result Closed HeadFault = λ head. closed_dir last (dir_place head) >>= to_keys head in
        bind_is (closed_head last) head_3 to_dir head_read ∙ bind_is (closed_dir last (dir_place head_3)) dir_3 (to_keys head_3) dir_ok ∙ bind_is (closed_keys last list_at) f.heads (to_end head_3 dir_3) keys_ok

    -- what is listed of it
    file_listed : listed_file last ≡ Ok (key_lines f.heads)
    unfolding listed_file
    file_listed = bind_is (closed_file last) closed_3 (λ closed. Ok (key_lines closed.keys)) file_read

    pub last_reads : ReadsAsState last m
    last_reads = reads_made last head_3 (RecordAt 100 o.new ∷ behind) m small_3 o.chain records_3

    pub last_closed : ReadsClosed last m
    last_closed = record {
      closed = closed_3;
      closed_is = file_read;
      small = s.small;
      links = RecordAt 100 o.new ∷ behind;
      chain = o.chain;
      here = records_3.here;
      info = sym (seek_is (info_key (keyed_records (RecordAt 100 o.new ∷ behind))) ∙ ap (λ (i : Option KeyedRecord). seek_of (info_head i)) info_3 ∙ ap seek_of (sym info));
      listed = listed.listed;
      heads = listed.heads_are;
      there = all_in (Contains (keyed_records (RecordAt 100 o.new ∷ behind))) listed.listed (λ x i. contains_in x _ (in_records (keyed_records (RecordAt 100 o.new ∷ behind)) m records_3 f.heads keys_3 listed x i));
      tops = listed_tops (keyed_records (RecordAt 100 o.new ∷ behind)) m records_3 f.heads keys_3 listed;
      stand = listed_stand (keyed_records (RecordAt 100 o.new ∷ behind)) m records_3 f.heads keys_3 listed;
      end = sym end_3;
      free = free_record;
    }

    -- ---- what is written

    pub last_written : h.nbytes_name ≡ f.nbytes_name → IsClosedWith f links r file_2 last
    last_written name = record {
      header = kept;
      end_there = subst (λ (e : ℕ). Has last 12 (big_bytes 4 e)) end_is put.written;
      free_there = there 16 r.free_fields.bytes (omega arith) fields.free_there;
      info_there = there 37 r.info_fields.bytes (omega arith) fields.info_there;
      directory_there = subst (λ (p : ℕ). Has last p r.dir_fields.bytes) (at ∙ ap (λ (n : ℕ). n + 106) name) (there place r.dir_fields.bytes (omega (arith, at)) fields.directory_there);
      first = first.bytes;
      now = o.new;
      others = first.others;
      before = first.links_are;
      long = o.long;
      same = kept_in_first;
      chain = record { chain = o.chain; same = sym segments_3 };
      end = grows_at_end (with_list f r) (free_place f r) (length r.free.bytes.bytes) shape_list refl;
      lists = file_listed;
    }
      where
        kept : (i x : ℕ) → IsKeptByte i → slice_get file_2 i ≡ Some x → slice_get last i ≡ Some x
        kept i x (inl low) was = put.outside i x (inl low) (fields.others i x (inl (omega (arith, low)), inl (omega (arith, low)), inl (omega (arith, low, at))) was)
        kept i x (inr (inl mid)) was = put_keeps i x (omega (arith, mid.0)) (fields.others i x (inr mid.0, inl mid.1, inl (omega (arith, mid.1, at))) was)
        kept i x (inr (inr high)) was = put_keeps i x (omega (arith, high.0)) (fields.others i x (inr (omega (arith, high.0)), inr high.0, inl (omega (arith, high.1, at))) was)

        kept_in_first : (i x : ℕ) → IsKeptInFirst f.nbytes_name i → slice_get first.bytes i ≡ Some x → slice_get o.new i ≡ Some x
        kept_in_first i x (inl low) was = o.front i x (omega arith) (omega (arith, low, name)) was
        kept_in_first i x (inr high) was = o.back i x (omega (arith, high, name)) (slice_get_within first.bytes i x was) was

        shape_list : AreSegments (with_list f r)
        shape_list = (laid_put f.segments (length r.list.bytes.bytes) made.shape (record_long r.list.bytes.bytes (record_word (list_place f r) r.list.bytes.bytes list_whole)) list_whole.aligned).0
