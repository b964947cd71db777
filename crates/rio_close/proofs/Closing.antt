-- What a stop leaves while a file is closed, and the file then.
use Rattle.std.proofs.Common.{◌≡◌, ⊎_elim, inl, inr, ℕ, ◌+◌, ◌<◌, ◌≤◌, List, [], ◌∷◌, length, Option, Some, None, refl, sym, ap, subst, ◌∙◌, arith}
use Rattle.rio_key.specs.declared.head.KeyHead.{KeyHead}
use Rattle.rio_head.specs.declared.head.FileHead.{FileHead}
use Rattle.rio_free.specs.Record.{free_bytes}
use Rattle.rio_dir.specs.Table.{key_list_bytes}
use Rattle.rio_host.specs.Host.{Elapses, View}
use Rattle.rio_host.proofs.Moments.{elapses_as, elapses_join}
use Rattle.rio_chain.specs.{Adjoining.{AreSegments}, Chains.{HasChain}, Changes.{with_record}, Placing.{FreeSpace, file_end, gaps_in, space_of, with_segment}}
use Rattle.rio_chain.specs.{Segments.{HasWord, IsChain, IsRecord, Link, RecordAt, chain_end}, declared.segment.Segment.{Segment}, Stops.{IsEither, KeepsFront}}
use Rattle.rio_chain.proofs.{Chains.{KeepsIn, end-le}, PutChain.{map_end}, Laying.{end_grows, laid_put}, Placed.{end_grows as grows_at_end}}
use Rattle.rio_chain.proofs.Words.{record_long, record_word, word_within}
use Rattle.rio_machine.specs.State.{State}
use Rattle.rio_state.specs.{KeyedRecords.{keyed_records}, Reads.{AreRecordsOf, ReadsAsState, ReadsClosed}}
use Rattle.rio_close.specs.Fields.{FieldsThenEnd, IsFieldsThenEnd}
use Rattle.rio_close.specs.Leaving.{DirectoryInFront, HoldsClosed, HoldsClosedWith, HoldsOpen, IsClosedWith, IsKeptByte, StaysAs}
use Rattle.rio_close.specs.Written.{AreCloseRecords, OpenFile, free_place, info_field_bytes, list_place, record_size, with_both, with_list}
use Rattle.rio_close.specs.declared.parts.CloseRecords.{CloseRecords}
use Rattle.rio_close.proofs.{ClosedFile.{both_stand, last_closed, last_reads, last_written, list_stands}, OwnRecords.{own_whole}}
use Rattle.rio_close.proofs.{LeftImages.{keeps_head, left_fields, left_open, open_head}, FieldsChain.{first_link, other_fields}}
use Rattle.rio_close.proofs.{Numbers.{bytes_keep, number_keeps, within_keeps, word_of_number}, SmallHead.{SmallHead}}

-- ---- the header stays in front of what is put

pub head_stays : (old new : List ℕ) (h : FileHead) → KeepsFront old new → SmallHead old h → SmallHead new h
head_stays old new h keeps s =
    let range : (from to : ℕ) → to ≤ 100 → KeepsIn from to old new = λ from to le i x low high was. keeps i x (omega (arith, high, le)) was in
    record {
      root = number_keeps 3 old new 0 _ (range 0 4 (omega arith)) s.root;
      version = number_keeps 3 old new 4 _ (range 4 8 (omega arith)) s.version;
      begin = number_keeps 3 old new 8 _ (range 8 12 (omega arith)) s.begin;
      end = number_keeps 3 old new 12 _ (range 12 16 (omega arith)) s.end;
      seek_free = number_keeps 3 old new 16 _ (range 16 20 (omega arith)) s.seek_free;
      nbytes_free = number_keeps 3 old new 20 _ (range 20 24 (omega arith)) s.nbytes_free;
      nfree = number_keeps 3 old new 24 _ (range 24 28 (omega arith)) s.nfree;
      nbytes_name = number_keeps 3 old new 28 _ (range 28 32 (omega arith)) s.nbytes_name;
      units = number_keeps 0 old new 32 _ (range 32 33 (omega arith)) s.units;
      compress = number_keeps 3 old new 33 _ (range 33 37 (omega arith)) s.compress;
      seek_info = number_keeps 3 old new 37 _ (range 37 41 (omega arith)) s.seek_info;
      nbytes_info = number_keeps 3 old new 41 _ (range 41 45 (omega arith)) s.nbytes_info;
      long = within_keeps 17 old new 45 s.long (range 45 63 (omega arith));
      uuid = bytes_keep 17 old new 45 s.long (range 45 63 (omega arith)) ∙ s.uuid;
      small = s.small;
      begin_is = s.begin_is;
      units_is = s.units_is;
    }

-- ---- the directory record

pub directory_low : DirectoryInFront
directory_low links segments file n has head =
    let s = open_head links file n has.chain head in
    let f = first_link links file has.chain in
    let whole = subst (λ (l : List Link). IsChain l file) f.links_are has.chain in
    let word = subst (HasWord file 28) head.name (word_of_number file 28 head.head.nbytes_name s.nbytes_name) in
    let o = other_fields file file f.bytes f.others whole n (n + 106) word refl (λ i x le out was. was) in
    let room = o.room in
    let end : file_end segments ≡ chain_end (RecordAt 100 f.bytes ∷ f.others) = ap file_end has.same ∙ map_end 100 links ∙ ap chain_end f.links_are in
    omega (arith, room, end, end-le (100 + length f.bytes) f.others)

-- ---- the records of a close, by plain facts

module _ (f : OpenFile) (r : CloseRecords) (made : AreCloseRecords f r) where
  pub list_seek : r.list.head.seek ≡ list_place f r
  list_seek = ap (λ (h : KeyHead). h.seek) made.list.head

  pub free_seek : r.free.head.seek ≡ free_place f r
  free_seek = ap (λ (h : KeyHead). h.seek) made.free.head

  pub list_is_record : IsRecord (list_place f r) r.list.bytes.bytes
  list_is_record = own_whole (list_place f r) f.datime f.name (key_list_bytes f.heads) r.list.bytes.bytes made.list.fits made.list.bytes

  pub free_is_record : IsRecord (free_place f r) r.free.bytes.bytes
  free_is_record = own_whole (free_place f r) f.datime f.name (free_bytes (gaps_in (with_both f r)) (file_end (with_both f r))) r.free.bytes.bytes made.free.fits made.free.bytes

  list_long : 4 ≤ record_size r.list
  list_long = record_long r.list.bytes.bytes (record_word (list_place f r) r.list.bytes.bytes list_is_record)

  pub shape_1 : AreSegments (with_list f r)
  shape_1 = (laid_put f.segments (record_size r.list) made.shape list_long list_is_record.aligned).0

  -- END doesn't fall
  pub grows_1 : file_end f.segments ≤ file_end (with_list f r)
  grows_1 =
      let space = ap (λ (s : FreeSpace). s.end) (laid_put f.segments (record_size r.list) made.shape list_long list_is_record.aligned).1 in
      omega (arith, end_grows (record_size r.list ∷ []) (space_of f.segments), space)

  pub grows_2 : file_end (with_list f r) ≤ file_end (with_both f r)
  grows_2 = omega (arith, grows_at_end (with_list f r) (free_place f r) (record_size r.free) shape_1 refl)

  -- the same in the words of the calls
  pub list_there : (segments : List Segment) → f.segments ≡ segments → with_segment r.list.head.seek (record_size r.list) segments ≡ with_list f r
  list_there segments same = λ i. with_segment (list_seek i) (record_size r.list) (sym same i)

  pub list_low : (segments : List Segment) → f.segments ≡ segments → file_end (with_segment r.list.head.seek (record_size r.list) segments) ≤ 1999999996
  list_low segments same = let low = made.low in omega (arith, ap file_end (list_there segments same), grows_2, low)

  pub both_there : (segments after : List Segment) → f.segments ≡ segments → after ≡ with_segment r.list.head.seek (record_size r.list) segments → with_segment r.free.head.seek (record_size r.free) after ≡ with_both f r
  both_there segments after same is = let list = is ∙ list_there segments same in λ i. with_segment (free_seek i) (record_size r.free) (list i)

  -- the directory record stands in front of END
  pub dir_within : (segments both : List Segment) (links : List Link) (file : List ℕ) → f.segments ≡ segments → both ≡ with_both f r → HasChain links both file → r.nbytes_name + 160 ≤ file_end segments → r.nbytes_name + 106 + 24 ≤ length file
  dir_within segments both links file same is has room =
      let within = word_within file (chain_end links) 0 has.chain.ends.zero_word in
      let end : file_end both ≡ chain_end links = ap file_end has.same ∙ map_end 100 links in
      omega (arith, within, end, ap file_end is, grows_1, grows_2, ap file_end same, room)

  -- the sizes of the fields
  pub free_size : length r.free_fields.bytes ≡ 12
  free_size = ap length made.free_fields

  pub info_size : length r.info_fields.bytes ≡ 8
  info_size = ap length made.info_fields ∙ by f.info
    where
      by : (o : Option KeyHead) → length (info_field_bytes o) ≡ 8
      by None = refl
      by (Some h) = refl

  pub dir_size : length r.dir_fields.bytes ≡ 24
  dir_size = ap length made.dir_fields

-- ---- what a stop leaves

module _ (v0 : View) (f : OpenFile) (r : CloseRecords) (m : State) (made : AreCloseRecords f r) (held : HoldsOpen v0 f m) where
  abbrev pub links_with_list : List Link
  links_with_list = with_record (list_place f r) r.list.bytes.bytes held.links

  abbrev pub links_with_both : List Link
  links_with_both = with_record (free_place f r) r.free.bytes.bytes (with_record (list_place f r) r.list.bytes.bytes held.links)

  small : SmallHead held.file held.head.head
  small = open_head held.links held.file f.nbytes_name held.chain.chain held.head

  records_with_list : (file : List ℕ) → IsChain links_with_list file → AreRecordsOf (keyed_records links_with_list) m
  records_with_list = list_stands f r made held.file held.links m held.chain.chain held.chain.same held.records held.keys held.info

  records_with_both : AreRecordsOf (keyed_records links_with_list) m → (file : List ℕ) → IsChain links_with_both file → AreRecordsOf (keyed_records links_with_both) m
  records_with_both records file chain = both_stand f r made held.file held.links m held.chain.chain held.chain.same held.records held.keys held.info file chain records

  -- one record is put
  either : (v : View) (from : List ℕ) (a b : List Link) → v.said ≡ v0.said → SmallHead from held.head.head → AreRecordsOf (keyed_records a) m → ((file : List ℕ) → IsChain b file → AreRecordsOf (keyed_records b) m) → (i s : List ℕ) → IsEither v from a b i s → StaysAs v0 m i s
  either v from a b same head ra rb i s e = record {
    left = ⊎_elim
        (λ chain. left_open from i held.head.head a m head held.head.end (keeps_head from i e.front) chain ra)
        (λ chain. left_open from i held.head.head b m head held.head.end (keeps_head from i e.front) chain (rb i chain))
        e.links;
    text = λ all told. e.text all (same ∙ told);
  }

  -- with one or both records in the chain
  pub record Reached (v : View) (links : List Link) (segments : List Segment) : Type 0 where
    pub time : Elapses v0 v (StaysAs v0 m)
    pub said : v.said ≡ v0.said
    pub file : List ℕ
    pub holds : v.holds ≡ Some file
    pub chain : HasChain links segments file
    pub front : KeepsFront held.file file
    pub records : AreRecordsOf (keyed_records links) m

  -- what a put tells
  abbrev pub Puts : View → List ℕ → List Link → List Segment → Type 0
  Puts v file links segments = (new : List ℕ) × (v.holds ≡ Some new) × HasChain links segments new × KeepsFront file new

  pub list_time : (v1 : View) (seek : ℕ) → seek ≡ list_place f r → Elapses v0 v1 (IsEither v0 held.file held.links (with_record seek r.list.bytes.bytes held.links)) → Elapses v0 v1 (StaysAs v0 m)
  list_time v1 seek is time =
      let there = subst (λ (p : ℕ). Elapses v0 v1 (IsEither v0 held.file held.links (with_record p r.list.bytes.bytes held.links))) is time in
      elapses_as (StaysAs v0 m) (IsEither v0 held.file held.links links_with_list) there (either v0 held.file held.links links_with_list refl small held.records records_with_list)

  pub list_reached : (v1 : View) (seek : ℕ) (segments : List Segment) → seek ≡ list_place f r → v1.said ≡ v0.said → Elapses v0 v1 (IsEither v0 held.file held.links (with_record seek r.list.bytes.bytes held.links))
      → Puts v1 held.file (with_record seek r.list.bytes.bytes held.links) segments → Reached v1 links_with_list segments
  list_reached v1 seek segments is said time put =
      let chain = subst (λ (p : ℕ). HasChain (with_record p r.list.bytes.bytes held.links) segments put.0) is put.2 in
      record {
        time = list_time v1 seek is time;
        said = said;
        file = put.0;
        holds = put.1;
        chain = chain;
        front = put.3;
        records = records_with_list put.0 chain.chain;
      }

  module _ (v1 : View) (segments_1 : List Segment) (one : Reached v1 links_with_list segments_1) where
    pub free_time : (v2 : View) (seek : ℕ) → seek ≡ free_place f r → Elapses v1 v2 (IsEither v1 one.file links_with_list (with_record seek r.free.bytes.bytes links_with_list)) → Elapses v0 v2 (StaysAs v0 m)
    free_time v2 seek is time =
        let there = subst (λ (p : ℕ). Elapses v1 v2 (IsEither v1 one.file links_with_list (with_record p r.free.bytes.bytes links_with_list))) is time in
        elapses_join (IsEither v1 one.file links_with_list links_with_both) one.time there
        (either v1 one.file links_with_list links_with_both one.said (head_stays held.file one.file held.head.head one.front small) one.records (records_with_both one.records))

    pub free_reached : (v2 : View) (seek : ℕ) (segments : List Segment) → seek ≡ free_place f r → v2.said ≡ v1.said → Elapses v1 v2 (IsEither v1 one.file links_with_list (with_record seek r.free.bytes.bytes links_with_list))
        → Puts v2 one.file (with_record seek r.free.bytes.bytes links_with_list) segments → Reached v2 links_with_both segments
    free_reached v2 seek segments is said time put =
        let chain = subst (λ (p : ℕ). HasChain (with_record p r.free.bytes.bytes links_with_list) segments put.0) is put.2 in
        record {
          time = free_time v2 seek is time;
          said = said ∙ one.said;
          file = put.0;
          holds = put.1;
          chain = chain;
          front = λ i x low was. put.3 i x low (one.front i x low was);
          records = records_with_both one.records put.0 chain.chain;
        }

  module _ (v2 : View) (segments_2 : List Segment) (two : Reached v2 links_with_both segments_2) (place end : ℕ) (at : place ≡ r.nbytes_name + 106) (end_is : end ≡ file_end (with_both f r)) where
    small_2 : SmallHead two.file held.head.head
    small_2 = head_stays held.file two.file held.head.head two.front small

    at_head : place ≡ held.head.head.nbytes_name + 106
    at_head = omega (arith, at, held.head.name, made.nbytes_name)

    abbrev Done : List ℕ → Type 0
    Done last = FieldsThenEnd r.free_fields.bytes r.info_fields.bytes place r.dir_fields.bytes end two.file last

    reads : (last : List ℕ) → Done last → ReadsAsState last m
    reads last done = last_reads f r made held.file held.links m held.chain.chain held.chain.same held.records held.keys held.info two.file last two.chain.chain two.records held.head.head small_2 place end at_head done end_is

    closed : (last : List ℕ) → Done last → ReadsClosed last m
    closed last done = last_closed f r made held.file held.links m held.chain.chain held.chain.same held.records held.keys held.info two.file last two.chain.chain two.records held.head.head small_2 place end at_head done end_is

    low_byte : (i : ℕ) → IsKeptByte i → i < 100
    low_byte i (inl low) = omega (arith, low)
    low_byte i (inr (inl mid)) = omega (arith, mid.1)
    low_byte i (inr (inr high)) = high.1

    written : (last : List ℕ) → Done last → IsClosedWith f held.links r held.file last
    written last done =
        let w = last_written f r made held.file held.links m held.chain.chain held.chain.same held.records held.keys held.info two.file last two.chain.chain two.records held.head.head small_2 place end at_head done end_is held.head.name in
        record {
          header = λ i x kept was. w.header i x kept (two.front i x (low_byte i kept) was);
          end_there = w.end_there;
          free_there = w.free_there;
          info_there = w.info_there;
          directory_there = w.directory_there;
          first = w.first;
          now = w.now;
          others = w.others;
          before = w.before;
          long = w.long;
          same = w.same;
          chain = w.chain;
          end = w.end;
          lists = w.lists;
        }

    fields_stay : (i s : List ℕ) → IsFieldsThenEnd v2 r.free_fields.bytes r.info_fields.bytes place r.dir_fields.bytes end two.file i s → StaysAs v0 m i s
    fields_stay i s e = record {
      left = ⊎_elim
          (λ half. left_fields two.file i held.head.head links_with_both m held.head.head.nbytes_name place small_2 held.head.end refl at_head half two.chain.chain two.records)
          (λ done. record { reads = reads i done; closed = λ word root has ne. closed i done })
          e.image_is;
      text = λ all told. e.text all (two.said ∙ told);
    }

    -- the same in the words of the calls
    module _ (free info directory : List ℕ) (free_is : free ≡ r.free_fields.bytes) (info_is : info ≡ r.info_fields.bytes) (directory_is : directory ≡ r.dir_fields.bytes) where
      pub fields_time : (v3 : View) → Elapses v2 v3 (IsFieldsThenEnd v2 free info place directory end two.file) → Elapses v0 v3 (StaysAs v0 m)
      fields_time v3 time =
          let one = subst (λ (b : List ℕ). Elapses v2 v3 (IsFieldsThenEnd v2 b info place directory end two.file)) free_is time in
          let both = subst (λ (b : List ℕ). Elapses v2 v3 (IsFieldsThenEnd v2 r.free_fields.bytes b place directory end two.file)) info_is one in
          let all = subst (λ (b : List ℕ). Elapses v2 v3 (IsFieldsThenEnd v2 r.free_fields.bytes r.info_fields.bytes place b end two.file)) directory_is both in
          elapses_join (IsFieldsThenEnd v2 r.free_fields.bytes r.info_fields.bytes place r.dir_fields.bytes end two.file) two.time all fields_stay

      pub closed_then : (v3 : View) → (last : List ℕ) × (v3.holds ≡ Some last) × FieldsThenEnd free info place directory end two.file last → HoldsClosed v3 m
      closed_then v3 last =
          let one = subst (λ (b : List ℕ). FieldsThenEnd b info place directory end two.file last.0) free_is last.2 in
          let both = subst (λ (b : List ℕ). FieldsThenEnd r.free_fields.bytes b place directory end two.file last.0) info_is one in
          let all = subst (λ (b : List ℕ). FieldsThenEnd r.free_fields.bytes r.info_fields.bytes place b end two.file last.0) directory_is both in
          record { file = last.0; holds = last.1; reads = reads last.0 all; closed = closed last.0 all }

      pub written_then : (v3 : View) → (last : List ℕ) × (v3.holds ≡ Some last) × FieldsThenEnd free info place directory end two.file last → HoldsClosedWith v3 f held.links r held.file
      written_then v3 last =
          let one = subst (λ (b : List ℕ). FieldsThenEnd b info place directory end two.file last.0) free_is last.2 in
          let both = subst (λ (b : List ℕ). FieldsThenEnd r.free_fields.bytes b place directory end two.file last.0) info_is one in
          let all = subst (λ (b : List ℕ). FieldsThenEnd r.free_fields.bytes r.info_fields.bytes place b end two.file last.0) directory_is both in
          record { file = last.0; holds = last.1; written = written last.0 all }
