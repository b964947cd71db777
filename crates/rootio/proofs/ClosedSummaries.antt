-- A closed file sums up to what the records before its close have of a tree.
use Rattle.std.proofs.Common.{◌≡◌, ◌∙◌, inl, inr, ℕ, zero, suc, ◌+◌, ◌≤◌, ℤ, pos, ◌-ℤ◌, ltb, List, [], length, drop, take, int_lt, Bool, true, false, cond, not, ◌==◌, ◌&&◌, ◌||◌, Option, Some, None, Result, Ok, Err, refl, sym, ap, subst, arith}
use Rattle.std.proofs.lemmas.{Bool.{and_from, and_parts, cases_lt, eq-eqb, eqb-true, le-ltb, lt-ltb, ltb-true, not-true}, Int.{ints}, List.Elements.{All-contains}, Option.{same_Some}, Slice.Eq.{bytes_eq-Decides}}
use Rattle.std.specs.{Prelude.{is_some, option_and_then, unwrap_or, MatchBool}, FinMap.{get}, Int.{int_wrap, w128}, List.{Contains, filter, find}, Option.{option_map_or}, Result.{result_ok, result_unwrap_or}, Str.{bytes_eq}}
use Rattle.byteorder.specs.Endian.{big_number}
use Rattle.rio_num.specs.{Plain.{IsSpelledIn}, Reading.{◌>>=◌, some_if}, Room.{is_padding}}
use Rattle.rio_num.proofs.ReadLaws.{bind_ok, if_is, ok_is}
use Rattle.rio_format.specs.{declared.class.ClassDef.{ClassDef}, declared.value.Value.{Value}, Frames.{Step}, ReaderState.{ReaderState}, declared.fault.ObjFault.{ObjFault}}
use Rattle.rio_format.specs.{ClassList.{class_list_at}, Objects.{first_at, only_value, value_at}, TreeClasses.{tree_classes, written_classes}}
use Rattle.rio_key.specs.{Key.{SpellsKey, is_compressed, key_at}, declared.fault.KeyFault.{KeyFault}, declared.head.KeyHead.{KeyHead}}
use Rattle.rio_head.specs.{Head.{fault_at, head_at, root_number}, declared.dir.DirRecord.{DirRecord}, declared.fault.FileFault.TheVariants.{BadInfo, Compressed, NotClosed}, declared.fault.HeadFault.{HeadFault}, declared.head.FileHead.{FileHead}}
use Rattle.rio_dir.specs.{Closed.{closed_dir, closed_file, closed_head, closed_keys, data_at, dir_place, file_at, or_fault}, Unborn.{is_unborn}, declared.closed.Closed.{Closed}}
use Rattle.rio_chain.specs.Segments.{IsChain, Link, chain_end}
use Rattle.rio_chain.proofs.{Keys.{spelled_in_whole}, OneChain.{chain_one}, Words.{whole_long, word_within}}
use Rattle.rio_machine.specs.State.{Row, State, Tree, empty_state}
use Rattle.rio_tree.specs.{Header.{tree_head_in}, declared.fault.TreeFault.{TreeFault}, declared.head.TreeHead.{TreeHead}}
use Rattle.rio_entry.specs.SavedRows as file_rows
use Rattle.rio_entry.proofs.{HeadOrder.{head_in_order}, KeyedLaws.{keyed_rows}}
use Rattle.rio_gen.specs.Summary.{sum_of_rows}
use Rattle.rio_report.specs.{Described.{classes_in, described_at, described_file, info_at}, Dump.{header_of_value, header_or_text, is_tree, stored_tree}, Scan.{tree_key}}
use Rattle.rio_report.specs.{Summary.{basket_count, declared_in, found_summary, key_summary, no_summary, summarized_file, summary_of_head, summary_to}, declared.described.Described.{Described}, declared.summary.TreeSummary.{TreeSummary}}
use Rattle.rio_report.proofs.{SavedSums.{rows_there_are}, Summaries.{read_summary, summarized_is, zero_wrapped}}
use Rattle.rio_state.specs.{Contents.{FileClasses, HasStateClasses, classes_behind, described_classes, described_in, file_classes, state_classes}, Reads.{AreRecordsOf, ReadsAsMade, ReadsAsState, ReadsClosed, StandsForState, info_place}}
use Rattle.rio_state.specs.KeyedRecords.{KeyedRecord, has_item, info_key, is_outdated, is_top_key, is_tree_key, is_tree_record, item_of_key, keyed_records, record_at, record_data, top_keys, tree_records}
use Rattle.rio_state.specs.Trees.{TreesBeside, header_by, header_in, is_written_header, saved_rows, saved_tree, tree_of, trees_beside}
use Rattle.rio_state.proofs.{Insertion.{any_none}, KeyRecords.{distinct_found}, Members.{In, all_at, contains_in, filter_in, found, in_contained, in_filter, in_map, map_in, none_at, none_from}}
use Rattle.rio_state.proofs.{MoreRecords.{key_is_read}, Places.{info_among, records_rise, rising_late}, TreesSame.{HoldsTree, holds_tree}}
use Rattle.rio_close.proofs.{ListRead.{parts_there, taken_there}, RecordPlaces.{IsWhole, whole_records}, SmallHead.{SmallHead, small_head}}
use Rattle.rio_recover.specs.{Baskets.{AreKeyedIn, has_baskets}, Keys.{StandsIn, record_heads}}
use Rattle.rio_recover.proofs.{BasketRecords.{records_keyed, rows_have_baskets}, LinkRecords.{all_stand, length_of_record}, RowsSought.{rows_keyed}}
use Rattle.rio_session.specs.Closes.{IsWellClosed}
use Rattle.rootio.specs.Summaries.{ClosedFilesSumUp, SumsUp, SumsUpState, baskets_among, header_among, rows_among}
use Rattle.rootio.proofs.{ClosedRecords.{HaveSameTrees, baskets_same, closed_links, closed_same, rows_alike}, TreeKeys.{Greatest, greatest}}

-- ---- a closed file is made

head_of : (file : List ℕ) (c : Closed) → closed_file file ≡ Ok c → head_at file ≡ Ok c.head
unfolding closed_file closed_head
head_of file c e =
    let one = bind_ok (closed_head file) _ c e in
    let two = bind_ok (closed_dir file (dir_place one.0)) _ c one.2 in
    let three = bind_ok (closed_keys file two.0.seek_keys) _ c two.2 in
    let made : Closed = record { head = one.0; dir = two.0; keys = three.0 } in
    let same : one.0 ≡ c.head = ap (λ (x : Closed). x.head) (ok_is {E = HeadFault} made c three.2) in
    let four = bind_ok (head_at file) _ one.0 one.1 in
    let own : four.0 ≡ one.0 = by four.0 one.0 (ltb (length file) four.0.end) four.2 in
    four.1 ∙ ap (λ (h : FileHead). let r : Result FileHead HeadFault = Ok h in r) (own ∙ same)
  where
    by : (h k : FileHead) (b : Bool) → cond b (Err (fault_at 12 NotClosed)) (Ok h) ≡ Ok k → h ≡ k
    by h k true e = absurd cc
    by h k false e = cc

abbrev described_of : Closed → List ClassDef → Result Described HeadFault
described_of c classes = Ok (record { closed = c; classes = classes })

-- what its parts give
describe : (file : List ℕ) (c : Closed) (classes : List ClassDef) → closed_file file ≡ Ok c → described_at file c.head.seek_info ≡ Ok classes
    → described_file file ≡ described_of c classes
unfolding described_file
describe file c classes closed described =
    ap (λ (r : Result Closed HeadFault). r >>= λ c. described_at file c.head.seek_info >>= λ classes. described_of c classes) closed
    ∙ ap (λ (r : Result (List ClassDef) HeadFault). r >>= λ classes. described_of c classes) described

made_of : (file : List ℕ) (m : State) (c : Closed) (links : List Link) → closed_file file ≡ Ok c → IsChain links file → (b : Bool) → is_unborn file ≡ b → MatchBool b (m ≡ empty_state) (ReadsAsMade file m)
    → big_number 4 file ≡ root_number → ReadsAsMade file m
made_of file m c links closed chain false unborn reads root = reads
made_of file m c links closed chain true unborn reads root =
    let late = chain.ends.later in
    let within = word_within file (chain_end links) 0 chain.ends.zero_word in
    let long : ltb (length file) 4 ≡ false = le-ltb _ _ (omega (arith, late, within)) in
    let born : is_unborn file ≡ false = ap (λ (t : Bool). t || (big_number 4 file == 0)) long ∙ ap (λ (w : ℕ). w == 0) root in
    absurd (let f : true ≡ false = sym unborn ∙ born in cc)

-- ---- a record of a chain, read at its place

not_compressed : (k o n : ℕ) → k + o ≡ n → int_lt (pos n -ℤ pos k) (pos o) ≡ false
not_compressed k o n e = by (int_lt (pos n -ℤ pos k) (pos o)) refl
  where
    by : (b : Bool) → int_lt (pos n -ℤ pos k) (pos o) ≡ b → b ≡ false
    by false is = refl
    by true is = absurd (omega (arith, ints))

module _ (file : List ℕ) (links : List Link) (chain : IsChain links file) (r : KeyedRecord) (among : In r (keyed_records links)) where
  stands : StandsIn file r
  stands = All-contains (StandsIn file) (keyed_records links) r (all_stand file 100 links chain.links_are) (contains_in r (keyed_records links) among)

  whole : IsWhole r
  whole = whole_records file 100 links chain.links_are r among

  some : 1 ≤ length r.bytes
  some = let four = whole_long whole.place r.bytes whole.whole in omega (arith, four)

  pub late : 100 ≤ r.head.seek
  late = rising_late 100 (keyed_records links) (records_rise file 100 links chain.links_are) r among

  pub plain : is_compressed r.head ≡ false
  plain =
      ap is_compressed (sym whole.key)
      ∙ ap (λ (n : ℤ). int_lt (n -ℤ pos whole.whole.head.keylen) (pos whole.whole.head.objlen)) whole.whole.nbytes
      ∙ not_compressed whole.whole.head.keylen whole.whole.head.objlen (length r.bytes) whole.whole.parts

  pub key_there : key_at (file_at file r.head.seek) ≡ Ok r.head
  key_there =
      key_is_read r.head.seek (drop r.head.seek file) r.head
      (spelled_in_whole r.head r.bytes (drop (length r.bytes) (drop r.head.seek file)) (drop r.head.seek file) (parts_there file r.head.seek r.bytes some stands.there)
      (subst (λ (h : KeyHead). IsSpelledIn (SpellsKey h) r.bytes) whole.key whole.whole.key))

  pub data_there : (data_at file r.head.seek r.head).rest ≡ record_data r
  data_there =
      ap (λ (n : ℕ). drop r.head.keylen (take n (drop r.head.seek file))) (length_of_record file r stands)
      ∙ ap (drop r.head.keylen) (taken_there file r.head.seek r.bytes some stands.there)

-- ---- the classes

module _ (file : List ℕ) (links : List Link) (chain : IsChain links file) where
  -- the class list in a record
  listed_classes : (r : KeyedRecord) → In r (keyed_records links) → (classes : List ClassDef) → described_in r ≡ Ok classes → info_at file r.head.seek ≡ Ok classes
  unfolding info_at
  listed_classes r i classes is =
      let at = r.head.seek in
      ap (λ (k : Result KeyHead KeyFault). or_fault (fault_at at BadInfo) k >>= λ key. classes_in at key (data_at file at key)) (key_there file links chain r i)
      ∙ ap (λ (b : Bool). cond b (Err (fault_at at Compressed)) (or_fault (fault_at at BadInfo) (class_list_at r.head.keylen (data_at file at r.head).rest))) (plain file links chain r i)
      ∙ ap (λ (l : List ℕ). or_fault (fault_at at BadInfo) (class_list_at r.head.keylen l)) (data_there file links chain r i)
      ∙ ap (or_fault (fault_at at BadInfo)) is

  in_place : (o : Option KeyedRecord) → ((r : KeyedRecord) → o ≡ Some r → In r (keyed_records links)) → HasStateClasses o → described_at file (info_place o) ≡ Ok (described_classes o)
  in_place None among listed = refl
  in_place (Some r) among listed =
      let i = among r refl in
      let somewhere : (r.head.seek == 0) ≡ false = eq_none r.head.seek (late file links chain r i) in
      let classes = written_classes (state_classes (Some r)) in
      ap (λ (b : Bool). cond b (Ok []) (info_at file r.head.seek)) somewhere
      ∙ listed_classes r i classes listed.list
      ∙ ap (λ (x : Result (List ClassDef) ObjFault). let d : Result (List ClassDef) HeadFault = Ok (result_unwrap_or x []) in d) (sym listed.list)
    where
      eq_none : (n : ℕ) → 100 ≤ n → (n == 0) ≡ false
      eq_none n le = by (n == 0) refl
        where
          by : (b : Bool) → (n == 0) ≡ b → b ≡ false
          by false e = refl
          by true e = let none = eqb-true n 0 e in absurd (omega (arith, none, le))

  -- the classes that it describes, and the declared ones among them
  declared_are : (o : Option KeyedRecord) → HasStateClasses o → declared_in (described_classes o) ≡ state_classes o
  declared_are None listed = drop_none (length tree_classes)
    where
      drop_none : (n : ℕ) → drop {A = ClassDef} n [] ≡ []
      drop_none zero = refl
      drop_none (suc n) = refl
  declared_are (Some r) listed =
      ap (λ (x : Result (List ClassDef) ObjFault). drop (length tree_classes) (result_unwrap_or x [])) listed.list
      ∙ ap (λ (x : Result (List ClassDef) ObjFault). classes_behind x) (sym listed.list)

-- ---- the header in a record

record HeaderValue (classes : FileClasses) (r : KeyedRecord) (head : TreeHead) : Type 0 where
  v : Value
  value : value_at classes.described r.head.class r.head.keylen (record_data r) ≡ Ok v
  told : tree_head_in v ≡ Ok head

header_value : (classes : FileClasses) (r : KeyedRecord) (head : TreeHead) → header_in classes r ≡ Some head → HeaderValue classes r head
unfolding header_in
header_value classes r head e = by (first_at classes.described r.head.class r.head.keylen (record_data r)) refl e
  where
    of_head : (x : Value × ReaderState) → first_at classes.described r.head.class r.head.keylen (record_data r) ≡ Ok x → (o : Result TreeHead TreeFault) → tree_head_in x.0 ≡ o
        → option_and_then (λ h. some_if (is_padding x.1.at.rest && is_written_header classes.declared r.head.name x.0 h) h) (result_ok o) ≡ Some head → HeaderValue classes r head
    of_head x read (Err f) is some = absurd cc
    of_head x read (Ok h) is some =
        let test = if_is (is_padding x.1.at.rest && is_written_header classes.declared r.head.name x.0 h) h head some in
        record {
          v = x.0;
          value = ap only_value read;
          told = is ∙ ap (λ (k : TreeHead). let o : Result TreeHead TreeFault = Ok k in o) test.1;
        }

    by : (s : Step Value) → first_at classes.described r.head.class r.head.keylen (record_data r) ≡ s → header_by classes.declared r.head.name s ≡ Some head → HeaderValue classes r head
    by (Err f) read some = absurd cc
    by (Ok x) read some = of_head x read (tree_head_in x.0) refl some

-- ---- the tree of a name, by its records

module _ (records : List KeyedRecord) (info : Option KeyedRecord) (tops : List KeyedRecord) (m : State) (stand : StandsForState records info tops m) (name : List ℕ) where
  abbrev beside : TreesBeside
  beside = trees_beside info records tops

  abbrev is_named : KeyedRecord → Bool
  is_named r = bytes_eq r.head.name name

  record HeadOf (t : Tree) : Type 0 where
    r : KeyedRecord
    found : find (λ s. bytes_eq s.head.name name) (tree_records tops) ≡ Some r
    among : In r (tree_records tops)
    named : bytes_eq r.head.name name ≡ true
    holds : HoldsTree (trees_beside info records tops) r
    tree : saved_tree r holds.head holds.rows ≡ t

  holder : (r : KeyedRecord) → In r (tree_records tops) → HoldsTree (trees_beside info records tops) r
  holder r i = holds_tree beside r (all_at (λ s. is_some (tree_of beside s)) r (tree_records tops) stand.tree_readable i)

  head_in_tops : (t : Tree) → get m.trees name ≡ Some t → HeadOf t
  head_in_tops t e = by (find (λ s. bytes_eq s.head.name name) (tree_records tops)) refl (sym (stand.trees name) ∙ e)
    where
      by : (o : Option KeyedRecord) → find (λ s. bytes_eq s.head.name name) (tree_records tops) ≡ o → option_and_then (tree_of beside) o ≡ Some t → HeadOf t
      by None there e = absurd cc
      by (Some r) there e =
          let f = found (λ s. bytes_eq s.head.name name) r (tree_records tops) there in
          let h = holder r f.among in
          record { r = r; found = there; among = f.among; named = f.passes; holds = h; tree = same_Some (saved_tree r h.head h.rows) t (sym h.tree ∙ e) }

  no_head : get m.trees name ≡ None → find (λ s. bytes_eq s.head.name name) (tree_records tops) ≡ None
  no_head e = by (find (λ s. bytes_eq s.head.name name) (tree_records tops)) refl (sym (stand.trees name) ∙ e)
    where
      by : (o : Option KeyedRecord) → find (λ s. bytes_eq s.head.name name) (tree_records tops) ≡ o → option_and_then (tree_of beside) o ≡ None → o ≡ None
      by None there e = refl
      by (Some r) there e =
          let h = holder r (found (λ s. bytes_eq s.head.name name) r (tree_records tops) there).among in
          absurd (let bad : Some (saved_tree r h.head h.rows) ≡ None = sym h.tree ∙ e in cc)

-- a header that no other of its name outdates
module _ (tops : List KeyedRecord) (s : KeyedRecord) (name : List ℕ) where
  counts : is_tree_key s.head ≡ true → bytes_eq s.head.name name ≡ true → ((t : KeyedRecord) → In t tops → is_tree_key t.head ≡ true → bytes_eq t.head.name name ≡ true → t.head.cycle ≤ s.head.cycle)
      → is_tree_record tops s ≡ true
  counts tree named most =
      and_from (is_tree_key s.head) (not (is_outdated tops s)) tree
      (ap not (none_from (λ t. is_tree_key t.head && bytes_eq t.head.name s.head.name && ltb s.head.cycle t.head.cycle) tops
      (λ t i e.
      let one = and_parts (is_tree_key t.head && bytes_eq t.head.name s.head.name) (ltb s.head.cycle t.head.cycle) e in
      let two = and_parts (is_tree_key t.head) (bytes_eq t.head.name s.head.name) one.0 in
      let same : t.head.name ≡ name = (bytes_eq-Decides t.head.name s.head.name).0 two.1 ∙ (bytes_eq-Decides s.head.name name).0 named in
      let le = most t i two.0 ((bytes_eq-Decides t.head.name name).1 same) in
      let lt = ltb-true s.head.cycle t.head.cycle one.1 in
      absurd (omega (arith, le, lt)))))

  -- none of its name has a greater cycle
  none_higher : (r : KeyedRecord) → is_tree_record tops r ≡ true → is_tree_key s.head ≡ true → In s tops → s.head.name ≡ r.head.name → s.head.cycle ≤ r.head.cycle
  none_higher r whole tree i named =
      elim (cases_lt r.head.cycle s.head.cycle) [
        | inl lt ↦
            let fresh = not-true (is_outdated tops r) (and_parts (is_tree_key r.head) (not (is_outdated tops r)) whole).1 in
            absurd (none_at (λ t. is_tree_key t.head && bytes_eq t.head.name r.head.name && ltb r.head.cycle t.head.cycle) s tops fresh i
            (and_from _ _ (and_from _ _ tree ((bytes_eq-Decides s.head.name r.head.name).1 named)) (lt-ltb r.head.cycle s.head.cycle lt)))
        | inr ge ↦ ge
      ]

-- ---- the file

module _ (image : List ℕ) (m : State) (rc : ReadsClosed image m) (walk : AreRecordsOf (keyed_records rc.links) m) (tree : List ℕ) where
  abbrev records : List KeyedRecord
  records = keyed_records rc.links

  abbrev info : Option KeyedRecord
  info = info_key (keyed_records rc.links)

  abbrev classes : List ClassDef
  classes = described_classes (info_key (keyed_records rc.links))

  described_is : described_file image ≡ described_of rc.closed classes
  described_is =
      describe image rc.closed classes rc.closed_is
      (ap (described_at image) rc.info ∙ in_place image rc.links rc.chain info (λ r e. (info_among records r e).0) rc.stand.listed)

  summed : (o : Option KeyHead) → tree_key tree rc.closed.keys ≡ o → summarized_file tree image ≡ Ok (found_summary image classes o)
  summed o e =
      summarized_is tree image (record { closed = rc.closed; classes = classes }) described_is
      ∙ ap (λ (k : Option KeyHead). let r : Result TreeSummary HeadFault = Ok (found_summary image classes k) in r) e

  -- a listed key is that of a record
  listed_key : (k : KeyHead) → In k rc.closed.keys → (s : KeyedRecord) × In s rc.listed × (s.head ≡ k)
  listed_key k i = map_in (λ (s : KeyedRecord). s.head) k rc.listed (subst (λ (ks : List KeyHead). In k ks) (sym rc.heads) i)

  key_listed : (s : KeyedRecord) → In s rc.listed → In s.head rc.closed.keys
  key_listed s i = subst (λ (ks : List KeyHead). In s.head ks) rc.heads (in_map (λ (t : KeyedRecord). t.head) s rc.listed i)

  listed_top : (s : KeyedRecord) → In s rc.listed → In s (top_keys records)
  listed_top s i =
      in_filter (λ t. is_top_key t.head) s records (in_contained s records (All-contains (Contains records) rc.listed s rc.there (contains_in s rc.listed i)))
      (all_at (λ t. is_top_key t.head) s rc.listed rc.tops i)

  -- ---- where the state has no such tree

  no_key : get m.trees tree ≡ None → tree_key tree rc.closed.keys ≡ None
  no_key e = by (tree_key tree rc.closed.keys) refl (greatest tree (filter is_tree rc.closed.keys))
    where
      by : (o : Option KeyHead) → tree_key tree rc.closed.keys ≡ o → Greatest tree (filter is_tree rc.closed.keys) o → o ≡ None
      by None is g = refl
      by (Some k) is g =
          let in_keys = filter_in is_tree k rc.closed.keys g.among in
          let s = listed_key k in_keys.0 in
          let named : bytes_eq s.0.head.name tree ≡ true = ap (λ (h : KeyHead). bytes_eq h.name tree) s.2 ∙ g.named in
          let count = counts rc.listed s.0 tree (ap is_tree_key s.2 ∙ in_keys.1) named
          (λ t i tr nm.
          let le = g.most t.head (in_filter is_tree t.head rc.closed.keys (key_listed t i) tr) nm in
          let c = ap (λ (h : KeyHead). h.cycle) s.2 in omega (arith, le, c)) in
          absurd (none_at (λ r. bytes_eq r.head.name tree) s.0 (tree_records rc.listed) (any_none (λ r. bytes_eq r.head.name tree) (tree_records rc.listed) (no_head records info rc.listed m rc.stand tree e))
          (in_filter (is_tree_record rc.listed) s.0 rc.listed s.1 count) named)

  without_tree : get m.trees tree ≡ None → (s : TreeSummary) × (summarized_file tree image ≡ Ok s) × (s.baskets ≡ baskets_among records tree) × (s.sum ≡ int_wrap w128 (sum_of_rows (rows_among records tree)))
  without_tree e =
      let none : header_among records tree ≡ None = ap (option_and_then (header_in (file_classes info))) (no_head records info (top_keys records) m walk.stand tree e) in (
        no_summary,
        summed None (no_key e),
        ap (λ (o : Option TreeHead). option_map_or (λ head. basket_count head.branches) o 0) (sym none),
        sym zero_wrapped ∙ ap (λ (o : Option TreeHead). int_wrap w128 (sum_of_rows (unwrap_or (option_and_then (saved_rows (file_classes info).declared (record_at records)) o) []))) (sym none),
      )

  -- ---- where it has one

  module _ (t : Tree) (e : get m.trees tree ≡ Some t) where
    abbrev top : HeadOf records info (top_keys records) m walk.stand tree t
    top = head_in_tops records info (top_keys records) m walk.stand tree t e

    abbrev own : HeadOf records info rc.listed m rc.stand tree t
    own = head_in_tops records info rc.listed m rc.stand tree t e

    cycles : own.r.head.cycle ≡ top.r.head.cycle
    cycles = ap (λ (u : Tree). u.cycle) own.tree ∙ sym (ap (λ (u : Tree). u.cycle) top.tree)

    own_among : In own.r rc.listed × (is_tree_record rc.listed own.r ≡ true)
    own_among = filter_in (is_tree_record rc.listed) own.r rc.listed own.among

    top_among : In top.r (top_keys records) × (is_tree_record (top_keys records) top.r ≡ true)
    top_among = filter_in (is_tree_record (top_keys records)) top.r (top_keys records) top.among

    has_own : (r : KeyedRecord) → has_item (item_of_key r.head) r ≡ true
    has_own r = and_from (bytes_eq r.head.name r.head.name) (r.head.cycle == r.head.cycle) ((bytes_eq-Decides r.head.name r.head.name).1 refl) (eq-eqb r.head.cycle r.head.cycle refl)

    has_other : (r s : KeyedRecord) → bytes_eq r.head.name tree ≡ true → bytes_eq s.head.name tree ≡ true → s.head.cycle ≡ r.head.cycle → has_item (item_of_key r.head) s ≡ true
    has_other r s a b c =
        and_from (bytes_eq s.head.name r.head.name) (s.head.cycle == r.head.cycle)
        ((bytes_eq-Decides s.head.name r.head.name).1 ((bytes_eq-Decides s.head.name tree).0 b ∙ sym ((bytes_eq-Decides r.head.name tree).0 a))) (eq-eqb s.head.cycle r.head.cycle c)

    -- the header in the key list is that of the walk
    own_top : own.r ≡ top.r
    own_top =
        same_Some own.r top.r (sym (distinct_found (item_of_key top.r.head) own.r (top_keys records) walk.stand.distinct (listed_top own.r own_among.0) (has_other top.r own.r top.named own.named cycles))
        ∙ distinct_found (item_of_key top.r.head) top.r (top_keys records) walk.stand.distinct top_among.0 (has_own top.r))

    own_tree : is_tree_key own.r.head ≡ true
    own_tree = (and_parts (is_tree_key own.r.head) (not (is_outdated rc.listed own.r)) own_among.1).0

    its_key : tree_key tree rc.closed.keys ≡ Some top.r.head
    its_key = by (tree_key tree rc.closed.keys) refl (greatest tree (filter is_tree rc.closed.keys))
      where
        here : In own.r.head (filter is_tree rc.closed.keys)
        here = in_filter is_tree own.r.head rc.closed.keys (key_listed own.r own_among.0) own_tree

        by : (o : Option KeyHead) → tree_key tree rc.closed.keys ≡ o → Greatest tree (filter is_tree rc.closed.keys) o → o ≡ Some top.r.head
        by None is g = absurd (g own.r.head here own.named)
        by (Some k) is g =
            let in_keys = filter_in is_tree k rc.closed.keys g.among in
            let s = listed_key k in_keys.0 in
            let named : bytes_eq s.0.head.name tree ≡ true = ap (λ (h : KeyHead). bytes_eq h.name tree) s.2 ∙ g.named in
            let name : s.0.head.name ≡ own.r.head.name = (bytes_eq-Decides s.0.head.name tree).0 named ∙ sym ((bytes_eq-Decides own.r.head.name tree).0 own.named) in
            let low = none_higher rc.listed s.0 tree own.r own_among.1 (ap is_tree_key s.2 ∙ in_keys.1) s.1 name in
            let high = g.most own.r.head here own.named in
            let c = ap (λ (h : KeyHead). h.cycle) s.2 in
            let same : s.0 ≡ own.r =
            same_Some s.0 own.r (sym (distinct_found (item_of_key own.r.head) s.0 rc.listed rc.stand.distinct s.1 (has_other own.r s.0 own.named named (omega (arith, low, high, c))))
            ∙ distinct_found (item_of_key own.r.head) own.r rc.listed rc.stand.distinct own_among.0 (has_own own.r)) in
            ap (λ (h : KeyHead). let o : Option KeyHead = Some h in o) (sym s.2 ∙ ap (λ (x : KeyedRecord). x.head) (same ∙ own_top))

    abbrev head : TreeHead
    head = top.holds.head

    in_records : In top.r records
    in_records = (filter_in (λ r. is_top_key r.head) top.r records top_among.0).0

    its_value : HeaderValue (file_classes info) top.r top.holds.head
    its_value = header_value (file_classes info) top.r top.holds.head top.holds.header

    stored : stored_tree image classes top.r.head ≡ Ok top.holds.head
    stored =
        ap (λ (l : List ℕ). header_of_value (value_at classes top.r.head.class top.r.head.keylen l)) (data_there image rc.links rc.chain top.r in_records)
        ∙ ap header_of_value its_value.value
        ∙ ap header_or_text its_value.told

    -- its rows in the file
    keyed : AreKeyedIn (record_heads records) image (record_at records)
    keyed = records_keyed image (record_heads records) records (all_stand image 100 rc.links rc.chain.links_are) refl

    all_there : has_baskets (record_heads records) top.holds.head ≡ true
    all_there = rows_have_baskets image (record_heads records) (record_at records) keyed (file_classes info).declared top.holds.head (ap is_some top.holds.rows_are)

    in_file : file_rows.saved_rows (file_classes info).declared (file_rows.file_baskets image) top.holds.head ≡ Some top.holds.rows
    in_file =
        keyed_rows (record_heads records) image (file_classes info).declared top.holds.head all_there
        ∙ rows_keyed (file_classes info).declared image (record_heads records) (record_at records) top.holds.head keyed
        ∙ top.holds.rows_are

    abbrev summary_by : List Row → TreeSummary
    summary_by rows = record {
      entries = top.holds.head.entries;
      branches = length top.holds.head.branches;
      baskets = basket_count top.holds.head.branches;
      sum = int_wrap w128 (sum_of_rows rows);
    }

    summed_rows : summary_of_head image classes top.holds.head ≡ summary_by top.holds.rows
    summed_rows =
        ap (λ (cs : List ClassDef). summary_to image cs top.holds.head.branches top.holds.head.entries (basket_count top.holds.head.branches) top.holds.head.entries) (declared_are image rc.links rc.chain info rc.stand.listed)
        ∙ ap summary_by (rows_there_are image (file_classes info).declared top.holds.head (head_in_order its_value.v top.holds.head its_value.told) top.holds.rows in_file)

    header_is : header_among records tree ≡ Some top.holds.head
    header_is = ap (option_and_then (header_in (file_classes info))) top.found ∙ top.holds.header

    rows_are : rows_among records tree ≡ top.holds.rows
    rows_are =
        ap (λ (o : Option TreeHead). unwrap_or (option_and_then (saved_rows (file_classes info).declared (record_at records)) o) []) header_is
        ∙ ap (λ (o : Option (List Row)). unwrap_or o []) top.holds.rows_are

    pub state_rows : rows_among records tree ≡ t.saved
    state_rows = rows_are ∙ ap (λ (u : Tree). u.saved) top.tree

    with_tree : (s : TreeSummary) × (summarized_file tree image ≡ Ok s) × (s.baskets ≡ baskets_among records tree) × (s.sum ≡ int_wrap w128 (sum_of_rows (rows_among records tree)))
    with_tree =
        let is = sym (read_summary image classes top.r.head top.holds.head (plain image rc.links rc.chain top.r in_records) stored) ∙ summed_rows in
        let s = key_summary image classes top.r.head in (
          s,
          summed (Some top.r.head) its_key,
          ap (λ (x : TreeSummary). x.baskets) is ∙ ap (λ (o : Option TreeHead). option_map_or (λ head. basket_count head.branches) o 0) (sym header_is),
          ap (λ (x : TreeSummary). x.sum) is ∙ ap (λ (rows : List Row). int_wrap w128 (sum_of_rows rows)) (sym rows_are),
        )

  pub sums_up : (s : TreeSummary) × (summarized_file tree image ≡ Ok s) × (s.baskets ≡ baskets_among records tree) × (s.sum ≡ int_wrap w128 (sum_of_rows (rows_among records tree)))
  sums_up = by (get m.trees tree) refl
    where
      by : (o : Option Tree) → get m.trees tree ≡ o → (s : TreeSummary) × (summarized_file tree image ≡ Ok s) × (s.baskets ≡ baskets_among records tree) × (s.sum ≡ int_wrap w128 (sum_of_rows (rows_among records tree)))
      by None e = without_tree e
      by (Some t) e = with_tree t e

-- ---- the law

module _ (name : List ℕ) (datime : ℕ) (header : List ℕ) (links : List Link) (image tree : List ℕ) (m : State) (closed : IsWellClosed name datime header links image) (reads : ReadsAsState image m) (rc : ReadsClosed image m) where
  long : 63 ≤ length image
  long =
      let late = rc.chain.ends.later in
      let within = word_within image (chain_end rc.links) 0 rc.chain.ends.zero_word in
      omega (arith, late, within)

  small : SmallHead image rc.closed.head
  small = small_head image rc.closed.head long (head_of image rc.closed rc.closed_is) rc.small

  made : ReadsAsMade image m
  made = made_of image m rc.closed rc.links rc.closed_is rc.chain (is_unborn image) refl reads small.root.number

  walk : AreRecordsOf (keyed_records rc.links) m
  walk = subst (λ (l : List Link). AreRecordsOf (keyed_records l) m) (chain_one image made.links rc.links made.chain rc.chain) made.records

  same : HaveSameTrees (keyed_records links) (keyed_records rc.links)
  same =
      let is = closed_same closed.kept links closed.records closed.before image closed.made closed.chain.chain closed.written in
      subst (λ (l : List Link). HaveSameTrees (keyed_records links) (keyed_records l))
      (chain_one image (closed_links closed.kept links closed.records closed.before image closed.made closed.chain.chain closed.written) rc.links closed.written.chain.chain rc.chain) is

  sums : SumsUp links tree image
  sums =
      let s = sums_up image m rc walk tree in
      record {
        s = s.0;
        is = s.1;
        baskets = s.2 ∙ baskets_same (keyed_records links) (keyed_records rc.links) same tree;
        sum = s.3 ∙ ap (λ (rows : List Row). int_wrap w128 (sum_of_rows rows)) (rows_alike (keyed_records links) (keyed_records rc.links) same tree);
      }

  state_sums : SumsUpState links tree image m
  state_sums = record {
    sums = sums;
    rows = λ t e. sym (rows_alike (keyed_records links) (keyed_records rc.links) same tree) ∙ state_rows image m rc walk tree t e;
  }

pub closed_files_sum_up : ClosedFilesSumUp
closed_files_sum_up name datime header links image tree m closed reads rc = state_sums name datime header links image tree m closed reads rc
