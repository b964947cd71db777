-- The records with which a run begins, and the keys among them in order.
use Rattle.std.proofs.Common.{◌≡◌, ◌∙◌, inl, inr, ⊎_elim, ℕ, ◌≤◌, ◌%◌, ◌/◌, List, [], ◌∷◌, ◌++◌, length, map, Bool, true, false, not, ◌||◌, Option, Some, None, refl, sym, ap, subst, arith}
use Rattle.std.proofs.{lemmas.Bool.{and_from, and_parts, not-true}, lemmas.Option.{same_Some}}
use Rattle.std.specs.Prelude.{MatchBool, codes, is_some, replicate}
use Rattle.std.specs.{Int.{bytes_high_first, cast_unsigned, w32}, List.{filter, list_any}}
use Rattle.rio_num.specs.{Room.{padding}, Text.{text_bytes}}
use Rattle.rio_key.specs.declared.head.KeyHead.{KeyHead}
use Rattle.rio_head.specs.Uuid.{uuid_of_file}
use Rattle.rio_dir.specs.{Listing.{key_lines}, Table.{AreOrdered, is_at_cycle, with_head}, Unborn.{is_unborn}}
use Rattle.rio_dir.proofs.TableLists.{ordered_with}
use Rattle.rio_chain.specs.{Record.{new_key, record_bytes}, Segments.{Link, RecordAt}}
use Rattle.rio_machine.specs.State.{State, empty_state}
use Rattle.rio_state.specs.DirectoryKeys.{AreKeysOf}
use Rattle.rio_state.specs.KeyedRecords.{KeyedRecord, has_item, is_outdated, is_tree_key, is_tree_record, item_of_key, keyed_records, object_records, top_keys, tree_records}
use Rattle.rio_state.specs.Reads.{AreRecordsOf, ReadsAsMade, ReadsAsState, are_distinct}
use Rattle.rio_state.proofs.{KeysFollow.{head_more, in_before, in_new, in_still}, Members.{In, contains_in, filter_in, in_contained, in_either, none_at, none_from}}
use Rattle.rio_state.proofs.{Collected.{own_item}, KeyRecords.{distinct_filter, distinct_found}}
use Rattle.rio_create.specs.NewFile.{file_texts, first_links, first_record, first_words}
use Rattle.rio_create.proofs.{NewFiles.{new_keys}, Uuids.{length-uuid}}
use Rattle.rio_recover.specs.Cleaning.{cleaned}
use Rattle.rio_recover.proofs.{CleanSteps.{garbage_is_cleaned}, Tables.{any_with, some_found}}
use Rattle.rio_session.specs.Opening.{OpensMade, OpensWith}
use Rattle.rootio.specs.{Beginnings.{BeginningsExist, HasBeginning}, Generated.{generated_line}, Writing.{target_of}, declared.words.Work.{Work, TheVariants.{Run, Recover, Import, Generate}}}

-- ---- the keys of records, in order

abbrev ordered_heads : List KeyedRecord → List KeyHead
ordered_heads [] = []
ordered_heads (r ∷ rs) = with_head r.head (ordered_heads rs)

any_ordered : (p : KeyHead → Bool) (rs : List KeyedRecord) → list_any p (ordered_heads rs) ≡ list_any (λ r. p r.head) rs
any_ordered p [] = refl
any_ordered p (r ∷ rs) = any_with p r.head (ordered_heads rs) ∙ ap (λ (b : Bool). p r.head || b) (any_ordered p rs)

none_found : {X : Type 0} (o : Option X) → is_some o ≡ false → o ≡ None
none_found None e = refl
none_found (Some x) e = absurd cc

are_ordered : (rs : List KeyedRecord) → are_distinct rs ≡ true → AreOrdered (ordered_heads rs)
are_ordered [] d = tt
are_ordered (r ∷ rs) d =
    let parts = and_parts (not (list_any (has_item (item_of_key r.head)) rs)) (are_distinct rs) d in
    let at : KeyHead → Bool = is_at_cycle r.head.name r.head.cycle in
    let none : list_any at (ordered_heads rs) ≡ false = any_ordered at rs ∙ not-true _ parts.0 in
    ordered_with r.head (ordered_heads rs) (are_ordered rs parts.1) (none_found _ (some_found at (ordered_heads rs) ∙ none))

from_ordered : (rs : List KeyedRecord) (h : KeyHead) → In h (ordered_heads rs) → In h (map (λ r. r.head) rs)
from_ordered [] h i = i
from_ordered (r ∷ rs) h i =
    ⊎_elim (λ e. inl e) (λ j. inr (from_ordered rs h j)) (in_before (ordered_heads rs) (with_head r.head (ordered_heads rs)) r.head (head_more r.head (ordered_heads rs)) h i)

to_ordered : (rs : List KeyedRecord) (h : KeyHead) → In h (map (λ r. r.head) rs) → In h (ordered_heads rs)
to_ordered [] h i = i
to_ordered (r ∷ rs) h (inl e) =
    subst (λ (k : KeyHead). In k (with_head r.head (ordered_heads rs))) e (in_new (ordered_heads rs) (with_head r.head (ordered_heads rs)) r.head (head_more r.head (ordered_heads rs)))
to_ordered (r ∷ rs) h (inr i) =
    in_still (ordered_heads rs) (with_head r.head (ordered_heads rs)) r.head (head_more r.head (ordered_heads rs)) h (to_ordered rs h i)

-- ---- the keys of a state's objects and trees

-- lists of which each is distinct, and no item of one is in the other
distinct_both : (rs others : List KeyedRecord) → are_distinct rs ≡ true → are_distinct others ≡ true
    → ((r : KeyedRecord) → In r rs → list_any (has_item (item_of_key r.head)) others ≡ false) → are_distinct (rs ++ others) ≡ true
distinct_both [] others d e apart = e
distinct_both (r ∷ rs) others d e apart =
    let has : KeyedRecord → Bool = has_item (item_of_key r.head) in
    let parts = and_parts (not (list_any has rs)) (are_distinct rs) d in
    let none : list_any has (rs ++ others) ≡ false = none_from has (rs ++ others) (λ s i there.
    ⊎_elim (λ j. none_at has s rs (not-true _ parts.0) j there) (λ j. none_at has s others (apart r (inl refl)) j there) (in_either s rs others i)) in
    and_from _ _ (ap not none) (distinct_both rs others parts.1 e (λ s i. apart s (inr i)))

module _ (records : List KeyedRecord) (m : State) (are : AreRecordsOf records m) where
  abbrev tops : List KeyedRecord
  tops = top_keys records

  abbrev items : List KeyedRecord
  items = object_records tops ++ tree_records tops

  -- no tree has the name and cycle of an object
  apart : (r : KeyedRecord) → In r (object_records tops) → list_any (has_item (item_of_key r.head)) (tree_records tops) ≡ false
  apart r i = none_from (has_item (item_of_key r.head)) (tree_records tops) clash
    where
      clash : (s : KeyedRecord) → In s (tree_records tops) → has_item (item_of_key r.head) s ≡ true → ⊥
      clash s j has =
          let object = filter_in (λ t. not (is_tree_key t.head)) r tops i in
          let tree = filter_in (is_tree_record tops) s tops j in
          let one = distinct_found (item_of_key r.head) r tops are.stand.distinct object.0 (own_item r) in
          let other = distinct_found (item_of_key r.head) s tops are.stand.distinct tree.0 has in
          let same : s ≡ r = same_Some s r (sym other ∙ one) in
          let is : is_tree_key r.head ≡ true = ap (λ (t : KeyedRecord). is_tree_key t.head) (sym same) ∙ (and_parts (is_tree_key s.head) (not (is_outdated tops s)) tree.1).0 in
          let no : false ≡ true = ap not (sym is) ∙ object.1 in
          absurd cc

  -- the records of a state have keys
  keys_exist : AreKeysOf records (ordered_heads items)
  keys_exist = record {
    ordered = are_ordered items (distinct_both (object_records tops) (tree_records tops) (distinct_filter _ tops are.stand.distinct) (distinct_filter _ tops are.stand.distinct) apart);
    each = λ head. (
      λ c. contains_in head _ (from_ordered items head (in_contained head _ c)),
      λ c. contains_in head _ (to_ordered items head (in_contained head _ c)),
    );
  }

-- ---- the record of a new file

-- four bytes of a number are those of what is left of it by 2 ^ 32
low_word : (n : ℕ) → bytes_high_first 4 n ≡ bytes_high_first 4 (n % 4294967296)
low_word n =
    let a : n / 16777216 % 256 ≡ n % 4294967296 / 16777216 % 256 = omega arith in
    let b : n / 65536 % 256 ≡ n % 4294967296 / 65536 % 256 = omega arith in
    let c : n / 256 % 256 ≡ n % 4294967296 / 256 % 256 = omega arith in
    let d : n % 256 ≡ n % 4294967296 % 256 = omega arith in
    λ i. a i ∷ b i ∷ c i ∷ d i ∷ []

module _ (name uuid : List ℕ) where
  -- by the bytes of its datime
  abbrev first_of : List ℕ → List ℕ
  first_of word =
      let zero : List ℕ = bytes_high_first 4 0 in
      let fields = bytes_high_first 2 5 ++ (word ++ (zero ++ (zero ++ (zero ++ (zero ++ (zero ++ (zero ++ uuid))))))) in
      let contents = file_texts name ++ (fields ++ replicate 12 0) in
      let key = new_key (first_words name 0) (length contents) in
      let numbers = bytes_high_first 4 (cast_unsigned w32 key.nbytes) ++ (bytes_high_first 2 4 ++ (bytes_high_first 4 key.objlen ++ (word ++ (bytes_high_first 2 key.keylen ++ (bytes_high_first 2 1 ++ (bytes_high_first 4 100 ++ zero)))))) in
      let front = (numbers ++ (text_bytes (codes "TFile") ++ (text_bytes name ++ text_bytes []))) ++ contents in
      front ++ padding front

  first_is : (datime : ℕ) → first_record name uuid datime ≡ first_of (bytes_high_first 4 datime)
  unfolding record_bytes
  first_is datime = refl

  first_same : (datime : ℕ) → first_record name uuid (datime % 4294967296) ≡ first_record name uuid datime
  first_same datime = first_is (datime % 4294967296) ∙ ap first_of (sym (low_word datime)) ∙ sym (first_is datime)

-- a new file has no keys of objects, whatever its datime is
no_keys : (name : List ℕ) (datime : ℕ) → length name ≤ 200 → AreKeysOf (keyed_records (first_links name datime)) []
no_keys name datime short =
    subst (λ (bytes : List ℕ). AreKeysOf (keyed_records (RecordAt 100 bytes ∷ [])) []) (first_same name (uuid_of_file name) datime)
    (new_keys name (uuid_of_file name) (datime % 4294967296) short (length-uuid name) (omega arith))

-- ---- beginnings

-- records with which a run begins, and their keys
record HasStart (name : List ℕ) (datime : ℕ) (file : List ℕ) : Type 0 where
  links : List Link
  begins : OpensWith name datime file links
  heads : List KeyHead
  keys : AreKeysOf (keyed_records links) heads

starts : (name : List ℕ) (datime : ℕ) (file : List ℕ) (m : State) → length name ≤ 200 → ReadsAsState file m → HasStart name datime file
starts name datime file m short reads = by (is_unborn file) refl reads
  where
    by : (b : Bool) → is_unborn file ≡ b → MatchBool b (m ≡ empty_state) (ReadsAsMade file m) → HasStart name datime file
    by true is new = record {
      links = first_links name datime;
      begins = subst (λ (b : Bool). MatchBool b (first_links name datime ≡ first_links name datime) (OpensMade file (first_links name datime))) (sym is) refl;
      heads = [];
      keys = no_keys name datime short;
    }
    by false is made =
        let heads = ordered_heads (items (keyed_records made.links) m made.records) in
        record {
          links = cleaned made.links;
          begins = subst (λ (b : Bool). MatchBool b (cleaned made.links ≡ first_links name datime) (OpensMade file (cleaned made.links))) (sym is) (made.links, made.chain, refl);
          heads = heads;
          keys = (garbage_is_cleaned file made.links made.chain).keys heads (keys_exist (keyed_records made.links) m made.records);
        }

pub beginnings_exist : BeginningsExist
beginnings_exist work file text input m short reads = by work (starts (target_of work).name (target_of work).datime file m short reads)
  where
    by : (w : Work) → HasStart (target_of w).name (target_of w).datime file → HasBeginning w file text input m
    by (Run target) start = record {
      b = record { file = file; text = text; input = input; links = start.links; state = m; listing = [] };
      file_is = refl;
      text_is = refl;
      input_is = refl;
      state_is = refl;
      begins = start.begins;
      listing = refl;
    }
    by (Recover target) start = record {
      b = record { file = file; text = text; input = input; links = start.links; state = m; listing = key_lines start.heads };
      file_is = refl;
      text_is = refl;
      input_is = refl;
      state_is = refl;
      begins = start.begins;
      listing = (start.heads, start.keys, refl);
    }
    by (Import target words) start = record {
      b = record { file = file; text = text; input = input; links = start.links; state = m; listing = [] };
      file_is = refl;
      text_is = refl;
      input_is = refl;
      state_is = refl;
      begins = start.begins;
      listing = refl;
    }
    by (Generate target entries) start = record {
      b = record { file = file; text = text; input = input; links = start.links; state = m; listing = generated_line target entries start.links };
      file_is = refl;
      text_is = refl;
      input_is = refl;
      state_is = refl;
      begins = start.begins;
      listing = refl;
    }
