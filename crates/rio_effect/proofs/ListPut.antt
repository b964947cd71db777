-- The record of a class list that counts once it is put, and what it leaves of trees, keys and needs.
use Rattle.std.proofs.Common.{◌≡◌, ℕ, ◌+◌, ◌-◌, ◌^◌, ◌<◌, ◌≤◌, ◌∙◌, ◌==◌, List, codes, length, replicate, Bool, true, false, Option, Some, None, Ok, refl, sym, ap, subst, arith}
use Rattle.std.proofs.lemmas.Bool.{or_right}
use Rattle.std.specs.{List.{flat_map, list_any, sum_by}, Option.{option_map_or}}
use Rattle.rio_format.specs.{declared.class.ClassDef.{ClassDef}, ClassList.{class_list_at}, Growth.{PicksStay}, TreeClasses.{written_classes}, WrittenList.{class_list_value}, Descriptions.{description_classes}}
use Rattle.rio_key.specs.{declared.head.KeyHead.{KeyHead}, Written.{written_key}}
use Rattle.rio_model.specs.StateClasses.{HasShortList, StateClasses}
use Rattle.rio_model.proofs.{ListNumbers.{written_are_described}, ListSpelled.{written_classes_are_read}}
use Rattle.rio_machine.specs.{Limits.{head_length}, State.{State}}
use Rattle.rio_chain.specs.{Changes.{with_record}, NewRecords.{IsNewRecord}, Segments.{IsChain, Link}}
use Rattle.rio_chain.specs.{Record.{FitsWords, key_size, new_key, record_bytes}, declared.key_words.KeyWords.{KeyWords}}
use Rattle.rio_chain.proofs.Records.{are_new_records}
use Rattle.rio_tree.proofs.WrittenLengths.{written_length}
use Rattle.rio_tree.specs.declared.head.TreeHead.{TreeHead}
use Rattle.rio_state.specs.{Closing.{KeptRecords, free_length, held_beside, item_heads, kept_count, kept_with, list_length, open_count, padded_length, saved_lengths}, Contents.{FileClasses, IsStateList, described_in, file_classes}, Left.{info_head}}
use Rattle.rio_state.specs.KeyedRecords.{KeyedRecord, has_class, info_key, is_info_key, is_internal, keyed_records, top_keys, tree_records}
use Rattle.rio_state.specs.{OneMore.{HasOneMoreIn}, Reads.{AreRecordsOf}, Referred.{is_named_basket}, TreeLengths.{PendingRows, idle_length, put_among, save_lengths, small_fillings, trees_among}, Trees.{all_places_named, header_in, is_named_place}}
use Rattle.rio_state.proofs.{CloseSizes.{closing_sum}, Members.{In, contains_in}, MoreRecords.{first_stays, record_more}, Stays.{not_info, tops_same}}
use Rattle.rio_step.specs.Costs.{info_size}
use Rattle.rio_effect.specs.{ClassRecord.{list_data, list_key_size, list_words, next_list_cycle}, Classes.{KeepsOneList, PendingFit, list_in}}
use Rattle.rio_effect.proofs.{ClassEffect.{IsNewerThan, next_counts, not_top}, OldLists.{IsListAmong}, PutEffect.{padded_as}, StatesDescribed.{states_are_described}}
use Rattle.rio_effect.proofs.{TreeNeeds.{weight}, TreesGrow.{LeavesTrees, all_places_grow, put_grows, trees_grow}, Unnamed.{none_names}}

-- the key of a class list isn't that of a basket
no_list_basket : (head : KeyHead) → is_info_key head ≡ true → has_class (codes "TBasket") head ≡ false
no_list_basket head key = by (has_class (codes "TBasket") head) refl
  where
    by : (b : Bool) → has_class (codes "TBasket") head ≡ b → b ≡ false
    by false e = refl
    by true e =
        let internal : is_internal head ≡ true = or_right _ _ e in
        let f : true ≡ false = sym key ∙ not_info head internal in absurd cc

newer_than : (info : Option KeyedRecord) (s : KeyedRecord) → info ≡ Some s → s.head.cycle < next_list_cycle (info_head info)
newer_than info s e = subst (λ (o : Option KeyedRecord). s.head.cycle < next_list_cycle (info_head o)) (sym e) (omega arith)

-- what is known of classes whose list is put in so high a cycle
pub record CanBeListed (links : List Link) (place datime : ℕ) (classes : List ClassDef) : Type 0 where
  pub low : place < 2 ^ 32
  pub soon : datime < 2 ^ 32
  pub are : StateClasses classes
  pub short : HasShortList classes
  pub few : length classes ≤ 4096
  pub cycle_low : next_list_cycle (list_in links) ≤ length classes + 1

module _ (links : List Link) (place datime : ℕ) (classes : List ClassDef) (can : CanBeListed links place datime classes) where
  abbrev old : List KeyedRecord
  old = keyed_records links

  abbrev pub cycle : ℕ
  cycle = next_list_cycle (list_in links)

  abbrev pub words : KeyWords
  words = list_words place datime cycle

  abbrev pub contents : List ℕ
  contents = list_data words classes

  abbrev keylen : ℕ
  keylen = key_size words

  keylen_is : keylen ≡ 64
  keylen_is = refl

  -- the list is as long wherever it begins
  same_length : length contents ≡ info_size classes
  same_length = written_length description_classes keylen 0 (class_list_value (written_classes classes))

  contents_short : length contents ≤ 16777216
  contents_short = omega (arith, can.short, same_length)

  pub words_fit : FitsWords words (length contents)
  words_fit = record {
    place = can.low;
    directory = omega arith;
    datime = can.soon;
    cycle = omega (arith, can.cycle_low, can.few);
    key = omega (arith, keylen_is);
    whole = omega (arith, keylen_is, contents_short);
  }

  pub new_list : IsNewRecord words contents
  new_list = are_new_records words contents words_fit

  abbrev pub r : KeyedRecord
  r = record { head = new_key words (length contents); bytes = record_bytes words contents }

  pub list_long : length r.bytes ≡ padded_length (list_key_size + info_size classes)
  list_long = new_list.size ∙ padded_as keylen (length contents) (info_size classes) same_length

  -- ---- the list

  abbrev zeros : List ℕ
  zeros = replicate new_list.zeros 0

  list_read : described_in r ≡ Ok (written_classes classes)
  list_read =
      let room : keylen + length contents ≤ 2 ^ 30 - 2 = omega (arith, keylen_is, contents_short) in
      ap (class_list_at keylen) new_list.contents_are
      ∙ written_classes_are_read (written_classes classes) keylen zeros (written_are_described classes (states_are_described classes can.are)) room

  pub is_list : IsStateList r classes
  is_list = record { class = refl; list = list_read; declared = can.are; cycle = can.cycle_low }

  pub newer : IsNewerThan r (info_key old)
  newer s there = newer_than (info_key old) s there

  -- ---- the file

  abbrev new : List KeyedRecord
  new = keyed_records (with_record place r.bytes links)

  pub more : HasOneMoreIn old new r
  more = record_more links place r.bytes r.head (new_list.key_read place)

  pub counts : info_key new ≡ Some r
  counts = next_counts old new r more refl newer

  pub tops_stay : top_keys new ≡ top_keys old
  tops_stay = tops_same old new r more (not_top r.head refl)

  abbrev headers : List KeyedRecord
  headers = tree_records (top_keys old)

  abbrev pub in_old : FileClasses
  in_old = file_classes (info_key old)

  abbrev pub in_new : FileClasses
  in_new = file_classes (Some r)

  module _ (m : State) (is : AreRecordsOf old m) (leaves : LeavesTrees in_old.declared in_new.declared) (picks : PicksStay in_old.described in_new.described) where
    pub places_grow : all_places_named in_new headers ≡ all_places_named in_old headers
    places_grow = all_places_grow in_old in_new leaves picks old headers is.stand.tree_readable

    -- no tree names the class list that counted before
    pub list_unnamed : (file : List ℕ) → IsChain links file → (s : KeyedRecord) → IsListAmong old s → is_named_basket new s ≡ false
    list_unnamed file chain s l =
        (λ i. is_named_place (file_classes (counts i)) (tree_records (tops_stay i)) s.head.seek)
        ∙ ap (list_any (λ p. p == s.head.seek)) places_grow
        ∙ none_names file links m s chain is l.among (no_list_basket s.head l.key)

    listed_once : (o : Option KeyedRecord) → ◌≡◌ {A = ℕ} (option_map_or (λ h. 1) (info_head o) 0) (option_map_or (λ k. 1) o 0)
    listed_once None = refl
    listed_once (Some k) = refl

    pub keeps_one : (file : List ℕ) → IsChain links file → (pending : PendingRows) → PendingFit pending links → KeepsOneList links (kept_with pending links) (kept_with pending (with_record place r.bytes links))
    unfolding kept_with
    keeps_one file chain pending fit =
        let fits = λ (s : KeyedRecord) (head : TreeHead) (i : In s headers) (e : header_in in_old s ≡ Some head). fit s head (contains_in s headers i) e in
        let trees = trees_grow in_old in_new leaves picks old headers is.stand.tree_readable pending fits in
        let puts = put_grows in_old in_new leaves picks old headers is.stand.tree_readable pending fits in
        let named : length (all_places_named (file_classes (info_key new)) (tree_records (top_keys new))) ≡ length (all_places_named in_old headers)
        = (λ i. length (all_places_named (file_classes (counts i)) (tree_records (tops_stay i)))) ∙ ap length places_grow in
        let put : put_among (file_classes (info_key new)) pending (tree_records (top_keys new)) ≡ put_among in_old pending headers
        = (λ i. put_among (file_classes (counts i)) pending (tree_records (tops_stay i))) ∙ puts in
        let heads : item_heads (top_keys new) ≡ item_heads (top_keys old) = ap item_heads tops_stay in
        let one : kept_count (info_key new) (item_heads (top_keys new)) ≡ 2 + length (item_heads (top_keys old)) = (λ i. kept_count (counts i) (heads i)) ∙ omega arith in
        record {
          name = first_stays file links place r.bytes chain;
          heads = heads;
          count = omega (arith, one, named, put, listed_once (info_key old));
          trees = (λ i. trees_among (file_classes (counts i)) pending (tree_records (tops_stay i))) ∙ trees;
        }

-- ---- what is held

-- one list more weighs no more than a part of the free record
pub weight_one : (links : List Link) (old new : KeptRecords) → KeepsOneList links old new → weight new ≤ weight old + 10
weight_one links old new k =
    let front : head_length (codes "TFile") new.name ≡ head_length (codes "TFile") old.name = ap (head_length (codes "TFile")) k.name in
    let heads : sum_by (λ h. length (written_key h)) new.heads ≡ sum_by (λ h. length (written_key h)) old.heads = ap (sum_by (λ h. length (written_key h))) k.heads in
    let opened : open_count new ≡ open_count old = ap (sum_by (λ t. length t.baskets)) k.trees in
    let list : list_length new ≡ list_length old = omega (arith, front, heads) in
    let count = k.count in
    let free : free_length new ≤ free_length old + 10 = omega (arith, front, count, opened) in
    let saves : sum_by (λ n. n + 3) (saved_lengths new) ≡ sum_by (λ n. n + 3) (saved_lengths old) = ap (λ ts. sum_by (λ n. n + 3) (flat_map save_lengths ts)) k.trees in
    let beside : held_beside new ≡ held_beside old = ap (λ ts. sum_by idle_length ts + sum_by small_fillings ts) k.trees in
    omega (arith, list, free, saves, beside, closing_sum (λ n. n + 3) old, closing_sum (λ n. n + 3) new)
