-- A file holds at most three times its length and some: what a close writes of it is about what its records are.
use Rattle.std.proofs.Common.{◌≡◌, ℕ, ◌+◌, ◌*◌, ◌≤◌, ◌∙◌, codes, List, [], ◌∷◌, ◌++◌, length, map, Bool, true, false, cond, not, ◌&&◌, Option, Some, None, refl, sym, ap, subst, arith}
use Rattle.std.proofs.{lemmas.Bool.{and_parts, or_right}, lemmas.List.{length-append, length-map, Elements.{All-contains}, Sums.{sum_by-cons}}}
use Rattle.std.specs.{Prelude.{is_some}, List.{filter, sum_by}, Option.{option_map_or}, Str.{bytes_eq}}
use Rattle.rio_num.specs.{At.{AreBytes}, Text.{text_bytes}}
use Rattle.rio_key.specs.{Written.{written_key}, declared.head.KeyHead.{KeyHead}}
use Rattle.rio_chain.specs.Segments.{GapAt, IsChain, Link, RecordAt, chain_end}
use Rattle.rio_chain.proofs.Words.{word_within}
use Rattle.rio_machine.specs.State.{State}
use Rattle.rio_state.specs.{Closing.{held_of, held_with, item_heads, kept_in, kept_with, name_in}, Contents.{FileClasses, file_classes}, Holding.{AreHeadersBytes, HeldIsLimited}, Reads.{AreRecordsOf}}
use Rattle.rio_state.specs.KeyedRecords.{KeyedRecord, has_class, info_key, is_outdated, is_top_key, is_tree_key, is_tree_record, keyed_records, object_records, record_data, top_keys, tree_records}
use Rattle.rio_state.specs.{TreeLengths.{idle_length, none_pending, trees_among}, Trees.{TreesBeside, all_places_named, tree_of}}
use Rattle.rio_state.proofs.{CloseSizes.{closing_sum}, HeaderStands.{stands_long}, HeldTrees.{baskets_long, headers_written, is_basket, named_few}, NonePending.{all_idle}, TreesSame.{holds_tree}}
use Rattle.rio_state.proofs.{KeySums.{KeyFits, all_fit, bytes_length, end_behind, heads_length, key_fits, two_parts, written_of}, Places.{records_rise, rising_filter}}
use Rattle.rio_state.proofs.{LessRecords.{OwnRecord, first_class, first_internal, own_record, with_own}, Members.{In, all_at, contains_in, filter_in}, Stays.{not_top}}

-- ---- what is kept of them

not_both : (tops : List KeyedRecord) (r : KeyedRecord) → not (is_tree_key r.head) ≡ true → is_tree_record tops r ≡ false
not_both tops r e = by (is_tree_key r.head) e
  where
    by : (b : Bool) → not b ≡ true → (b && not (is_outdated tops r)) ≡ false
    by true e = absurd cc
    by false e = refl

-- no item is a basket
top_apart : (r : KeyedRecord) → is_top_key r.head ≡ true → is_basket r ≡ false
top_apart r top = by (is_basket r) refl
  where
    by : (b : Bool) → is_basket r ≡ b → b ≡ false
    by false e = refl
    by true e = let f : true ≡ false = sym top ∙ not_top r.head (or_right (has_class (codes "TFile") r.head) (is_basket r) e) in absurd cc

-- objects, headers and baskets are different records
items_within : (records : List KeyedRecord)
    → bytes_length (object_records (top_keys records)) + bytes_length (tree_records (top_keys records)) + bytes_length (filter is_basket records) ≤ bytes_length records
items_within records =
    let tops = top_keys records in
    let long = λ (s : KeyedRecord). length s.bytes in
    omega (
      arith,
      two_parts long (λ s. not (is_tree_key s.head)) (is_tree_record tops) (not_both tops) tops,
      two_parts long (λ s. is_top_key s.head) is_basket top_apart records,
    )

heads_two : (os hs : List KeyedRecord) → heads_length (map (λ r. r.head) (os ++ hs)) ≡ heads_length (map (λ r. r.head) os) + heads_length (map (λ r. r.head) hs)
heads_two [] hs = omega arith
heads_two (r ∷ os) hs =
    let long = λ (h : KeyHead). length (written_key h) in
    omega (arith, heads_two os hs, sum_by-cons long r.head (map (λ (s : KeyedRecord). s.head) (os ++ hs)), sum_by-cons long r.head (map (λ (s : KeyedRecord). s.head) os))

counted_one : (o : Option KeyedRecord) → option_map_or (λ (r : KeyedRecord). 1) o 0 ≤ 1
counted_one None = omega arith
counted_one (Some r) = omega arith

-- ---- the whole file

-- how long the class of a file's own records is, and no title
class_length : length (text_bytes (codes "TFile")) ≡ 6
class_length = refl

title_length : length (text_bytes []) ≡ 1
title_length = refl

-- the first record of a file, and the others
module _ (file : List ℕ) (bytes : List ℕ) (links : List Link) (chain : IsChain (RecordAt 100 bytes ∷ links) file) where
  abbrev whole : List Link
  whole = RecordAt 100 bytes ∷ links

  abbrev others : List KeyedRecord
  others = keyed_records links

  own : OwnRecord 100 bytes
  own = own_record file 100 100 bytes refl chain.links_are.0.1

  outside : is_top_key own.r.head ≡ false
  outside = not_top own.r.head (first_internal file 100 bytes own (chain.links_are.0.1.first refl))

  tops_are : top_keys (keyed_records whole) ≡ top_keys others
  tops_are = ap top_keys (with_own 100 bytes own links) ∙ ap (λ b. cond b (own.r ∷ top_keys others) (top_keys others)) outside

  name_is : name_in (keyed_records whole) ≡ own.r.head.name
  name_is = ap name_in (with_own 100 bytes own links)

  first_fits : 26 + length (text_bytes own.r.head.name) ≤ length bytes
  first_fits = (key_fits own.r.head bytes own.spelled (omega (arith, own.parts))).name

  within : 100 + length bytes + bytes_length others + 4 ≤ length file
  within = omega (arith, end_behind file (100 + length bytes) links chain.links_are.1, word_within file (chain_end whole) 0 chain.ends.zero_word)

  abbrev records : List KeyedRecord
  records = keyed_records whole

  abbrev tops : List KeyedRecord
  tops = top_keys records

  abbrev classes : FileClasses
  classes = file_classes (info_key records)

  baskets_are : filter is_basket records ≡ filter is_basket others
  baskets_are =
      let class = first_class file 100 bytes own (chain.links_are.0.1.first refl) in
      ap (filter is_basket) (with_own 100 bytes own links) ∙ ap (λ (c : List ℕ). cond (bytes_eq c (codes "TBasket")) (own.r ∷ filter is_basket others) (filter is_basket others)) class

  fits : (r : KeyedRecord) → In r records → KeyFits r
  fits r i = all_fit file 100 whole chain.links_are r i

  top_among : (r : KeyedRecord) → In r tops → In r records
  top_among r i = (filter_in (λ s. is_top_key s.head) r records i).0

  module _ (m : State) (is : AreRecordsOf records m) (headers : AreHeadersBytes records) where
    objects_written : heads_length (map (λ r. r.head) (object_records tops)) + 10 * length (object_records tops) ≤ 2 * bytes_length (object_records tops)
    objects_written = written_of (object_records tops) (λ r i. fits r (top_among r (filter_in (λ s. not (is_tree_key s.head)) r tops i).0))

    trees_written : sum_by idle_length (trees_among classes none_pending (tree_records tops)) + (heads_length (map (λ r. r.head) (tree_records tops)) + 10 * length (tree_records tops)) ≤ 2 * bytes_length (tree_records tops)
    trees_written = headers_written classes (tree_records tops) (λ r i.
        let parts = filter_in (is_tree_record tops) r tops i in
        let tree = (and_parts (is_tree_key r.head) (not (is_outdated tops r)) parts.1).0 in
        (fits r (top_among r parts.0), tree, stands_long (info_key records) is.stand.listed r tree (All-contains (λ s. AreBytes (record_data s)) (tree_records tops) r headers (contains_in r (tree_records tops) i))))

    named_written : 10 * length (all_places_named classes (tree_records tops)) ≤ bytes_length (filter is_basket records)
    named_written =
        let rise = rising_filter (is_tree_record tops) 100 tops (rising_filter (λ s. is_top_key s.head) 100 records (records_rise file 100 whole chain.links_are)) in
        let beside : TreesBeside = record { classes = classes; records = records; headers = tree_records tops } in
        let few = named_few classes records (tree_records tops) 100 rise (λ r i. holds_tree beside r (all_at (λ s. is_some (tree_of beside s)) r (tree_records tops) is.stand.tree_readable i)) in
        let each = baskets_long (filter is_basket records) (λ r i. fits r (filter_in is_basket r records i).0) in
        omega (arith, few, each)

    all_written : sum_by idle_length (trees_among classes none_pending (tree_records tops)) + heads_length (item_heads tops) + 10 * length (item_heads tops) + 10 * length (all_places_named classes (tree_records tops)) ≤ 2 * bytes_length others
    all_written = omega (
      arith,
      objects_written,
      trees_written,
      named_written,
      items_within others,
      heads_two (object_records tops) (tree_records tops),
      length-map (object_records tops ++ tree_records tops) (λ (s : KeyedRecord). s.head),
      length-append (object_records tops) (tree_records tops),
      ap (λ (ts : List KeyedRecord). bytes_length (object_records ts)) tops_are,
      ap (λ (ts : List KeyedRecord). bytes_length (tree_records ts)) tops_are,
      ap bytes_length baskets_are,
    )

    held_within : held_of whole ≤ 3 * length file + 10000
    unfolding held_with kept_with
    held_within =
        let kept = kept_in whole in
        let idle = all_idle classes (tree_records tops) in
        omega (
          arith,
          class_length,
          title_length,
          first_fits,
          all_written,
          within,
          word_within file (chain_end whole) 0 chain.ends.zero_word,
          closing_sum (λ n. n + 3) kept,
          ap (sum_by (λ n. n + 3)) idle.saves,
          idle.opened,
          idle.fillings,
          idle.put,
          ap (λ (name : List ℕ). length (text_bytes name)) name_is,
          counted_one (info_key records),
        )

pub held_is_limited : HeldIsLimited
held_is_limited file [] m chain is headers = let late = chain.ends.later in absurd (omega (arith, late))
held_is_limited file (GapAt p n ∷ links) m chain is headers = let late = chain.links_are.0.1.later in absurd (omega (arith, late))
held_is_limited file (RecordAt p bytes ∷ links) m chain is headers = at_first p chain.links_are.0.0 chain is headers
  where
    at_first : (q : ℕ) → q ≡ 100 → IsChain (RecordAt q bytes ∷ links) file → AreRecordsOf (keyed_records (RecordAt q bytes ∷ links)) m → AreHeadersBytes (keyed_records (RecordAt q bytes ∷ links))
        → held_of (RecordAt q bytes ∷ links) ≤ 3 * length file + 10000
    at_first q at chain is headers =
        subst (λ (k : ℕ). held_of (RecordAt k bytes ∷ links) ≤ 3 * length file + 10000) (sym at)
        (held_within file bytes links (subst (λ (k : ℕ). IsChain (RecordAt k bytes ∷ links) file) at chain) m
        (subst (λ (k : ℕ). AreRecordsOf (keyed_records (RecordAt k bytes ∷ links)) m) at is)
        (subst (λ (k : ℕ). AreHeadersBytes (keyed_records (RecordAt k bytes ∷ links))) at headers))
