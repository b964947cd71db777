-- What a file keeps looks at the pending rows of its trees alone.
use Rattle.std.proofs.Common.{◌≡◌, inl, inr, ℕ, ◌+◌, ◌∙◌, List, [], ◌∷◌, length, Option, refl, sym, ap}
use Rattle.std.proofs.lemmas.List.Sums.{sum_by-cons}
use Rattle.std.specs.{List.{cons_option}, Option.{option_map, option_map_or}}
use Rattle.rio_machine.specs.State.{Row}
use Rattle.rio_tree.specs.{WrittenLaws.{stated_defs}}
use Rattle.rio_state.specs.{Closing.{item_heads, kept_count, kept_with, name_in}, Contents.{FileClasses, file_classes}, Trees.{all_places_named, header_in}}
use Rattle.rio_state.specs.KeyedRecords.{KeyedRecord, info_key, keyed_records, top_keys, tree_records}
use Rattle.rio_state.specs.TreeLengths.{PendingRows, TreeLengths, cuts_of, put_among, put_count, tree_lengths, trees_among}
use Rattle.rio_state.proofs.Members.{In, contains_in}
use Rattle.rio_effect.specs.Garbage.{PendingByNames}

-- how many baskets of a header were put since, with these rows pending
abbrev pub put_of : FileClasses → KeyedRecord → List Row → ℕ
put_of classes r rows = option_map_or (λ head. put_count (cuts_of classes.declared (stated_defs head.branches) rows)) (header_in classes r) 0

abbrev lengths_of : FileClasses → KeyedRecord → List Row → Option TreeLengths
lengths_of classes r rows = option_map (tree_lengths classes.declared r.head.name rows) (header_in classes r)

module _ (classes : FileClasses) (pending other : PendingRows) where
  abbrev AreAlike : List KeyedRecord → Type 0
  AreAlike hs = (r : KeyedRecord) → In r hs → pending r.head.name ≡ other r.head.name

  trees_alike : (hs : List KeyedRecord) → AreAlike hs → trees_among classes pending hs ≡ trees_among classes other hs
  trees_alike [] same = refl
  trees_alike (r ∷ hs) same =
      let here = same r (inl refl) in
      let rest = trees_alike hs (λ s i. same s (inr i)) in
      λ i. cons_option (lengths_of classes r (here i)) (rest i)

  put_alike : (hs : List KeyedRecord) → AreAlike hs → put_among classes pending hs ≡ put_among classes other hs
  unfolding put_among
  put_alike [] same = refl
  put_alike (r ∷ hs) same =
      let here = ap (put_of classes r) (same r (inl refl)) in
      let rest = put_alike hs (λ s i. same s (inr i)) in
      sum_by-cons (λ s. put_of classes s (pending s.head.name)) r hs
      ∙ (λ i. here i + rest i)
      ∙ sym (sum_by-cons (λ s. put_of classes s (other s.head.name)) r hs)

pub pending_by_names : PendingByNames
unfolding kept_with
pending_by_names pending other links same =
    let records = keyed_records links in
    let headers = tree_records (top_keys records) in
    let classes = file_classes (info_key records) in
    let trees = trees_alike classes pending other headers (λ r i. same r (contains_in r headers i)) in
    let put = put_alike classes pending other headers (λ r i. same r (contains_in r headers i)) in
    λ i. record {
      name = name_in records;
      heads = item_heads (top_keys records);
      count = kept_count (info_key records) (item_heads (top_keys records)) + length (all_places_named classes headers) + put i;
      trees = trees i;
    }
