-- The entries of a branch, saved and pending: the header's baskets hold the saved ones, and those that were put since and the open one the others.
use Rattle.std.proofs.Common.{◌≡◌, inl, inr, ◌⊎◌, ℕ, zero, suc, ◌+◌, ◌-◌, ◌<◌, ◌≤◌, ◌^◌, List, [], ◌∷◌, ◌++◌, length, map, slice_get, Bool, true, false, not, ◌==◌, ◌&&◌, Option, Some, None, Result, Ok, Err, unwrap_or, refl, sym, ap, subst, ◌∙◌, append_assoc, append-nil, arith}
use Rattle.std.proofs.lemmas.Bool.{and_parts, eqb-true, ltb-true}
use Rattle.std.proofs.lemmas.List.{length-append, map-append}
use Rattle.std.specs.{Prelude.{nat_lt, option_and_then}, List.{concat}, Option.{option_map}, Result.{result_ok}}
use Rattle.rio_num.specs.Reading.{some_if}
use Rattle.rio_key.proofs.CutAll.{all_of_cut}
use Rattle.rio_key.specs.{Cut.{Cut, all_entries, cut_of, firsts_from}, BasketEntries.{entries_in}, OpenBasket.{entries_length}, declared.basket_fault.BasketFault.{BasketFault}}
use Rattle.rio_chain.specs.Segments.{Link}
use Rattle.rio_effect.proofs.SavedEntries.{as_many}
use Rattle.rio_effect.specs.{PutBaskets.{ArePutBaskets}, SavedRows.{HoldAllEntries, HoldsEntries}}
use Rattle.rio_fill.specs.{Fill.{BranchFill}, Laws.{IsSmall}}
use Rattle.rio_state.specs.{KeyedRecords.{keyed_records, record_at}, Trees.{RecordsAt, basket_bytes}}
use Rattle.rio_tree.specs.{Header.{has_offsets}, Index.{basket_counts, counts_from}, Refusals.{are_in_order, rise_behind}, SavedEntries.{counted_entries, entries_of_baskets}}
use Rattle.rio_tree.specs.declared.basket_at.BasketAt.{BasketAt}
use Rattle.rio_session.specs.{Fills.{branch_in_header, put_baskets, saved_baskets}, Scans.{AreEntriesOf}}

abbrev firsts : List BasketAt → List ℕ
firsts ats = map (λ at. at.first) ats

-- ---- baskets that are read hold entries

not_none : (n : ℕ) → not (n == 0) ≡ true → 0 < n
not_none zero e = absurd cc
not_none (suc n) e = omega arith

-- the first basket holds entries, and the others are read
record ReadFirst (f : RecordsAt) (offsets : Bool) (at : BasketAt) (count : ℕ) (ats : List BasketAt) (counts : List ℕ) (all : List (List ℕ)) : Type 0 where
  first : List (List ℕ)
  others : List (List ℕ)
  held : HoldsEntries f offsets at first
  many : length first ≡ count
  others_are : entries_of_baskets (basket_bytes f) offsets ats counts ≡ Some others
  all_are : all ≡ first ++ others

module _ (f : RecordsAt) (offsets : Bool) (at : BasketAt) (count : ℕ) (ats : List BasketAt) (counts : List ℕ) (all : List (List ℕ)) where
  abbrev Parts : Type 0
  Parts = ReadFirst f offsets at count ats counts all

  by_others : (bytes : List ℕ) (entries : List (List ℕ)) → basket_bytes f at ≡ Some bytes → entries_in offsets bytes ≡ Ok entries → length entries ≡ count → 0 < count
      → (others : Option (List (List ℕ))) → entries_of_baskets (basket_bytes f) offsets ats counts ≡ others → option_map (λ more. entries ++ more) others ≡ Some all → Parts
  by_others bytes entries there read many some None others_are e = absurd cc
  by_others bytes entries there read many some (Some others) others_are e = record {
    first = entries;
    others = others;
    held = record { bytes = bytes; there = there; read = read; some = omega (arith, many, some) };
    many = many;
    others_are = others_are;
    all_are = cc;
  }

  by_entries : (bytes : List ℕ) (r : Result (List (List ℕ)) BasketFault) → basket_bytes f at ≡ Some bytes → entries_in offsets bytes ≡ r
      → option_and_then (λ entries. option_map (λ more. entries ++ more) (entries_of_baskets (basket_bytes f) offsets ats counts))
      (option_and_then (λ entries. some_if (not (count == 0) && (length entries == count)) entries) (result_ok r)) ≡ Some all → Parts
  by_entries bytes (Err fault) there read e = absurd cc
  by_entries bytes (Ok entries) there read e = by (not (count == 0) && (length entries == count)) refl e
    where
      by : (b : Bool) → not (count == 0) && (length entries == count) ≡ b
          → option_and_then (λ entries. option_map (λ more. entries ++ more) (entries_of_baskets (basket_bytes f) offsets ats counts)) (some_if b entries) ≡ Some all → Parts
      by false t e = absurd cc
      by true t e =
          let parts = and_parts (not (count == 0)) (length entries == count) t in
          by_others bytes entries there read (eqb-true (length entries) count parts.1) (not_none count parts.0) (entries_of_baskets (basket_bytes f) offsets ats counts) refl e

  by_bytes : (o : Option (List ℕ)) → basket_bytes f at ≡ o
      → option_and_then (λ bytes. option_and_then (λ entries. option_map (λ more. entries ++ more) (entries_of_baskets (basket_bytes f) offsets ats counts)) (counted_entries offsets count bytes)) o ≡ Some all → Parts
  by_bytes None there e = absurd cc
  by_bytes (Some bytes) there e = by_entries bytes (entries_in offsets bytes) there refl e

  read_first : entries_of_baskets (basket_bytes f) offsets (at ∷ ats) (count ∷ counts) ≡ Some all → Parts
  read_first e = by_bytes (basket_bytes f at) refl e

-- these baskets hold the entries, from this one on
record HeldIn (f : RecordsAt) (offsets : Bool) (first : ℕ) (ats : List BasketAt) (xs : List (List ℕ)) : Type 0 where
  baskets : List (List (List ℕ))
  hold : HoldAllEntries f offsets ats baskets
  firsts_are : map (λ at. at.first) ats ≡ firsts_from first baskets
  all : xs ≡ all_entries baskets

module _ (f : RecordsAt) (offsets : Bool) where
  held_behind : (at : BasketAt) (ats : List BasketAt) (n : ℕ) (xs : List (List ℕ)) → rise_behind at.first ats ≡ true → entries_of_baskets (basket_bytes f) offsets (at ∷ ats) (counts_from at.first ats n) ≡ Some xs
      → HeldIn f offsets at.first (at ∷ ats) xs
  held_behind at [] n xs rise e =
      let parts = read_first f offsets at (n - at.first) [] [] xs e in
      let none : parts.others ≡ [] = let o = parts.others_are in cc in
      record {
        baskets = parts.first ∷ [];
        hold = (parts.held, tt);
        firsts_are = refl;
        all = parts.all_are ∙ ap (λ (l : List (List ℕ)). parts.first ++ l) none;
      }
  held_behind at (b ∷ bs) n xs rise e =
      let parts = read_first f offsets at (b.first - at.first) (b ∷ bs) (counts_from b.first bs n) xs e in
      let tests = and_parts (nat_lt at.first b.first) (rise_behind b.first bs) rise in
      let less = ltb-true at.first b.first tests.0 in
      let rest = held_behind b bs n parts.others tests.1 parts.others_are in
      let next : b.first ≡ at.first + length parts.first = omega (arith, less, parts.many) in
      record {
        baskets = parts.first ∷ rest.baskets;
        hold = (parts.held, rest.hold);
        firsts_are = ap (λ (l : List ℕ). at.first ∷ l) (rest.firsts_are ∙ ap (λ (k : ℕ). firsts_from k rest.baskets) next);
        all = parts.all_are ∙ ap (λ (l : List (List ℕ)). parts.first ++ l) rest.all;
      }

  held_from : (n : ℕ) (ats : List BasketAt) (xs : List (List ℕ)) → are_in_order n ats ≡ true → entries_of_baskets (basket_bytes f) offsets ats (basket_counts ats n) ≡ Some xs → HeldIn f offsets 0 ats xs
  held_from n [] xs order e = let none : xs ≡ [] = cc in record { baskets = []; hold = tt; firsts_are = refl; all = none }
  held_from n (at ∷ ats) xs order e =
      let tests = and_parts (at.first == 0) (rise_behind at.first ats) (let o : (at.first == 0) && rise_behind at.first ats ≡ true = order in o) in
      subst (λ (k : ℕ). HeldIn f offsets k (at ∷ ats) xs) (eqb-true at.first 0 tests.0) (held_behind at ats n xs tests.1 e)

  hold_both : (xs ys : List BasketAt) (bs cs : List (List (List ℕ))) → HoldAllEntries f offsets xs bs → HoldAllEntries f offsets ys cs → HoldAllEntries f offsets (xs ++ ys) (bs ++ cs)
  hold_both [] ys [] cs one two = two
  hold_both [] ys (b ∷ bs) cs one two = absurd one
  hold_both (x ∷ xs) ys [] cs one two = absurd one
  hold_both (x ∷ xs) ys (b ∷ bs) cs one two = (one.0, hold_both xs ys bs cs one.1 two)

-- ---- lists

firsts_both : (first : ℕ) (xs ys : List (List (List ℕ))) → firsts_from first (xs ++ ys) ≡ firsts_from first xs ++ firsts_from (first + length (all_entries xs)) ys
firsts_both first [] ys = ap (λ (n : ℕ). firsts_from n ys) (omega arith)
firsts_both first (x ∷ xs) ys =
    let rest = firsts_both (first + length x) xs ys in
    let long : first + length x + length (all_entries xs) ≡ first + length (x ++ all_entries xs) = omega (arith, length-append x (all_entries xs)) in
    ap (λ (l : List ℕ). first ∷ l) (rest ∙ ap (λ (n : ℕ). firsts_from (first + length x) xs ++ firsts_from n ys) long)

all_both : (xs ys : List (List (List ℕ))) → all_entries (xs ++ ys) ≡ all_entries xs ++ all_entries ys
all_both [] ys = refl
all_both (x ∷ xs) ys = ap (λ (l : List (List ℕ)). x ++ l) (all_both xs ys) ∙ sym (append_assoc x (all_entries xs) (all_entries ys))

-- an entry is no longer than all together
entry_low : (es : List (List ℕ)) (k : ℕ) (entry : List ℕ) → slice_get es k ≡ Some entry → length entry ≤ entries_length es
entry_low [] k entry is = absurd cc
entry_low (x ∷ es) zero entry is =
    let same : length x ≡ length entry = ap (λ (o : Option (List ℕ)). length (unwrap_or o x)) is in
    omega (arith, same, length-append x (concat es))
entry_low (x ∷ es) (suc k) entry is = omega (arith, entry_low es k entry is, length-append x (concat es))

-- ---- a branch

pub entries_are : (links : List Link) (saved count : ℕ) (b : BranchFill) (es xs : List (List ℕ)) → are_in_order saved (saved_baskets saved b) ≡ true
    → entries_of_baskets (basket_bytes (record_at (keyed_records links))) (has_offsets b.def.shape) (saved_baskets saved b) (basket_counts (saved_baskets saved b) saved) ≡ Some xs
    → saved_baskets saved b ++ put_baskets saved b ≡ b.baskets → ArePutBaskets (record_at (keyed_records links)) saved (branch_in_header saved b) (cut_of es) (put_baskets saved b) → b.entries ≡ (cut_of es).rest
    → count ≡ saved + length es → IsSmall b.entries → AreEntriesOf links count b (xs ++ es)
entries_are links saved count b es xs order read parted put opened many small =
    let f = record_at (keyed_records links) in
    let offsets = has_offsets b.def.shape in
    let own = held_from f offsets saved (saved_baskets saved b) xs order read in
    let cut = cut_of es in
    let long : length xs ≡ saved = as_many f offsets saved (saved_baskets saved b) xs order read in
    let begin : saved ≡ 0 + length (all_entries own.baskets) = omega (arith, long, ap (λ (l : List (List ℕ)). length l) own.all) in
    record {
      baskets = own.baskets ++ cut.put;
      hold = subst (λ (ats : List BasketAt). HoldAllEntries f offsets ats (own.baskets ++ cut.put)) parted (hold_both f offsets (saved_baskets saved b) (put_baskets saved b) own.baskets cut.put own.hold put.hold);
      firsts = ap (map (λ (at : BasketAt). at.first)) (sym parted)
          ∙ map-append (λ (at : BasketAt). at.first) (saved_baskets saved b) (put_baskets saved b)
          ∙ (λ i. own.firsts_are i ++ (put.firsts ∙ ap (λ (n : ℕ). firsts_from n cut.put) begin) i)
          ∙ sym (firsts_both 0 own.baskets cut.put);
      all = (λ i. own.all i ++ sym (all_of_cut es) i)
          ∙ sym (append_assoc (all_entries own.baskets) (all_entries cut.put) cut.rest)
          ∙ (λ i. sym (all_both own.baskets cut.put) i ++ sym opened i);
      many = omega (arith, long, many, length-append xs es);
      short = λ k entry is. omega (arith, entry_low b.entries k entry is, small.bytes);
    }
