-- The record of a put's object raises what a file holds by no more than the put's cost.
use Rattle.std.proofs.Common.{◌≡◌, inl, inr, ℕ, ◌+◌, ◌-◌, ◌%◌, ◌^◌, ◌<◌, ◌≤◌, ◌∙◌, List, [], ◌∷◌, length, map, true, Option, Some, None, refl, sym, ap, subst, arith}
use Rattle.std.specs.{Prelude.{if◌then◌else◌, is_some}, List.{flat_map, sum_by}}
use Rattle.rio_chain.specs.{declared.segment.Segment.{Segment}, Adjoining.{AreAdjacent, AreGapsApart, AreSegments, BeginsWithRecord}, Changes.{with_record}}
use Rattle.rio_chain.specs.Placing.{FreeSpace, IsPlaceFor, file_end, laid, laid_at, place_of, space_of, with_segment}
use Rattle.rio_chain.specs.Segments.{GapAt, HasWord, HoldsEnd, HoldsLinks, IsChain, IsPositive, Link, RecordAt, chain_end, end_from, segment_of}
use Rattle.rio_chain.proofs.{Laying.{laid_put}, Placed.{end_grows}, PutChain.{map_end, map_with}, Words.{held_long, whole_long}}
use Rattle.rio_free.specs.Gaps.{best_place}
use Rattle.rio_machine.specs.{State.{State}, declared.command.Command.TheVariants.{Put}, declared.refusal.Refusal.{Refusal}}
use Rattle.rio_chain.proofs.Records.{key_long}
use Rattle.rio_chain.specs.Record.{key_size}
use Rattle.rio_state.specs.{Closing.{free_length, held_beside, held_with, kept_with, list_length, name_in, saved_lengths}, KeyedRecords.{keyed_records}, TreeLengths.{PendingRows, idle_length, save_lengths, small_fillings}}
use Rattle.rio_state.proofs.{CloseSizes.{closing_sum}, MoreRecords.{first_stays}}
use Rattle.rio_num.specs.Word.{is_item_text}
use Rattle.rio_format.specs.declared.value.Value.{Value}
use Rattle.rio_model.specs.StateClasses.{StateClasses}
use Rattle.rio_step.specs.{Costs.{accepted_cost, cost_of, put_cost}, Refusing.{put_value, refusal_of}}
use Rattle.rio_effect.specs.{Laws.{HeldGrows}, ObjectRecord.{data_of_put, object_record, record_of_put, words_of_put}}
use Rattle.rio_effect.proofs.{Needs.{need_grows_by}, PutEffect.{is_object_key, puts_have_records}, PutObject.{accepted, key_short, new_record, own_class, put_record}}
use Rattle.rio_tree.proofs.WrittenLengths.{written_length}

-- ---- the segments of a file

module _ (file : List ℕ) where
  adjacent : (p : ℕ) (links : List Link) → HoldsLinks file p links → AreAdjacent p (map segment_of links)
  adjacent p [] h = tt
  adjacent p (RecordAt q bytes ∷ links) h =
      (record { there = h.0.0; some = held_long file p bytes h.0.1; aligned = h.0.1.whole.aligned }, adjacent (p + length bytes) links h.1)
  adjacent p (GapAt q n ∷ links) h = (record { there = h.0.0; some = h.0.1.some; aligned = h.0.1.aligned }, adjacent (p + n) links h.1)

  behind_gap : (p : ℕ) (links : List Link) → ((word : ℕ) → HasWord file p word → IsPositive word) → HoldsLinks file p links → HoldsEnd file (end_from p links) → BeginsWithRecord (map segment_of links)
  behind_gap p [] alone h end = let word = alone 0 end.zero_word in let some = word.0 in absurd (omega (arith, some))
  behind_gap p (RecordAt q bytes ∷ links) alone h end = tt
  behind_gap p (GapAt q n ∷ links) alone h end =
      let word = alone (2 ^ 32 - n) h.0.1.word in
      let low = word.1 in
      let small = h.0.1.small in
      absurd (omega (arith, low, small))

  apart : (p : ℕ) (links : List Link) → HoldsLinks file p links → HoldsEnd file (end_from p links) → AreGapsApart (map segment_of links)
  apart p [] h end = tt
  apart p (RecordAt q bytes ∷ links) h end = apart (p + length bytes) links h.1 end
  apart p (GapAt q n ∷ links) h end = (behind_gap (p + n) links h.0.1.alone h.1 end, apart (p + n) links h.1 end)

  first_record : (links : List Link) → HoldsLinks file 100 links → HoldsEnd file (end_from 100 links) → BeginsWithRecord (map segment_of links)
  first_record [] h end = let late = end.later in absurd (omega (arith, late))
  first_record (RecordAt q bytes ∷ links) h end = tt
  first_record (GapAt q n ∷ links) h end = let late = h.0.1.later in absurd (omega (arith, late))

  pub chain_segments : (links : List Link) → IsChain links file → AreSegments (map segment_of links)
  chain_segments links chain =
      record { first = first_record links chain.links_are chain.ends; adjacent = adjacent 100 links chain.links_are; apart = apart 100 links chain.links_are chain.ends }

-- ---- END

laid_low : (o : Option ℕ) (n : ℕ) (space : FreeSpace) → (laid_at o n space).end ≤ space.end + n
laid_low None n space = omega arith
laid_low (Some place) n space = omega arith

end_low : (segments : List Segment) (n place : ℕ) → AreSegments segments → 4 ≤ n → n % 4 ≡ 0 → IsPlaceFor segments n place → file_end (with_segment place n segments) ≤ file_end segments + n
end_low segments n place shape some aligned (inl at) =
    let put = (laid_put segments n shape some aligned).1 in
    let end : file_end (with_segment (place_of segments n) n segments) ≡ (laid n (space_of segments)).end = ap (λ (s : FreeSpace). s.end) put in
    let low = laid_low (best_place n (space_of segments).gaps) n (space_of segments) in
    subst (λ (p : ℕ). file_end (with_segment p n segments) ≤ file_end segments + n) (sym at) (omega (arith, end, low))
end_low segments n place shape some aligned (inr at) = let end = end_grows segments place n shape at in omega (arith, end)

pub chain_low : (file : List ℕ) (links : List Link) (place : ℕ) (bytes : List ℕ) → IsChain links file → 4 ≤ length bytes → length bytes % 4 ≡ 0 → IsPlaceFor (map segment_of links) (length bytes) place
    → chain_end (with_record place bytes links) ≤ chain_end links + length bytes
chain_low file links place bytes chain some aligned at =
    let low = end_low (map segment_of links) (length bytes) place (chain_segments file links chain) some aligned at in
    let old = map_end 100 links in
    let new = map_end 100 (with_record place bytes links) in
    let same : file_end (map segment_of (with_record place bytes links)) ≡ file_end (with_segment place (length bytes) (map segment_of links)) = ap file_end (map_with place bytes links) in
    omega (arith, low, old, new, same)

-- ---- what is held

sums_low : (end end' list list' free free' n k size pad : ℕ) → end' ≤ end + n → n ≡ k + (size + pad) → pad ≤ 3 → k ≤ 229 → list' ≡ list + k → free' ≡ free + 10
    → end' + ((list' + 3) + (free' + 3)) ≤ end + ((list + 3) + (free + 3)) + (500 + size)
sums_low end end' list list' free free' n k size pad one two three four five six = omega (arith, one, two, three, four, five, six)

-- where the first record stays the first, and END rises by no more than the record's length
pub held_more : (pending : PendingRows) (links : List Link) (m : State) (place datime : ℕ) (name : List ℕ) (v : Value) → place < 2 ^ 32 → datime < 2 ^ 32
    → name_in (keyed_records (with_record place (record_of_put m place datime name v) links)) ≡ name_in (keyed_records links)
    → chain_end (with_record place (record_of_put m place datime name v) links) ≤ chain_end links + length (record_of_put m place datime name v)
    → StateClasses m.classes → is_item_text name ≡ true → refusal_of m (Put name v) None ≡ None
    → held_with pending (with_record place (record_of_put m place datime name v) links) ≤ held_with pending links + put_cost m v
unfolding held_with object_record
held_more pending links m place datime name v low soon first end are named e =
    let ok = accepted m name v None e in
    let r = put_record m place datime name v ok are named low soon in
    let new = new_record m place datime name v ok are named low soon in
    let words = words_of_put m place datime name v in
    let contents = data_of_put m place datime name v in
    let key = is_object_key r.head refl (own_class m place datime name v ok are named) ok.free in
    let grows = need_grows_by pending links place r.bytes r.head first (new.key_read place) key.top key.object in
    let long = key_long words (length contents) in
    let same = written_length m.classes (key_size words) 0 (put_value m v) in
    let pad = (4 - (key_size words + length contents) % 4) % 4 in
    let before = kept_with pending links in
    let after = kept_with pending (with_record place r.bytes links) in
    let sum = sums_low (chain_end links) (chain_end (with_record place r.bytes links)) (list_length before) (list_length after) (free_length before) (free_length after) (length r.bytes) (key_size words) (length contents) pad end new.size (omega arith) (key_short m place datime name v ok are named)
    (grows.list ∙ ap (λ (n : ℕ). list_length before + n) long) grows.free in
    let saves : sum_by (λ n. n + 3) (saved_lengths after) ≡ sum_by (λ n. n + 3) (saved_lengths before) = ap (λ ts. sum_by (λ n. n + 3) (flat_map save_lengths ts)) grows.trees in
    let beside : held_beside after ≡ held_beside before = ap (λ ts. sum_by idle_length ts + sum_by small_fillings ts) grows.trees in
    omega (arith, sum, same, saves, beside, closing_sum (λ n. n + 3) before, closing_sum (λ n. n + 3) after)

pub held_grows : HeldGrows
unfolding cost_of
held_grows pending file links m place datime name v low soon chain at are named e =
    let bytes = record_of_put m place datime name v in
    let whole = (puts_have_records m place datime name v None low soon are named e).whole in
    let end = chain_low file links place bytes chain (whole_long place bytes whole) whole.aligned at in
    let more = held_more pending links m place datime name v low soon (first_stays file links place bytes chain) end are named e in
    let cost : cost_of m (Put name v) ≡ put_cost m v = ap (λ (o : Option Refusal). if is_some o then 0 else accepted_cost m (Put name v)) e in
    omega (arith, more, cost)
