-- The records of a close fit behind one another, and each fits its fields.
use Rattle.std.proofs.Common.{◌≡◌, inl, ℕ, Bool, true, false, cond, ◌==◌, ◌+◌, ◌-◌, ◌*◌, ◌%◌, ◌^◌, ◌<◌, ◌≤◌, List, [], ◌∷◌, codes, length, length-append, Option, Some, None, refl, sym, ap, subst, ◌∙◌, arith}
use Rattle.std.proofs.lemmas.List.Elements.{All-cons, All-nil}
use Rattle.std.specs.List.{All, flat_map}
use Rattle.byteorder.specs.Endian.{big_bytes}
use Rattle.rio_key.specs.{Written.{padded_size, written_key}, declared.head.KeyHead.{KeyHead}}
use Rattle.rio_free.specs.{Gaps.{best_place, gap_end, gap_of}, Record.{free_bytes}, declared.gap.Gap.{Gap as FreeGap}}
use Rattle.rio_free.proofs.Written.{length-free}
use Rattle.rio_dir.specs.Table.{heads_size, key_list_bytes}
use Rattle.rio_dir.proofs.TableWritten.{length-flat}
use Rattle.rio_chain.specs.Adjoining.{AreAdjacent, AreGapsApart, AreSegments, BeginsWithRecord, segments_end}
use Rattle.rio_chain.specs.Placing.{FreeSpace, file_end, gaps_in, laid_at, place_of, record_count, rest_of_gap, space_of, with_segment}
use Rattle.rio_chain.specs.declared.segment.Segment.{Segment, TheVariants.{Record, Gap}}
use Rattle.rio_chain.proofs.{Laying.{laid_put}, Placed.{end-le, end_segments, gaps_end, low_place, place_free}}
use Rattle.rio_machine.specs.Limits.{head_length}
use Rattle.rio_chain.specs.{Record.{FitsWords, key_size, record_bytes}, declared.key_words.KeyWords.{KeyWords}, declared.record.NewRecord.{NewRecord}}
use Rattle.rio_chain.proofs.Records.{are_new_records}
use Rattle.rio_state.specs.Closing.{list_length, padded_length}
use Rattle.rio_state.specs.Sizes.{close_size, headless}
use Rattle.rio_close.specs.{Written.{IsOwnRecord, own_words, record_size}}

-- ---- lengths

pub padded_aligned : (n : ℕ) → padded_length n % 4 ≡ 0
padded_aligned n = omega arith

pub padded_grows : (a b : ℕ) → a ≤ b → padded_length a ≤ padded_length b
padded_grows a b le = omega (arith, le)

padded_is : (k n : ℕ) → k + padded_size k n ≡ padded_length (k + n)
padded_is k n = omega arith

pub list_length_is : (heads : List KeyHead) → length (key_list_bytes heads) ≡ 4 + heads_size heads
list_length_is heads = omega (arith, length-append (big_bytes 4 (length heads)) (flat_map written_key heads), length-flat written_key heads)

-- a record's numbers fit, where it ends before END's limit
pub words_fit : (place datime : ℕ) (name : List ℕ) (n : ℕ) → place ≤ 1999999996 → datime < 2 ^ 32 → head_length (codes "TFile") name < 2 ^ 16 → padded_length (head_length (codes "TFile") name + n) ≤ 1999999996 → FitsWords (own_words place datime name) n
words_fit place datime name n low time key whole = record {
  place = omega (arith, low);
  directory = omega arith;
  datime = time;
  cycle = omega arith;
  key = key;
  whole = omega (arith, whole, padded_is (head_length (codes "TFile") name) n);
}

pub record_length : (words : KeyWords) (contents bytes : List ℕ) → FitsWords words (length contents) → bytes ≡ record_bytes words contents → length bytes ≡ padded_length (key_size words + length contents)
record_length words contents bytes fits is = ap length is ∙ (are_new_records words contents fits).size ∙ padded_is (key_size words) (length contents)

-- ---- places

-- END rises by no more than a record's length
laid_low : (place : Option ℕ) (n : ℕ) (space : FreeSpace) → (laid_at place n space).end ≤ space.end + n
laid_low (Some p) n space = omega arith
laid_low None n space = omega arith

pub placed_low : (segments : List Segment) (n : ℕ) → AreSegments segments → 4 ≤ n → n % 4 ≡ 0 → file_end (with_segment (place_of segments n) n segments) ≤ file_end segments + n
placed_low segments n shape some aligned =
    let space = ap (λ (s : FreeSpace). s.end) (laid_put segments n shape some aligned).1 in
    omega (arith, space, laid_low (best_place n (gaps_in segments)) n (space_of segments))

pub place_low : (segments : List Segment) (place n : ℕ) → AreSegments segments → place ≡ place_of segments n → place ≤ file_end segments
place_low segments place n shape is = low_place segments place n shape (place_free segments n place (inl is))

pub end_gaps : (segments : List Segment) (place n : ℕ) → AreSegments segments → place ≡ file_end segments → gaps_in (with_segment place n segments) ≡ gaps_in segments
end_gaps segments place n shape is = ap gaps_in (end_segments segments place n shape is) ∙ gaps_end segments (file_end segments) n

-- ---- gaps

-- they end at END or before
gaps_low : (p end : ℕ) (segments : List Segment) → AreAdjacent p segments → segments_end p segments ≤ end → All (λ g. gap_end g ≤ end) (gaps_in segments)
gaps_low p end [] are le = All-nil (λ g. gap_end g ≤ end)
gaps_low p end (Record q n ∷ segments) are le = gaps_low (p + n) end segments are.1 le
gaps_low p end (Gap q n ∷ segments) are le =
    let at = are.0.there in
    All-cons (λ g. gap_end g ≤ end) (gap_of q n) (gaps_in segments) (omega (arith, at, end-le (p + n) segments, le)) (gaps_low (p + n) end segments are.1 le)

pub gaps_fit : (segments : List Segment) (gaps : List FreeGap) → AreSegments segments → gaps ≡ gaps_in segments → file_end segments ≤ 1999999996 → All (λ g. gap_end g ≤ 2 ^ 32) gaps
gaps_fit segments gaps shape is low =
    subst (λ (l : List FreeGap). All (λ g. gap_end g ≤ 2 ^ 32) l) (sym is) (gaps_low 100 (2 ^ 32) segments shape.adjacent (omega (arith, low)))

-- a record stands behind each
gaps_behind : (segments : List Segment) → AreGapsApart segments → (length (gaps_in segments) ≤ record_count segments) × (BeginsWithRecord segments → length (gaps_in segments) + 1 ≤ record_count segments)
gaps_behind [] apart = (omega arith, λ none. absurd none)
gaps_behind (Record p n ∷ segments) apart = let rest = gaps_behind segments apart in (omega (arith, rest.0), λ one. omega (arith, rest.0))
gaps_behind (Gap p n ∷ segments) apart = let rest = gaps_behind segments apart.1 in (omega (arith, rest.1 apart.0), λ none. absurd none)

pub few_gaps : (segments : List Segment) → AreSegments segments → length (gaps_in segments) + 1 ≤ record_count segments
few_gaps segments shape = (gaps_behind segments shape.apart).1 shape.first

-- ---- the two records

pub own_size : (place datime : ℕ) (name contents : List ℕ) (r : NewRecord) → IsOwnRecord (own_words place datime name) contents r → record_size r ≡ padded_length (head_length (codes "TFile") name + length contents)
own_size place datime name contents r own = record_length (own_words place datime name) contents r.bytes.bytes own.fits own.bytes

pub list_size : (place datime : ℕ) (name contents : List ℕ) (heads : List KeyHead) (r : NewRecord) → contents ≡ key_list_bytes heads → IsOwnRecord (own_words place datime name) contents r
    → record_size r ≡ padded_length (head_length (codes "TFile") name + 4 + heads_size heads)
list_size place datime name contents heads r is own =
    let long : head_length (codes "TFile") name + length contents ≡ head_length (codes "TFile") name + 4 + heads_size heads = omega (arith, ap length is, list_length_is heads) in
    own_size place datime name contents r own ∙ ap padded_length long

pub free_size_is : (place datime end : ℕ) (name contents : List ℕ) (gaps : List FreeGap) (r : NewRecord) → contents ≡ free_bytes gaps end → IsOwnRecord (own_words place datime name) contents r
    → record_size r ≡ padded_length (head_length (codes "TFile") name + 10 * (length gaps + 1))
free_size_is place datime end name contents gaps r is own =
    let long : head_length (codes "TFile") name + length contents ≡ head_length (codes "TFile") name + 10 * (length gaps + 1) = omega (arith, ap length is, length-free gaps end) in
    own_size place datime name contents r own ∙ ap padded_length long

-- the record of other words and data that are the same
pub own_as : (p q datime : ℕ) (name contents others : List ℕ) (r : NewRecord) → p ≡ q → contents ≡ others → IsOwnRecord (own_words p datime name) contents r → IsOwnRecord (own_words q datime name) others r
own_as p q datime name contents others r same is own =
    subst (λ (b : List ℕ). IsOwnRecord (own_words q datime name) b r) is (subst (λ (k : ℕ). IsOwnRecord (own_words k datime name) contents r) same own)

-- ---- room for both

pub count_with : (place n : ℕ) (segments : List Segment) → record_count (with_segment place n segments) ≡ record_count segments + 1
count_with place n [] = refl
count_with place n (Record p m ∷ segments) = omega (arith, count_with place n segments)
count_with place n (Gap p m ∷ segments) = by (p == place) (count_with place n segments)
  where
    rest : (b : Bool) (k : ℕ) → record_count (cond b segments (Gap (place + n) k ∷ segments)) ≡ record_count segments
    rest true k = refl
    rest false k = refl

    by : (b : Bool) → record_count (with_segment place n segments) ≡ record_count segments + 1
        → record_count (cond b (Record place n ∷ rest_of_gap (place + n) (m - n) segments) (Gap p m ∷ with_segment place n segments)) ≡ record_count segments + 1
    by true ih = omega (arith, rest (m - n == 0) (m - n))
    by false ih = ih

module _ (segments : List Segment) (name : List ℕ) (heads : List KeyHead) (low : file_end segments + close_size name (heads_size heads) (record_count segments) ≤ 1999999996) where
  abbrev key : ℕ
  key = head_length (codes "TFile") name

  whole : file_end segments + (padded_length (key + 4 + heads_size heads) + padded_length (key + 10 * (record_count segments + 2))) ≤ 1999999996
  unfolding close_size
  whole =
      let list : list_length (headless name (record_count segments)) + heads_size heads ≡ key + 4 + heads_size heads = omega arith in
      omega (arith, low, ap padded_length list)

  pub list_fits : file_end segments + padded_length (head_length (codes "TFile") name + 4 + heads_size heads) ≤ 1999999996
  list_fits = omega (arith, whole)

  pub free_fits : (n : ℕ) → AreSegments segments → n ≡ padded_length (head_length (codes "TFile") name + 4 + heads_size heads)
      → let after = with_segment (place_of segments n) n segments in file_end after + padded_length (head_length (codes "TFile") name + 10 * (length (gaps_in after) + 1)) ≤ 1999999996
  free_fits n shape is =
      let aligned : n % 4 ≡ 0 = ap (λ (k : ℕ). k % 4) is ∙ padded_aligned (key + 4 + heads_size heads) in
      let some : 4 ≤ n = omega (arith, is) in
      let after = with_segment (place_of segments n) n segments in
      let few = few_gaps after (laid_put segments n shape some aligned).0 in
      let more = padded_grows (key + 10 * (length (gaps_in after) + 1)) (key + 10 * (record_count segments + 2)) (omega (arith, few, count_with (place_of segments n) n segments)) in
      omega (arith, whole, placed_low segments n shape some aligned, is, more)
