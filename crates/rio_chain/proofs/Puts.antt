-- What a put of records one behind the other makes of a chain: at END, and in a gap.
use Rattle.std.proofs.Common.{◌≡◌, ◌⊎◌, inl, inr, ⊎_elim, ℕ, zero, suc, ◌+◌, ◌-◌, ◌%◌, ◌^◌, ◌<◌, ◌≤◌, List, [], ◌∷◌, ◌++◌, length, length-append, Some, refl, sym, ap, subst, ◌∙◌, arith}
use Rattle.std.proofs.lemmas.List.{append-nil}
use Rattle.std.specs.List.{slice_get}
use Rattle.byteorder.specs.{Endian.{big_bytes}, Numbers.{length-bytes_high_first}}
use Rattle.rio_host.specs.Image.{Has, Torn}
use Rattle.rio_host.proofs.Images.{has_keeps, has_front, has_back, slice_get-append_cases}
use Rattle.rio_chain.specs.{Batches.{AreRecordsFrom}, Segments.{Link, RecordAt, GapAt, end_from, chain_end, HoldsEnd, IsChain}}
use Rattle.rio_chain.specs.Stops.{BodyThenWord, KeepsFront}
use Rattle.rio_chain.proofs.Words.{word_keeps, word_of_bytes, word_within}
use Rattle.rio_chain.proofs.Chains.{BeginsRecord, Parts, PlainGap, PlainLinks, Spaced, chain_of, end-append, end-le, end_keeps, parts_of, plain-append, plain_cut, plain_keeps, spaced_as, spaced_back}

-- bytes that stand one behind the other
pub has_join : (file : List ℕ) (place : ℕ) (one two : List ℕ) → Has file place one → Has file (place + length one) two → Has file place (one ++ two)
has_join file place one two first second i x at = ⊎_elim
    (λ here. first i x here)
    (λ there. subst (λ (k : ℕ). slice_get file k ≡ Some x) (let e : place + length one + there.0 ≡ place + i = omega (arith, there.1) in e) (second there.0 x there.2))
    (slice_get-append_cases one two i x at)

-- the bytes of records behind the first word, and what is written behind them
pub record Tail (word : ℕ) (bytes tail more : List ℕ) : Type 0 where
  pub others : List ℕ
  pub records_are : bytes ≡ big_bytes 4 word ++ others
  pub tail_is : tail ≡ others ++ more

length-word : (n : ℕ) → length (big_bytes 4 n) ≡ 4
length-word n = length-bytes_high_first 4 n

-- ---- records one behind the other

unfoldable pub joined : List (List ℕ) → List ℕ
joined [] = []
joined (bytes ∷ records) = bytes ++ joined records

abbrev pub links_from : ℕ → List (List ℕ) → List Link
links_from place [] = []
links_from place (bytes ∷ records) = RecordAt place bytes ∷ links_from (place + length bytes) records

pub joined_end : (place : ℕ) (records : List (List ℕ)) → end_from place (links_from place records) ≡ place + length (joined records)
unfolding joined
joined_end place [] = omega arith
joined_end place (bytes ∷ records) = omega (arith, joined_end (place + length bytes) records, length-append bytes (joined records))

pub joined_aligned : (place : ℕ) (records : List (List ℕ)) → AreRecordsFrom place records → length (joined records) % 4 ≡ 0
unfolding joined
joined_aligned place [] whole = refl
joined_aligned place (bytes ∷ records) whole = omega (arith, whole.0.aligned, joined_aligned (place + length bytes) records whole.1, length-append bytes (joined records))

joined_there : (image : List ℕ) (place : ℕ) (records : List (List ℕ)) → 100 < place → Has image place (joined records) → AreRecordsFrom place records → PlainLinks image place (links_from place records)
unfolding joined
joined_there image place [] later has whole = tt
joined_there image place (bytes ∷ records) later has whole = (
  (refl, record { there = has_front image place bytes (joined records) has; whole = whole.0; first = λ is'. absurd (omega (arith, is', later)) }),
  joined_there image (place + length bytes) records (omega (arith, later)) (has_back image place (place + length bytes) bytes (joined records) (omega arith) has) whole.1,
)

joined_spaced : (place : ℕ) (records : List (List ℕ)) (back : List Link) → Spaced back → Spaced (links_from place records ++ back)
joined_spaced place [] back spaced = spaced
joined_spaced place (bytes ∷ records) back spaced = joined_spaced (place + length bytes) records back spaced

-- the records stand where their tail and the first word were written
module _ (file : List ℕ) (place word : ℕ) (bytes tail more image : List ℕ) (is : Tail word bytes tail more) (put : BodyThenWord file place tail (big_bytes 4 word) image) where
  size : length bytes ≡ 4 + length is.others
  size = omega (arith, ap length is.records_are, length-append (big_bytes 4 word) is.others, length-word word)

  pub tail_size : length tail + 4 ≡ length bytes + length more
  tail_size = omega (arith, size, ap length is.tail_is, length-append is.others more)

  -- bytes outside the range stay
  pub keeps_out : (i x : ℕ) → (i < place) ⊎ (place + length bytes + length more ≤ i) → slice_get file i ≡ Some x → slice_get image i ≡ Some x
  keeps_out i x out was = ⊎_elim
      (λ low. put.2.outside i x (inl low) (put.1.outside i x (inl (omega (arith, low))) was))
      (λ high. put.2.outside i x (inr (omega (arith, high, size, length-word word))) (put.1.outside i x (inr (omega (arith, high, tail_size))) was))
      out

  tail_there : Has image (place + 4) (is.others ++ more)
  tail_there = subst (Has image (place + 4)) is.tail_is (has_keeps put.0 image (place + 4) tail (λ i x low high was. put.2.outside i x (inr (omega (arith, low, length-word word))) was) put.1.written)

  pub bytes_there : Has image place bytes
  bytes_there = subst (Has image place) (sym is.records_are)
      (has_join image place (big_bytes 4 word) is.others put.2.written
      (subst (λ (p : ℕ). Has image p is.others) (let e : place + 4 ≡ place + length (big_bytes 4 word) = omega (arith, length-word word) in e) (has_front image (place + 4) is.others more tail_there)))

  pub more_there : Has image (place + length bytes) more
  more_there = has_back image (place + 4) (place + length bytes) is.others more (omega (arith, size)) tail_there

  pub put_front : 100 < place → KeepsFront file image
  put_front later i x low was = keeps_out i x (inl (omega (arith, low, later))) was

-- ---- at END

module _ (links : List Link) (file : List ℕ) (chain : IsChain links file) (end : ℕ) (ends : end ≡ chain_end links) where
  parts : Parts links file
  parts = parts_of links file chain

  pub end_later : 100 < end
  end_later = omega (arith, ends, parts.ends.later)

  pub end_within : end + 4 ≤ length file
  end_within = omega (arith, ends, word_within file (chain_end links) 0 parts.ends.zero_word)

  pub end_torn_front : (n : ℕ) (image : List ℕ) → Torn (end + 4) n file image → KeepsFront file image
  end_torn_front n image torn i x low was = torn.outside i x (inl (omega (arith, low, end_later))) was

  -- a write behind the zero word leaves the links, however it is torn
  pub end_torn : (n : ℕ) (image : List ℕ) → Torn (end + 4) n file image → IsChain links image
  end_torn n image torn = chain_of links image (record {
    plain = plain_keeps file image 100 links (end_torn_front n image torn) (λ i x low high was. torn.outside i x (inl (omega (arith, high, ends))) was) parts.plain;
    spaced = parts.spaced;
    ends = end_keeps file image (chain_end links) (λ i x low high was. torn.outside i x (inl (omega (arith, high, ends))) was) parts.ends;
  })

  pub end_put : (records : List (List ℕ)) (word : ℕ) (tail image : List ℕ) → AreRecordsFrom end records → Tail word (joined records) tail (big_bytes 4 0) → BodyThenWord file end tail (big_bytes 4 word) image → IsChain (links ++ links_from end records) image
  end_put records word tail image whole is put =
      let new = links_from end records in
      let bytes = joined records in
      chain_of (links ++ new) image (record {
        plain = plain-append image 100 links new kept (subst (λ (p : ℕ). PlainLinks image p new) ends (joined_there image end records end_later (bytes_there file end word bytes tail (big_bytes 4 0) image is put) whole));
        spaced = spaced_as links [] new (subst Spaced (sym (append-nil links)) parts.spaced) (λ none. absurd none) (subst Spaced (append-nil new) (joined_spaced end records [] tt));
        ends = subst (HoldsEnd image) (let e : end + length bytes ≡ chain_end (links ++ new) = sym (joined_end end records) ∙ ap (λ (p : ℕ). end_from p new) ends ∙ sym (end-append 100 links new) in e)
            (record { later = omega (arith, end_later); zero_word = word_of_bytes image (end + length bytes) 0 (omega arith) (more_there file end word bytes tail (big_bytes 4 0) image is put) });
      })
    where
      kept : PlainLinks image 100 links
      kept = plain_keeps file image 100 links (put_front file end word (joined records) tail (big_bytes 4 0) image is put end_later) (λ i x low high was. keeps_out file end word (joined records) tail (big_bytes 4 0) image is put i x (inl (omega (arith, high, ends))) was) parts.plain

-- ---- in a gap

abbrev pub filler : ℕ → List ℕ
filler zero = []
filler (suc k) = big_bytes 4 (2 ^ 32 - suc k)

abbrev pub rest_links : ℕ → ℕ → List Link → List Link
rest_links place zero back = back
rest_links place (suc k) back = GapAt place (suc k) ∷ back

-- nothing, or enough for a gap
abbrev pub IsRest : ℕ → Type 0
IsRest k = (k ≡ 0) ⊎ ((4 ≤ k) × (k % 4 ≡ 0))

filler_length : (k : ℕ) → IsRest k → length (filler k) ≤ k
filler_length zero some = omega arith
filler_length (suc k) some = ⊎_elim (λ none. absurd (omega (arith, none))) (λ four. omega (arith, four.0, length-word (2 ^ 32 - suc k))) some

module _ (links front back : List Link) (place m : ℕ) (is : links ≡ front ++ GapAt place m ∷ back) (file : List ℕ) (chain : IsChain links file) where
  whole_parts : Parts (front ++ GapAt place m ∷ back) file
  whole_parts = parts_of (front ++ GapAt place m ∷ back) file (subst (λ (l : List Link). IsChain l file) is chain)

  cut : PlainLinks file 100 front × PlainLinks file (chain_end front) (GapAt place m ∷ back)
  cut = plain_cut file 100 front (GapAt place m ∷ back) whole_parts.plain

  pub stands : place ≡ chain_end front
  stands = cut.1.0.0

  gap : PlainGap file place m
  gap = subst (λ (p : ℕ). PlainGap file p m) (sym stands) cut.1.0.1

  behind_gap : PlainLinks file (place + m) back
  behind_gap = subst (λ (p : ℕ). PlainLinks file (p + m) back) (sym stands) cut.1.1

  gap_spaced : BeginsRecord back × Spaced back
  gap_spaced = spaced_back front (GapAt place m ∷ back) whole_parts.spaced

  gap_end_is : chain_end (front ++ GapAt place m ∷ back) ≡ end_from (place + m) back
  gap_end_is = end-append 100 front (GapAt place m ∷ back) ∙ ap (λ (p : ℕ). end_from (p + m) back) (sym stands)

  ends_there : HoldsEnd file (end_from (place + m) back)
  ends_there = subst (HoldsEnd file) gap_end_is whole_parts.ends

  pub gap_later : 100 < place
  gap_later = gap.later

  -- what stands before it, and the gap
  pub gap_plain : PlainLinks file 100 front × PlainGap file place m
  gap_plain = (cut.0, gap)

  pub gap_within : place + 4 ≤ length file
  gap_within = word_within file place (2 ^ 32 - m) gap.word

  pub gap_torn_front : (n : ℕ) (image : List ℕ) → Torn (place + 4) n file image → KeepsFront file image
  gap_torn_front n image torn i x low was = torn.outside i x (inl (omega (arith, low, gap.later))) was

  -- a write within the gap, behind its word
  pub gap_torn : (n : ℕ) (image : List ℕ) → 4 + n ≤ m → Torn (place + 4) n file image → IsChain links image
  gap_torn n image fits torn = subst (λ (l : List Link). IsChain l image) (sym is) (chain_of (front ++ GapAt place m ∷ back) image (record {
    plain = plain-append image 100 front (GapAt place m ∷ back)
        (plain_keeps file image 100 front (gap_torn_front n image torn) (λ i x low high was. torn.outside i x (inl (omega (arith, high, stands))) was) cut.0)
        (subst (λ (p : ℕ). PlainLinks image p (GapAt place m ∷ back)) stands ((refl, same_gap), same_back));
    spaced = whole_parts.spaced;
    ends = subst (HoldsEnd image) (sym gap_end_is) same_end;
  }))
    where
      same_gap : PlainGap image place m
      same_gap = record {
        later = gap.later;
        word = word_keeps file image place (2 ^ 32 - m) (λ i x low high was. torn.outside i x (inl (omega (arith, high))) was) gap.word;
        some = gap.some;
        small = gap.small;
        aligned = gap.aligned;
      }

      same_back : PlainLinks image (place + m) back
      same_back = plain_keeps file image (place + m) back (gap_torn_front n image torn) (λ i x low high was. torn.outside i x (inr (omega (arith, low, fits))) was) behind_gap

      same_end : HoldsEnd image (end_from (place + m) back)
      same_end = end_keeps file image (end_from (place + m) back) (λ i x low high was. torn.outside i x (inr (omega (arith, low, fits, end-le (place + m) back))) was) ends_there

  module _ (records : List (List ℕ)) (word : ℕ) (tail : List ℕ) (k : ℕ) (fits : length (joined records) + k ≡ m) (some : IsRest k) (whole : AreRecordsFrom place records) (tail_is : Tail word (joined records) tail (filler k)) where
    abbrev bytes : List ℕ
    bytes = joined records

    abbrev new : List Link
    new = links_from place records

    pub tail_fits : 4 + length tail ≤ m
    tail_fits = omega (arith, fits, filler_length k some, tail_long)
      where
        tail_long : length tail + 4 ≡ length bytes + length (filler k)
        tail_long = omega (arith, ap length tail_is.records_are, length-append (big_bytes 4 word) tail_is.others, length-word word, ap length tail_is.tail_is, length-append tail_is.others (filler k))

    module _ (image : List ℕ) (put : BodyThenWord file place tail (big_bytes 4 word) image) where
      kept_out : (i x : ℕ) → (i < place) ⊎ (place + m ≤ i) → slice_get file i ≡ Some x → slice_get image i ≡ Some x
      kept_out i x out was = ⊎_elim
          (λ low. keeps_out file place word bytes tail (filler k) image tail_is put i x (inl low) was)
          (λ high. keeps_out file place word bytes tail (filler k) image tail_is put i x (inr (omega (arith, high, fits, filler_length k some))) was)
          out

      kept_front : KeepsFront file image
      kept_front = put_front file place word bytes tail (filler k) image tail_is put gap.later

      kept_back : PlainLinks image (place + m) back
      kept_back = plain_keeps file image (place + m) back kept_front (λ i x low high was. kept_out i x (inr low) was) behind_gap

      kept_end : HoldsEnd image (end_from (place + m) back)
      kept_end = end_keeps file image (end_from (place + m) back) (λ i x low high was. kept_out i x (inr (omega (arith, low, end-le (place + m) back))) was) ends_there

      rest_plain : (k p : ℕ) → p + k ≡ place + m → place ≤ p → IsRest k → k ≤ m → Has image p (filler k) → PlainLinks image p (rest_links p k back)
      rest_plain zero p ends' low some' le has = subst (λ (q : ℕ). PlainLinks image q back) (let e : place + m ≡ p = omega (arith, ends') in e) kept_back
      rest_plain (suc k) p ends' low some' le has =
          let four : (4 ≤ suc k) × (suc k % 4 ≡ 0) = ⊎_elim (λ none. absurd (omega (arith, none))) (λ four. four) some' in (
            (
              refl,
              record {
                later = omega (arith, low, gap.later);
                word = word_of_bytes image p (2 ^ 32 - suc k) (omega arith) has;
                some = four.0;
                small = omega (arith, le, gap.small);
                aligned = four.1;
              },
            ),
            subst (λ (q : ℕ). PlainLinks image q back) (sym ends') kept_back,
          )

      rest_spaced : (k p : ℕ) → Spaced (rest_links p k back)
      rest_spaced zero p = gap_spaced.1
      rest_spaced (suc k) p = gap_spaced

      rest_end : (k p : ℕ) → p + k ≡ place + m → end_from p (rest_links p k back) ≡ end_from (place + m) back
      rest_end zero p ends' = ap (λ (q : ℕ). end_from q back) (let e : p ≡ place + m = omega (arith, ends') in e)
      rest_end (suc k) p ends' = ap (λ (q : ℕ). end_from q back) ends'

      -- what is left of the gap
      abbrev left : List Link
      left = rest_links (place + length bytes) k back

      left_plain : PlainLinks image (end_from place new) left
      left_plain = subst (λ (p : ℕ). PlainLinks image p left) (sym (joined_end place records))
          (rest_plain k (place + length bytes) (omega (arith, fits)) (omega arith) some (omega (arith, fits)) (more_there file place word bytes tail (filler k) image tail_is put))

      left_end : end_from (place + m) back ≡ chain_end (front ++ (new ++ left))
      left_end =
          sym (rest_end k (place + length bytes) (omega (arith, fits)))
          ∙ ap (λ (p : ℕ). end_from p left) (sym (joined_end place records))
          ∙ sym (end-append place new left)
          ∙ ap (λ (p : ℕ). end_from p (new ++ left)) stands
          ∙ sym (end-append 100 front (new ++ left))

      -- the records stand in it
      pub gap_put : IsChain (front ++ (new ++ left)) image
      gap_put = chain_of (front ++ (new ++ left)) image (record {
        plain = plain-append image 100 front (new ++ left)
            (plain_keeps file image 100 front kept_front (λ i x low high was. kept_out i x (inl (omega (arith, high, stands))) was) cut.0)
            (subst (λ (p : ℕ). PlainLinks image p (new ++ left)) stands
            (plain-append image place new left (joined_there image place records gap.later (bytes_there file place word bytes tail (filler k) image tail_is put) whole) left_plain));
        spaced = spaced_as front (GapAt place m ∷ back) (new ++ left) whole_parts.spaced (λ none. absurd none) (joined_spaced place records left (rest_spaced k (place + length bytes)));
        ends = subst (HoldsEnd image) left_end kept_end;
      })
