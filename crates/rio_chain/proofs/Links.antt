-- Segments, as they are found at a place.
use Rattle.std.proofs.Common.{◌≡◌, ◌≢◌, ◌⊎◌, ⊎_elim, ℕ, ◌+◌, ◌-◌, ◌%◌, ◌^◌, ◌<◌, ◌≤◌, Bool, true, false, List, length, length-take, length-drop, take, drop, Option, Some, None, refl, sym, ap, subst, ◌∙◌, arith}
use Rattle.std.proofs.lemmas.Bool.Decides.{nat_tests}
use Rattle.rio_host.specs.Image.{Has}
use Rattle.rio_host.proofs.Images.{has_length}
use Rattle.rio_chain.specs.{declared.segment.Segment.{Segment, TheVariants.{Record, Gap}}, Adjoining.{BeginsAt, segment_length, segment_place}}
use Rattle.rio_chain.specs.Segments.{Link, RecordAt, GapAt, link_length, HasWord, HoldsLink, HoldsRecord, IsPositive}
use Rattle.rio_host.specs.Reading.{FindsWord}
use Rattle.rio_chain.specs.Found.{MayPrecede, FindsLink, FindsRecord, FindsSegment, FindsWhole, IsKindOf, IsNoGap, segment_length_of}
use Rattle.rio_chain.proofs.Words.{held_long, held_positive, held_word, has_own, word_one, word_within}

-- ---- what the word of a segment says

pub record Sized (file : List ℕ) (place word : ℕ) (link : Link) : Type 0 where
  pub is : link_length link ≡ segment_length_of word
  pub some : 4 ≤ link_length link
  pub aligned : link_length link % 4 ≡ 0
  pub within : place + link_length link ≤ length file

pub small_length : (n : ℕ) → n < 2 ^ 31 → segment_length_of n ≡ n
small_length n lt = grind (arith, nat_tests)

pub large_length : (n : ℕ) → 2 ^ 31 ≤ n → segment_length_of n ≡ 2 ^ 32 - n
large_length n le = grind (arith, nat_tests)

pub sized : (file : List ℕ) (place word : ℕ) (link : Link) → HasWord file place word → HoldsLink file place link → Sized file place word link
sized file place word (RecordAt p bytes) w h =
    let same = word_one file place (length bytes) word (held_word file place bytes h.1) w in
    let positive = held_positive file place bytes h.1 in
    let long = held_long file place bytes h.1 in record {
      is = sym (small_length (length bytes) positive.1) ∙ ap segment_length_of same;
      some = long;
      aligned = h.1.whole.aligned;
      within = has_length file place bytes (length bytes - 1) (omega (arith, long)) h.1.there;
    }
sized file place word (GapAt p n) w h =
    let same = word_one file place (2 ^ 32 - n) word h.1.word w in
    let large = large_length (2 ^ 32 - n) (omega (arith, h.1.small)) in record {
      is = (let e : n ≡ segment_length_of (2 ^ 32 - n) = omega (arith, large, h.1.small) in e) ∙ ap segment_length_of same;
      some = h.1.some;
      aligned = h.1.aligned;
      within = h.1.within;
    }

abbrev pub IsBadLength : List ℕ → ℕ → ℕ → Type 0
IsBadLength file place n = (n < 4) ⊎ ((n % 4 ≢ 0) ⊎ (length file < place + n))

pub bad_length : (file : List ℕ) (place word : ℕ) → HasWord file place word → IsBadLength file place (segment_length_of word) → (link : Link) → ¬ HoldsLink file place link
bad_length file place word w bad link h =
    let s = sized file place word link w h in ⊎_elim
    (λ small. omega (arith, s.is, s.some, small))
    (λ others. ⊎_elim (λ odd. odd (subst (λ (k : ℕ). k % 4 ≡ 0) s.is s.aligned)) (λ past. omega (arith, s.is, s.within, past)) others)
    bad

-- place 100 is no gap's
pub no_first_gap : (file : List ℕ) (word : ℕ) → HasWord file 100 word → 2 ^ 31 ≤ word → (link : Link) → ¬ HoldsLink file 100 link
no_first_gap file word w large (RecordAt p bytes) h =
    let same = word_one file 100 (length bytes) word (held_word file 100 bytes h.1) w in
    let positive = held_positive file 100 bytes h.1 in omega (arith, same, positive.1, large)
no_first_gap file word w large (GapAt p n) h = omega (arith, h.1.later)

-- ---- a whole record

module _ (file : List ℕ) (place n : ℕ) where
  -- at another place than 100 a record is whole
  pub whole_elsewhere : (b : Bool) → place ≢ 100 → FindsRecord place n b file → FindsWhole place n b file
  whole_elsewhere true ne finds bytes long has = (finds bytes long has, λ is. absurd (ne is))
  whole_elsewhere false ne finds bytes long has = λ h. finds bytes long has h.whole

  -- the bytes there
  own : place + n ≤ length file → (bytes : List ℕ) × (length bytes ≡ n) × Has file place bytes
  own le = (take n (drop place file), omega (arith, le, length-take n (drop place file), length-drop place file), has_own file place n)

  pub whole_holds : place + n ≤ length file → FindsWhole place n true file → (bytes : List ℕ) × (length bytes ≡ n) × HoldsRecord file place bytes
  whole_holds le finds =
      let o = own le in
      let w = finds o.0 o.1 o.2 in (o.0, o.1, record { there = o.2; whole = w.0; first = w.1 })

  -- no record of n bytes, and no gap where the word is one of a record
  pub not_whole : HasWord file place n → n < 2 ^ 31 → FindsWhole place n false file → (link : Link) → ¬ HoldsLink file place link
  not_whole w small finds (RecordAt p bytes) h = finds bytes (word_one file place (length bytes) n (held_word file place bytes h.1) w) h.1.there h.1
  not_whole w small finds (GapAt p m) h =
      let same = word_one file place (2 ^ 32 - m) n h.1.word w in omega (arith, same, small, h.1.small, h.1.some)

-- ---- a segment and the word behind it

alone_by : (file : List ℕ) (place : ℕ) (behind : Option ℕ) → FindsWord place behind file → IsNoGap behind → (word : ℕ) → HasWord file place word → IsPositive word
alone_by file place (Some v) finds positive word w = subst IsPositive (word_one file place v word finds w) positive
alone_by file place None past none word w = let le = word_within file place word w in absurd (omega (arith, le, past))

pub link_found : (file : List ℕ) (place : ℕ) (segment : Segment) (behind : Option ℕ) → BeginsAt place segment → FindsSegment place segment file → FindsWord (segment_place segment + segment_length segment) behind file → MayPrecede segment behind → FindsLink place segment behind file
link_found file place (Record p n) behind begins finds word apart =
    let same : n ≡ length finds.0 = sym finds.1 in
    let next : p + n ≡ place + length finds.0 = omega (arith, begins.there, same) in (
      RecordAt place finds.0,
      (refl, finds.2),
      (λ i. Record (begins.there i) (same i)),
      subst (λ (k : ℕ). FindsWord k behind file) next word,
    )
link_found file place (Gap p n) behind begins finds word apart =
    let next : p + n ≡ place + n = omega (arith, begins.there) in
    let here = subst (λ (k : ℕ). FindsWord k behind file) next word in (
      GapAt place n,
      (refl, finds (alone_by file (place + n) behind here apart)),
      (λ i. Gap (begins.there i) n),
      here,
    )

-- a gap beside a gap, or before END
pub not_alone : (file : List ℕ) (place word : ℕ) (segment : Segment) (behind : Option ℕ) → HasWord file place word → IsKindOf place word segment → BeginsAt place segment → segment_length segment ≡ segment_length_of word
    → FindsWord (segment_place segment + segment_length segment) behind file → ¬ MayPrecede segment behind → (link : Link) → ¬ HoldsLink file place link
not_alone file place word (Record p n) behind w kind begins size finds beside link h = beside tt
not_alone file place word (Gap p n) behind w kind begins size finds beside (RecordAt q bytes) h =
    let same = word_one file place (length bytes) word (held_word file place bytes h.1) w in
    let positive = held_positive file place bytes h.1 in omega (arith, same, positive.1, kind.0)
not_alone file place word (Gap p n) None w kind begins size finds beside (GapAt q m) h = beside tt
not_alone file place word (Gap p n) (Some v) w kind begins size finds beside (GapAt q m) h =
    let s = sized file place word (GapAt q m) w h in
    let next : p + n ≡ place + m = omega (arith, begins.there, size, s.is) in
    beside (h.1.alone v (subst (λ (k : ℕ). HasWord file k v) next finds))
