-- What a `Total` counts is what is written.
use Rattle.std.proofs.Common.{◌≡◌, ◌^◌, ◌+◌, ℕ, List, [], ◌++◌, length, take, drop, min, false, Result, Ok, Err, refl, sym, ap, subst, ◌∙◌, arith}
use Rattle.std.proofs.lemmas.List.{length-append, length-drop, length-take}
use Rattle.byteorder.specs.Endian.{big_bytes}
use Rattle.rio_num.specs.declared.no_memory.NoMemory.{NoMemory}
use Rattle.rio_format.specs.{ReaderState.{no_words, with_label}, Writer.{Writer, WriterState, begun, begun_pointer, class_bytes, counted_from, ended, next_place, nothing_written, with_count}, Written.{just, reference_bytes}}
use Rattle.rio_write.specs.{Measuring.{CountsFor, FollowsWords, Grows, Measured, Measures, longer, too_long}, Sinks.{Accepted, Closes, Opened, OpensIn}}
use Rattle.rio_write.specs.Writing.{with_written}
use Rattle.rio_write.proofs.{MeasureLaws.{back_grows, below_more, follows_on, just_grows}, WriteLaws.{first_written}}

-- it grows by what is written, and so counts it
pub grown_counts : (f : Writer) (old new : Measured) → Grows f old new → Accepted CountsFor f old new
unfolding Accepted Grows with_written
grown_counts f old new grows = λ s counts.
    let a = f (next_place s) s.words in
    let g = grows (next_place s) s.words counts.follows in
    let len = length-append s.bytes a.0 in
    record {
      total = omega (arith, g.0, counts.total, len);
      follows = follows_on new (next_place s + length a.0) (s.start + length (s.bytes ++ a.0)) a.1 (omega (arith, len)) g.1;
    }

abbrev pub measured : List (List ℕ) → ℕ → Measured
measured names t = record { total = t; names = names }

module _ (names : List (List ℕ)) (t t' : ℕ) where
  -- a number of bytes, whatever they are
  pub bytes_counted : (bytes : List ℕ) → t' ≡ min (t + length bytes) too_long → Accepted CountsFor (just bytes) (measured names t) (measured names t')
  bytes_counted bytes more = grown_counts (just bytes) (measured names t) (measured names t') (just_grows bytes (measured names t) (measured names t') (ap (measured names) more))

  pub back_counted : (label : ℕ) → t' ≡ min (t + 4) too_long → Accepted CountsFor (reference_bytes label) (measured names t) (measured names t')
  back_counted label more = grown_counts (reference_bytes label) (measured names t) (measured names t') (back_grows label (measured names t) (measured names t') (ap (measured names) more))

  pub header_counted : (version : ℕ) → t' ≡ min (t + 6) too_long → Opened CountsFor false (begun (big_bytes 2 version)) 0 (measured names t) (measured names t')
  unfolding Accepted Opened with_written
  header_counted version more = λ s counts.
      let now = bytes_counted (big_bytes 4 0 ++ big_bytes 2 version) more s counts in
      (record { total = now.total; follows = now.follows }, λ never. absurd cc)

module _ (m : Measured) where
  pub ended_counted : Closes CountsFor m m
  unfolding Closes
  ended_counted = λ s place counts inner low.
      let cut = length-take place s.bytes in
      let rest = length-drop (place + 4) s.bytes in
      let len : length (with_count place s.bytes) ≡ length s.bytes = omega (arith, low, cut, rest, length-append (take place s.bytes) (big_bytes 4 (counted_from place s.bytes + 2 ^ 30) ++ drop (place + 4) s.bytes)) in
      record { total = omega (arith, counts.total, len); follows = follows_on m (next_place s) (next_place (ended place s)) s.words (omega (arith, len)) counts.follows }

module _ (class : List ℕ) (m0 m1 m2 : Measured) (e : m1 ≡ longer 4 m0) where
  pub pointer_counted : Grows (class_bytes class) m1 m2 → Opened CountsFor false (begun_pointer class) 0 m0 m2
  unfolding Grows Opened
  pointer_counted w = λ s counts.
      let p = next_place s in
      let first : FollowsWords (longer 4 m0) (p + 4) s.words = record { names = counts.follows.names; below = below_more p (p + 4) s.words.names (omega arith) counts.follows.below; small = omega arith } in
      let a = class_bytes class (p + 4) s.words in
      let two = w (p + 4) s.words (subst (λ (m : Measured). FollowsWords m (p + 4) s.words) (sym e) first) in
      let total = ap (λ (m : Measured). m.total) e in
      let len = length-append s.bytes (big_bytes 4 0 ++ a.0) in
      let labelled : FollowsWords m2 (p + 4 + length a.0) (with_label a.1 p) = record { names = two.1.names; below = two.1.below; small = two.1.small } in (
        record { total = omega (arith, two.0, counts.total, total, len); follows = follows_on m2 (p + 4 + length a.0) (next_place (begun_pointer class s)) (with_label a.1 p) (omega (arith, len)) labelled },
        λ never. absurd cc,
      )

-- the same, or memory ran out
pub pointer_measured : {X : Type 0} (to : X → Measured) (class : List ℕ) (x x2 : X) (m1 : Measured) (r : Result (Unit {0}) NoMemory) → m1 ≡ longer 4 (to x) → Measures (class_bytes class) r m1 (to x2)
    → OpensIn (λ (x : X) (s : WriterState). CountsFor (to x) s) false (λ (b : Unit {0}). 0) (begun_pointer class) r x x2
unfolding Opened
pointer_measured to class x x2 m1 (Ok b) e w = pointer_counted class (to x) m1 (to x2) e w
pointer_measured to class x x2 m1 (Err b) e w = tt

-- the whole, from its beginning
module _ (f : Writer) (start : ℕ) (names names' : List (List ℕ)) (n : ℕ) where
  pub whole_counted : names ≡ [] → Accepted CountsFor f (measured names 0) (measured names' n) → n ≡ min (length (f start no_words).0) too_long
  unfolding Accepted
  whole_counted e taken =
      let none : CountsFor (measured [] 0) (nothing_written start) = record { total = refl; follows = record { names = λ class. refl; below = tt; small = omega arith } } in
      let after = taken (nothing_written start) (subst (λ (l : List (List ℕ)). CountsFor (record { total = 0; names = l }) (nothing_written start)) (sym e) none) in
      after.total ∙ ap (λ (l : List ℕ). min (length l) too_long) (first_written f start (with_written f (nothing_written start)) refl).0
