-- What is read of a kind.
use Rattle.std.proofs.Common.{◌≡◌, inl, inr, ℕ, pos, List, codes, Bool, true, false, ◌&&◌, nat_le, if◌then◌else◌, Option, Some, None, option_and_then, Ok, refl, ap, subst}
use Rattle.std.specs.Str.{bytes_eq}
use Rattle.rio_num.specs.{At.{At}, Reading.{◌>>=◌}, Word.{is_name_text}}
use Rattle.rio_num.proofs.ReadLaws.{bind_ok, chosen, if_is, ok_is}
use Rattle.rio_format.specs.{declared.class.Member.{Member}, declared.kind.Kind.{Kind, TheVariants.{Plain, Counter, Fixed, Counted, Text, Inline, Pointer, Other}}, declared.kind.Primitive.{Primitive}}
use Rattle.rio_token.specs.{Tokens.{behind}, Reading.{mark_at, marked, name_at, next_word, num_between_at, some_if, taken_at, version_at, word_that_at}}
use Rattle.rio_token.specs.Words.{num_between_of, num_of}
use Rattle.rio_model.specs.ClassGrammar.{counted_by, dimension_of, fixed_or, has_i32, kind_at, plain_at, primitive_at, primitive_of, sized_at}
use Rattle.rio_model.specs.Stated.{is_class_version, is_class_word}

-- ---- single tokens

pub taken_ok : {A : Type 0} (o : Option A) (s : At) (y : A × At) → taken_at o s ≡ Ok y → o ≡ Some y.0
taken_ok None s y h = absurd (cc)
taken_ok {A} (Some x) s y h = ap (λ (q : A × At). Some q.0) (ok_is (x, behind s) y h)

passed : (test : List ℕ → Bool) (o : Option (List ℕ)) (w : List ℕ) → option_and_then (λ word. some_if (test word) word) o ≡ Some w → test w ≡ true
passed test None w h = absurd (cc)
passed test (Some v) w h =
    let p = if_is (test v) v w h in
    subst (λ (u : List ℕ). test u ≡ true) p.1 p.0

-- a word that is taken passed the test
pub word_that_ok : (test : List ℕ → Bool) (s : At) (y : List ℕ × At) → word_that_at test s ≡ Ok y → test y.0 ≡ true
unfolding word_that_at
word_that_ok test s y h = passed test (next_word s) y.0 (taken_ok (option_and_then (λ word. some_if (test word) word) (next_word s)) s y h)

bounded : (low high : ℕ) (o : Option ℕ) (n : ℕ) → option_and_then (λ m. if nat_le low m && nat_le m high then Some m else None) o ≡ Some n → (nat_le low n && nat_le n high) ≡ true
bounded low high None n h = absurd (cc)
bounded low high (Some m) n h =
    let p = if_is (nat_le low m && nat_le m high) m n h in
    subst (λ (k : ℕ). (nat_le low k && nat_le k high) ≡ true) p.1 p.0

between_ok : (low high : ℕ) (word : List ℕ) (n : ℕ) → num_between_of low high word ≡ Some n → (nat_le low n && nat_le n high) ≡ true
between_ok low high word n h = bounded low high (num_of word) n h

next_between : (low high : ℕ) (o : Option (List ℕ)) (n : ℕ) → option_and_then (num_between_of low high) o ≡ Some n → (nat_le low n && nat_le n high) ≡ true
next_between low high None n h = absurd (cc)
next_between low high (Some word) n h = between_ok low high word n h

version_between : (s : At) (y : ℕ × At) → version_at s ≡ Ok y → (nat_le 1 y.0 && nat_le y.0 32767) ≡ true
unfolding num_between_at
version_between s y h = next_between 1 32767 (next_word s) y.0 (taken_ok (option_and_then (num_between_of 1 32767) (next_word s)) s y h)

is_version : (v : ℕ) → (nat_le 1 v && nat_le v 32767) ≡ true → is_class_version (pos v) ≡ true
is_version v h = h

-- a version that is taken is one of a class
pub version_ok : (s : At) (y : ℕ × At) → version_at s ≡ Ok y → is_class_version (pos y.0) ≡ true
version_ok s y h = is_version y.0 (version_between s y h)

-- ---- kinds

-- a kind as it is read, before it is known which members count
abbrev pub is_raw_kind : List Member → Kind → Bool
is_raw_kind before (Plain of) = true
is_raw_kind before Counter = false
is_raw_kind before (Fixed of count) = nat_le 1 count && nat_le count 100000
is_raw_kind before (Counted of counter) = has_i32 before counter
is_raw_kind before Text = true
is_raw_kind before (Inline class) = is_class_word class
is_raw_kind before (Pointer class) = is_name_text class
is_raw_kind before (Other code) = false

module _ (before : List Member) where
  other : (k l : Kind) → k ≡ l → is_raw_kind before k ≡ true → is_raw_kind before l ≡ true
  other k l e h = subst (λ (x : Kind). is_raw_kind before x ≡ true) e h

  fixed_ok : (of : Primitive) (word : List ℕ) (o : Option ℕ) (k : Kind) → num_between_of 1 100000 word ≡ o → fixed_or of o (counted_by before of word) ≡ Some k → is_raw_kind before k ≡ true
  fixed_ok of word (Some n) k e h =
      let same : Fixed of n ≡ k = cc in
      other (Fixed of n) k same (between_ok 1 100000 word n e)
  fixed_ok of word None k e h =
      let p = if_is (has_i32 before word) (Counted of word) k h in
      other (Counted of word) k p.1 p.0

  dimension_ok : (of : Primitive) (word : List ℕ) (k : Kind) → dimension_of before of word ≡ Some k → is_raw_kind before k ≡ true
  unfolding dimension_of
  dimension_ok of word k h = fixed_ok of word (num_between_of 1 100000 word) k refl h

  next_dimension : (of : Primitive) (o : Option (List ℕ)) (k : Kind) → option_and_then (dimension_of before of) o ≡ Some k → is_raw_kind before k ≡ true
  next_dimension of None k h = absurd (cc)
  next_dimension of (Some word) k h = dimension_ok of word k h

  sized_ok : (of : Primitive) (s : At) (y : Kind × At) → sized_at before of s ≡ Ok y → is_raw_kind before y.0 ≡ true
  unfolding sized_at
  sized_ok of s y h =
      let dimension = option_and_then (dimension_of before of) (next_word s) in
      let a = bind_ok (taken_at dimension s) (λ kind. mark_at 93 kind.1 >>= λ close. Ok (kind.0, close.1)) y h in
      let b = bind_ok (mark_at 93 a.0.1) (λ close. Ok (a.0.0, close.1)) y a.2 in
      let same : a.0.0 ≡ y.0 = ap (λ (q : Kind × At). q.0) (ok_is (a.0.0, b.0.1) y b.2) in
      other a.0.0 y.0 same (next_dimension of (next_word s) a.0.0 (taken_ok dimension s a.0 a.1))

  primitive_ok : (of : Primitive) (s : At) (y : Kind × At) → primitive_at before of s ≡ Ok y → is_raw_kind before y.0 ≡ true
  primitive_ok of s y h =
      elim (chosen (marked 91 s) (sized_at before of (behind s)) (Ok (Plain of, s)) (Ok y) h) [
        | inl p ↦ sized_ok of (behind s) y p.1
        | inr p ↦ other (Plain of) y.0 (ap (λ (q : Kind × At). q.0) (ok_is (Plain of, s) y p.1)) refl
      ]

  plain_ok : (word : List ℕ) (o : Option Primitive) (s : At) (y : Kind × At) → is_name_text word ≡ true → primitive_of word ≡ o → plain_at before word o s ≡ Ok y → is_raw_kind before y.0 ≡ true
  plain_ok word (Some of) s y named e h = primitive_ok of s y h
  plain_ok word None s y named e h =
      elim (chosen (bytes_eq word (codes "text")) (Ok (Text, s)) (Ok (Inline word, s)) (Ok y) h) [
        | inl p ↦ other Text y.0 (ap (λ (q : Kind × At). q.0) (ok_is (Text, s) y p.1)) refl
        | inr p ↦
            let is : is_class_word word ≡ true = rw (named, e, p.0) refl in
            other (Inline word) y.0 (ap (λ (q : Kind × At). q.0) (ok_is (Inline word, s) y p.1)) is
      ]

  pub kind_ok : (s : At) (y : Kind × At) → kind_at before s ≡ Ok y → is_raw_kind before y.0 ≡ true
  unfolding kind_at
  kind_ok s y h =
      let w = bind_ok (name_at s) (λ word. if marked 42 word.1 then Ok (Pointer word.0, behind word.1) else plain_at before word.0 (primitive_of word.0) word.1) y h in
      let named = word_that_ok is_name_text s w.0 w.1 in
      let plain = plain_at before w.0.0 (primitive_of w.0.0) w.0.1 in
      elim (chosen (marked 42 w.0.1) (Ok (Pointer w.0.0, behind w.0.1)) plain (Ok y) w.2) [
        | inl p ↦ other (Pointer w.0.0) y.0 (ap (λ (q : Kind × At). q.0) (ok_is (Pointer w.0.0, behind w.0.1) y p.1)) named
        | inr p ↦ plain_ok w.0.0 (primitive_of w.0.0) w.0.1 y named refl p.1
      ]
