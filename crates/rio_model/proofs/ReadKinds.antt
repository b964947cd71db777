-- The kinds of members that are printed are read again.
use Rattle.std.proofs.Common.{◌≡◌, ℕ, ◌+◌, ◌≤◌, List, [], ◌∷◌, ◌++◌, codes, length, Bool, true, false, ◌==◌, ◌&&◌, ◌||◌, not, nat_le, if◌then◌else◌, Option, Some, None, option_and_then, Ok, refl, ◌∙◌, ap, arith, append_assoc, length-append}
use Rattle.std.proofs.lemmas.Bool.{and_parts, leb-true, not-true, Decides.{nat_tests}}
use Rattle.std.specs.{Fmt.{decimal}, List.{list_all}, Str.{bytes_eq}}
use Rattle.rio_num.specs.{At.{At}, Word.{begins_name, goes_on_name, is_name_text}}
use Rattle.rio_format.specs.{declared.class.Member.{Member}, declared.kind.Kind.{Kind, TheVariants.{Plain, Counter, Fixed, Counted, Text, Inline, Pointer, Other}}}
use Rattle.rio_format.specs.declared.kind.Primitive.{Primitive, TheVariants.{I8, I16, I32, I64, U8, U16, U32, U64, Bool as Truth, F32, F64}}
use Rattle.rio_token.specs.{Tokens.{behind, scan_of}, Reading.{mark_at, marked}, Words.{decimal as decimal_of, num_between_of, written}}
use Rattle.rio_token.proofs.{DecimalLaws.{nums_are_read}, StandLaws.{IsWord, Stops, at, behind_word, name_is_word, next_is_word, word_that_back}}
use Rattle.rio_model.specs.{ClassGrammar.{dimension_of, has_i32, kind_at, plain_at, primitive_of, sized_at}, ClassText.{kind_text, primitive_text}}
use Rattle.rio_model.specs.Stated.{is_class_word, is_none}
use Rattle.rio_model.proofs.ReadWords.{decimal_word, name_as_it_is, no_digit}

-- what stands behind a kind
pub record IsEnd (rest : List ℕ) : Type 0 where
  pub stops : Stops rest
  pub no_star : (p : ℕ) → marked 42 (at p rest) ≡ false
  pub no_bracket : (p : ℕ) → marked 91 (at p rest) ≡ false

-- a kind as it is read, before it is known which members count
abbrev pub is_read_kind : List Member → Kind → Bool
is_read_kind before (Plain of) = true
is_read_kind before Counter = false
is_read_kind before (Fixed of count) = nat_le 1 count && nat_le count 100000
is_read_kind before (Counted of counter) = has_i32 before counter && is_name_text counter
is_read_kind before Text = true
is_read_kind before (Inline class) = is_class_word class
is_read_kind before (Pointer class) = is_name_text class
is_read_kind before (Other code) = false

pub primitive_back : (of : Primitive) → primitive_of (primitive_text of) ≡ Some of
unfolding primitive_of
primitive_back I8 = refl
primitive_back I16 = refl
primitive_back I32 = refl
primitive_back I64 = refl
primitive_back U8 = refl
primitive_back U16 = refl
primitive_back U32 = refl
primitive_back U64 = refl
primitive_back Truth = refl
primitive_back F32 = refl
primitive_back F64 = refl

pub primitive_named : (of : Primitive) → is_name_text (primitive_text of) ≡ true
primitive_named I8 = refl
primitive_named I16 = refl
primitive_named I32 = refl
primitive_named I64 = refl
primitive_named U8 = refl
primitive_named U16 = refl
primitive_named U32 = refl
primitive_named U64 = refl
primitive_named Truth = refl
primitive_named F32 = refl
primitive_named F64 = refl

bracket_no_star : (p : ℕ) (xs : List ℕ) → marked 42 (at p (91 ∷ xs)) ≡ false
unfolding scan_of
bracket_no_star p xs = refl

bracket_marked : (p : ℕ) (xs : List ℕ) → marked 91 (at p (91 ∷ xs)) ≡ true
unfolding scan_of
bracket_marked p xs = refl

behind_bracket : (p : ℕ) (xs : List ℕ) → behind (at p (91 ∷ xs)) ≡ at (p + 1) xs
unfolding scan_of
behind_bracket p xs = refl

star_marked : (p : ℕ) (xs : List ℕ) → marked 42 (at p (42 ∷ xs)) ≡ true
unfolding scan_of
star_marked p xs = refl

behind_star : (p : ℕ) (xs : List ℕ) → behind (at p (42 ∷ xs)) ≡ at (p + 1) xs
unfolding scan_of
behind_star p xs = refl

closes : (p : ℕ) (xs : List ℕ) → mark_at 93 (at p (93 ∷ xs)) ≡ Ok (tt, at (p + 1) xs)
unfolding scan_of mark_at
closes p xs = refl

-- a word in brackets
module _ (before : List Member) (of : Primitive) (w : List ℕ) (kind : Kind) (is : IsWord w) (says : dimension_of before of w ≡ Some kind) where
  sized_back : (p q : ℕ) (rest : List ℕ) → q ≡ p + length w + 1 → sized_at before of (at p (w ++ 93 ∷ rest)) ≡ Ok (kind, at q rest)
  unfolding sized_at
  sized_back p q rest e =
      let next = next_is_word p (p + length w) w (93 ∷ rest) is refl refl in
      let passed = behind_word p (p + length w) w (93 ∷ rest) is refl refl in
      let place : p + length w + 1 ≡ q = omega (arith, e) in
      rw (next, says, passed, closes (p + length w) rest, place) refl

  pub dimension_back : (p q : ℕ) (rest : List ℕ) → q ≡ p + length (primitive_text of ++ codes "[" ++ w ++ codes "]") → kind_at before (at p ((primitive_text of ++ codes "[" ++ w ++ codes "]") ++ rest)) ≡ Ok (kind, at q rest)
  unfolding kind_at
  dimension_back p q rest e =
      let t = primitive_text of in
      let text : (t ++ codes "[" ++ w ++ codes "]") ++ rest ≡ t ++ (91 ∷ (w ++ 93 ∷ rest)) = simp append_assoc in
      let sizes = length-append (t ++ codes "[" ++ w) (codes "]") in
      let sizes2 = length-append (t ++ codes "[") w in
      let sizes3 = length-append t (codes "[") in
      let name_end = p + length t in
      let place : q ≡ name_end + 1 + length w + 1 = omega (arith, e, sizes, sizes2, sizes3) in
      let word = word_that_back p name_end t (91 ∷ (w ++ 93 ∷ rest)) (name_is_word t (primitive_named of)) refl refl is_name_text (primitive_named of) in
      rw (text, word, bracket_no_star name_end (w ++ 93 ∷ rest), primitive_back of, bracket_marked name_end (w ++ 93 ∷ rest), behind_bracket name_end (w ++ 93 ∷ rest)) (sized_back (name_end + 1) q rest place)

-- a word that is a number
fixed_says : (before : List Member) (of : Primitive) (count : ℕ) → 1 ≤ count → count ≤ 100000 → dimension_of before of (decimal count) ≡ Some (Fixed of count)
unfolding dimension_of
fixed_says before of count low high =
    let num = nums_are_read count (omega arith) in
    let a : nat_le 1 count ≡ true = grind (arith, nat_tests) in
    let b : nat_le count 100000 ≡ true = grind (arith, nat_tests) in
    rw (num, a, b) refl

pub none_of : (f : ℕ → Option ℕ) (b : Bool) → (let none : Option ℕ = None in option_and_then f (if b then none else none) ≡ none)
none_of f true = refl
none_of f false = refl

no_number : (w : List ℕ) → is_name_text w ≡ true → num_between_of 1 100000 w ≡ None
unfolding decimal_of written
no_number [] h = absurd (cc)
no_number (b ∷ bs) h =
    let outer = and_parts (begins_name b && list_all goes_on_name bs) (nat_le (length (b ∷ bs)) 100) h in
    let inner = and_parts (begins_name b) (list_all goes_on_name bs) outer.0 in
    rw (no_digit b inner.0) (none_of (λ n. if nat_le 1 n && nat_le n 100000 then Some n else None) (not (b == 48) || (length bs == 0)))

counted_says : (before : List Member) (of : Primitive) (w : List ℕ) → is_name_text w ≡ true → has_i32 before w ≡ true → dimension_of before of w ≡ Some (Counted of w)
unfolding dimension_of
counted_says before of w named has = rw (no_number w named, has) refl

plain_back : (before : List Member) (of : Primitive) (p q : ℕ) (rest : List ℕ) → IsEnd rest → q ≡ p + length (primitive_text of) → kind_at before (at p (primitive_text of ++ rest)) ≡ Ok (Plain of, at q rest)
unfolding kind_at
plain_back before of p q rest f e =
    let word = word_that_back p q (primitive_text of) rest (name_is_word (primitive_text of) (primitive_named of)) f.stops e is_name_text (primitive_named of) in
    rw (word, f.no_star q, primitive_back of, f.no_bracket q) refl

chars_kind_back : (before : List Member) (p q : ℕ) (rest : List ℕ) → IsEnd rest → q ≡ p + 4 → kind_at before (at p (codes "text" ++ rest)) ≡ Ok (Text, at q rest)
unfolding kind_at primitive_of
chars_kind_back before p q rest f e =
    let word = word_that_back p q (codes "text") rest (name_is_word (codes "text") refl) f.stops e is_name_text refl in
    rw (word, f.no_star q) refl

plain_inline : (before : List Member) (class : List ℕ) (of : Option Primitive) (s : At) → is_none of ≡ true → bytes_eq class (codes "text") ≡ false → plain_at before class of s ≡ Ok (Inline class, s)
plain_inline before class None s none other = rw other refl
plain_inline before class (Some of) s none other = absurd (cc)

inline_back : (before : List Member) (class : List ℕ) → is_class_word class ≡ true → (p q : ℕ) (rest : List ℕ) → IsEnd rest → q ≡ p + length class → kind_at before (at p (class ++ rest)) ≡ Ok (Inline class, at q rest)
unfolding kind_at
inline_back before class is p q rest f e =
    let outer = and_parts (is_name_text class && is_none (primitive_of class)) (not (bytes_eq class (codes "text"))) is in
    let inner = and_parts (is_name_text class) (is_none (primitive_of class)) outer.0 in
    let word = word_that_back p q class rest (name_is_word class inner.0) f.stops e is_name_text inner.0 in
    rw (word, f.no_star q) (plain_inline before class (primitive_of class) (at q rest) inner.1 (not-true (bytes_eq class (codes "text")) outer.1))

pointer_back : (before : List Member) (class : List ℕ) → is_name_text class ≡ true → (p q : ℕ) (rest : List ℕ) → q ≡ p + length class + 1 → kind_at before (at p (class ++ 42 ∷ rest)) ≡ Ok (Pointer class, at q rest)
unfolding kind_at
pointer_back before class named p q rest e =
    let word = word_that_back p (p + length class) class (42 ∷ rest) (name_is_word class named) refl refl is_name_text named in
    let place : p + length class + 1 ≡ q = omega (arith, e) in
    rw (word, star_marked (p + length class) rest, behind_star (p + length class) rest, place) refl

-- the text of a kind is read as the kind
pub kind_back : (before : List Member) (kind : Kind) → is_read_kind before kind ≡ true → (p q : ℕ) (rest : List ℕ) → IsEnd rest → q ≡ p + length (kind_text kind) → kind_at before (at p (kind_text kind ++ rest)) ≡ Ok (kind, at q rest)
kind_back before (Plain of) h p q rest f e = plain_back before of p q rest f e
kind_back before Counter h p q rest f e = absurd (cc)
kind_back before (Fixed of count) h p q rest f e =
    let parts = and_parts (nat_le 1 count) (nat_le count 100000) h in
    let low : 1 ≤ count = leb-true 1 count parts.0 in
    let high : count ≤ 100000 = leb-true count 100000 parts.1 in
    dimension_back before of (decimal count) (Fixed of count) (decimal_word count (omega arith)) (fixed_says before of count low high) p q rest e
kind_back before (Counted of counter) h p q rest f e =
    let parts = and_parts (has_i32 before counter) (is_name_text counter) h in
    let plain = name_as_it_is counter parts.1 in
    let text : kind_text (Counted of counter) ≡ primitive_text of ++ codes "[" ++ counter ++ codes "]" = rw plain refl in
    rw text (dimension_back before of counter (Counted of counter) (name_is_word counter parts.1) (counted_says before of counter parts.1 parts.0) p q rest (e ∙ ap (λ (t : List ℕ). p + length t) text))
kind_back before Text h p q rest f e = chars_kind_back before p q rest f e
kind_back before (Inline class) h p q rest f e =
    let named = (and_parts (is_name_text class) (is_none (primitive_of class)) (and_parts (is_name_text class && is_none (primitive_of class)) (not (bytes_eq class (codes "text"))) h).0).0 in
    let plain = name_as_it_is class named in
    rw plain (inline_back before class h p q rest f (e ∙ ap (λ (t : List ℕ). p + length t) plain))
kind_back before (Pointer class) h p q rest f e =
    let plain = name_as_it_is class h in
    let text : kind_text (Pointer class) ++ rest ≡ class ++ 42 ∷ rest = rw plain (simp append_assoc) in
    let size : length (kind_text (Pointer class)) ≡ length (class ++ codes "*") = rw plain refl in
    let place : q ≡ p + length class + 1 = omega (arith, e, size, length-append class (codes "*")) in
    rw text (pointer_back before class h p q rest place)
kind_back before (Other code) h p q rest f e = absurd (cc)
