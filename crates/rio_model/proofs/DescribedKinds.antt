-- The kinds that the elements of members give.
use Rattle.std.proofs.Common.{◌≡◌, ◌∙◌, ℕ, suc, zero, ◌-◌, List, [], ◌∷◌, ◌++◌, codes, length, drop, Bool, true, false, ◌==◌, ◌&&◌, ◌||◌, leb, refl, sym, ap, arith, length-append}
use Rattle.std.proofs.{Math.Seq.{drop-append_seam, take-append_seam}, lemmas.Bool.{and_parts, false_from_ne_true}, lemmas.Slice.Eq.{bytes_eq-Decides}}
use Rattle.std.specs.{Char.{is_ascii_digit, is_ascii_lowercase, is_ascii_uppercase}, List.{list_any, list_all}, Str.{bytes_eq}}
use Rattle.rio_num.specs.Word.{begins_name, goes_on_name, is_name_text}
use Rattle.rio_format.specs.{declared.class.ClassDef.{ClassDef}, declared.kind.Kind.TheVariants.{Plain, Counter, Fixed, Counted, Text, Inline, Pointer}}
use Rattle.rio_format.specs.{declared.kind.Primitive.{Primitive, TheVariants.{I8, I16, I32, I64, U8, U16, U32, U64, Bool as Boolean, F32, F64}}, Elements.{kind_of, own_kind, primitive_by_code, without_star}}
use Rattle.rio_format.specs.WrittenElements.{counted_element, counter_element, fixed_element, inline_element, plain_element, pointer_element, text_element, starred}
use Rattle.rio_model.proofs.{DescribedElements.{said}, DescribedValues.{text_back}}

-- ---- numbers and texts

pub plain_kind : (counters : List (List ℕ)) (name : List ℕ) (of : Primitive) → kind_of counters (said (plain_element name of)) ≡ Plain of
unfolding kind_of primitive_by_code own_kind
plain_kind counters name I8 = refl
plain_kind counters name I16 = refl
plain_kind counters name I32 = refl
plain_kind counters name I64 = refl
plain_kind counters name U8 = refl
plain_kind counters name U16 = refl
plain_kind counters name U32 = refl
plain_kind counters name U64 = refl
plain_kind counters name Boolean = refl
plain_kind counters name F32 = refl
plain_kind counters name F64 = refl

pub counter_kind : (counters : List (List ℕ)) (name : List ℕ) → kind_of counters (said (counter_element name)) ≡ Counter
unfolding kind_of primitive_by_code own_kind
counter_kind counters name = refl

pub text_kind : (counters : List (List ℕ)) (name : List ℕ) → kind_of counters (said (text_element name)) ≡ Text
unfolding kind_of primitive_by_code own_kind
text_kind counters name = refl

pub fixed_kind_back : (counters : List (List ℕ)) (name : List ℕ) (of : Primitive) (count : ℕ) → kind_of counters (said (fixed_element name of count)) ≡ Fixed of count
unfolding kind_of primitive_by_code own_kind
fixed_kind_back counters name I8 count = refl
fixed_kind_back counters name I16 count = refl
fixed_kind_back counters name I32 count = refl
fixed_kind_back counters name I64 count = refl
fixed_kind_back counters name U8 count = refl
fixed_kind_back counters name U16 count = refl
fixed_kind_back counters name U32 count = refl
fixed_kind_back counters name U64 count = refl
fixed_kind_back counters name Boolean count = refl
fixed_kind_back counters name F32 count = refl
fixed_kind_back counters name F64 count = refl

pub counted_kind_back : (counters : List (List ℕ)) (owner : ClassDef) (name : List ℕ) (of : Primitive) (counter : List ℕ) → list_any (bytes_eq counter) counters ≡ true → kind_of counters (said (counted_element owner name of counter)) ≡ Counted of counter
unfolding kind_of primitive_by_code own_kind
counted_kind_back counters owner name I8 counter h = rw (text_back counter, h) refl
counted_kind_back counters owner name I16 counter h = rw (text_back counter, h) refl
counted_kind_back counters owner name I32 counter h = rw (text_back counter, h) refl
counted_kind_back counters owner name I64 counter h = rw (text_back counter, h) refl
counted_kind_back counters owner name U8 counter h = rw (text_back counter, h) refl
counted_kind_back counters owner name U16 counter h = rw (text_back counter, h) refl
counted_kind_back counters owner name U32 counter h = rw (text_back counter, h) refl
counted_kind_back counters owner name U64 counter h = rw (text_back counter, h) refl
counted_kind_back counters owner name Boolean counter h = rw (text_back counter, h) refl
counted_kind_back counters owner name F32 counter h = rw (text_back counter, h) refl
counted_kind_back counters owner name F64 counter h = rw (text_back counter, h) refl

-- ---- objects and pointers

all_dropped : (p : ℕ → Bool) (k : ℕ) (xs : List ℕ) → list_all p xs ≡ true → list_all p (drop k xs) ≡ true
all_dropped p zero xs h = h
all_dropped p (suc k) [] h = refl
all_dropped p (suc k) (x ∷ xs) h = all_dropped p k xs (and_parts (p x) (list_all p xs) h).1

star_goes_on_no_name : list_all goes_on_name (codes "*") ≡ false
star_goes_on_no_name = refl

-- a name has no asterisk
no_star : (class : List ℕ) → list_all goes_on_name class ≡ true → bytes_eq (drop (length class - 1) class) (codes "*") ≡ false
no_star class h =
    let last = drop (length class - 1) class in
    false_from_ne_true (bytes_eq last (codes "*")) (λ t.
    let e : last ≡ codes "*" = (bytes_eq-Decides last (codes "*")).0 t in
    let there : list_all goes_on_name last ≡ true = all_dropped goes_on_name (length class - 1) class h in
    let clash : true ≡ false = sym there ∙ ap (list_all goes_on_name) e ∙ star_goes_on_no_name in
    cc)

or_more : (digit upper lower other : Bool) → (upper || lower || other) ≡ true → (digit || upper || lower || other) ≡ true
or_more true upper lower other h = refl
or_more false upper lower other h = h

first_goes_on : (b : ℕ) → begins_name b ≡ true → goes_on_name b ≡ true
first_goes_on b h = or_more (is_ascii_digit b) (is_ascii_uppercase b) (is_ascii_lowercase b) (b == 95) h

all_go_on : (class : List ℕ) → is_name_text class ≡ true → list_all goes_on_name class ≡ true
all_go_on [] h = refl
all_go_on (b ∷ bs) h =
    let outer = and_parts (begins_name b && list_all goes_on_name bs) (leb (length (b ∷ bs)) 100) h in
    let inner = and_parts (begins_name b) (list_all goes_on_name bs) outer.0 in
    rw (first_goes_on b inner.0, inner.1) refl

pub bare_name : (class : List ℕ) → is_name_text class ≡ true → without_star class ≡ class
unfolding without_star
bare_name class h = rw (no_star class (all_go_on class h)) refl

pub starred_name : (class : List ℕ) → without_star (starred class) ≡ class
unfolding without_star
starred_name class =
    let e : length (class ++ codes "*") - 1 ≡ length class = omega (arith, length-append class (codes "*")) in
    rw (e, drop-append_seam class (codes "*"), take-append_seam class (codes "*")) refl

pub inline_kind : (counters : List (List ℕ)) (reaches : Bool) (name class : List ℕ) → is_name_text class ≡ true → kind_of counters (said (inline_element reaches name class)) ≡ Inline class
unfolding kind_of primitive_by_code own_kind
inline_kind counters true name class h = ap Inline (bare_name class h)
inline_kind counters false name class h = ap Inline (bare_name class h)

pub pointer_kind : (counters : List (List ℕ)) (reaches : Bool) (name class : List ℕ) → kind_of counters (said (pointer_element reaches name class)) ≡ Pointer class
unfolding kind_of primitive_by_code own_kind
pointer_kind counters true name class = ap Pointer (starred_name class)
pointer_kind counters false name class = ap Pointer (starred_name class)
