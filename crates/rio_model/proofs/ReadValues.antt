-- What is printed of a value is read as the value, by induction on the value.
use Rattle.std.proofs.Common.{◌≡◌, ◌⊎◌, inl, inr, ℕ, suc, ◌+◌, ◌^◌, ◌<◌, ◌≤◌, ℤ, pos, List, [], ◌∷◌, ◌++◌, codes, map, length, Bool, true, false, ◌==◌, if◌then◌else◌, Ok, refl, ◌∙◌, ap, arith, subst, append_assoc, length-append}
use Rattle.std.proofs.{lemmas.Bool.{and_parts, eqb-true}, Math.Bool.{and-false}}
use Rattle.std.specs.{Fmt.{decimal}, List.{list_all}}
use Rattle.rio_num.specs.{At.{AreBytes, At}, Reading.{◌>>=◌}, Printed.{name_text, string_text}, Word.{is_name_text}}
use Rattle.rio_format.specs.{declared.value.Value.{Value, Bool as Truth, Text as Chars, List as Items, Object, Pointed, Null, Back, TheFolds.{fold-Part, fold_out-Part}}, declared.value.Part.{Part}, Bodies.{part}}
use Rattle.rio_token.specs.{declared.token.Token.{Token, TheVariants.{Mark}}, Tokens.{behind, next_at, scan_of}}
use Rattle.rio_token.specs.Reading.{is_mark, is_word, list_at, mark_at, marked, word_that_at}
use Rattle.rio_token.proofs.{DecimalLaws.{nums_are_read}, SeparatedLaws.{AllBack, Ends, list_back}}
use Rattle.rio_token.proofs.StandLaws.{at, name_is_word, next_is_text, next_is_word, num_back, num_between_back, string_back, word_back, word_that_back}
use Rattle.rio_model.specs.Lists.{separated}
use Rattle.rio_model.specs.Readable.{Follows, PartReadability, Readability, are_bases_first, part_readable, part_within, readability_of, readable_step}
use Rattle.rio_model.specs.ValueGrammar.{Reader, class_version_at, enclosed_at, enclosed_by, named_object_at, object_at, object_of, opens_object, part_at, pointer_at, text_value_at, value_by, value_in_text, values_at, word_value, word_value_at}
use Rattle.rio_model.specs.ValueText.{PrintedValue, between_braces, label_text, part_texts, printed_part, printed_value, text_of_value}
use Rattle.rio_model.proofs.{ReadAlike.{part_behind_blank, value_behind_blank}, ReadWords.{decimal_word, is_behind, name_as_it_is, not_empty, plain_word_back}}
use Rattle.rio_model.proofs.ValueTextLaws.{printed-Object, separated-map, text_of-List, text_of-Object, text_of-Pointed}

-- ---- values of one token

pub true_back : (E : Reader) (p q : ℕ) (rest : List ℕ) → Follows rest → q ≡ p + 4 → value_in_text E (at p (codes "true" ++ rest)) ≡ Ok (Truth true, at q rest)
unfolding word_value
true_back E p q rest f e = plain_word_back E p q (codes "true") rest (record { first = 116; others = codes "rue"; parts = refl; all = refl }) f e (Truth true) refl

pub false_back : (E : Reader) (p q : ℕ) (rest : List ℕ) → Follows rest → q ≡ p + 5 → value_in_text E (at p (codes "false" ++ rest)) ≡ Ok (Truth false, at q rest)
unfolding word_value
false_back E p q rest f e = plain_word_back E p q (codes "false") rest (record { first = 102; others = codes "alse"; parts = refl; all = refl }) f e (Truth false) refl

pub null_back : (E : Reader) (p q : ℕ) (rest : List ℕ) → Follows rest → q ≡ p + 4 → value_in_text E (at p (codes "null" ++ rest)) ≡ Ok (Null, at q rest)
unfolding word_value
null_back E p q rest f e = plain_word_back E p q (codes "null") rest (record { first = 110; others = codes "ull"; parts = refl; all = refl }) f e Null refl

pub text_back : (E : Reader) (p q : ℕ) (text rest : List ℕ) → AreBytes text → q ≡ p + length (string_text text) → value_in_text E (at p (string_text text ++ rest)) ≡ Ok (Chars text, at q rest)
unfolding value_in_text text_value_at
text_back E p q text rest bytes e = rw (next_is_text p q text rest bytes e, string_back p q text rest bytes e) refl

-- ---- references

mark_of_pointer : (E : Reader) (p : ℕ) (xs : List ℕ) → value_in_text E (at p (64 ∷ xs)) ≡ pointer_at E (at (p + 1) xs)
unfolding value_in_text scan_of
mark_of_pointer E p xs = refl

module _ (E : Reader) (p q label : ℕ) (rest : List ℕ) (small : label < 2 ^ 32) where
  pub back_back : Follows rest → q ≡ p + 1 + length (decimal label) → value_in_text E (at p (64 ∷ (decimal label ++ rest))) ≡ Ok (Back label, at q rest)
  unfolding pointer_at
  back_back f e =
      let b = is_behind rest f in
      let num = num_back (p + 1) q (decimal label) rest (decimal_word label (omega arith)) b.stops e label (nums_are_read label small) in
      rw (mark_of_pointer E p (decimal label ++ rest), num, b.no_object q) refl

equals_marked : (p : ℕ) (xs : List ℕ) → marked 61 (at p (61 ∷ xs)) ≡ true
unfolding scan_of
equals_marked p xs = refl

behind_equals : (p : ℕ) (xs : List ℕ) → behind (at p (61 ∷ xs)) ≡ at (p + 1) xs
unfolding scan_of
behind_equals p xs = refl

-- ---- objects

-- behind its class the object is read
pub record ObjectBack (levels : ℕ) (v : Value) : Type 0 where
  pub class : List ℕ
  pub tail : List ℕ
  pub named : is_name_text class ≡ true
  pub lone : (printed_value v).is_object ≡ true
  pub parts : text_of_value v ≡ class ++ 35 ∷ tail
  pub back : (p q : ℕ) (rest : List ℕ) → Follows rest → q ≡ p + 1 + length tail → object_at (enclosed_at levels) class (at p (35 ∷ (tail ++ rest))) ≡ Ok (v, at q rest)

version_opens : (p : ℕ) (xs : List ℕ) → opens_object (at p (35 ∷ xs)) ≡ true
unfolding scan_of
version_opens p xs = refl

module _ (levels : ℕ) (v : Value) (o : ObjectBack levels v) (p q : ℕ) (rest : List ℕ) (f : Follows rest) (e : q ≡ p + length (text_of_value v)) where
  class_end : ℕ
  class_end = p + length o.class

  whole : text_of_value v ++ rest ≡ o.class ++ (35 ∷ (o.tail ++ rest))
  whole = ap (λ (t : List ℕ). t ++ rest) o.parts ∙ append_assoc o.class (35 ∷ o.tail) rest

  count : q ≡ p + length o.class + 1 + length o.tail
  count =
      let size : length (text_of_value v) ≡ length o.class + suc (length o.tail) = ap length o.parts ∙ length-append o.class (35 ∷ o.tail) in
      omega (arith, size, e)

  pub object_value_back : value_in_text (enclosed_at levels) (at p (text_of_value v ++ rest)) ≡ Ok (v, at q rest)
  unfolding value_in_text word_value_at
  object_value_back =
      let is = name_is_word o.class o.named in
      let next = next_is_word p (p + length o.class) o.class (35 ∷ (o.tail ++ rest)) is refl refl in
      let word = word_back p (p + length o.class) o.class (35 ∷ (o.tail ++ rest)) is refl refl in
      rw (whole, next, word, o.named, version_opens (p + length o.class) (o.tail ++ rest)) (o.back (p + length o.class) q rest f count)

  pub named_object_back : named_object_at (enclosed_at levels) (at p (text_of_value v ++ rest)) ≡ Ok (v, at q rest)
  unfolding named_object_at
  named_object_back =
      let is = name_is_word o.class o.named in
      let word = word_that_back p (p + length o.class) o.class (35 ∷ (o.tail ++ rest)) is refl refl is_name_text o.named in
      rw (whole, word) (o.back (p + length o.class) q rest f count)

  colon_not : (k : ℕ) (xs : List ℕ) → marked 58 (at k (35 ∷ xs)) ≡ false
  unfolding scan_of
  colon_not k xs = refl

  pub base_back : part_at (enclosed_at levels) (at p (text_of_value v ++ rest)) ≡ Ok (part [] v, at q rest)
  unfolding part_at
  base_back =
      let is = name_is_word o.class o.named in
      let word = word_that_back p (p + length o.class) o.class (35 ∷ (o.tail ++ rest)) is refl refl is_name_text o.named in
      rw (whole, word, colon_not (p + length o.class) (o.tail ++ rest), o.back (p + length o.class) q rest f count) refl

-- ---- pointers

module _ (levels : ℕ) (v : Value) (o : ObjectBack levels v) (p q label : ℕ) (rest : List ℕ) (f : Follows rest) (small : label < 2 ^ 32) where
  pointed_text : text_of_value (Pointed label v) ++ rest ≡ 64 ∷ (decimal label ++ (61 ∷ (text_of_value v ++ rest)))
  pointed_text = ap (λ (t : List ℕ). t ++ rest) (text_of-Pointed label v) ∙ simp append_assoc

  pub pointed_back : q ≡ p + length (text_of_value (Pointed label v)) → value_in_text (enclosed_at levels) (at p (text_of_value (Pointed label v) ++ rest)) ≡ Ok (Pointed label v, at q rest)
  unfolding pointer_at
  pointed_back e =
      let number_end = p + 1 + length (decimal label) in
      let size : length (text_of_value (Pointed label v)) ≡ length ((label_text label ++ codes "=") ++ text_of_value v) = ap length (text_of-Pointed label v) in
      let sizes = length-append (label_text label ++ codes "=") (text_of_value v) in
      let sizes2 = length-append (label_text label) (codes "=") in
      let place : q ≡ number_end + 1 + length (text_of_value v) = omega (arith, e, size, sizes, sizes2) in
      let num = num_back (p + 1) number_end (decimal label) (61 ∷ (text_of_value v ++ rest)) (decimal_word label (omega arith)) refl refl label (nums_are_read label small) in
      let object = named_object_back levels v o (number_end + 1) q rest f place in
      rw (pointed_text, mark_of_pointer (enclosed_at levels) p (decimal label ++ (61 ∷ (text_of_value v ++ rest))), num, equals_marked number_end (text_of_value v ++ rest), behind_equals number_end (text_of_value v ++ rest), object) refl

-- ---- parts of a value that its text says whole

-- a base is its value alone
abbrev pub part_alone : List ℕ → List ℕ → List ℕ
part_alone name value = if length name == 0 then value else name_text name ++ codes ": " ++ value

abbrev pub text_of_part : Part → List ℕ
text_of_part p = part_alone p.name (text_of_value p.value)

-- ---- what every value keeps to

pub record ValueBack (levels : ℕ) (v : Value) : Type 0 where
  pub value : (p q : ℕ) (rest : List ℕ) → Follows rest → q ≡ p + length (text_of_value v) → value_in_text (enclosed_at levels) (at p (text_of_value v ++ rest)) ≡ Ok (v, at q rest)
  pub object : (readability_of v).object ≡ true → ObjectBack levels v

abbrev pub IsBackValue : Value → Type 0
IsBackValue v = (levels : ℕ) → (readability_of v).within levels ≡ true → ValueBack levels v

abbrev pub Known : Type 0
Known = (v : Value) × IsBackValue v

abbrev pub KnownPart : Type 0
KnownPart = (p : Part) × IsBackValue p.value

-- ---- lists

no_bracket : (E : Reader) (s : At) (x : Value × At) (token : Token) → value_by E token s ≡ Ok x → is_mark 93 token ≡ false
no_bracket E s x (Mark b) h = by_test (b == 93) refl
  where
    by_test : (t : Bool) → (b == 93) ≡ t → (b == 93) ≡ false
    by_test true t = absurd (let e : b ≡ 93 = eqb-true b 93 t in let P : ℕ → Type 0 = λ k. value_by E (Mark k) s ≡ Ok x in let bad = subst P e h in cc)
    by_test false t = t
no_bracket E s x other h = refl

pub value_begins : (E : Reader) (s : At) (x : Value × At) → value_in_text E s ≡ Ok x → marked 93 s ≡ false
unfolding value_in_text
value_begins E s x h = no_bracket E s x (next_at s).token h

value_ends : (levels : ℕ) (rest : List ℕ) → Ends 93 (λ before. value_in_text (enclosed_at levels)) text_of_value Follows (93 ∷ rest) 1 rest
unfolding scan_of
value_ends levels rest = record {
  comma = λ xs. inl refl;
  last = inr (inl refl);
  closes = λ p. refl;
  passes = λ p. refl;
  some = omega arith;
  goes = λ p xs. refl;
  blank = λ front p xs. value_behind_blank levels p xs;
  begins = λ front s x h. value_begins (enclosed_at levels) s x h;
}

values_back : (levels : ℕ) (es : List Known) (front : List Value) → list_all (λ r. r.within levels) (map readability_of (map (λ e. e.0) es)) ≡ true → AllBack 93 (λ before. value_in_text (enclosed_at levels)) text_of_value Follows front (map (λ e. e.0) es)
values_back levels [] front h = tt
values_back levels (e ∷ es) front h =
    let parts = and_parts ((readability_of e.0).within levels) (list_all (λ (r : Readability). r.within levels) (map readability_of (map (λ (e : Known). e.0) es))) h in
    ((e.1 levels parts.0).value, values_back levels es (front ++ e.0 ∷ []) parts.1)

opened_list : (levels p : ℕ) (xs : List ℕ) → value_in_text (enclosed_at (suc levels)) (at p (91 ∷ xs)) ≡ (list_at 93 (λ before. value_in_text (enclosed_at levels)) (at (p + 1) xs) >>= λ items. Ok (Items items.0, items.1))
unfolding value_in_text scan_of enclosed_at enclosed_by values_at mark_at
opened_list levels p xs = refl

pub list_value_back : (levels : ℕ) (es : List Known) → list_all (λ r. r.within levels) (map readability_of (map (λ e. e.0) es)) ≡ true → (p q : ℕ) (rest : List ℕ) →
    (let vs = map (λ (e : Known). e.0) es in q ≡ p + length (text_of_value (Items vs)) → value_in_text (enclosed_at (suc levels)) (at p (text_of_value (Items vs) ++ rest)) ≡ Ok (Items vs, at q rest))
list_value_back levels es h p q rest e =
    let vs = map (λ (e : Known). e.0) es in
    let texts = separated text_of_value vs in
    let text : text_of_value (Items vs) ++ rest ≡ 91 ∷ (texts ++ 93 ∷ rest) = ap (λ (t : List ℕ). t ++ rest) (text_of-List vs) ∙ simp append_assoc in
    let size : length (text_of_value (Items vs)) ≡ length ((codes "[" ++ texts) ++ codes "]") = ap length (text_of-List vs) in
    let sizes = length-append (codes "[" ++ texts) (codes "]") in
    let place : q ≡ p + 1 + length texts + 1 = omega (arith, e, size, sizes) in
    let back = list_back 93 (λ (before : List Value). value_in_text (enclosed_at levels)) text_of_value Follows (93 ∷ rest) 1 rest (value_ends levels rest) vs (p + 1) q (values_back levels es [] h) place in
    rw (text, opened_list levels p (texts ++ 93 ∷ rest), back) refl

-- ---- parts

word_or_no_brace : (token : Token) → (is_mark 125 token ≡ false) ⊎ (is_word token ≡ false)
word_or_no_brace (Mark b) = inr refl
word_or_no_brace other = inl refl

part_wants_word : (E : Reader) (s : At) (x : Part × At) → is_word (next_at s).token ≡ false → part_at E s ≡ Ok x → marked 125 s ≡ false
unfolding part_at word_that_at
part_wants_word E s x none h = absurd (let bad = rw none at h in cc)

pub part_begins : (E : Reader) (s : At) (x : Part × At) → part_at E s ≡ Ok x → marked 125 s ≡ false
part_begins E s x h = elim (word_or_no_brace (next_at s).token) [ inl free ↦ free | inr none ↦ part_wants_word E s x none h ]

part_ends : (levels : ℕ) (rest : List ℕ) → Ends 125 (λ before. part_at (enclosed_at levels)) text_of_part Follows (125 ∷ rest) 1 rest
unfolding scan_of
part_ends levels rest = record {
  comma = λ xs. inl refl;
  last = inr (inr refl);
  closes = λ p. refl;
  passes = λ p. refl;
  some = omega arith;
  goes = λ p xs. refl;
  blank = λ front p xs. part_behind_blank levels p xs;
  begins = λ front s x h. part_begins (enclosed_at levels) s x h;
}

colon_marked : (p : ℕ) (xs : List ℕ) → marked 58 (at p (58 ∷ xs)) ≡ true
unfolding scan_of
colon_marked p xs = refl

behind_colon : (p : ℕ) (xs : List ℕ) → behind (at p (58 ∷ xs)) ≡ at (p + 1) xs
unfolding scan_of
behind_colon p xs = refl

-- a member: its name, a colon and its value
member_back : (levels : ℕ) (name : List ℕ) (v : Value) → is_name_text name ≡ true → ValueBack levels v → (p q : ℕ) (rest : List ℕ) → Follows rest → q ≡ p + length ((name ++ codes ": ") ++ text_of_value v)
    → part_at (enclosed_at levels) (at p (((name ++ codes ": ") ++ text_of_value v) ++ rest)) ≡ Ok (part name v, at q rest)
unfolding part_at
member_back levels name v named b p q rest f e =
    let t = text_of_value v in
    let name_end = p + length name in
    let text : ((name ++ codes ": ") ++ t) ++ rest ≡ name ++ (58 ∷ 32 ∷ (t ++ rest)) = simp append_assoc in
    let sizes = length-append (name ++ codes ": ") t in
    let sizes2 = length-append name (codes ": ") in
    let place : q ≡ name_end + 1 + 1 + length t = omega (arith, e, sizes, sizes2) in
    let word = word_that_back p name_end name (58 ∷ 32 ∷ (t ++ rest)) (name_is_word name named) refl refl is_name_text named in
    let value : value_in_text (enclosed_at levels) (at (name_end + 1) (32 ∷ (t ++ rest))) ≡ Ok (v, at q rest) = value_behind_blank levels (name_end + 1) (t ++ rest) ∙ b.value (name_end + 1 + 1) q rest f place in
    rw (text, word, colon_marked name_end (32 ∷ (t ++ rest)), behind_colon name_end (32 ∷ (t ++ rest)), value) refl

named_part_back : (levels : ℕ) (name : List ℕ) (v : Value) → (if length name == 0 then (readability_of v).object else is_name_text name) ≡ true → ValueBack levels v → (p q : ℕ) (rest : List ℕ) → Follows rest
    → q ≡ p + length (part_alone name (text_of_value v)) → part_at (enclosed_at levels) (at p (part_alone name (text_of_value v) ++ rest)) ≡ Ok (part name v, at q rest)
named_part_back levels [] v h b p q rest f e = base_back levels v (b.object h) p q rest f e
named_part_back levels (c ∷ cs) v h b p q rest f e =
    let some = not_empty c cs in
    let named : is_name_text (c ∷ cs) ≡ true = rw some at h in
    let plain = name_as_it_is (c ∷ cs) named in
    let text : part_alone (c ∷ cs) (text_of_value v) ≡ ((c ∷ cs) ++ codes ": ") ++ text_of_value v = rw (some, plain) refl in
    let place : q ≡ p + length (((c ∷ cs) ++ codes ": ") ++ text_of_value v) = e ∙ ap (λ (t : List ℕ). p + length t) text in
    rw text (member_back levels (c ∷ cs) v named b p q rest f place)

abbrev pub part_folded : Part → PartReadability
part_folded = fold-Part Readability PartReadability readable_step (λ p. part_readable p.name p.value)

pub part_folds : (p : Part) → part_folded p ≡ part_readable p.name (readability_of p.value)
unfolding readability_of
part_folds p = fold_out-Part Readability PartReadability readable_step (λ p. part_readable p.name p.value) p

-- the parts of a readable object are printed with their names, but for the bases
readable_texts : (levels : ℕ) (front : Bool) (es : List KnownPart) → list_all (λ p. part_within p.name (readability_of p.value) levels) (map (λ e. e.0) es) ≡ true
    → are_bases_first front (map (λ p. p.name) (map (λ e. e.0) es)) ≡ true → part_texts front (map printed_part (map (λ e. e.0) es)) ≡ map text_of_part (map (λ e. e.0) es)
unfolding text_of_value
readable_texts levels front [] h first = refl
readable_texts levels front (e ∷ es) h first =
    let all = and_parts (part_within e.0.name (readability_of e.0.value) levels) (list_all (λ (p : Part). part_within p.name (readability_of p.value) levels) (map (λ (e : KnownPart). e.0) es)) h in
    let own = and_parts ((readability_of e.0.value).within levels) (if length e.0.name == 0 then (readability_of e.0.value).object else is_name_text e.0.name) all.0 in
    let is = and_parts (if length e.0.name == 0 then front else true) (are_bases_first (length e.0.name == 0) (map (λ (p : Part). p.name) (map (λ (e : KnownPart). e.0) es))) first in
    by (length e.0.name == 0) refl is.0 own.1 (e.1 levels own.0) (readable_texts levels (length e.0.name == 0) es all.1 is.1)
  where
    by : (b : Bool) → (length e.0.name == 0) ≡ b → (if b then front else true) ≡ true → (if b then (readability_of e.0.value).object else is_name_text e.0.name) ≡ true
        → ValueBack levels e.0.value → part_texts b (map printed_part (map (λ e. e.0) es)) ≡ map text_of_part (map (λ e. e.0) es)
        → part_texts front (map printed_part (e.0 ∷ map (λ e. e.0) es)) ≡ map text_of_part (e.0 ∷ map (λ e. e.0) es)
    by true b stands own back rest =
        let lone = (back.object own).lone in
        rw (stands, b, lone) (ap (λ (ts : List (List ℕ)). text_of_value e.0.value ∷ ts) rest)
    by false b stands own back rest =
        rw (b, and-false front) (ap (λ (ts : List (List ℕ)). (name_text e.0.name ++ codes ": " ++ text_of_value e.0.value) ∷ ts) rest)

part_back : (levels : ℕ) (e : KnownPart) → part_within e.0.name (readability_of e.0.value) levels ≡ true → (p q : ℕ) (rest : List ℕ) → Follows rest → q ≡ p + length (text_of_part e.0)
    → part_at (enclosed_at levels) (at p (text_of_part e.0 ++ rest)) ≡ Ok (e.0, at q rest)
part_back levels e h p q rest f place =
    let parts = and_parts ((readability_of e.0.value).within levels) (if length e.0.name == 0 then (readability_of e.0.value).object else is_name_text e.0.name) h in
    named_part_back levels e.0.name e.0.value parts.1 (e.1 levels parts.0) p q rest f place

parts_back : (levels : ℕ) (es : List KnownPart) (front : List Part) → list_all (λ p. part_within p.name (readability_of p.value) levels) (map (λ e. e.0) es) ≡ true → AllBack 125 (λ before. part_at (enclosed_at levels)) text_of_part Follows front (map (λ e. e.0) es)
parts_back levels [] front h = tt
parts_back levels (e ∷ es) front h =
    let parts = and_parts (part_within e.0.name (readability_of e.0.value) levels) (list_all (λ (p : Part). part_within p.name (readability_of p.value) levels) (map (λ (e : KnownPart). e.0) es)) h in
    (part_back levels e parts.0, parts_back levels es (front ++ e.0 ∷ []) parts.1)

-- ---- objects

opened_braces : (levels : ℕ) (class : List ℕ) (version : ℤ) (p : ℕ) (xs : List ℕ) → enclosed_at (suc levels) (object_of class version) (at p (123 ∷ xs)) ≡ (list_at 125 (λ before. part_at (enclosed_at levels)) (at (p + 1) xs) >>= λ parts. Ok (Object class version parts.0, parts.1))
unfolding scan_of enclosed_at enclosed_by mark_at
opened_braces levels class version p xs = refl

hash_marked : (p : ℕ) (xs : List ℕ) → marked 35 (at p (35 ∷ xs)) ≡ true
unfolding scan_of
hash_marked p xs = refl

behind_hash : (p : ℕ) (xs : List ℕ) → behind (at p (35 ∷ xs)) ≡ at (p + 1) xs
unfolding scan_of
behind_hash p xs = refl

version_back : (p q v : ℕ) (rest : List ℕ) → 1 ≤ v → v ≤ 32767 → q ≡ p + 1 + length (decimal v) → class_version_at (at p (35 ∷ (decimal v ++ 123 ∷ rest))) ≡ Ok (pos v, at q (123 ∷ rest))
unfolding class_version_at
version_back p q v rest low high e =
    let num = num_between_back (p + 1) q (decimal v) (123 ∷ rest) (decimal_word v (omega arith)) refl e 1 32767 v (nums_are_read v (omega arith)) low high in
    rw (hash_marked p (decimal v ++ 123 ∷ rest), behind_hash p (decimal v ++ 123 ∷ rest), num) refl

abbrev object_tail : ℕ → List Part → List ℕ
object_tail v parts = decimal v ++ (123 ∷ (separated text_of_part parts ++ 125 ∷ []))

object_tail_back : (levels : ℕ) (es : List KnownPart) → list_all (λ p. part_within p.name (readability_of p.value) levels) (map (λ e. e.0) es) ≡ true → (class : List ℕ) (v p q : ℕ) (rest : List ℕ) → 1 ≤ v → v ≤ 32767 →
    (let parts = map (λ (e : KnownPart). e.0) es in q ≡ p + 1 + length (object_tail v parts) → object_at (enclosed_at (suc levels)) class (at p (35 ∷ (object_tail v parts ++ rest))) ≡ Ok (Object class (pos v) parts, at q rest))
unfolding object_at
object_tail_back levels es h class v p q rest low high e =
    let parts = map (λ (e : KnownPart). e.0) es in
    let texts = separated text_of_part parts in
    let number_end = p + 1 + length (decimal v) in
    let text : object_tail v parts ++ rest ≡ decimal v ++ (123 ∷ (texts ++ 125 ∷ rest)) = simp append_assoc in
    let sizes = length-append (decimal v) (123 ∷ (texts ++ 125 ∷ [])) in
    let sizes2 = length-append texts (125 ∷ []) in
    let place : q ≡ number_end + 1 + length texts + 1 = omega (arith, e, sizes, sizes2) in
    let version = version_back p number_end v (texts ++ 125 ∷ rest) low high refl in
    let back = list_back 125 (λ (before : List Part). part_at (enclosed_at levels)) text_of_part Follows (125 ∷ rest) 1 rest (part_ends levels rest) parts (number_end + 1) q (parts_back levels es [] h) place in
    rw (text, version, opened_braces levels class (pos v) number_end (texts ++ 125 ∷ rest), back) refl

-- the parts of an object whose text says all of it
pub record ReadableParts (levels : ℕ) (es : List KnownPart) : Type 0 where
  pub within : list_all (λ p. part_within p.name (readability_of p.value) levels) (map (λ e. e.0) es) ≡ true
  pub first : are_bases_first true (map (λ p. p.name) (map (λ e. e.0) es)) ≡ true

pub object_back : (levels : ℕ) (es : List KnownPart) → ReadableParts levels es → (class : List ℕ) (v : ℕ) → is_name_text class ≡ true → 1 ≤ v → v ≤ 32767 →
    ObjectBack (suc levels) (Object class (pos v) (map (λ e. e.0) es))
object_back levels es h class v named low high =
    let parts = map (λ (e : KnownPart). e.0) es in
    let between : between_braces (map printed_part parts) ≡ separated text_of_part parts =
    ap (λ (ts : List (List ℕ)). separated (λ (t : List ℕ). t) ts) (readable_texts levels true es h.within h.first) ∙ separated-map (λ (t : List ℕ). t) text_of_part parts in
    record {
      class = class;
      tail = object_tail v parts;
      named = named;
      lone = ap (λ (p : PrintedValue). p.is_object) (printed-Object class (pos v) parts);
      parts = text_of-Object class (pos v) parts ∙ rw (name_as_it_is class named, between) (simp append_assoc);
      back = λ p q rest f e. object_tail_back levels es h.within class v p q rest low high e;
    }
