-- What is printed of a value is read as the value: each layer, and the whole.
use Rattle.std.proofs.Common.{◌≡◌, ℕ, zero, suc, ◌+◌, ◌-◌, ◌^◌, ◌<◌, ◌≤◌, min, ℤ, pos, negsuc, int_le, List, [], ◌∷◌, ◌++◌, codes, map, length, Bool, true, false, ◌&&◌, nat_lt, Ok, refl, sym, ◌∙◌, ap, arith, subst, length-append}
use Rattle.std.proofs.lemmas.Bool.{and_parts, Decides.{nat_tests}}
use Rattle.std.specs.{Fmt.{decimal, signed_decimal}, List.{list_all}}
use Rattle.rio_num.specs.{Printed.{string_text}, Word.{is_name_text}, At.{AreBytes}}
use Rattle.rio_format.specs.declared.value.Value.{Value, Int, Bits32, Bits64, Bool as Truth, Text as Chars, List as Items, Object, Pointed, Null, Back, Opaque, roll-Value, map-Value, TheOpen.{Value-F}, TheVariants.{rolls-Int, rolls-Bits32, rolls-Bits64, rolls-Bool, rolls-Text, rolls-List, rolls-Object, rolls-Pointed, rolls-Null, rolls-Back, rolls-Opaque}, TheFolds.{fold-roll-Value, ind-Value}}
use Rattle.rio_format.specs.declared.value.Part.{Part, Part-F}
use Rattle.rio_format.specs.declared.value.Value.TheOpen as layer
use Rattle.rio_token.specs.Laws.{IsNumber}
use Rattle.rio_token.proofs.StandLaws.{at, drop_front}
use Rattle.rio_model.specs.Readable.{Follows, PartReadability, Readability, ValuesAreRead, are_bases_first, are_parts_within, is_number, part_readable, part_within, readability_of, readable_step, single}
use Rattle.rio_model.specs.{Stated.{is_class_version}, ValueGrammar.{Reader, bracket_limit, enclosed_at, value_in_text}}
use Rattle.rio_model.specs.ValueText.{PrintedPart, PrintedValue, bits_text, printed_value, text_of_value, text_step}
use Rattle.rio_model.proofs.ReadWords.{bits_is_word, eight_value, four_value, integer_value, integer_word, plain_word_back}
use Rattle.rio_model.proofs.ValueTextLaws.{part_folded as printed_folded, printed_rolled}
use Rattle.rio_model.proofs.ReadValues.{IsBackValue, Known, KnownPart, ReadableParts, ValueBack, back_back, false_back, list_value_back, null_back, object_back, object_value_back, part_folded, part_folds, pointed_back, text_back, true_back}

-- ---- texts and readability of values without others in them

abbrev text_layer : (y : Value-F Value Part) → List ℕ
text_layer y = (text_step (map-Value Value Part PrintedValue PrintedPart printed_value printed_folded y)).text

abbrev readable_layer : (y : Value-F Value Part) → Readability
readable_layer y = readable_step (map-Value Value Part Readability PartReadability readability_of part_folded y)

text_rolled : (y : Value-F Value Part) (v : Value) → roll-Value y ≡ v → text_of_value v ≡ text_layer y
unfolding text_of_value
text_rolled y v e = ap text_of_value (sym e) ∙ ap (λ (p : PrintedValue). p.text) (printed_rolled y)

readable_rolled : (y : Value-F Value Part) (v : Value) → roll-Value y ≡ v → readability_of v ≡ readable_layer y
unfolding readability_of
readable_rolled y v e = ap readability_of (sym e) ∙ fold-roll-Value Readability PartReadability readable_step (λ p. part_readable p.name p.value) y

-- a value whose text is read in any brackets
leaf : (y : Value-F Value Part) (v : Value) (text : List ℕ) (b : Bool) → roll-Value y ≡ v → text_layer y ≡ text → readable_layer y ≡ single b
    → (b ≡ true → (E : Reader) (p q : ℕ) (rest : List ℕ) → Follows rest → q ≡ p + length text → value_in_text E (at p (text ++ rest)) ≡ Ok (v, at q rest)) → IsBackValue v
leaf y v text b rolls t r back levels h =
    let texts : text_of_value v ≡ text = text_rolled y v rolls ∙ t in
    let reads : readability_of v ≡ single b = readable_rolled y v rolls ∙ r in
    let within : b ≡ true = rw reads at h in
    record {
      value = λ p q rest f e. rw texts (back within (enclosed_at levels) p q rest f (e ∙ ap (λ (l : List ℕ). p + length l) texts));
      object = λ o. absurd (let none : false ≡ true = rw reads at o in cc);
    }

below : (n k : ℕ) → nat_lt n k ≡ true → n < k
below n k h = grind (arith, nat_tests)

number_is : (z : ℤ) → is_number z ≡ true → IsNumber z
number_is (pos n) h = below n (2 ^ 64) h
number_is (negsuc n) h = below n (2 ^ 63) h

bytes_are : (text : List ℕ) → list_all (λ b. nat_lt b 256) text ≡ true → AreBytes text
bytes_are [] h i = omega arith
bytes_are (b ∷ bs) h zero = below b 256 (and_parts (nat_lt b 256) (list_all (λ b. nat_lt b 256) bs) h).0
bytes_are (b ∷ bs) h (suc i) = bytes_are bs (and_parts (nat_lt b 256) (list_all (λ b. nat_lt b 256) bs) h).1 i

int_back : (z : ℤ) → IsBackValue (Int z)
int_back z = leaf (layer.Int z) (Int z) (signed_decimal z) (is_number z) (rolls-Int z) refl refl (λ h E p q rest f e.
    let n = number_is z h in plain_word_back E p q (signed_decimal z) rest (integer_word z n) f e (Int z) (integer_value z n))

four_back : (n : ℕ) → IsBackValue (Bits32 n)
four_back n = leaf (layer.Bits32 n) (Bits32 n) (bits_text 4 n) (nat_lt n (2 ^ 32)) (rolls-Bits32 n) refl refl (λ h E p q rest f e.
    let small = below n (2 ^ 32) h in plain_word_back E p q (bits_text 4 n) rest (bits_is_word 4 n small) f e (Bits32 n) (four_value n small))

eight_back : (n : ℕ) → IsBackValue (Bits64 n)
eight_back n = leaf (layer.Bits64 n) (Bits64 n) (bits_text 8 n) (nat_lt n (2 ^ 64)) (rolls-Bits64 n) refl refl (λ h E p q rest f e.
    let small = below n (2 ^ 64) h in plain_word_back E p q (bits_text 8 n) rest (bits_is_word 8 n small) f e (Bits64 n) (eight_value n small))

truth_back : (b : Bool) → IsBackValue (Truth b)
truth_back true = leaf (layer.Bool true) (Truth true) (codes "true") true (rolls-Bool true) refl refl (λ h E p q rest f e. true_back E p q rest f e)
truth_back false = leaf (layer.Bool false) (Truth false) (codes "false") true (rolls-Bool false) refl refl (λ h E p q rest f e. false_back E p q rest f e)

chars_back : (text : List ℕ) → IsBackValue (Chars text)
chars_back text = leaf (layer.Text text) (Chars text) (string_text text) (list_all (λ b. nat_lt b 256) text) (rolls-Text text) refl refl (λ h E p q rest f e. text_back E p q text rest (bytes_are text h) e)

nothing_back : IsBackValue Null
nothing_back = leaf layer.Null Null (codes "null") true rolls-Null refl refl (λ h E p q rest f e. null_back E p q rest f e)

reference_back : (label : ℕ) → IsBackValue (Back label)
reference_back label = leaf (layer.Back label) (Back label) (64 ∷ decimal label) (nat_lt label (2 ^ 32)) (rolls-Back label) refl refl (λ h E p q rest f e.
    back_back E p q label rest (below label (2 ^ 32) h) f (let place : q ≡ p + 1 + length (decimal label) = omega (arith, e) in place))

opaque_back : (class : List ℕ) (len : ℕ) → IsBackValue (Opaque class len)
opaque_back class len = leaf (layer.Opaque class len) (Opaque class len) _ false (rolls-Opaque class len) refl refl (λ h E p q rest f e. absurd (cc))

-- ---- values with others in them

one_less : (l : ℕ) → suc l - 1 ≡ l
one_less l = omega arith

list_known : (es : List Known) → IsBackValue (Items (map (λ e. e.0) es))
list_known es zero h =
    let vs = map (λ (e : Known). e.0) es in
    absurd (let none : false ≡ true = rw (readable_rolled (layer.List vs) (Items vs) (rolls-List vs)) at h in cc)
list_known es (suc l) h =
    let vs = map (λ (e : Known). e.0) es in
    let reads = readable_rolled (layer.List vs) (Items vs) (rolls-List vs) in
    let inside : (nat_lt 0 (suc l) && list_all (λ (r : Readability). r.within (suc l - 1)) (map readability_of vs)) ≡ true = rw reads at h in
    let parts = and_parts (nat_lt 0 (suc l)) (list_all (λ (r : Readability). r.within (suc l - 1)) (map readability_of vs)) inside in
    let items : list_all (λ (r : Readability). r.within l) (map readability_of vs) ≡ true = rw (one_less l) at parts.1 in
    record {
      value = λ p q rest f e. list_value_back l es items p q rest e;
      object = λ o. absurd (let none : false ≡ true = rw reads at o in cc);
    }

pointed_known : (label : ℕ) (e : Known) → IsBackValue (Pointed label e.0)
pointed_known label e levels h =
    let reads = readable_rolled (layer.Pointed label e.0) (Pointed label e.0) (rolls-Pointed label e.0) in
    let inside : (nat_lt label (2 ^ 32) && (readability_of e.0).object && (readability_of e.0).within levels) ≡ true = rw reads at h in
    let outer = and_parts (nat_lt label (2 ^ 32) && (readability_of e.0).object) ((readability_of e.0).within levels) inside in
    let inner = and_parts (nat_lt label (2 ^ 32)) ((readability_of e.0).object) outer.0 in
    let object = (e.1 levels outer.1).object inner.1 in
    record {
      value = λ p q rest f place. pointed_back levels e.0 object p q label rest f (below label (2 ^ 32) inner.0) place;
      object = λ o. absurd (let none : false ≡ true = rw reads at o in cc);
    }

folded_all : (l : ℕ) (parts : List Part) → list_all (λ p. p.within l) (map part_folded parts) ≡ list_all (λ p. part_within p.name (readability_of p.value) l) parts
folded_all l [] = refl
folded_all l (p ∷ ps) = rw (part_folds p, folded_all l ps) refl

folded_names : (parts : List Part) → map (λ p. p.name) (map part_folded parts) ≡ map (λ p. p.name) parts
folded_names [] = refl
folded_names (p ∷ ps) = rw (part_folds p, folded_names ps) refl

pub at_least : (v : ℕ) → int_le (pos 1) (pos v) ≡ true → 1 ≤ v
at_least v h = grind (arith, nat_tests)

pub at_most : (v : ℕ) → int_le (pos v) (pos 32767) ≡ true → v ≤ 32767
at_most v h = grind (arith, nat_tests)

object_by : (class : List ℕ) (es : List KnownPart) (levels : ℕ) (version : ℤ) → nat_lt 0 levels ≡ true → is_name_text class ≡ true → is_class_version version ≡ true
    → are_parts_within (map part_folded (map (λ e. e.0) es)) (levels - 1) ≡ true → ValueBack levels (Object class version (map (λ e. e.0) es))
object_by class es zero version some named is all = absurd (cc)
object_by class es (suc l) (negsuc n) some named is all = absurd (cc)
object_by class es (suc l) (pos v) some named is all =
    let ps = map (λ (e : KnownPart). e.0) es in
    let bounds = and_parts (int_le (pos 1) (pos v)) (int_le (pos v) (pos 32767)) is in
    let here : are_parts_within (map part_folded ps) l ≡ true = rw (one_less l) at all in
    let both = and_parts (list_all (λ (p : PartReadability). p.within l) (map part_folded ps)) (are_bases_first true (map (λ (p : PartReadability). p.name) (map part_folded ps))) here in
    let parts : ReadableParts l es = record { within = sym (folded_all l ps) ∙ both.0; first = ap (are_bases_first true) (sym (folded_names ps)) ∙ both.1 } in
    let o = object_back l es parts class v named (at_least v bounds.0) (at_most v bounds.1) in
    record {
      value = λ p q rest f e. object_value_back (suc l) (Object class (pos v) ps) o p q rest f e;
      object = λ _. o;
    }

object_known : (class : List ℕ) (version : ℤ) (es : List KnownPart) → IsBackValue (Object class version (map (λ e. e.0) es))
object_known class version es levels h =
    let ps = map (λ (e : KnownPart). e.0) es in
    let all = are_parts_within (map part_folded ps) (levels - 1) in
    let inside : (nat_lt 0 levels && is_name_text class && is_class_version version && all) ≡ true = rw (readable_rolled (layer.Object class version ps) (Object class version ps) (rolls-Object class version ps)) at h in
    let outer = and_parts (nat_lt 0 levels && is_name_text class && is_class_version version) all inside in
    let middle = and_parts (nat_lt 0 levels && is_name_text class) (is_class_version version) outer.0 in
    let inner = and_parts (nat_lt 0 levels) (is_name_text class) middle.0 in
    object_by class es levels version inner.0 inner.1 middle.1 outer.1

abbrev children : Value-F Known KnownPart → Value-F Value Part
children y = map-Value Known KnownPart Value Part (λ e. e.0) (λ e. e.0) y

layer_back : (y : Value-F Known KnownPart) → IsBackValue (roll-Value (children y))
layer_back (layer.Int z) = subst IsBackValue (sym (rolls-Int z)) (int_back z)
layer_back (layer.Bits32 n) = subst IsBackValue (sym (rolls-Bits32 n)) (four_back n)
layer_back (layer.Bits64 n) = subst IsBackValue (sym (rolls-Bits64 n)) (eight_back n)
layer_back (layer.Bool b) = subst IsBackValue (sym (rolls-Bool b)) (truth_back b)
layer_back (layer.Text t) = subst IsBackValue (sym (rolls-Text t)) (chars_back t)
layer_back (layer.List es) = subst IsBackValue (sym (rolls-List (map (λ (e : Known). e.0) es))) (list_known es)
layer_back (layer.Object class version es) = subst IsBackValue (sym (rolls-Object class version (map (λ (e : KnownPart). e.0) es))) (object_known class version es)
layer_back (layer.Pointed label e) = subst IsBackValue (sym (rolls-Pointed label e.0)) (pointed_known label e)
layer_back layer.Null = subst IsBackValue (sym rolls-Null) nothing_back
layer_back (layer.Back label) = subst IsBackValue (sym (rolls-Back label)) (reference_back label)
layer_back (layer.Opaque class len) = subst IsBackValue (sym (rolls-Opaque class len)) (opaque_back class len)

value_known : (v : Value) → IsBackValue v
value_known =
    ind-Value IsBackValue (λ p. IsBackValue p.value) (λ x y is. subst (λ (z : Value-F Value Part). IsBackValue (roll-Value z)) is (layer_back y))
    (λ x y is. subst (λ (z : Part-F Value Part). IsBackValue z.value) is y.value.1)

pub values_are_read : ValuesAreRead
values_are_read front rest v h f =
    let text = text_of_value v in
    let short : min (length front) (length (front ++ (text ++ rest))) ≡ length front = omega (arith, length-append front (text ++ rest)) in
    let dropped = drop_front front (text ++ rest) in
    rw (short, dropped) ((value_known v bracket_limit h).value (length front) (length front + length text) rest f refl)
