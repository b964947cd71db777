-- The text of a value is one line, by induction on the value.
use Rattle.std.proofs.Common.{◌≡◌, ℕ, Bool, true, ◌&&◌, List, [], ◌∷◌, ◌++◌, codes, map, refl, sym, ap, subst}
use Rattle.std.specs.{List.{flat_map}, Fmt.{decimal, signed_decimal}}
use Rattle.byteorder.specs.Endian.{big_bytes}
use Rattle.rio_num.specs.Printed.{hex_text, name_text}
use Rattle.rio_format.specs.{declared.value.Value.{Value, roll-Value, map-Value, TheOpen.{Value-F}, TheFolds.{ind-Value}}, declared.value.Part.{Part, Part-F}}
use Rattle.rio_format.specs.declared.value.Value.TheOpen as layer
use Rattle.rio_model.specs.Lists.{separated}
use Rattle.rio_model.specs.ValueText.{PrintedPart, PrintedValue, between_braces, class_text, label_text, may_be_base, part_text, part_texts, printed_part, printed_value, text_of_value, text_step}
use Rattle.rio_model.proofs.OneLineLaws.{Line, both, chosen, decimal_line, hex_line, name_line, separated_line, signed_line, string_line}
use Rattle.rio_model.proofs.ValueTextLaws.{part_folded, part_folds, printed_rolled, separated-map}

abbrev IsLine : Value → Type 0
IsLine v = Line (text_of_value v)

abbrev Known : Type 0
Known = (v : Value) × IsLine v

abbrev KnownPart : Type 0
KnownPart = (p : Part) × IsLine p.value

-- the texts of the items, which are known
items_line : (es : List Known) → Line (separated (λ p. p.text) (map printed_value (map (λ e. e.0) es)))
unfolding text_of_value
items_line es =
    subst Line (sym (separated-map (λ (p : PrintedValue). p.text) printed_value (map (λ (e : Known). e.0) es))) (separated_line text_of_value (λ (e : Known). e.0) es (λ e. e.1))

part_line : (alone : Bool) (p : Part) → IsLine p.value → Line (part_text alone (printed_part p))
unfolding text_of_value
part_line alone p is =
    chosen alone (text_of_value p.value) (name_text p.name ++ codes ": " ++ text_of_value p.value) is
    (both (name_text p.name ++ codes ": ") (text_of_value p.value) (both (name_text p.name) (codes ": ") (name_line p.name) refl) is)

-- texts behind a comma each
more_line : (front : Bool) (es : List KnownPart) → Line (flat_map (λ t. codes ", " ++ t) (part_texts front (map printed_part (map (λ e. e.0) es))))
more_line front [] = refl
more_line front (e ∷ es) =
    let alone = front && may_be_base (printed_part e.0) in
    let text = part_text alone (printed_part e.0) in
    both (codes ", " ++ text) (flat_map (λ (t : List ℕ). codes ", " ++ t) (part_texts alone (map printed_part (map (λ (e : KnownPart). e.0) es))))
    (both (codes ", ") text refl (part_line alone e.0 e.1)) (more_line alone es)

braces_line : (es : List KnownPart) → Line (between_braces (map printed_part (map (λ e. e.0) es)))
braces_line [] = refl
braces_line (e ∷ es) =
    let alone = true && may_be_base (printed_part e.0) in
    let text = part_text alone (printed_part e.0) in
    both text (flat_map (λ (t : List ℕ). codes ", " ++ t) (part_texts alone (map printed_part (map (λ (e : KnownPart). e.0) es)))) (part_line alone e.0 e.1) (more_line alone es)

parts_line : (es : List KnownPart) → Line (between_braces (map part_folded (map (λ e. e.0) es)))
parts_line es =
    let folds : (λ (p : Part). printed_part p) ≡ part_folded = λ i p. sym (part_folds p) i in
    subst (λ (f : Part → PrintedPart). Line (between_braces (map f (map (λ (e : KnownPart). e.0) es)))) folds (braces_line es)

abbrev children : Value-F Known KnownPart → Value-F Value Part
children y = map-Value Known KnownPart Value Part (λ e. e.0) (λ e. e.0) y

layer_line : (y : Value-F Known KnownPart) → Line (text_step (map-Value Value Part PrintedValue PrintedPart printed_value part_folded (children y))).text
unfolding text_of_value
layer_line (layer.Int z) = signed_line z
layer_line (layer.Bits32 n) = both (codes "0x") (hex_text (big_bytes 4 n)) refl (hex_line (big_bytes 4 n))
layer_line (layer.Bits64 n) = both (codes "0x") (hex_text (big_bytes 8 n)) refl (hex_line (big_bytes 8 n))
layer_line (layer.Bool b) = chosen b (codes "true") (codes "false") refl refl
layer_line (layer.Text t) = string_line t
layer_line (layer.List es) =
    let texts = separated (λ (p : PrintedValue). p.text) (map printed_value (map (λ (e : Known). e.0) es)) in
    both (codes "[" ++ texts) (codes "]") (both (codes "[") texts refl (items_line es)) refl
layer_line (layer.Object class version es) =
    let texts = between_braces (map part_folded (map (λ (e : KnownPart). e.0) es)) in
    let named : Line (class_text class version) = both (name_text class ++ codes "#") (signed_decimal version) (both (name_text class) (codes "#") (name_line class) refl) (signed_line version) in
    both (class_text class version ++ codes "{" ++ texts) (codes "}") (both (class_text class version ++ codes "{") texts (both (class_text class version) (codes "{") named refl) (parts_line es)) refl
layer_line (layer.Pointed label e) =
    both (label_text label ++ codes "=") (text_of_value e.0) (both (label_text label) (codes "=") (both (codes "@") (decimal label) refl (decimal_line label)) refl) e.1
layer_line layer.Null = refl
layer_line (layer.Back label) = both (codes "@") (decimal label) refl (decimal_line label)
layer_line (layer.Opaque class len) =
    let named : Line (codes "opaque(" ++ name_text class) = both (codes "opaque(") (name_text class) refl (name_line class) in
    let counted : Line (codes "opaque(" ++ name_text class ++ codes ", " ++ decimal len) =
    both (codes "opaque(" ++ name_text class ++ codes ", ") (decimal len) (both (codes "opaque(" ++ name_text class) (codes ", ") named refl) (decimal_line len) in
    both (codes "opaque(" ++ name_text class ++ codes ", " ++ decimal len) (codes ")") counted refl

rolled_line : (y : Value-F Known KnownPart) → IsLine (roll-Value (children y))
unfolding text_of_value
rolled_line y = subst Line (sym (ap (λ (p : PrintedValue). p.text) (printed_rolled (children y)))) (layer_line y)

pub value_line : (v : Value) → Line (text_of_value v)
value_line =
    ind-Value IsLine (λ p. IsLine p.value) (λ x y is. subst (λ (z : Value-F Value Part). IsLine (roll-Value z)) is (rolled_line y))
    (λ x y is. subst (λ (z : Part-F Value Part). IsLine z.value) is y.value.1)
