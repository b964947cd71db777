-- Rows that are printed are read again.
use Rattle.std.proofs.Common.{◌≡◌, ◌<◌, ◌^◌, ◌∷◌, ◌∙◌, [], ℕ, ℤ, List, Bool, true, false, Option, Some, None, map, refl, sym, ap}
use Rattle.std.specs.{List.{flat_map}, Option.{option_and_then, option_map}}
use Rattle.csv.specs.{Machine.{next_record}, Reading.{AreRecords, Reached, default_config}, Writing.{read_back}}
use Rattle.csv.specs.declared.parser.State.TheVariants as st
use Rattle.csv.proofs.RoundTrip.{read-write}
use Rattle.rio_csv.specs.{Fields.{eight_bytes, field_of, four_bytes, own_bytes_or, value_of_kind}, Laws.{AreRows, IsOfKind, IsRow, PrintedRowsAreRead}, Rows.{letters_of, line_of, row_in, values_in}}
use Rattle.rio_csv.specs.declared.field.FieldKind.{FieldKind, TheVariants.{Number, Truth, FourBytes, EightBytes, Text}}
use Rattle.rio_csv.proofs.RecordLaws.{are_records}
use Rattle.rio_model.specs.{ValueGrammar.{bits_value, word_value}, ValueText.{PrintedPart, PrintedValue, bits_text, printed_value, text_of_value, text_step}}
use Rattle.rio_model.proofs.ReadWords.{eight_value, four_value, not_empty}
use Rattle.rio_token.specs.{Laws.{IsNumber}, Words.{bits_of, decimal, number_of}, declared.words.Bits.{Bits, TheVariants.{Four, Eight}}}
use Rattle.rio_token.proofs.DecimalLaws.{integers_are_read}
use Rattle.rio_model.proofs.ValueTextLaws.{part_folded, printed_rolled}
use Rattle.rio_format.specs.{Accessors.{layer_text_bytes}, declared.value.Part.{Part}}
use Rattle.rio_format.specs.declared.value.Value.{Value, Int, Bits32, Bits64, Bool as Truthful, Text as Texted, map-Value, out-Value, out-roll-Value, roll-Value, TheOpen.{Value-F}, TheVariants.{rolls-Int, rolls-Bits32, rolls-Bits64, rolls-Bool, rolls-Text}}
use Rattle.rio_format.specs.declared.value.Value.TheOpen as layer

-- ---- fields

no_number : (digits : List ℕ) → number_of (48 ∷ 120 ∷ digits) ≡ None
unfolding number_of decimal
no_number digits = rw (not_empty 120 digits) refl

bits_alone : (digits : List ℕ) (v : Value) → word_value (48 ∷ 120 ∷ digits) ≡ Some v → bits_value (bits_of (48 ∷ 120 ∷ digits)) ≡ Some v
unfolding word_value
bits_alone digits v h = rw (no_number digits) at h

four_from : (o : Option Bits) (n : ℕ) → bits_value o ≡ Some (Bits32 n) → option_and_then four_bytes o ≡ Some (Bits32 n)
four_from None n h = cc h
four_from (Some (Four m)) n h = h
four_from (Some (Eight m)) n h = cc h

eight_from : (o : Option Bits) (n : ℕ) → bits_value o ≡ Some (Bits64 n) → option_and_then eight_bytes o ≡ Some (Bits64 n)
eight_from None n h = cc h
eight_from (Some (Four m)) n h = cc h
eight_from (Some (Eight m)) n h = h

-- the field of a value that stands alone
alone : (y : Value-F Value Part) (v : Value) → roll-Value y ≡ v
    → field_of v ≡ own_bytes_or (layer_text_bytes y) (text_step (map-Value Value Part PrintedValue PrintedPart printed_value part_folded y)).text
unfolding text_of_value
alone y v rolls =
    let out : out-Value v ≡ y = ap out-Value (sym rolls) ∙ out-roll-Value y in
    let told : text_of_value v ≡ (text_step (map-Value Value Part PrintedValue PrintedPart printed_value part_folded y)).text =
    ap text_of_value (sym rolls) ∙ ap (λ (p : PrintedValue). p.text) (printed_rolled y) in
    ap (λ (l : Value-F Value Part). own_bytes_or (layer_text_bytes l) (text_of_value v)) out
    ∙ ap (own_bytes_or (layer_text_bytes y)) told

number_again : (z : ℤ) → IsNumber z → value_of_kind Number (field_of (Int z)) ≡ Some (Int z)
number_again z h = ap (value_of_kind Number) (alone (layer.Int z) (Int z) (rolls-Int z)) ∙ ap (option_map Int) (integers_are_read z h)

truth_again : (b : Bool) → value_of_kind Truth (field_of (Truthful b)) ≡ Some (Truthful b)
truth_again true = ap (value_of_kind Truth) (alone (layer.Bool true) (Truthful true) (rolls-Bool true))
truth_again false = ap (value_of_kind Truth) (alone (layer.Bool false) (Truthful false) (rolls-Bool false))

four_again : (n : ℕ) → n < 2 ^ 32 → value_of_kind FourBytes (field_of (Bits32 n)) ≡ Some (Bits32 n)
four_again n h =
    ap (value_of_kind FourBytes) (alone (layer.Bits32 n) (Bits32 n) (rolls-Bits32 n))
    ∙ four_from (bits_of (bits_text 4 n)) n (bits_alone _ (Bits32 n) (four_value n h))

eight_again : (n : ℕ) → n < 2 ^ 64 → value_of_kind EightBytes (field_of (Bits64 n)) ≡ Some (Bits64 n)
eight_again n h =
    ap (value_of_kind EightBytes) (alone (layer.Bits64 n) (Bits64 n) (rolls-Bits64 n))
    ∙ eight_from (bits_of (bits_text 8 n)) n (bits_alone _ (Bits64 n) (eight_value n h))

text_again : (text : List ℕ) → value_of_kind Text (field_of (Texted text)) ≡ Some (Texted text)
text_again text = ap (value_of_kind Text) (alone (layer.Text text) (Texted text) (rolls-Text text))

field_again : (kind : FieldKind) (v : Value) → IsOfKind kind v → value_of_kind kind (field_of v) ≡ Some v
field_again Number v h = rw h.2 (number_again h.0 h.1)
field_again Truth v h = rw h.1 (truth_again h.0)
field_again FourBytes v h = rw h.2 (four_again h.0 h.1)
field_again EightBytes v h = rw h.2 (eight_again h.0 h.1)
field_again Text v h = rw h.1 (text_again h.0)

-- ---- rows

values_again : (letters : List ℕ) (row : List Value) → IsRow letters row → values_in letters (map field_of row) ≡ Some row
values_again [] [] h = refl
values_again [] (v ∷ vs) h = absurd h
values_again (letter ∷ letters) [] h = absurd h
values_again (letter ∷ letters) (v ∷ vs) h = rw (h.1, field_again h.0 v h.2, values_again letters vs h.3) refl

row_again : (letters : List ℕ) (row : List Value) → IsRow letters row → row_in letters (read_back (map field_of row)) ≡ row
row_again [] [] h = refl
row_again (letter ∷ letters) [] h = absurd h
row_again letters (v ∷ vs) h = rw (values_again letters (v ∷ vs) h) refl

-- the fields that a line is read as
abbrev fields_again : List Value → List (List ℕ)
fields_again row = read_back (map field_of row)

rows_again : (letters : List ℕ) (rows : List (List Value)) → AreRows letters rows → map (row_in letters) (map fields_again rows) ≡ rows
rows_again letters [] h = refl
rows_again letters (row ∷ rows) h = rw (row_again letters row h.0, rows_again letters rows h.1) refl

lines_reached : (rows : List (List Value)) → Reached default_config st.StartRecord (flat_map line_of rows) (map fields_again rows) st.StartRecord []
unfolding Reached
lines_reached [] = (refl, refl)
lines_reached (row ∷ rows) =
    ((fields_again row, st.StartRecord, flat_map line_of rows), read-write (map field_of row) (flat_map line_of rows), refl, lines_reached rows)

no_more : next_record default_config st.StartRecord [] [] [] ≡ None
unfolding next_record
no_more = refl

pub printed_rows_are_read : PrintedRowsAreRead
printed_rows_are_read branches rows h plain =
    let text = flat_map line_of rows in
    let all : AreRecords default_config st.StartRecord text (map fields_again rows) = (st.StartRecord, [], lines_reached rows, no_more) in
    rw (plain, sym (are_records text (map fields_again rows) all)) (rows_again (letters_of branches) rows h)
