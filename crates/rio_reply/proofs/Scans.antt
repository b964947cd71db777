-- The lines of a scan.
use Rattle.std.proofs.Common.{◌≡◌, ℕ, ◌+◌, ◌∙◌, List, [], ◌∷◌, ◌++◌, codes, length, Bool, true, false, Ok, Err, refl, sym, ap, append_assoc, add-zero, arith}
use Rattle.std.specs.List.{flat_map}
use Rattle.std.proofs.lemmas.List.{append-nil}
use Rattle.rio_format.specs.declared.value.Value.{Value}
use Rattle.rio_model.specs.{Lists.{separated}, Mapping.{Mapped}, ValueText.{text_of_value}}
use Rattle.rio_model.proofs.ValueTextLaws.{text_of-List}
use Rattle.rio_machine.specs.State.{Row}
use Rattle.rio_step.specs.{ReplyText.{row_lines, row_text, text_of}, Step.{rows_told}}
use Rattle.rio_reply.specs.Scanned.{ScansAreLines, row_line, scan_start, seen_behind, values_behind}

behind_is : (vs : List Value) → values_behind false vs ≡ flat_map (λ v. codes ", " ++ text_of_value v) vs
behind_is [] = refl
behind_is (v ∷ vs) = sym (append_assoc (codes ", ") (text_of_value v) (values_behind false vs)) ∙ ap (λ (l : List ℕ). (codes ", " ++ text_of_value v) ++ l) (behind_is vs)

first_is : (vs : List Value) → values_behind true vs ≡ separated text_of_value vs
first_is [] = refl
first_is (v ∷ vs) = ap (λ (l : List ℕ). text_of_value v ++ l) (behind_is vs)

-- a row in square brackets
pub row_is : (row : Row) → codes "[" ++ values_behind true row ++ codes "]" ≡ row_text row
row_is row = ap (λ (l : List ℕ). codes "[" ++ l ++ codes "]") (first_is row) ∙ sym (text_of-List row)

whole : (name : List ℕ) (rows : List Row) → text_of (rows_told name rows) ≡ scan_start name (length rows) ++ row_lines 0 rows
unfolding text_of
whole name rows = refl

more : (n : ℕ) (rows : List Row) (row : Row) → row_lines n (rows ++ row ∷ []) ≡ row_lines n rows ++ row_line (n + length rows) row
more n [] row = append-nil (row_line n row) ∙ ap (λ k. row_line k row) (sym (add-zero n))
more n (r ∷ rows) row =
    let place : (n + 1) + length rows ≡ n + length (r ∷ rows) = omega arith in
    ap (λ (l : List ℕ). row_line n r ++ l) (more (n + 1) rows row ∙ ap (λ k. row_lines (n + 1) rows ++ row_line k row) place)
    ∙ sym (append_assoc (row_line n r) (row_lines (n + 1) rows) (row_line (n + length (r ∷ rows)) row))

pub scans_are_lines : ScansAreLines
scans_are_lines = record { whole = whole; none = λ n. refl; more = more }

-- nothing stands before a row
pub nothing_before : (m : Mapped Row) → seen_behind [] m ≡ m
nothing_before (Ok row) = refl
nothing_before (Err e) = refl
