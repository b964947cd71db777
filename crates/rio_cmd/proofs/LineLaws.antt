-- The lines of a text, from its first one on.
use Rattle.std.proofs.Common.{◌≡◌, ℕ, ◌+◌, ◌-◌, ◌<◌, List, [], ◌∷◌, ◌++◌, length, take, drop, Bool, true, false, cond, Some, None, refl, sym, ◌∙◌, ap, append_assoc, arith, length-drop}
use Rattle.std.proofs.{Math.Seq.{take-length}, lemmas.Bool.Decides.{nat_tests}, lemmas.List.{append-nil, Splits.{slice_split_first}}}
use Rattle.std.specs.{List.{onto_first, position_or_len, slice_split}, Prelude.{◌==◌, if◌then◌else◌, nat_lt, not, position}}
use Rattle.std.specs.Str.Lines.{lines, lines_of_parts, strip_carriage_return}
use Rattle.rio_machine.specs.declared.command.Command.{Command}
use Rattle.rio_step.specs.Script.{commands_from, is_command_line, line_command}

abbrev ends : ℕ → Bool
ends b = b == 10

-- no part before others is the last one
behind_part : (x : List ℕ) (bytes : List ℕ) → lines_of_parts (x ∷ slice_split ends bytes) ≡ strip_carriage_return x ∷ lines_of_parts (slice_split ends bytes)
behind_part x [] = refl
behind_part x (b ∷ bs) = by (ends b) (slice_split ends bs)
  where
    by : (end : Bool) (parts : List (List ℕ)) → lines_of_parts (x ∷ cond end ([] ∷ parts) (onto_first b parts)) ≡ strip_carriage_return x ∷ lines_of_parts (cond end ([] ∷ parts) (onto_first b parts))
    by true parts = refl
    by false [] = refl
    by false (part ∷ parts) = refl

-- a text up to its first line feed is its first line
pub first_line : (bytes : List ℕ) (k : ℕ) → position ends bytes ≡ Some k → lines bytes ≡ strip_carriage_return (take k bytes) ∷ lines (drop (k + 1) bytes)
first_line bytes k at = by (nat_lt n (length bytes)) refl at
  where
    n : ℕ
    n = position_or_len ends bytes

    by : (found : Bool) → nat_lt n (length bytes) ≡ found → cond found (Some n) None ≡ Some k → lines bytes ≡ strip_carriage_return (take k bytes) ∷ lines (drop (k + 1) bytes)
    by true within e =
        let same : n ≡ k = cc in
        let below : n < length bytes = grind (arith, nat_tests) in
        rw (slice_split_first ends bytes 0 below, same) (behind_part (take k bytes) (drop (k + 1) bytes))
    by false within e = absurd cc

uncut : (bytes : List ℕ) → nat_lt (position_or_len ends bytes) (length bytes) ≡ false → slice_split ends bytes ≡ bytes ∷ []
uncut [] none = refl
uncut (b ∷ bs) none = by (ends b) none (uncut bs)
  where
    by : (end : Bool) → nat_lt (cond (not end) (1 + position_or_len ends bs) 0) (length (b ∷ bs)) ≡ false
        → (nat_lt (position_or_len ends bs) (length bs) ≡ false → slice_split ends bs ≡ bs ∷ [])
        → cond end ([] ∷ slice_split ends bs) (onto_first b (slice_split ends bs)) ≡ (b ∷ bs) ∷ []
    by true none later = absurd (grind (arith, nat_tests))
    by false none later =
        let below : nat_lt (position_or_len ends bs) (length bs) ≡ false = grind (arith, nat_tests) in
        rw (later below) refl

-- a text without a line feed is one line
pub only_line : (bytes : List ℕ) → position ends bytes ≡ None → (length bytes == 0) ≡ false → lines bytes ≡ bytes ∷ []
only_line bytes none some = by (nat_lt n (length bytes)) refl none
  where
    n : ℕ
    n = position_or_len ends bytes

    by : (found : Bool) → nat_lt n (length bytes) ≡ found → cond found (Some n) None ≡ None → lines bytes ≡ bytes ∷ []
    by true within e = absurd cc
    by false within e = rw (uncut bytes within, some) refl

-- what stands from a place on, up to the end
pub rest_whole : (n : ℕ) (bytes : List ℕ) → take (length bytes - n) (drop n bytes) ≡ drop n bytes
rest_whole n bytes = ap (λ m. take m (drop n bytes)) (sym (length-drop n bytes)) ∙ take-length (drop n bytes)

-- ---- the commands of lines, one line after the other

no_lines : (number : ℕ) → commands_from number [] ≡ []
unfolding commands_from
no_lines number = refl

-- a line that is a command gives one, any other none
first_command : (number : ℕ) (line : List ℕ) (later : List (List ℕ)) → commands_from number (line ∷ later)
    ≡ (if is_command_line line then line_command number line ∷ commands_from (number + 1) later else commands_from (number + 1) later)
unfolding commands_from
first_command number line later = refl

module _ (commands all : List Command) (number : ℕ) where
  pub command_read : (line : List ℕ) (later : List (List ℕ)) → is_command_line line ≡ true
      → commands ++ commands_from number (line ∷ later) ≡ all → (commands ++ line_command number line ∷ []) ++ commands_from (number + 1) later ≡ all
  command_read line later is e =
      append_assoc commands (line_command number line ∷ []) (commands_from (number + 1) later)
      ∙ ap (λ (l : List Command). commands ++ l) (sym (rw is at (first_command number line later)))
      ∙ e

  pub line_passed : (line : List ℕ) (later : List (List ℕ)) → is_command_line line ≡ false
      → commands ++ commands_from number (line ∷ later) ≡ all → commands ++ commands_from (number + 1) later ≡ all
  line_passed line later is e = ap (λ (l : List Command). commands ++ l) (sym (rw is at (first_command number line later))) ∙ e

  pub no_lines_left : (bytes : List ℕ) → bytes ≡ [] → commands ++ commands_from number (lines bytes) ≡ all → commands ≡ all
  no_lines_left bytes empty e =
      sym (append-nil commands)
      ∙ ap (λ (l : List Command). commands ++ l) (sym (no_lines number))
      ∙ ap (λ (left : List ℕ). commands ++ commands_from number (lines left)) (sym empty)
      ∙ e
