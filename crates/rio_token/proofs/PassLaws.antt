-- A token that is passed takes some of the text.
use Rattle.std.proofs.{Common.{◌≡◌, ℕ, ◌+◌, ◌≤◌, List, [], ◌∷◌, drop, Bool, true, false, ◌==◌, if◌then◌else◌, refl, arith}, lemmas.List.{length-drop}}
use Rattle.std.specs.List.{prefix_len}
use Rattle.rio_num.specs.Word.{is_blank_byte, is_word_byte}
use Rattle.rio_token.specs.{declared.token.Token.TheVariants.{Mark}, declared.quoted.Ending.{Ending, TheVariants.{Closed, Broken, Unended}}}
use Rattle.rio_token.specs.{declared.quoted.Within.TheVariants.{Between}, Further.{PassedTakesSome, can_be_passed}, Quoted.{quoted}}
use Rattle.rio_token.specs.Tokens.{next_at, scan_from, scan_of, string_scan, word_scan}
use Rattle.rio_token.proofs.FurtherLaws.{scan_within}

string_some : (start : ℕ) (text : List ℕ) (e : Ending) → can_be_passed (string_scan start text e).token ≡ true → 1 ≤ (string_scan start text e).stop
string_some start text (Closed n) h = omega arith
string_some start text Broken h = absurd (cc)
string_some start text Unended h = absurd (cc)

chosen_some : (start b : ℕ) (bs : List ℕ) (item quote : Bool) → is_word_byte b ≡ item →
    (let scan = (if item then word_scan start (prefix_len is_word_byte (b ∷ bs)) (b ∷ bs) else if quote then (let q = quoted Between bs in string_scan start q.text q.ending) else record { token = Mark b; start = start; stop = start + 1; bytes = [] }) in
    can_be_passed scan.token ≡ true → 1 ≤ scan.stop)
chosen_some start b bs true quote e h =
    let run : prefix_len is_word_byte (b ∷ bs) ≡ 1 + prefix_len is_word_byte bs = rw e refl in
    omega (arith, run)
chosen_some start b bs false true e h = string_some start (quoted Between bs).text (quoted Between bs).ending h
chosen_some start b bs false false e h = omega arith

from_some : (start : ℕ) (bs : List ℕ) → can_be_passed (scan_from start bs).token ≡ true → 1 ≤ (scan_from start bs).stop
from_some start [] h = absurd (cc)
from_some start (b ∷ bs) h = chosen_some start b bs (is_word_byte b) (b == 34) refl h

scan_some : (bs : List ℕ) → can_be_passed (scan_of bs).token ≡ true → 1 ≤ (scan_of bs).stop
unfolding scan_of
scan_some bs h = from_some (prefix_len is_blank_byte bs) (drop (prefix_len is_blank_byte bs) bs) h

pub passed_takes_some : PassedTakesSome
passed_takes_some s h =
    let some = scan_some s.rest h in
    let within = scan_within s.rest in
    let size = length-drop (next_at s).stop s.rest in
    omega (arith, some, within, size)
