-- A file that isn't made yet, and one that is, by its first word.
use Rattle.std.proofs.Common.{◌≡◌, true≢false, ℕ, ◌≤◌, ◌||◌, Bool, true, false, List, ◌++◌, length, length-take, take, drop, codes, refl, sym, ap, subst, ◌∙◌, arith}
use Rattle.std.proofs.{lemmas.Bool.{le-ltb}, lemmas.List.{take-append-drop}, Math.Bool.{or-true}}
use Rattle.std.specs.Prelude.{MatchBool}
use Rattle.byteorder.specs.Endian.{big_bytes}
use Rattle.rio_host.specs.Image.{Has}
use Rattle.rio_host.proofs.Images.{has_length}
use Rattle.rio_chain.proofs.Words.{has_own, has_same}
use Rattle.rio_dir.specs.Unborn.{is_unborn}
use Rattle.rio_machine.specs.State.{empty_state}
use Rattle.rio_state.specs.{Left.{IsLeftAs}, Reads.{ReadsAsMade}}

-- a file that has bytes at its beginning begins with them
pub begins_with : (file bytes : List ℕ) → length bytes ≤ length file → Has file 0 bytes → file ≡ bytes ++ drop (length bytes) file
begins_with file bytes within has =
    let n = length bytes in
    let same : take n file ≡ bytes = has_same file 0 (take n file) bytes (omega (arith, within, length-take n file)) (has_own file 0 n) has in
    sym (take-append-drop n file) ∙ ap (λ (b : List ℕ). b ++ drop n file) same

zero_first : (rest : List ℕ) → is_unborn (big_bytes 4 0 ++ rest) ≡ true
zero_first rest = or-true _

root_first : (rest : List ℕ) → is_unborn (codes "root" ++ rest) ≡ false
root_first rest = ap (λ (b : Bool). b || false) (le-ltb (length (codes "root" ++ rest)) 4 (omega arith))

-- a zero word stands first
pub zero_unborn : (file : List ℕ) → Has file 0 (big_bytes 4 0) → is_unborn file ≡ true
zero_unborn file has = ap is_unborn (begins_with file (big_bytes 4 0) (omega (arith, has_length file 0 (big_bytes 4 0) 3 refl has)) has) ∙ zero_first (drop 4 file)

-- the word root stands first
pub root_born : (file : List ℕ) → Has file 0 (codes "root") → is_unborn file ≡ false
root_born file has = ap is_unborn (begins_with file (codes "root") (omega (arith, has_length file 0 (codes "root") 3 refl has)) has) ∙ root_first (drop 4 file)

-- a file that isn't made yet reads as the empty state
pub unborn_left : (file : List ℕ) → is_unborn file ≡ true → IsLeftAs empty_state file
unborn_left file unborn = record {
  reads = subst (λ (b : Bool). MatchBool b (empty_state ≡ empty_state) (ReadsAsMade file empty_state)) (sym unborn) refl;
  closed = λ word root has not_open. absurd (true≢false (sym unborn ∙ root_born file root));
}
