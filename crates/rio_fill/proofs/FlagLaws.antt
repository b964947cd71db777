-- Flags of branches.
use Rattle.std.proofs.Common.{◌≡◌, ℕ, zero, suc, ◌+◌, ◌-◌, ◌*◌, ◌/◌, ◌%◌, ◌==◌, ◌^◌, ◌<◌, ◌≤◌, List, [], ◌∷◌, length, drop, get_or, slice_get, Bool, true, false, not, Some, None, refl, sym, ap, ◌∙◌, arith}
use Rattle.std.proofs.{Math.Nat.{pow-le-pow_right, pow-suc}, lemmas.List.{drop-drop, length-drop}}
use Rattle.std.specs.Option.{option_map_or}
use Rattle.rio_entry.proofs.Counting.{left_begins}
use Rattle.rio_fill.specs.{Fill.{BranchFill, bit_of, full_flags, has_flag, has_no_entries, is_full_for, open_flags}, Laws.{FlagsNameBaskets, OpenFlagsNameBaskets}}
use Rattle.rio_fill.proofs.Lists.{get_left}

no_entries : (bs : List BranchFill) → full_flags bs [] ≡ 0
no_entries [] = refl
no_entries (b ∷ bs) = refl

bit_small : (t : Bool) → bit_of t < 2
bit_small true = omega arith
bit_small false = omega arith

flags_below : (bs : List BranchFill) (entries : List (List ℕ)) → full_flags bs entries < 2 ^ length bs
flags_below [] entries = omega arith
flags_below (b ∷ bs) [] =
    let more = flags_below bs [] in
    let power : 2 ^ suc (length bs) ≡ 2 ^ length bs * 2 = pow-suc 2 (length bs) in
    omega (arith, more, power)
flags_below (b ∷ bs) (entry ∷ entries) =
    let more = flags_below bs entries in
    let small = bit_small (is_full_for b (Some entry)) in
    let power : 2 ^ suc (length bs) ≡ 2 ^ length bs * 2 = pow-suc 2 (length bs) in
    omega (arith, more, small, power)

pub flags_fit : (bs : List BranchFill) (entries : List (List ℕ)) (k : ℕ) → length bs ≤ 64 → full_flags (drop k bs) entries < 2 ^ 64
flags_fit bs entries k few =
    let below = flags_below (drop k bs) entries in
    let short : length (drop k bs) ≤ 64 = omega (arith, length-drop k bs, few) in
    let power : 2 ^ length (drop k bs) ≤ 2 ^ 64 = pow-le-pow_right (omega arith) short in
    omega (arith, below, power)

-- the flag of one branch more
module _ (bs : List BranchFill) (entries : List (List ℕ)) (k : ℕ) (b : BranchFill) (lt : k < length bs) (e : b ≡ get_or bs k b) where
  flags_more : bit_of (is_full_for b (slice_get entries k)) + 2 * full_flags (drop (k + 1) bs) (drop (k + 1) entries) ≡ full_flags (drop k bs) (drop k entries)
  flags_more = by (drop k entries) refl ∙ ap (λ (l : List BranchFill). full_flags l (drop k entries)) (sym (left_begins bs k b lt e))
    where
      by : (r : List (List ℕ)) → drop k entries ≡ r → bit_of (is_full_for b (slice_get entries k)) + 2 * full_flags (drop (k + 1) bs) (drop (k + 1) entries) ≡ full_flags (b ∷ drop (k + 1) bs) (drop k entries)
      by [] is =
          let none : slice_get entries k ≡ None = sym (get_left entries k) ∙ ap (λ (l : List (List ℕ)). slice_get l 0) is in
          let rest : drop (k + 1) entries ≡ [] = sym (drop-drop 1 k entries) ∙ ap (drop 1) is in
          let zeros = no_entries (drop (k + 1) bs) in
          rw (none, rest, is, zeros) refl
      by (x ∷ xs) is =
          let some : slice_get entries k ≡ Some x = sym (get_left entries k) ∙ ap (λ (l : List (List ℕ)). slice_get l 0) is in
          let rest : drop (k + 1) entries ≡ xs = sym (drop-drop 1 k entries) ∙ ap (drop 1) is in
          rw (some, rest, is) refl

  pub flags_step : (next : ℕ) (t : Bool) (bit flags : ℕ) → next ≡ k + 1 → t ≡ is_full_for b (slice_get entries k) → bit ≡ bit_of t → flags ≡ full_flags (drop next bs) (drop next entries) → bit + 2 * flags ≡ full_flags (drop k bs) (drop k entries)
  flags_step next t bit flags next_is t_is bit_is so_far =
      ap (λ (n : ℕ). n + 2 * flags) (bit_is ∙ ap bit_of t_is)
      ∙ ap (λ (n : ℕ). bit_of (is_full_for b (slice_get entries k)) + 2 * n) (so_far ∙ ap (λ (n : ℕ). full_flags (drop n bs) (drop n entries)) next_is)
      ∙ flags_more

-- ---- flags of open baskets

open_below : (bs : List BranchFill) → open_flags bs < 2 ^ length bs
open_below [] = omega arith
open_below (b ∷ bs) =
    let more = open_below bs in
    let small = bit_small (not (has_no_entries b)) in
    let power : 2 ^ suc (length bs) ≡ 2 ^ length bs * 2 = pow-suc 2 (length bs) in
    omega (arith, more, small, power)

pub open_fit : (bs : List BranchFill) (k : ℕ) → length bs ≤ 64 → open_flags (drop k bs) < 2 ^ 64
open_fit bs k few =
    let below = open_below (drop k bs) in
    let short : length (drop k bs) ≤ 64 = omega (arith, length-drop k bs, few) in
    let power : 2 ^ length (drop k bs) ≤ 2 ^ 64 = pow-le-pow_right (omega arith) short in
    omega (arith, below, power)

pub open_step : (bs : List BranchFill) (k : ℕ) (b : BranchFill) → k < length bs → b ≡ get_or bs k b → (next bit flags : ℕ) → next ≡ k + 1 → bit ≡ bit_of (not (has_no_entries b)) → flags ≡ open_flags (drop next bs) → bit + 2 * flags ≡ open_flags (drop k bs)
open_step bs k b lt e next bit flags next_is bit_is so_far =
    ap (λ (n : ℕ). n + 2 * flags) bit_is
    ∙ ap (λ (n : ℕ). bit_of (not (has_no_entries b)) + 2 * n) (so_far ∙ ap (λ (n : ℕ). open_flags (drop n bs)) next_is)
    ∙ ap open_flags (sym (left_begins bs k b lt e))

-- ---- single flags

no_flags : (n k : ℕ) → n ≡ 0 → has_flag n k ≡ false
no_flags n zero e = rw e refl
no_flags n (suc k) e = no_flags (n / 2) k (omega (arith, e))

no_entry : (bs : List BranchFill) (k : ℕ) → option_map_or (λ b. is_full_for b (slice_get [] k)) (slice_get bs k) false ≡ false
no_entry [] k = refl
no_entry (b ∷ bs) zero = refl
no_entry (b ∷ bs) (suc k) = no_entry bs k

first_flag : (t : Bool) (n : ℕ) → (bit_of t + 2 * n) % 2 ≡ bit_of t
first_flag true n = omega arith
first_flag false n = omega arith

bit_is_one : (t : Bool) → (bit_of t == 1) ≡ t
bit_is_one true = refl
bit_is_one false = refl

other_flags : (t : Bool) (n : ℕ) → (bit_of t + 2 * n) / 2 ≡ n
other_flags true n = omega arith
other_flags false n = omega arith

pub flags_named : FlagsNameBaskets
flags_named [] entries k = no_flags 0 k refl
flags_named (b ∷ bs) [] k = no_flags 0 k refl ∙ sym (no_entry (b ∷ bs) k)
flags_named (b ∷ bs) (entry ∷ entries) zero =
    let t = is_full_for b (Some entry) in
    ap (λ (n : ℕ). n == 1) (first_flag t (full_flags bs entries)) ∙ bit_is_one t
flags_named (b ∷ bs) (entry ∷ entries) (suc k) =
    ap (λ (n : ℕ). has_flag n k) (other_flags (is_full_for b (Some entry)) (full_flags bs entries)) ∙ flags_named bs entries k

pub open_named : OpenFlagsNameBaskets
open_named [] k = no_flags 0 k refl
open_named (b ∷ bs) zero =
    let t = not (has_no_entries b) in
    ap (λ (n : ℕ). n == 1) (first_flag t (open_flags bs)) ∙ bit_is_one t
open_named (b ∷ bs) (suc k) =
    ap (λ (n : ℕ). has_flag n k) (other_flags (not (has_no_entries b)) (open_flags bs)) ∙ open_named bs k

pub flag_next : (n k : ℕ) → 0 < k → has_flag n k ≡ has_flag (n / 2) (k - 1)
flag_next n zero lt = absurd (omega arith)
flag_next n (suc k) lt = let e : suc k - 1 ≡ k = omega arith in rw e refl

pub flag_last : (n k : ℕ) → k ≤ 0 → has_flag n k ≡ (n % 2 == 1)
flag_last n zero le = refl
flag_last n (suc k) le = absurd (omega arith)
