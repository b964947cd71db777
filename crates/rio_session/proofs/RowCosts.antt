-- What a row may cost of the file's room, entry by entry.
use Rattle.std.proofs.Common.{◌≡◌, ◌==◌, ℕ, ◌+◌, ◌*◌, ◌<◌, ◌≤◌, Bool, true, false, List, [], ◌∷◌, drop, length, slice_get, Some, ap, arith}
use Rattle.std.proofs.lemmas.{List.{drop_all}, List.Sums.{sum_by-cons}}
use Rattle.std.specs.{Prelude.{if◌then◌else◌}, List.{sum_by}}
use Rattle.rio_session.specs.{Measures.{IsSmallRow}, RowPlans.{entry_cost, row_cost}}
use Rattle.rio_session.proofs.Summed.{all_at, found, left_of}

pub entry_short : (row : List (List ℕ)) → IsSmallRow row → (k : ℕ) (entry : List ℕ) → slice_get row k ≡ Some entry → length entry ≤ 16777216
entry_short row small k entry is = all_at (λ (e : List ℕ). length e ≤ 16777216) row small k entry is

entries_by : (b : Bool) (row : List (List ℕ)) → sum_by (λ e. 2 * length e + 5 + (if b then 330 else 0)) row ≡ sum_by (λ e. 2 * length e + 5) row + (if b then 330 * length row else 0)
entries_by true [] = omega arith
entries_by false [] = omega arith
entries_by true (e ∷ row) = omega (arith, entries_by true row, sum_by-cons (λ (x : List ℕ). 2 * length x + 5 + 330) e row, sum_by-cons (λ (x : List ℕ). 2 * length x + 5) e row)
entries_by false (e ∷ row) = omega (arith, entries_by false row, sum_by-cons (λ (x : List ℕ). 2 * length x + 5 + 0) e row, sum_by-cons (λ (x : List ℕ). 2 * length x + 5) e row)

-- the first k entries are counted
pub record Costing (row : List (List ℕ)) (pending k cost : ℕ) : Type 0 where
  pub within : k ≤ length row
  pub left : cost + sum_by (λ e. entry_cost e pending) (drop k row) ≡ sum_by (λ e. entry_cost e pending) row
  pub low : cost ≤ 33554767 * k

pub costing_begins : (row : List (List ℕ)) (pending : ℕ) → Costing row pending 0 0
costing_begins row pending = record { within = omega arith; left = omega arith; low = omega arith }

pub costing_goes_on : (row : List (List ℕ)) (pending k cost : ℕ) → Costing row pending k cost → k < length row → (n : ℕ) → ((entry : List ℕ) → slice_get row k ≡ Some entry → n ≡ entry_cost entry pending) → n ≤ 33554767
    → Costing row pending (k + 1) (cost + n)
costing_goes_on row pending k cost sofar lt n exact low =
    let f = found row k lt in
    let more = ap (sum_by (λ e. entry_cost e pending)) (left_of row k f.0 f.1) in
    let one = sum_by-cons (λ (e : List ℕ). entry_cost e pending) f.0 (drop (k + 1) row) in
    record { within = omega (arith, lt); left = omega (arith, sofar.left, more, one, exact f.0 f.1); low = omega (arith, sofar.low, low) }

pub costing_ends : (row : List (List ℕ)) (pending k cost : ℕ) → Costing row pending k cost → length row ≤ k → cost ≡ row_cost row pending
costing_ends row pending k cost sofar le =
    let none = ap (sum_by (λ e. entry_cost e pending)) (drop_all k row le) in
    omega (arith, sofar.left, none, entries_by (pending == 0) row)
