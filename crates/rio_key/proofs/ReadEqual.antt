-- A basket whose entries have one length: they are read as they were written.
use Rattle.std.proofs.Common.{◌≡◌, ℕ, zero, suc, ◌+◌, ◌-◌, ◌*◌, ◌/◌, ◌%◌, ◌<◌, ◌≤◌, List, [], ◌∷◌, ◌++◌, length, take, drop, Bool, true, false, cond, ◌==◌, add-one, refl, sym, ap, subst, ◌∙◌, arith}
use Rattle.std.proofs.{Math.Nat.{mul-div_cancel_left, mul-mod_right, suc-mul}, lemmas.Bool.{eq-eqb, ne_eqb}, lemmas.List.FromFn.{fill_by_all}}
use Rattle.std.specs.List.{concat, list_all}
use Rattle.rio_key.specs.{declared.basket_layout.Layout.{Layout}, BasketEntries.{entry_length, equal_place, laid_entries, laid_entry}, OpenBasket.{have_one_length}}
use Rattle.rio_key.specs.{BasketRecord.{first_entry_length}, StoredLayout.{is_multiple}}
use Rattle.rio_key.proofs.JoinedLaws.{before, before_all, before_equal, before_next, entry_at, entry_there}

-- each is as long as the first
all_long : (entries : List (List ℕ)) → have_one_length entries ≡ true → list_all (λ e. length e == first_entry_length entries) entries ≡ true
all_long [] h = refl
all_long (e ∷ es) h = let same : length e == length e ≡ true = eq-eqb (length e) (length e) refl in rw (same, h) refl

pub before_is : (entries : List (List ℕ)) → have_one_length entries ≡ true → (k : ℕ) → k ≤ length entries → before k entries ≡ k * first_entry_length entries
before_is entries h k le = before_equal (first_entry_length entries) entries (all_long entries h) k le

all_is : (entries : List (List ℕ)) → have_one_length entries ≡ true → length (concat entries) ≡ length entries * first_entry_length entries
all_is entries h = sym (before_all entries (length entries) (omega arith)) ∙ before_is entries h (length entries) (omega arith)

divides : (n count each : ℕ) → n ≡ count * each → is_multiple n count ≡ true
divides n zero each e = eq-eqb n 0 (e ∙ (let z : 0 * each ≡ 0 = omega arith in z))
divides n (suc count) each e =
    let more : suc count == 0 ≡ false = ne_eqb (suc count) 0 (λ z. omega (arith, z)) in
    ap (λ (t : Bool). cond t (n == 0) (n % suc count == 0)) more ∙ ap (λ (m : ℕ). m % suc count == 0) e ∙ eq-eqb (suc count * each % suc count) 0 (mul-mod_right (suc count) each)

pub length_divides : (first : ℕ) (entries : List (List ℕ)) → have_one_length entries ≡ true → is_multiple (first + length (concat entries) - first) (length entries) ≡ true
length_divides first entries h = divides (first + length (concat entries) - first) (length entries) (first_entry_length entries) (omega (arith, all_is entries h))

module _ (front : List ℕ) (entries : List (List ℕ)) (tail : List ℕ) (end : ℕ) (even : have_one_length entries ≡ true) where
  abbrev layout : Layout
  layout = record { first = length front; last = length front + length (concat entries); end = end; count = length entries }

  abbrev bytes : List ℕ
  bytes = front ++ (concat entries ++ tail)

  each_is : 0 < length entries → entry_length layout ≡ first_entry_length entries
  each_is lt =
      let all : length front + length (concat entries) - length front ≡ length entries * first_entry_length entries = omega (arith, all_is entries even) in
      ap (λ (n : ℕ). n / length entries) all ∙ mul-div_cancel_left (first_entry_length entries) lt

  entry_read : (k : ℕ) → k < length entries → entry_at entries k ≡ laid_entry false layout bytes k
  entry_read k lt =
      let each = first_entry_length entries in
      let own : entry_length layout ≡ each = each_is (omega arith) in
      let place : equal_place layout k ≡ length front + before k entries = ap (λ (n : ℕ). length front + k * n) own ∙ ap (λ (n : ℕ). length front + n) (sym (before_is entries even k (omega arith))) in
      let next : before (k + 1) entries ≡ before k entries + length (entry_at entries k) = before_next entries k lt in
      let product : (k + 1) * each ≡ k * each + each = ap (λ (m : ℕ). m * each) (add-one k) ∙ suc-mul k each in
      let long : length (entry_at entries k) ≡ each = omega (arith, next, product, before_is entries even k (omega arith), before_is entries even (k + 1) (omega arith)) in
      let width : equal_place layout k + entry_length layout - equal_place layout k ≡ length (entry_at entries k) = omega (arith, own, long) in
      sym (
      ap (λ (n : ℕ). take n (drop (equal_place layout k) bytes)) width
      ∙ ap (λ (n : ℕ). take (length (entry_at entries k)) (drop n bytes)) place
      ∙ entry_there entries front tail k lt
      )

  pub entries_read : laid_entries false layout bytes ≡ entries
  entries_read = sym (fill_by_all (laid_entry false layout bytes) entries (length entries) [] refl entry_read)

-- behind a front of this length
pub read_without_offsets : (front : List ℕ) (k : ℕ) → k ≡ length front → (entries : List (List ℕ)) (tail : List ℕ) (end : ℕ) → have_one_length entries ≡ true → let layout : Layout = record { first = k; last = k + length (concat entries); end = end; count = length entries } in laid_entries false layout (front ++ (concat entries ++ tail)) ≡ entries
read_without_offsets front k e entries tail end even =
    subst (λ (n : ℕ). laid_entries false (record { first = n; last = n + length (concat entries); end = end; count = length entries }) (front ++ (concat entries ++ tail)) ≡ entries) (sym e) (entries_read front entries tail end even)
