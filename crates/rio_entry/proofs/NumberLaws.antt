-- The number of an entry's basket, found from a basket on that isn't behind it, and by the entries that each basket has.
use Rattle.std.proofs.Common.{◌≡◌, ℕ, zero, suc, ◌+◌, ◌-◌, ◌<◌, ◌≤◌, List, [], ◌∷◌, length, take, drop, Bool, true, false, cond, leb, nat_le, Option, Some, refl, sym, ap, subst, ◌∙◌, arith}
use Rattle.std.proofs.{lemmas.Bool.{le-leb}, lemmas.List.{drop-drop, length-drop, take_all}}
use Rattle.std.specs.List.{prefix_len}
use Rattle.rio_tree.specs.{Index.{IsIndex, basket_number}, declared.basket_at.BasketAt.{BasketAt}}
use Rattle.rio_entry.specs.Index.{basket_holding}
use Rattle.rio_entry.proofs.IndexLaws.{holds, passed}

abbrev pub begins_by : ℕ → BasketAt → Bool
begins_by e at = nat_le at.first e

-- ---- from one on

within_length : (p : BasketAt → Bool) (bs : List BasketAt) → prefix_len p bs ≤ length bs
within_length p [] = omega arith
within_length p (b ∷ bs) = by (within_length p bs) (p b) refl
  where
    by : prefix_len p bs ≤ length bs → (c : Bool) → p b ≡ c → prefix_len p (b ∷ bs) ≤ length (b ∷ bs)
    by rest false is = rw is (omega arith)
    by rest true is = rw is (omega (arith, rest))

goes_from : (p : BasketAt → Bool) (n : ℕ) (bs : List BasketAt) → n ≤ prefix_len p bs → n + prefix_len p (drop n bs) ≡ prefix_len p bs
goes_from p zero bs le = omega arith
goes_from p (suc n) [] le = absurd (omega (arith, le))
goes_from p (suc n) (b ∷ bs) le = by (goes_from p n bs) (p b) refl
  where
    by : (n ≤ prefix_len p bs → n + prefix_len p (drop n bs) ≡ prefix_len p bs) → (c : Bool) → p b ≡ c → suc n + prefix_len p (drop n bs) ≡ prefix_len p (b ∷ bs)
    by rest false is =
        let none : prefix_len p (b ∷ bs) ≡ 0 = rw is refl in
        absurd (omega (arith, le, none))
    by rest true is =
        let one : prefix_len p (b ∷ bs) ≡ 1 + prefix_len p bs = rw is refl in
        let same = rest (omega (arith, le, one)) in
        omega (arith, same, one)

number_lower : (e from : ℕ) (bs : List BasketAt) → from < length bs → from + prefix_len (begins_by e) (drop (from + 1) bs) < length bs
number_lower e from bs lt =
    let most = within_length (begins_by e) (drop (from + 1) bs) in
    let size = length-drop (from + 1) bs in
    omega (arith, most, size, lt)

number_is : (e from : ℕ) (bs : List BasketAt) → from ≤ basket_number e bs → from + prefix_len (begins_by e) (drop (from + 1) bs) ≡ basket_number e bs
number_is e from bs le =
    let same : from + 1 ≡ 1 + from = omega arith in
    ap (λ (l : List BasketAt). from + prefix_len (begins_by e) l) (ap (λ (n : ℕ). drop n bs) same ∙ sym (drop-drop from 1 bs))
    ∙ goes_from (begins_by e) from (drop 1 bs) le

-- the baskets behind one
abbrev pub behind_one : ℕ → List BasketAt → List BasketAt
behind_one from bs = take (length bs - (from + 1)) (drop (from + 1) bs)

all_behind : (from : ℕ) (bs : List BasketAt) → behind_one from bs ≡ drop (from + 1) bs
all_behind from bs = let size = length-drop (from + 1) bs in take_all (length bs - (from + 1)) (drop (from + 1) bs) (omega (arith, size))

pub number_low : (e from : ℕ) (bs : List BasketAt) → from < length bs → from + prefix_len (begins_by e) (behind_one from bs) < length bs
number_low e from bs lt = subst (λ (l : List BasketAt). from + prefix_len (begins_by e) l < length bs) (sym (all_behind from bs)) (number_lower e from bs lt)

pub number_of : (e from : ℕ) (bs : List BasketAt) → from ≤ basket_number e bs → from + prefix_len (begins_by e) (behind_one from bs) ≡ basket_number e bs
number_of e from bs le = ap (λ (l : List BasketAt). from + prefix_len (begins_by e) l) (all_behind from bs) ∙ number_is e from bs le

pub number_past : (e from : ℕ) (bs : List BasketAt) → length bs ≤ from → from ≤ basket_number e bs → from ≡ basket_number e bs
number_past e from bs past le =
    let most = within_length (begins_by e) (drop 1 bs) in
    let size = length-drop 1 bs in
    omega (arith, most, size, past, le)

-- ---- the basket that holds the entry

-- how many begin at the entry or before it is counted the same
as_many : (baskets : List BasketAt) (entry : ℕ) → passed baskets entry ≡ prefix_len (λ at. nat_le at.first entry) baskets
as_many [] entry = refl
as_many (b ∷ bs) entry = by (as_many bs entry) (leb b.first entry)
  where
    by : passed bs entry ≡ prefix_len (λ at. nat_le at.first entry) bs → (c : Bool) → cond c (passed bs entry + 1) 0 ≡ cond c (1 + prefix_len (λ at. nat_le at.first entry) bs) 0
    by rest true = omega (arith, rest)
    by rest false = refl

numbered : (baskets : List BasketAt) (entries entry : ℕ) → IsIndex baskets entries → entry < entries → passed baskets entry - 1 ≡ basket_number entry baskets
numbered [] entries entry index lt = absurd (omega (arith, index, lt))
numbered (b ∷ bs) entries entry index lt =
    let behind : leb b.first entry ≡ true = le-leb _ _ (omega (arith, index.0)) in
    let own : passed (b ∷ bs) entry - 1 ≡ passed bs entry = ap (λ (c : Bool). cond c (passed bs entry + 1) 0 - 1) behind ∙ omega arith in
    own ∙ as_many bs entry

pub number_holds : (baskets : List BasketAt) (entries entry n : ℕ) → IsIndex baskets entries → entry < entries → n ≡ basket_number entry baskets → basket_holding baskets entries entry ≡ Some n
number_holds baskets entries entry n index lt is =
    holds baskets entries entry index lt ∙ ap (λ (k : ℕ). let o : Option ℕ = Some k in o) (numbered baskets entries entry index lt ∙ sym is)
