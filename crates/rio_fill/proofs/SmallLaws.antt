-- The open basket stays within the limits.
use Rattle.std.proofs.Common.{◌≡◌, ◌==◌, ◌&&◌, ◌||◌, ℕ, ◌+◌, ◌<◌, ◌≤◌, List, [], ◌∷◌, ◌++◌, length, Bool, true, false, refl, sym, ap, subst, ◌∙◌, arith}
use Rattle.std.proofs.{lemmas.Bool.{and_parts, eqb-true, ltb-true}, lemmas.List.{length-append}}
use Rattle.std.specs.{List.{concat, list_all}, Prelude.{nat_le, nat_lt}}
use Rattle.rio_key.specs.{OpenBasket.{entries_length, takes_entry}, Cut.{Cut, cut_behind, cut_more}}
use Rattle.rio_key.proofs.OpenLaws.{least}
use Rattle.rio_fill.specs.{Laws.{IsSmall, OpenBasketStaysSmall}}
use Rattle.rio_fill.proofs.CutLaws.{cut_full, cut_taken}

bytes_more : (entries : List (List ℕ)) (entry : List ℕ) → entries_length (entries ++ entry ∷ []) ≡ entries_length entries + length entry
bytes_more [] entry = let len = length-append entry [] in omega (arith, len)
bytes_more (e ∷ es) entry =
    let one = length-append e (concat (es ++ entry ∷ [])) in
    let other = length-append e (concat es) in
    let more = bytes_more es entry in
    omega (arith, one, other, more)

none_long : (entries : List (List ℕ)) → length entries ≡ 0 → entries_length entries ≡ 0
none_long [] e = refl
none_long (x ∷ xs) e = absurd (omega (arith, e))

first_small : (entry : List ℕ) → length entry ≤ 16777216 → IsSmall (entry ∷ [])
first_small entry short = record { count = omega arith; bytes = let len = length-append entry [] in omega (arith, len, short) }

taken_small : (entries : List (List ℕ)) (entry : List ℕ) → takes_entry entries (length entry) ≡ true → length entry ≤ 16777216 → IsSmall (entries ++ entry ∷ [])
taken_small entries entry fits short = by (length entries == 0) refl
  where
    by : (b : Bool) → (length entries == 0) ≡ b → IsSmall (entries ++ entry ∷ [])
    by true e =
        let none = eqb-true (length entries) 0 e in
        let bytes = none_long entries none in
        record { count = omega (arith, length-append entries (entry ∷ []), none); bytes = omega (arith, bytes_more entries entry, bytes, short) }
    by false e =
        let both : (nat_le (entries_length entries + length entry) 32000 && nat_lt (length entries) 8192) ≡ true = ap (λ (b : Bool). b || (nat_le (entries_length entries + length entry) 32000 && nat_lt (length entries) 8192)) (sym e) ∙ fits in
        let parts = and_parts (nat_le (entries_length entries + length entry) 32000) (nat_lt (length entries) 8192) both in
        let low = least (entries_length entries + length entry) 32000 parts.0 in
        let few : length entries < 8192 = ltb-true _ _ parts.1 in
        record { count = omega (arith, length-append entries (entry ∷ []), few); bytes = omega (arith, bytes_more entries entry, low) }

small_more : (cut : Cut) (entry : List ℕ) → IsSmall cut.rest → length entry ≤ 16777216 → IsSmall (cut_more cut entry).rest
small_more cut entry small short = by (takes_entry cut.rest (length entry)) refl
  where
    by : (b : Bool) → takes_entry cut.rest (length entry) ≡ b → IsSmall (cut_more cut entry).rest
    by true e = subst (λ (c : Cut). IsSmall c.rest) (sym (cut_taken cut entry e)) (taken_small cut.rest entry e short)
    by false e = subst (λ (c : Cut). IsSmall c.rest) (sym (cut_full cut entry e)) (first_small entry short)

small_behind : (cut : Cut) (entries : List (List ℕ)) → IsSmall cut.rest → list_all (λ e. nat_le (length e) 16777216) entries ≡ true → IsSmall (cut_behind cut entries).rest
small_behind cut [] small short = small
small_behind cut (e ∷ es) small short =
    let parts = and_parts (nat_le (length e) 16777216) (list_all (λ x. nat_le (length x) 16777216) es) short in
    small_behind (cut_more cut e) es (small_more cut e small (least (length e) 16777216 parts.0)) parts.1

pub open_stays_small : OpenBasketStaysSmall
open_stays_small entries short = small_behind (record { put = []; rest = [] }) entries (record { count = omega arith; bytes = omega arith }) short
