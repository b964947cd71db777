-- The rows of a tree are saved where its header names no empty basket and each entry has a row.
use Rattle.std.proofs.Common.{◌≡◌, ℕ, zero, suc, ◌+◌, ◌-◌, ◌<◌, ◌≤◌, ◌==◌, ◌&&◌, Bool, true, false, cond, not, List, [], ◌∷◌, ◌++◌, length, drop, slice_get, leb, ltb, Option, Some, None, is_some, is_none, unwrap_or, Ok, Err, refl, sym, ap, ◌∙◌, arith}
use Rattle.std.proofs.{lemmas.Bool.{and_parts, eq-eqb, eqb-true, le-leb, leb-true, leb-false, lt-leb, ltb-true, ltb-false}, lemmas.List.{append-nil}}
use Rattle.std.specs.{List.{prefix_len}, Option.{option_and_then, option_map}, Result.{result_ok}}
use Rattle.rio_num.specs.Reading.{some_if}
use Rattle.rio_tree.specs.{Index.{basket_counts, basket_number, counts_from}, Refusals.{are_in_order, rise_behind}, declared.basket_at.BasketAt.{BasketAt}, declared.head.Branch.{Branch}}
use Rattle.rio_tree.specs.SavedEntries.{branch_entries, entries_of_baskets}
use Rattle.rio_entry.specs.SavedRows.{file_baskets, filled_entry, have_entries, is_basket_filled, is_whole, IsInOrder}
use Rattle.rio_entry.specs.StoredEntries.{StoredEntries, entries_or_none, entry_behind, entry_in_basket, is_filled, stored_basket}
use Rattle.rio_entry.proofs.NumberLaws.{begins_by}

-- ---- lists

in_front : (xs ys : List (List ℕ)) (j : ℕ) → j < length xs → slice_get (xs ++ ys) j ≡ slice_get xs j
in_front [] ys j lt = absurd (omega (arith, lt))
in_front (x ∷ xs) ys zero lt = refl
in_front (x ∷ xs) ys (suc j) lt = in_front xs ys j (omega (arith, lt))

in_back : (xs ys : List (List ℕ)) (n j : ℕ) → n ≡ length xs + j → slice_get (xs ++ ys) n ≡ slice_get ys j
in_back [] ys n j is = ap (slice_get ys) (is ∙ omega arith)
in_back (x ∷ xs) ys zero j is = absurd (omega (arith, is))
in_back (x ∷ xs) ys (suc n) j is = in_back xs ys n j (omega (arith, is))

got : (xs : List (List ℕ)) (j : ℕ) → j < length xs → slice_get xs j ≡ Some (unwrap_or (slice_get xs j) [])
got [] j lt = absurd (omega (arith, lt))
got (x ∷ xs) zero lt = refl
got (x ∷ xs) (suc j) lt = got xs j (omega (arith, lt))

some_same : {X : Type 0} (x y : X) → Some x ≡ Some y → x ≡ y
some_same x y e = ap (λ (o : Option _). unwrap_or o x) e

-- ---- one basket

module _ (first behind : ℕ) where
  abbrev counted_in : StoredEntries → Option (List (List ℕ))
  counted_in r = option_and_then (λ entries. some_if (not ((behind - first) == 0) && (length entries == (behind - first))) entries) (result_ok r)

  abbrev filled_in : StoredEntries → Bool
  filled_in (Ok entries) = first + length entries == behind
  filled_in (Err fault) = false

  one_or_more : first < behind → not ((behind - first) == 0) ≡ true
  one_or_more lt = by ((behind - first) == 0) refl
    where
      by : (b : Bool) → ((behind - first) == 0) ≡ b → not ((behind - first) == 0) ≡ true
      by true e = let nothing = eqb-true _ _ e in absurd (omega (arith, nothing, lt))
      by false e = ap not e

  filled_counted : (r : StoredEntries) → first < behind → filled_in r ≡ true → counted_in r ≡ Some (entries_or_none r)
  filled_counted (Ok es) lt is =
      let size = eqb-true _ _ is in
      let same : (length es == (behind - first)) ≡ true = eq-eqb _ _ (omega (arith, size)) in
      let some = one_or_more lt in
      rw (some, same) refl
  filled_counted (Err fault) lt is = absurd cc

  counted_filled : (r : StoredEntries) (es : List (List ℕ)) → first < behind → counted_in r ≡ Some es → (filled_in r ≡ true) × (entries_or_none r ≡ es) × (first + length es ≡ behind)
  counted_filled (Ok xs) es lt is = by (not ((behind - first) == 0) && (length xs == (behind - first))) refl is
    where
      by : (b : Bool) → (not ((behind - first) == 0) && (length xs == (behind - first))) ≡ b → some_if b xs ≡ Some es → (filled_in (Ok xs) ≡ true) × (xs ≡ es) × (first + length es ≡ behind)
      by true both some =
          let size = eqb-true _ _ (and_parts (not ((behind - first) == 0)) (length xs == (behind - first)) both).1 in
          let same = some_same xs es some in
          let sum : first + length xs ≡ behind = omega (arith, size, lt) in
          (eq-eqb _ _ sum, same, ap (λ (l : List (List ℕ)). first + length l) (sym same) ∙ sum)
      by false both some = absurd cc
  counted_filled (Err fault) es lt is = absurd cc

  none_counted : (r : StoredEntries) → behind ≤ first → counted_in r ≡ None
  none_counted (Ok xs) le = let none : behind - first ≡ 0 = omega (arith, le) in rw none refl
  none_counted (Err fault) le = refl

-- ---- the baskets of a branch

module _ (file : List ℕ) (offsets : Bool) (n : ℕ) where
  abbrev stored : BasketAt → StoredEntries
  stored at = stored_basket file offsets at

  -- the entry in this basket, before those behind it
  abbrev pick : List BasketAt → ℕ → Option BasketAt → Option (List ℕ)
  pick more e None = None
  pick more e (Some at) = cond (is_filled at (entry_behind more n) (stored at)) (slice_get (entries_or_none (stored at)) (e - at.first)) None

  abbrev entry_no : List BasketAt → ℕ → ℕ → Option (List ℕ)
  entry_no bs k e = pick (drop (k + 1) bs) e (slice_get bs k)

  abbrev entry_from : BasketAt → List BasketAt → ℕ → Option (List ℕ)
  entry_from at bs e = entry_no (at ∷ bs) (prefix_len (begins_by e) bs) e

  abbrev entries_from : BasketAt → List BasketAt → Option (List (List ℕ))
  entries_from at bs = entries_of_baskets (file_baskets file) offsets (at ∷ bs) (counts_from at.first bs n)

  next_no : (at : BasketAt) (bs : List BasketAt) (k e : ℕ) → entry_no (at ∷ bs) (suc k) e ≡ entry_no bs k e
  next_no at bs k e =
      let one : suc k + 1 ≡ suc (k + 1) = omega arith in
      ap (λ (m : ℕ). pick (drop m (at ∷ bs)) e (slice_get bs k)) one

  -- an entry before the next basket, and behind it
  entry_here : (at : BasketAt) (bs : List BasketAt) (e : ℕ) → prefix_len (begins_by e) bs ≡ 0 → entry_from at bs e ≡ pick bs e (Some at)
  entry_here at bs e none = ap (λ (m : ℕ). entry_no (at ∷ bs) m e) none ∙ let one : 0 + 1 ≡ 1 = omega arith in ap (λ (m : ℕ). pick (drop m (at ∷ bs)) e (Some at)) one

  entry_later : (at next : BasketAt) (bs : List BasketAt) (e : ℕ) → next.first ≤ e → entry_from at (next ∷ bs) e ≡ entry_from next bs e
  entry_later at next bs e le =
      let begun : leb next.first e ≡ true = le-leb _ _ le in
      let one : prefix_len (begins_by e) (next ∷ bs) ≡ suc (prefix_len (begins_by e) bs) = ap (λ (c : Bool). cond c (1 + prefix_len (begins_by e) bs) 0) begun ∙ omega arith in
      ap (λ (m : ℕ). entry_no (at ∷ next ∷ bs) m e) one ∙ next_no at (next ∷ bs) (prefix_len (begins_by e) bs) e

  before_next : (next : BasketAt) (bs : List BasketAt) (e : ℕ) → e < next.first → prefix_len (begins_by e) (next ∷ bs) ≡ 0
  before_next next bs e lt = ap (λ (c : Bool). cond c (1 + prefix_len (begins_by e) bs) 0) (lt-leb _ _ lt)

  -- the basket's entry, where its entries are counted
  pick_counted : (at : BasketAt) (more : List BasketAt) (e : ℕ) (es : List (List ℕ)) → at.first < entry_behind more n → counted_in at.first (entry_behind more n) (stored at) ≡ Some es → at.first ≤ e → e < entry_behind more n
      → pick more e (Some at) ≡ Some (unwrap_or (slice_get es (e - at.first)) [])
  pick_counted at more e es some is low lt =
      let three = counted_filled at.first (entry_behind more n) (stored at) es some is in
      let filled : is_filled at (entry_behind more n) (stored at) ≡ true = by (stored at) three.0 in
      let within : e - at.first < length es = omega (arith, three.2, low, lt) in
      ap (λ (b : Bool). cond b (slice_get (entries_or_none (stored at)) (e - at.first)) None) filled
      ∙ ap (λ (l : List (List ℕ)). slice_get l (e - at.first)) three.1
      ∙ got es (e - at.first) within
    where
      by : (r : StoredEntries) → filled_in at.first (entry_behind more n) r ≡ true → is_filled at (entry_behind more n) r ≡ true
      by (Ok xs) e = e
      by (Err fault) e = e

  pick_fills : (at : BasketAt) (more : List BasketAt) (e : ℕ) → at.first < entry_behind more n → is_some (pick more e (Some at)) ≡ true → is_some (counted_in at.first (entry_behind more n) (stored at)) ≡ true
  pick_fills at more e some there =
      let filled = in_one (stored at) (there_filled (is_filled at (entry_behind more n) (stored at)) (slice_get (entries_or_none (stored at)) (e - at.first)) there) in
      ap is_some (filled_counted at.first (entry_behind more n) (stored at) some filled)
    where
      there_filled : (b : Bool) (o : Option (List ℕ)) → is_some (cond b o None) ≡ true → b ≡ true
      there_filled true o h = refl
      there_filled false o h = absurd cc

      in_one : (r : StoredEntries) → is_filled at (entry_behind more n) r ≡ true → filled_in at.first (entry_behind more n) r ≡ true
      in_one (Ok xs) h = h
      in_one (Err fault) h = h

  -- one basket and those behind it
  abbrev joined : Option (List (List ℕ)) → Option (List (List ℕ)) → Option (List (List ℕ))
  joined one rest = option_and_then (λ entries. option_map (λ more. entries ++ more) rest) one

  joined_parts : (one rest : Option (List (List ℕ))) (es : List (List ℕ)) → joined one rest ≡ Some es → (own : List (List ℕ)) × (more : List (List ℕ)) × (one ≡ Some own) × (rest ≡ Some more) × (es ≡ own ++ more)
  joined_parts None rest es is = absurd cc
  joined_parts (Some own) None es is = absurd cc
  joined_parts (Some own) (Some more) es is = (own, more, refl, refl, sym (some_same (own ++ more) es is))

  joined_some : (one rest : Option (List (List ℕ))) → is_some one ≡ true → is_some rest ≡ true → is_some (joined one rest) ≡ true
  joined_some None rest a b = absurd cc
  joined_some (Some own) None a b = absurd cc
  joined_some (Some own) (Some more) a b = refl

  joined_none : (one rest : Option (List (List ℕ))) → rest ≡ None → joined one rest ≡ None
  joined_none None rest none = refl
  joined_none (Some own) rest none = ap (option_map (λ more. own ++ more)) none

  -- what a whole branch has at an entry
  pub entry_is : (at : BasketAt) (bs : List BasketAt) (e : ℕ) (es : List (List ℕ)) → have_entries (at ∷ bs) n ≡ true → at.first ≤ e → e < n → entries_from at bs ≡ Some es → entry_from at bs e ≡ Some (unwrap_or (slice_get es (e - at.first)) [])
  entry_is at [] e es have low lt is =
      let parts = joined_parts (counted_in at.first n (stored at)) (Some []) es is in
      let same : es ≡ parts.0 = parts.4 ∙ ap (λ (l : List (List ℕ)). parts.0 ++ l) (sym (some_same [] parts.1 parts.3)) ∙ append-nil parts.0 in
      let some = ltb-true _ _ (and_parts (ltb at.first n) true have).0 in
      entry_here at [] e refl
      ∙ pick_counted at [] e parts.0 some parts.2 low lt
      ∙ ap (λ (l : List (List ℕ)). Some (unwrap_or (slice_get l (e - at.first)) [])) (sym same)
  entry_is at (next ∷ bs) e es have low lt is = by (leb next.first e) refl (λ more here behind rest. entry_is next bs e more here behind lt rest)
    where
      parts : (own : List (List ℕ)) × (more : List (List ℕ)) × (counted_in at.first next.first (stored at) ≡ Some own) × (entries_from next bs ≡ Some more) × (es ≡ own ++ more)
      parts = joined_parts (counted_in at.first next.first (stored at)) (entries_from next bs) es is

      both : (ltb at.first next.first ≡ true) × (have_entries (next ∷ bs) n ≡ true)
      both = and_parts (ltb at.first next.first) (have_entries (next ∷ bs) n) have

      size : at.first + length parts.0 ≡ next.first
      size = (counted_filled at.first next.first (stored at) parts.0 (ltb-true _ _ both.0) parts.2).2

      by : (b : Bool) → leb next.first e ≡ b
          → ((more : List (List ℕ)) → have_entries (next ∷ bs) n ≡ true → next.first ≤ e → entries_from next bs ≡ Some more → entry_from next bs e ≡ Some (unwrap_or (slice_get more (e - next.first)) []))
          → entry_from at (next ∷ bs) e ≡ Some (unwrap_or (slice_get es (e - at.first)) [])
      by true begun on =
          let behind = leb-true _ _ begun in
          let place : e - at.first ≡ length parts.0 + (e - next.first) = omega (arith, size, behind) in
          entry_later at next bs e behind
          ∙ on parts.1 both.1 behind parts.3
          ∙ ap (λ (o : Option (List ℕ)). Some (unwrap_or o [])) (sym (in_back parts.0 parts.1 (e - at.first) (e - next.first) place))
          ∙ ap (λ (l : List (List ℕ)). Some (unwrap_or (slice_get l (e - at.first)) [])) (sym parts.4)
      by false later on =
          let before = leb-false _ _ later in
          let within : e - at.first < length parts.0 = omega (arith, size, low, before) in
          entry_here at (next ∷ bs) e (before_next next bs e before)
          ∙ pick_counted at (next ∷ bs) e parts.0 (ltb-true _ _ both.0) parts.2 low before
          ∙ ap (λ (o : Option (List ℕ)). Some (unwrap_or o [])) (sym (in_front parts.0 parts.1 (e - at.first) within))
          ∙ ap (λ (l : List (List ℕ)). Some (unwrap_or (slice_get l (e - at.first)) [])) (sym parts.4)

  -- where it has each entry, its baskets are there
  pub entries_are : (at : BasketAt) (bs : List BasketAt) → have_entries (at ∷ bs) n ≡ true → ((e : ℕ) → at.first ≤ e → e < n → is_some (entry_from at bs e) ≡ true) → is_some (entries_from at bs) ≡ true
  entries_are at [] have all =
      let some = ltb-true _ _ (and_parts (ltb at.first n) true have).0 in
      let own = pick_fills at [] at.first some (ap is_some (sym (entry_here at [] at.first refl)) ∙ all at.first (omega arith) some) in
      joined_some (counted_in at.first n (stored at)) (Some []) own refl
  entries_are at (next ∷ bs) have all =
      let both = and_parts (ltb at.first next.first) (have_entries (next ∷ bs) n) have in
      let some = ltb-true _ _ both.0 in
      let last = low_first next bs both.1 in
      let own = pick_fills at (next ∷ bs) at.first some (ap is_some (sym (entry_here at (next ∷ bs) at.first (before_next next bs at.first some))) ∙ all at.first (omega arith) (omega (arith, some, last))) in
      let rest = entries_are next bs both.1 (λ e low lt. ap is_some (sym (entry_later at next bs e low)) ∙ all e (omega (arith, some, low)) lt) in
      joined_some (counted_in at.first next.first (stored at)) (entries_from next bs) own rest
    where
      low_first : (b : BasketAt) (more : List BasketAt) → have_entries (b ∷ more) n ≡ true → b.first < n
      low_first b [] h = ltb-true _ _ (and_parts (ltb b.first n) true h).0
      low_first b (c ∷ more) h =
          let two = and_parts (ltb b.first c.first) (have_entries (c ∷ more) n) h in
          let one = ltb-true _ _ two.0 in
          let rest = low_first c more two.1 in
          omega (arith, one, rest)

  -- with an empty basket there are none
  pub none_are : (at : BasketAt) (bs : List BasketAt) → have_entries (at ∷ bs) n ≡ false → entries_from at bs ≡ None
  none_are at [] have = by (ltb at.first n) refl have
    where
      by : (b : Bool) → ltb at.first n ≡ b → (b && true) ≡ false → entries_from at [] ≡ None
      by true e h = absurd cc
      by false e h = ap (λ (o : Option (List (List ℕ))). joined o (Some [])) (none_counted at.first n (stored at) (ltb-false _ _ e))
  none_are at (next ∷ bs) have = by (ltb at.first next.first) refl have (none_are next bs)
    where
      by : (b : Bool) → ltb at.first next.first ≡ b → (b && have_entries (next ∷ bs) n) ≡ false → (have_entries (next ∷ bs) n ≡ false → entries_from next bs ≡ None) → entries_from at (next ∷ bs) ≡ None
      by true e h rest = joined_none (counted_in at.first next.first (stored at)) (entries_from next bs) (rest h)
      by false e h rest = ap (λ (o : Option (List (List ℕ))). joined o (entries_from next bs)) (none_counted at.first next.first (stored at) (ltb-false _ _ e))

  -- ---- a list of baskets in order

  pub list_entry : (bs : List BasketAt) (e : ℕ) (es : List (List ℕ)) → are_in_order n bs ≡ true → have_entries bs n ≡ true → e < n → entries_of_baskets (file_baskets file) offsets bs (basket_counts bs n) ≡ Some es
      → entry_no bs (basket_number e bs) e ≡ Some (unwrap_or (slice_get es e) [])
  list_entry [] e es order have lt is = let none = eqb-true _ _ order in absurd (omega (arith, none, lt))
  list_entry (at ∷ bs) e es order have lt is =
      let zero_first = eqb-true _ _ (and_parts (at.first == 0) (rise_behind at.first bs) order).0 in
      let same : e - at.first ≡ e = omega (arith, zero_first) in
      entry_is at bs e es have (omega (arith, zero_first)) lt is ∙ ap (λ (j : ℕ). Some (unwrap_or (slice_get es j) [])) same

  pub list_entries : (bs : List BasketAt) → are_in_order n bs ≡ true → have_entries bs n ≡ true → ((e : ℕ) → e < n → is_some (entry_no bs (basket_number e bs) e) ≡ true) → is_some (entries_of_baskets (file_baskets file) offsets bs (basket_counts bs n)) ≡ true
  list_entries [] order have all = refl
  list_entries (at ∷ bs) order have all = entries_are at bs have (λ e low lt. all e lt)

  pub list_none : (bs : List BasketAt) → have_entries bs n ≡ false → entries_of_baskets (file_baskets file) offsets bs (basket_counts bs n) ≡ None
  list_none [] have = absurd cc
  list_none (at ∷ bs) have = none_are at bs have

-- ---- a branch

pub none_is : {X : Type 0} (o : Option X) → is_none o ≡ true → o ≡ None
none_is None e = refl
none_is (Some x) e = absurd cc

module _ (o : Option (List (List ℕ))) where
  if_out : (t : Bool) (es : List (List ℕ)) → t ≡ true → option_and_then (some_if t) o ≡ Some es → o ≡ Some es
  if_out t es holds is = by o (ap (λ (b : Bool). option_and_then (some_if b) o) (sym holds) ∙ is)
    where
      by : (p : Option (List (List ℕ))) → option_and_then (some_if true) p ≡ Some es → p ≡ Some es
      by None h = h
      by (Some x) h = h

  if_in : (t : Bool) → t ≡ true → is_some o ≡ true → is_some (option_and_then (some_if t) o) ≡ true
  if_in t holds some = ap (λ (b : Bool). is_some (option_and_then (some_if b) o)) holds ∙ by o some
    where
      by : (p : Option (List (List ℕ))) → is_some p ≡ true → is_some (option_and_then (some_if true) p) ≡ true
      by None h = h
      by (Some x) h = h

  if_not : (t : Bool) → t ≡ false → option_and_then (some_if t) o ≡ None
  if_not t fails = ap (λ (b : Bool). option_and_then (some_if b) o) fails ∙ by o
    where
      by : (p : Option (List (List ℕ))) → option_and_then (some_if false) p ≡ None
      by None = refl
      by (Some x) = refl

module _ (file : List ℕ) (n : ℕ) (b : Branch) where
  abbrev in_all : Option (List (List ℕ))
  in_all = entries_of_baskets (file_baskets file) b.offsets b.baskets (basket_counts b.baskets b.entries)

  filled_is : (e : ℕ) → filled_entry file b e ≡ entry_no file b.offsets b.entries b.baskets (basket_number e b.baskets) e
  filled_is e = by (slice_get b.baskets (basket_number e b.baskets))
    where
      k : ℕ
      k = basket_number e b.baskets

      by : (o : Option BasketAt) → cond (is_basket_filled file b (basket_number e b.baskets) o) (entry_in_basket file b.offsets e o) None ≡ pick file b.offsets b.entries (drop (basket_number e b.baskets + 1) b.baskets) e o
      by None = refl
      by (Some at) = refl

  module _ (order : IsInOrder n b) where
    in_order : are_in_order b.entries b.baskets ≡ true
    in_order = ap (λ (m : ℕ). are_in_order m b.baskets) order.as_tree ∙ order.rising

    module _ (whole : is_whole b ≡ true) where
      both : (is_none b.refused ≡ true) × (have_entries b.baskets b.entries ≡ true)
      both = and_parts (is_none b.refused) (have_entries b.baskets b.entries) whole

      pub branch_entry_is : (e : ℕ) (es : List (List ℕ)) → e < n → branch_entries (file_baskets file) b ≡ Some es → filled_entry file b e ≡ Some (unwrap_or (slice_get es e) [])
      branch_entry_is e es lt is =
          let own = order.as_tree in
          filled_is e ∙ list_entry file b.offsets b.entries b.baskets e es in_order both.1 (omega (arith, own, lt)) (if_out in_all (is_none b.refused) es both.0 is)

      pub branch_there : ((e : ℕ) → e < n → is_some (filled_entry file b e) ≡ true) → is_some (branch_entries (file_baskets file) b) ≡ true
      branch_there all =
          let own = order.as_tree in
          if_in in_all (is_none b.refused) both.0 (list_entries file b.offsets b.entries b.baskets in_order both.1 (λ e lt. ap is_some (sym (filled_is e)) ∙ all e (omega (arith, own, lt))))

  pub branch_none : is_whole b ≡ false → branch_entries (file_baskets file) b ≡ None
  branch_none none = by (is_none b.refused) refl none
    where
      by : (t : Bool) → is_none b.refused ≡ t → (t && have_entries b.baskets b.entries) ≡ false → branch_entries (file_baskets file) b ≡ None
      by false fails h = if_not in_all (is_none b.refused) fails
      by true holds h = ap (option_and_then (some_if (is_none b.refused))) (list_none file b.offsets b.entries b.baskets h)
