-- Where the numbers of all counters are made, a row of whose other entries nothing is made has the refusals of a sweep, and of
-- its values what is made of them.
use Rattle.std.proofs.Common.{◌≡◌, true≢false, ℕ, zero, suc, List, [], ◌∷◌, ◌++◌, length, map, slice_get, slice_set, Bool, false, is_some, Option, Some, None, unwrap_or, ℤ, refl, sym, ap, subst, ◌∙◌, replicate}
use Rattle.std.specs.{Prelude.{if◌then◌else◌}, List.{flat_map, list_any}, Option.{option_or}, Str.{bytes_eq}}
use Rattle.rio_format.specs.{declared.class.ClassDef.{ClassDef}, declared.value.Value.{Value}}
use Rattle.rio_leaf.specs.{declared.leaf.Dim.{Dim, TheVariants.{One, Fixed, Counted}}, declared.leaf.Leaf.{Leaf}}
use Rattle.rio_tree.specs.{declared.head.Branch.{Branch}, declared.refusal.BranchRefusal.{BranchRefusal, TheVariants.{BadEntry}}, Header.{branch_leaves}}
use Rattle.rio_entry.specs.Leaves.{last_number, number_alone, said_by}
use Rattle.rio_entry.proofs.LeafNumbers.{integer_says}
use Rattle.rio_entry.specs.{declared.tree_row.TreeRow.{TreeRow}, Counters.{counts_if_any, leaf_count, number_in_branch, number_said, values_or_none}}
use Rattle.rio_entry.specs.{Refusals.{refused_unless}, BranchRows.{values_if_read, values_of_branch}, StoredEntries.{branch_entry}}
use Rattle.rio_entry.specs.Sweeps.{empty_row, refusal_before, refusal_behind, sweep_one, values_kept, with_branch}
use Rattle.rio_entry.proofs.SweepLaws.{or_left, or_right}
use Rattle.rio_entry.specs.Checked.{CountersMade, counters_alone, is_nothing, made_of, made_one, made_there, made_values, row_made, values_made, with_numbers}
use Rattle.rio_entry.specs.declared.checked.Made.{Made, TheVariants.{Whole, Numbers, Nothing}}

-- ---- of which branches nothing is made

abbrev none_made : List Made → ℕ → Bool
none_made ms k = is_nothing (made_there ms k)

set_stays : (ms : List Made) (k j : ℕ) → none_made ms j ≡ false → none_made (slice_set ms k Numbers) j ≡ false
set_stays [] k j e = refl
set_stays (m ∷ ms) zero zero e = refl
set_stays (m ∷ ms) zero (suc j) e = e
set_stays (m ∷ ms) (suc k) zero e = e
set_stays (m ∷ ms) (suc k) (suc j) e = set_stays ms k j e

set_own : (ms : List Made) (k : ℕ) → none_made (slice_set ms k Numbers) k ≡ false
set_own [] k = refl
set_own (m ∷ ms) zero = refl
set_own (m ∷ ms) (suc k) = set_own ms k

stays : (ks : List ℕ) (ms : List Made) (j : ℕ) → none_made ms j ≡ false → none_made (with_numbers ms ks) j ≡ false
stays [] ms j e = e
stays (k ∷ ks) ms j e = stays ks (slice_set ms k Numbers) j (set_stays ms k j e)

all_stay : (ks : List ℕ) (ms : List Made) (js : List ℕ) → list_any (none_made ms) js ≡ false → list_any (none_made (with_numbers ms ks)) js ≡ false
all_stay ks ms [] e = refl
all_stay ks ms (j ∷ js) e =
    let one = stays ks ms j (or_left (none_made ms j) _ e) in
    rw one (all_stay ks ms js (or_right (none_made ms j) _ e))

own : (ks : List ℕ) (ms : List Made) → list_any (none_made (with_numbers ms ks)) ks ≡ false
own [] ms = refl
own (k ∷ ks) ms =
    let one = stays ks (slice_set ms k Numbers) k (set_own ms k) in
    rw one (own ks (slice_set ms k Numbers))

pub numbers_behind_numbers : (ks js : List ℕ) (ms : List Made) → with_numbers ms (ks ++ js) ≡ with_numbers (with_numbers ms ks) js
numbers_behind_numbers [] js ms = refl
numbers_behind_numbers (k ∷ ks) js ms = numbers_behind_numbers ks js (slice_set ms k Numbers)

abbrev counters_of : List Branch → List ℕ
counters_of bs = flat_map (λ b. b.counted_by) bs

all_made : (bs : List Branch) (ms : List Made) → CountersMade (with_numbers ms (counters_of bs)) bs
all_made [] ms k b is = absurd (true≢false (sym (ap is_some is)))
all_made (x ∷ bs) ms zero b is =
    let same = ap (λ (o : Option Branch). (unwrap_or o x).counted_by) is in
    let among = numbers_behind_numbers x.counted_by (counters_of bs) ms in
    subst (λ (ks : List ℕ). list_any (none_made (with_numbers ms (counters_of (x ∷ bs)))) ks ≡ false) same
    (subst (λ (us : List Made). list_any (none_made us) x.counted_by ≡ false) (sym among) (all_stay (counters_of bs) (with_numbers ms x.counted_by) x.counted_by (own x.counted_by ms)))
all_made (x ∷ bs) ms (suc k) b is =
    let among = numbers_behind_numbers x.counted_by (counters_of bs) ms in
    subst (λ (us : List Made). list_any (none_made us) b.counted_by ≡ false) (sym among) (all_made bs (with_numbers ms x.counted_by) k b is)

pub counters_made : (bs : List Branch) → CountersMade (counters_alone bs) bs
counters_made bs = all_made bs (replicate (length bs) Nothing)

-- where all is made of each branch
pub all_is_made : (ks : List ℕ) → list_any (none_made []) ks ≡ false
all_is_made [] = refl
all_is_made (k ∷ ks) = all_is_made ks

-- ---- what counters say

same_last : (name : List ℕ) (ls : List Leaf) (vs : List Value) (found : Option ℤ) → last_number name ls (map number_alone vs) found ≡ last_number name ls vs found
same_last name [] vs found = refl
same_last name (l ∷ ls) [] found = refl
same_last name (l ∷ ls) (v ∷ vs) found =
    ap (λ (n : ℤ). last_number name ls (map number_alone vs) (if bytes_eq name l.name then Some n else found)) (integer_says (said_by v))
    ∙ same_last name ls vs _

-- of all but nothing the numbers are those of the values
same_in : (name : List ℕ) (b : Option Branch) (m : Made) (vs : List Value) → is_nothing m ≡ false → (found : Option ℤ) → number_in_branch name b (made_values m vs) found ≡ number_in_branch name b vs found
same_in name b Whole vs e found = refl
same_in name None Numbers vs e found = refl
same_in name (Some b) Numbers vs e found = same_last name (branch_leaves b) vs found
same_in name b Nothing vs e found = absurd (true≢false e)

same_there : (name : List ℕ) (b : Option Branch) (ms : List Made) (row : List (List Value)) (k : ℕ) → none_made ms k ≡ false → (found : Option ℤ)
    → number_in_branch name b (values_or_none (slice_get (values_made ms row) k)) found ≡ number_in_branch name b (values_or_none (slice_get row k)) found
same_there name b [] row k e found = refl
same_there name b (m ∷ ms) [] k e found = refl
same_there name b (m ∷ ms) (vs ∷ row) zero e found = same_in name b m vs e found
same_there name b (m ∷ ms) (vs ∷ row) (suc k) e found = same_there name b ms row k e found

same_number : (name : List ℕ) (before : List Branch) (ms : List Made) (row : List (List Value)) (ks : List ℕ) → list_any (none_made ms) ks ≡ false
    → (found : Option ℤ) → number_said name before (values_made ms row) ks found ≡ number_said name before row ks found
same_number name before ms row [] e found = refl
same_number name before ms row (k ∷ ks) e found =
    ap (λ (o : Option ℤ). number_said name before (values_made ms row) ks o) (same_there name (slice_get before k) ms row k (or_left (none_made ms k) _ e) found)
    ∙ same_number name before ms row ks (or_right (none_made ms k) _ e) _

same_count : (before : List Branch) (ms : List Made) (row : List (List Value)) (ks : List ℕ) → list_any (none_made ms) ks ≡ false
    → (leaf : Leaf) → leaf_count before (values_made ms row) ks leaf ≡ leaf_count before row ks leaf
same_count before ms row ks e leaf = by leaf.dim refl
  where
    by : (dim : Dim) → leaf.dim ≡ dim → leaf_count before (values_made ms row) ks leaf ≡ leaf_count before row ks leaf
    by One is = rw is refl
    by (Fixed n) is = rw is refl
    by (Counted name times) is = rw (is, same_number name before ms row ks e None) refl

same_values : (file : List ℕ) (classes : List ClassDef) (e : ℕ) (before : List Branch) (ms : List Made) (row : List (List Value)) (b : Branch) → list_any (none_made ms) b.counted_by ≡ false
    → values_of_branch file classes e before (values_made ms row) b ≡ values_of_branch file classes e before row b
same_values file classes e before ms row b made =
    let each : leaf_count before (values_made ms row) b.counted_by ≡ leaf_count before row b.counted_by = λ i leaf. same_count before ms row b.counted_by made leaf i in
    ap (λ (f : Leaf → Value). values_if_read classes b.def.shape (counts_if_any b.counted_by f (branch_leaves b)) (branch_entry file b e)) each

-- ---- one branch more

none_more : (ms : List Made) → values_made ms [] ≡ []
none_more [] = refl
none_more (m ∷ ms) = refl

pub empty_made : (ms : List Made) → empty_row ≡ row_made ms empty_row
empty_made ms = ap (λ (l : List (List Value)). let row : TreeRow = record { refusals = []; values = l } in row) (sym (none_more ms))

values_more : (ms : List Made) (row : List (List Value)) (vs : List Value) → values_made ms (row ++ vs ∷ []) ≡ values_made ms row ++ made_values (made_there ms (length row)) vs ∷ []
values_more [] row vs = refl
values_more (m ∷ ms) [] vs = ap (λ (l : List (List Value)). made_values m vs ∷ l) (none_more ms)
values_more (m ∷ ms) (x ∷ row) vs = ap (λ (l : List (List Value)). made_values m x ∷ l) (values_more ms row vs)

as_read : (m : Made) (read : Option (List Value)) → is_some (made_of m read) ≡ is_some read
as_read m None = refl
as_read m (Some vs) = refl

nothing_of_none : (m : Made) → [] ≡ made_values m []
nothing_of_none Whole = refl
nothing_of_none Numbers = refl
nothing_of_none Nothing = refl

kept_made : (m : Made) (r : Option BranchRefusal) (read : Option (List Value)) → values_kept r (made_of m read) ≡ made_values m (values_kept r read)
kept_made m (Some x) read = nothing_of_none m
kept_made m None None = nothing_of_none m
kept_made m None (Some vs) = refl

with_made : (ms : List Made) (full : TreeRow) (r : Option BranchRefusal) (read : Option (List Value))
    → with_branch (row_made ms full) r (made_of (made_there ms (length full.values)) read) ≡ row_made ms (with_branch full r read)
with_made ms full r read =
    let m = made_there ms (length full.values) in
    let behind : refusal_behind r (made_of m read) ≡ refusal_behind r read = ap (λ (c : Bool). option_or r (refused_unless c BadEntry)) (as_read m read) in
    let made : Option BranchRefusal → List (List Value) → TreeRow = λ x vs. record { refusals = full.refusals ++ x ∷ []; values = vs } in
    ap (λ (x : Option BranchRefusal). made x (values_made ms full.values ++ values_kept x (made_of m read) ∷ [])) behind
    ∙ ap (λ (vs : List Value). made (refusal_behind r read) (values_made ms full.values ++ vs ∷ [])) (kept_made m (refusal_behind r read) read)
    ∙ ap (made (refusal_behind r read)) (sym (values_more ms full.values (values_kept (refusal_behind r read) read)))

-- A branch whose counters' numbers are made goes on as in a sweep.
pub one_more_made : (file : List ℕ) (classes : List ClassDef) (e : ℕ) (before : List Branch) (ms : List Made) (full : TreeRow) (k : ℕ) (b : Branch) (r : Option BranchRefusal)
    → length full.values ≡ k → list_any (none_made ms) b.counted_by ≡ false
    → made_one (made_there ms k) file classes e before (row_made ms full) b r ≡ row_made ms (sweep_one file classes e before full b r)
one_more_made file classes e before ms full k b r size made =
    let first = refusal_before full.refusals b r in
    let read = values_of_branch file classes e before full.values b in
    ap (λ (o : Option (List Value)). with_branch (row_made ms full) first (made_of (made_there ms k) o)) (same_values file classes e before ms full.values b made)
    ∙ ap (λ (n : ℕ). with_branch (row_made ms full) first (made_of (made_there ms n) read)) (sym size)
    ∙ with_made ms full first read

pub length-values_made : (ms : List Made) (row : List (List Value)) → length (values_made ms row) ≡ length row
length-values_made [] row = refl
length-values_made (m ∷ ms) [] = refl
length-values_made (m ∷ ms) (vs ∷ row) = ap (λ (n : ℕ). suc n) (length-values_made ms row)
