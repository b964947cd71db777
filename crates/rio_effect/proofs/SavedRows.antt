-- The rows that the header of a save represents: those of the header before, and behind them the pending ones.
use Rattle.std.proofs.Common.{◌≡◌, inl, inr, ℕ, zero, suc, ◌+◌, ◌-◌, ◌*◌, ◌<◌, ◌≤◌, ◌⊎◌, List, [], ◌∷◌, ◌++◌, length, map, drop, get_or, Bool, true, false, Option, Some, None, refl, sym, ap, subst, ◌∙◌, arith}
use Rattle.std.proofs.lemmas.{Bool.{ltb-false, ltb-true}, List.{length-append, length-map, Sums.{sum_by-cons}}, Option.{get_or_from_slice_get, slice_get-get_or, slice_get-map, slice_get_within}}
use Rattle.std.proofs.Math.Nat.{add-mul}
use Rattle.std.specs.{Prelude.{nat_lt, option_and_then, slice_get, unwrap_or}, List.{All, range_with_len, sum_by}, Option.{option_map}}
use Rattle.rio_leaf.specs.declared.branch.BranchDef.{BranchDef}
use Rattle.rio_format.specs.{declared.class.ClassDef.{ClassDef}, Bodies.{Counters}}
use Rattle.rio_machine.specs.{Rows.{entries_from, entries_of, leaf_numbers_after, shape_columns}, State.{Row}}
use Rattle.rio_tree.specs.{Index.{basket_counts}, WrittenLaws.{AreReadableBranches, stated_defs}, declared.head.Branch.{Branch}, declared.head.TreeHead.{TreeHead}}
use Rattle.rio_state.specs.{TreeLengths.{entries_by_branch}, Trees.{RecordsAt, basket_bytes, saved_rows}}
use Rattle.rio_machine.specs.RowEntries.{fitting_row}
use Rattle.rio_tree.specs.SavedEntries.{all_there, branch_entries, entries_of_baskets, entries_at, rows_by, rows_of}
use Rattle.rio_effect.specs.SavedRows.{AreBranchesSaved, IsBranchSaved, IsHeadSaved, SavedRowsAreRead, pending_entries}
use Rattle.rio_effect.proofs.SavedEntries.{as_many, at_least, branch_saved, entries_from as entries_of_branch}

-- ---- lists of what is there

module _ {A : Type 0} where
  -- all are there, which is so of each
  record AreAllThere (f : ℕ → Option A) (start n : ℕ) (xs : List A) : Type 0 where
    long : length xs ≡ n
    each : (j : ℕ) → j < n → f (start + j) ≡ slice_get xs j

  all_of_range : (f : ℕ → Option A) (start : ℕ) (xs : List A) → ((j : ℕ) → j < length xs → f (start + j) ≡ slice_get xs j) → all_there (map f (range_with_len start (length xs))) ≡ Some xs
  all_of_range f start [] each = refl
  all_of_range f start (x ∷ xs) each =
      let first : f start ≡ Some x = ap f (let e : start ≡ start + 0 = omega arith in e) ∙ each 0 (omega arith) in
      let more = all_of_range f (start + 1) xs (λ j low. ap f (let e : start + 1 + j ≡ start + (suc j) = omega arith in e) ∙ each (suc j) (omega arith)) in
      rw (first, more) refl

  module _ (f : ℕ → Option A) (start n : ℕ) (again : (ys : List A) → all_there (map f (range_with_len (start + 1) n)) ≡ Some ys → AreAllThere f (start + 1) n ys) (xs : List A) where
    each_behind : (x : A) (ys : List A) → f start ≡ Some x → AreAllThere f (start + 1) n ys → (j : ℕ) → j < suc n → f (start + j) ≡ slice_get (x ∷ ys) j
    each_behind x ys first more zero low = ap f (let k : start + 0 ≡ start = omega arith in k) ∙ first
    each_behind x ys first more (suc j) low = ap f (let k : start + suc j ≡ start + 1 + j = omega arith in k) ∙ more.each j (omega arith)

    by_rest : (x : A) → f start ≡ Some x → (o : Option (List A)) → all_there (map f (range_with_len (start + 1) n)) ≡ o → option_map (λ ys. x ∷ ys) o ≡ Some xs → AreAllThere f start (suc n) xs
    by_rest x first None rest e = absurd cc
    by_rest x first (Some ys) rest e =
        let more = again ys rest in
        let same : x ∷ ys ≡ xs = cc in
        let size = more.long in
        let long : length (x ∷ ys) ≡ suc n = omega arith in
        subst (AreAllThere f start (suc n)) same (record { long = long; each = each_behind x ys first more })

    by_first : (o : Option A) → f start ≡ o → all_there (o ∷ map f (range_with_len (start + 1) n)) ≡ Some xs → AreAllThere f start (suc n) xs
    by_first None first e = absurd cc
    by_first (Some x) first e = by_rest x first (all_there (map f (range_with_len (start + 1) n))) refl e

  there_in_range : (f : ℕ → Option A) (start n : ℕ) (xs : List A) → all_there (map f (range_with_len start n)) ≡ Some xs → AreAllThere f start n xs
  there_in_range f start zero xs e = let none : [] ≡ xs = cc in subst (AreAllThere f start zero) none (record { long = refl; each = λ j low. absurd (omega arith) })
  there_in_range f start (suc n) xs e = by_first f start n (λ ys rest. there_in_range f (start + 1) n ys rest) xs (f start) refl e

  slice_left : (xs ys : List A) (j : ℕ) → j < length xs → slice_get (xs ++ ys) j ≡ slice_get xs j
  slice_left [] ys j low = absurd (omega arith)
  slice_left (x ∷ xs) ys zero low = refl
  slice_left (x ∷ xs) ys (suc j) low = slice_left xs ys j (omega arith)

  slice_right : (xs ys : List A) (i j : ℕ) → j ≡ length xs + i → slice_get (xs ++ ys) j ≡ slice_get ys i
  slice_right [] ys i j e = ap (slice_get ys) (let k : j ≡ i = omega arith in k)
  slice_right (x ∷ xs) ys i zero e = absurd (omega arith)
  slice_right (x ∷ xs) ys i (suc j) e = slice_right xs ys i j (omega arith)

  each_of : (P : A → Type 0) (xs : List A) (j : ℕ) (x : A) → All P xs → slice_get xs j ≡ Some x → P x
  each_of P xs j x all e = subst P (get_or_from_slice_get xs j x x e) (all j x (slice_get_within xs j x e))

  -- so it is of each
  abbrev Each : (A → Type 0) → List A → Type 0
  Each P [] = Unit {0}
  Each P (x ∷ xs) = P x × Each P xs

-- below the first, or so many behind it
split : (n j : ℕ) → (j < n) ⊎ ((i : ℕ) × (j ≡ n + i))
split n j = by (nat_lt j n) refl
  where
    by : (b : Bool) → nat_lt j n ≡ b → (j < n) ⊎ ((i : ℕ) × (j ≡ n + i))
    by true e = inl (ltb-true j n e)
    by false e = let up = ltb-false j n e in inr (j - n, omega arith)

-- ---- the entries of pending rows

-- each row has one entry for each branch
pub one_each : (classes : List ClassDef) (defs : List BranchDef) (row : Row) (counters : Counters) → length (entries_from classes defs row counters) ≡ length defs
one_each classes [] row counters = refl
one_each classes (b ∷ bs) row counters =
    let more = one_each classes bs (drop (length (shape_columns b.shape)) row) (leaf_numbers_after (shape_columns b.shape) row counters) in
    omega (arith, more)

-- every branch has as many entries as rows, and those of one number are a row's
first_and_rest : (n : ℕ) (es : List (List ℕ)) → length es ≡ suc n → unwrap_or (slice_get es 0) [] ∷ drop 1 es ≡ es
first_and_rest n [] long = absurd (omega arith)
first_and_rest n (e ∷ es) long = refl

row_again : (defs : List BranchDef) (rows : List (List (List ℕ))) (j : ℕ) (es : List (List ℕ)) → slice_get rows j ≡ Some es → length es ≡ length defs → entries_at (entries_by_branch defs rows) j ≡ es
row_again [] rows j [] e long = refl
row_again [] rows j (x ∷ es) e long = absurd (omega arith)
row_again (b ∷ bs) rows j es e long =
    let rest = row_again bs (map (λ entries. drop 1 entries) rows) j (drop 1 es) (slice_get-map (λ entries. drop 1 entries) rows j ∙ ap (option_map (λ entries. drop 1 entries)) e) (shorter es long) in
    let here : unwrap_or (slice_get (map (λ entries. unwrap_or (slice_get entries 0) []) rows) j) [] ≡ unwrap_or (slice_get es 0) []
    = ap (λ (o : Option (List ℕ)). unwrap_or o []) (slice_get-map (λ entries. unwrap_or (slice_get entries 0) []) rows j ∙ ap (option_map (λ entries. unwrap_or (slice_get entries 0) [])) e) in
    ap (λ (x : List ℕ). x ∷ entries_at (entries_by_branch bs (map (λ entries. drop 1 entries) rows)) j) here
    ∙ ap (λ (l : List (List ℕ)). unwrap_or (slice_get es 0) [] ∷ l) rest
    ∙ first_and_rest (length bs) es long
  where
    shorter : (es : List (List ℕ)) → length es ≡ suc (length bs) → length (drop 1 es) ≡ length bs
    shorter [] long = absurd (omega arith)
    shorter (x ∷ xs) long = omega arith

-- ---- the branches

-- the entries of branches, each with its pending ones behind
abbrev with_pending : List (List (List ℕ)) → List (List (List ℕ)) → List (List (List ℕ))
with_pending [] ps = []
with_pending (xs ∷ xss) [] = xs ∷ xss
with_pending (xs ∷ xss) (p ∷ ps) = (xs ++ p) ∷ with_pending xss ps

abbrev AreLong : ℕ → List (List (List ℕ)) → Type 0
AreLong n xss = Each (λ xs. length xs ≡ n) xss

entries_before : (n j : ℕ) (xss ps : List (List (List ℕ))) → AreLong n xss → j < n → entries_at (with_pending xss ps) j ≡ entries_at xss j
entries_before n j [] ps long low = refl
entries_before n j (xs ∷ xss) [] long low = refl
entries_before n j (xs ∷ xss) (p ∷ ps) long low =
    let many = long.0 in
    let here = slice_left xs p j (omega arith) in
    ap (λ (o : Option (List ℕ)). unwrap_or o [] ∷ entries_at (with_pending xss ps) j) here ∙ ap (λ (l : List (List ℕ)). unwrap_or (slice_get xs j) [] ∷ l) (entries_before n j xss ps long.1 low)

entries_after : (n i j : ℕ) (xss ps : List (List (List ℕ))) → AreLong n xss → length xss ≡ length ps → j ≡ n + i → entries_at (with_pending xss ps) j ≡ entries_at ps i
entries_after n i j [] [] long same at = refl
entries_after n i j [] (p ∷ ps) long same at = absurd (omega arith)
entries_after n i j (xs ∷ xss) [] long same at = absurd (omega arith)
entries_after n i j (xs ∷ xss) (p ∷ ps) long same at =
    let many = long.0 in
    let here = slice_right xs p i j (omega arith) in
    ap (λ (o : Option (List ℕ)). unwrap_or o [] ∷ entries_at (with_pending xss ps) j) here ∙ ap (λ (l : List (List ℕ)). unwrap_or (slice_get p i) [] ∷ l) (entries_after n i j xss ps long.1 (omega arith) at)

-- What is read of the branches of the header before.
record AreReadAs (f : RecordsAt) (bs : List Branch) (n : ℕ) (xss : List (List (List ℕ))) : Type 0 where
  long : AreLong n xss
  many : length xss ≡ length bs

-- the first is there, and so are the others
record IsFirstThere {A : Type 0} (o : Option A) (os : List (Option A)) (all : List A) : Type 0 where
  first : A
  others : List A
  first_is : o ≡ Some first
  others_are : all_there os ≡ Some others
  all_are : all ≡ first ∷ others

first_there : {A : Type 0} (o : Option A) (os : List (Option A)) (all : List A) → all_there (o ∷ os) ≡ Some all → IsFirstThere o os all
first_there None os all e = absurd cc
first_there {A} (Some x) os all e = by (all_there os) refl e
  where
    by : (r : Option (List A)) → all_there os ≡ r → option_map (λ xs. x ∷ xs) r ≡ Some all → IsFirstThere (Some x) os all
    by None there e = absurd cc
    by (Some xs) there e = record { first = x; others = xs; first_is = refl; others_are = there; all_are = cc }

both_there : {A : Type 0} (o : Option A) (os : List (Option A)) (x : A) (xs : List A) → o ≡ Some x → all_there os ≡ Some xs → all_there (o ∷ os) ≡ Some (x ∷ xs)
both_there o os x xs first rest = rw (first, rest) refl

read_as : (f : RecordsAt) (n : ℕ) (defs : List BranchDef) (bs : List Branch) (xss : List (List (List ℕ))) → AreReadableBranches n defs bs → all_there (map (branch_entries (basket_bytes f)) bs) ≡ Some xss → AreReadAs f bs n xss
read_as f n defs [] xss readable e = let none : [] ≡ xss = cc in subst (AreReadAs f [] n) none (record { long = tt; many = refl })
read_as f n defs (b ∷ bs) xss readable e =
    let parts = first_there (branch_entries (basket_bytes f) b) (map (branch_entries (basket_bytes f)) bs) xss e in
    let rest = read_as f n (defs ++ b.def ∷ []) bs parts.others readable.1 parts.others_are in
    let one = as_many f b.offsets n b.baskets parts.first readable.0.in_order (counted parts.first parts.first_is readable.0.entries_as_tree readable.0.refused) in
    let many = rest.many in
    subst (AreReadAs f (b ∷ bs) n) (sym parts.all_are) (record { long = (one, rest.long); many = omega arith })
  where
    counted : (xs : List (List ℕ)) → branch_entries (basket_bytes f) b ≡ Some xs → b.entries ≡ n → b.refused ≡ None → entries_of_baskets (basket_bytes f) b.offsets b.baskets (basket_counts b.baskets n) ≡ Some xs
    counted xs is entries refused = ap (λ (k : ℕ). entries_of_baskets (basket_bytes f) b.offsets b.baskets (basket_counts b.baskets k)) (sym entries) ∙ sym (entries_of_branch f b refused) ∙ is

-- how many baskets some branches have
abbrev pub baskets_in : List Branch → ℕ
baskets_in bs = sum_by (λ b. length b.baskets) bs

pub product_more : (k n : ℕ) → (k + 1) * n ≡ k * n + n
product_more k n = add-mul k 1 n ∙ omega arith

-- of each branch that is read there are no more than entries
pub baskets_low : (f : RecordsAt) (n : ℕ) (defs : List BranchDef) (bs : List Branch) (xss : List (List (List ℕ))) → AreReadableBranches n defs bs → all_there (map (branch_entries (basket_bytes f)) bs) ≡ Some xss
    → baskets_in bs ≤ length bs * n
baskets_low f n defs [] xss readable e = omega arith
baskets_low f n defs (b ∷ bs) xss readable e =
    let parts = first_there (branch_entries (basket_bytes f) b) (map (branch_entries (basket_bytes f)) bs) xss e in
    let rest = baskets_low f n (defs ++ b.def ∷ []) bs parts.others readable.1 parts.others_are in
    let read = ap (λ (k : ℕ). entries_of_baskets (basket_bytes f) b.offsets b.baskets (basket_counts b.baskets k)) (sym readable.0.entries_as_tree) ∙ sym (entries_of_branch f b readable.0.refused) ∙ parts.first_is in
    let long = as_many f b.offsets n b.baskets parts.first readable.0.in_order read in
    let few = at_least f b.offsets b.baskets (basket_counts b.baskets n) parts.first read in
    let all : length (b ∷ bs) * n ≡ (length bs + 1) * n = ap (λ (k : ℕ). k * n) (omega arith) in
    omega (arith, rest, long, few, all, product_more (length bs) n, sum_by-cons (λ (c : Branch). length c.baskets) b bs)

-- those of the rows that a header represents
pub rows_baskets : (classes : List ClassDef) (f : RecordsAt) (head : TreeHead) (rows : List Row) → AreReadableBranches head.entries [] head.branches → saved_rows classes f head ≡ Some rows
    → baskets_in head.branches ≤ length head.branches * head.entries
unfolding saved_rows rows_by
rows_baskets classes f head rows readable is = by (all_there (map (branch_entries (basket_bytes f)) head.branches)) refl is
  where
    by : (o : Option (List (List (List ℕ)))) → all_there (map (branch_entries (basket_bytes f)) head.branches) ≡ o → option_and_then (rows_of (fitting_row classes (stated_defs head.branches)) head.entries) o ≡ Some rows
        → baskets_in head.branches ≤ length head.branches * head.entries
    by None e is = absurd cc
    by (Some xss) e is = baskets_low f head.entries [] head.branches xss readable e

-- what is read of the branches in the header of a save
all_saved : (behind : RecordsAt) (n count : ℕ) (defs : List BranchDef) (ps : List (List (List ℕ))) (olds news : List Branch) (xss : List (List (List ℕ)))
    → Each (λ p. n + length p ≡ count) ps → AreReadableBranches n defs olds → AreBranchesSaved behind n count ps olds news
    → all_there (map (branch_entries (basket_bytes behind)) olds) ≡ Some xss → all_there (map (branch_entries (basket_bytes behind)) news) ≡ Some (with_pending xss ps)
all_saved behind n count defs [] [] [] xss many readable are read = let none : xss ≡ [] = cc in rw none refl
all_saved behind n count defs [] [] (c ∷ cs) xss many readable are read = absurd are
all_saved behind n count defs [] (b ∷ bs) [] xss many readable are read = absurd are
all_saved behind n count defs [] (b ∷ bs) (c ∷ cs) xss many readable are read = absurd are
all_saved behind n count defs (p ∷ ps) [] [] xss many readable are read = absurd are
all_saved behind n count defs (p ∷ ps) [] (c ∷ cs) xss many readable are read = absurd are
all_saved behind n count defs (p ∷ ps) (b ∷ bs) [] xss many readable are read = absurd are
all_saved behind n count defs (p ∷ ps) (b ∷ bs) (c ∷ cs) xss many readable are read =
    let parts = first_there (branch_entries (basket_bytes behind) b) (map (branch_entries (basket_bytes behind)) bs) xss read in
    let rest = all_saved behind n count (defs ++ b.def ∷ []) ps bs cs parts.others many.1 readable.1 are.1 parts.others_are in
    let whole = subst (λ (k : ℕ). IsBranchSaved behind n k p b c) (sym many.0) are.0 in
    let one = branch_saved behind n defs p b c parts.first readable.0 whole parts.first_is in
    both_there (branch_entries (basket_bytes behind) c) (map (branch_entries (basket_bytes behind)) cs) (parts.first ++ p) (with_pending parts.others ps) one rest
    ∙ ap (λ (l : List (List (List ℕ))). Some (with_pending l (p ∷ ps))) (sym parts.all_are)

pub same_defs : (behind : RecordsAt) (n count : ℕ) (ps : List (List (List ℕ))) (olds news : List Branch) → AreBranchesSaved behind n count ps olds news → stated_defs news ≡ stated_defs olds
same_defs behind n count [] [] [] are = refl
same_defs behind n count [] [] (c ∷ cs) are = absurd are
same_defs behind n count [] (b ∷ bs) [] are = absurd are
same_defs behind n count [] (b ∷ bs) (c ∷ cs) are = absurd are
same_defs behind n count (p ∷ ps) [] [] are = absurd are
same_defs behind n count (p ∷ ps) [] (c ∷ cs) are = absurd are
same_defs behind n count (p ∷ ps) (b ∷ bs) [] are = absurd are
same_defs behind n count (p ∷ ps) (b ∷ bs) (c ∷ cs) are = let one = are.0.def in let rest = same_defs behind n count ps bs cs are.1 in λ i. one i ∷ rest i

many_entries : (n : ℕ) (defs : List BranchDef) (rows : List (List (List ℕ))) → Each (λ p. n + length p ≡ n + length rows) (entries_by_branch defs rows)
many_entries n [] rows = tt
many_entries n (b ∷ bs) rows = (
  ap (λ (k : ℕ). n + k) (length-map rows (λ entries. unwrap_or (slice_get entries 0) [])),
  subst (λ (k : ℕ). Each (λ p. n + length p ≡ n + k) (entries_by_branch bs (map (λ entries. drop 1 entries) rows))) (length-map rows (λ entries. drop 1 entries))
      (many_entries n bs (map (λ entries. drop 1 entries) rows)),
)

as_many_branches : (defs : List BranchDef) (rows : List (List (List ℕ))) → length (entries_by_branch defs rows) ≡ length defs
as_many_branches [] rows = refl
as_many_branches (b ∷ bs) rows = ap suc (as_many_branches bs (map (λ entries. drop 1 entries) rows))

-- ---- the rows

module _ (classes : List ClassDef) (before behind : RecordsAt) (old new : TreeHead) (saved pending : List Row) (h : IsHeadSaved classes before behind old new pending) where
  abbrev defs : List BranchDef
  defs = stated_defs old.branches

  abbrev ps : List (List (List ℕ))
  ps = pending_entries classes old pending

  abbrev row_with : List (List (List ℕ)) → ℕ → Option Row
  row_with xss e = fitting_row classes defs (entries_at xss e)

  row_at : (xss : List (List (List ℕ))) → AreLong old.entries xss → length xss ≡ length ps → AreAllThere (row_with xss) 0 old.entries saved
      → (j : ℕ) → j < length (saved ++ pending) → row_with (with_pending xss ps) j ≡ slice_get (saved ++ pending) j
  row_at xss long many there j low = by (split old.entries j)
    where
      by : (j < old.entries) ⊎ ((i : ℕ) × (j ≡ old.entries + i)) → row_with (with_pending xss ps) j ≡ slice_get (saved ++ pending) j
      by (inl less) =
          let size = there.long in
          let within : j < length saved = omega arith in
          ap (fitting_row classes defs) (entries_before old.entries j xss ps long less) ∙ ap (row_with xss) (let e : j ≡ 0 + j = omega arith in e) ∙ there.each j less ∙ sym (slice_left saved pending j within)
      by (inr (i, at)) =
          let size = there.long in
          let total = length-append saved pending in
          let within : i < length pending = omega arith in
          let here : slice_get pending i ≡ Some (get_or pending i []) = slice_get-get_or pending i [] within in
          let written = slice_get-map (entries_of classes defs) pending i ∙ ap (option_map (entries_of classes defs)) here in
          let again = row_again defs (map (entries_of classes defs) pending) i (entries_of classes defs (get_or pending i [])) written (one_each classes defs (get_or pending i []) []) in
          let place : j ≡ length saved + i = omega arith in
          ap (fitting_row classes defs) (entries_after old.entries i j xss ps long many at ∙ again)
          ∙ each_of (λ row. fitting_row classes defs (entries_of classes defs row) ≡ Some row) pending i (get_or pending i []) h.rows here
          ∙ sym (slice_right saved pending i j place ∙ here)

  rows_after : (xss : List (List (List ℕ))) → all_there (map (branch_entries (basket_bytes before)) old.branches) ≡ Some xss → rows_of (fitting_row classes defs) old.entries xss ≡ Some saved → saved_rows classes behind new ≡ Some (saved ++ pending)
  unfolding saved_rows rows_by
  rows_after xss read fit =
      let again : all_there (map (branch_entries (basket_bytes behind)) old.branches) ≡ Some xss = ap all_there h.kept ∙ read in
      let long = read_as behind old.entries [] old.branches xss h.readable again in
      let rows = map (entries_of classes defs) pending in
      let size : length rows ≡ length pending = length-map pending (entries_of classes defs) in
      let many = subst (λ (k : ℕ). Each (λ p. old.entries + length p ≡ k) ps) (ap (λ (k : ℕ). old.entries + k) size ∙ sym h.entries) (many_entries old.entries defs rows) in
      let news = all_saved behind old.entries new.entries [] ps old.branches new.branches xss many h.readable h.branches again in
      let there = there_in_range (row_with xss) 0 old.entries saved fit in
      let total = length-append saved pending in
      let count : new.entries ≡ length (saved ++ pending) = let l = there.long in let m = h.entries in omega arith in
      let branches : length ps ≡ length old.branches = as_many_branches defs rows ∙ length-map old.branches (λ (b : Branch). b.def) in
      let each = all_of_range (row_with (with_pending xss ps)) 0 (saved ++ pending) (λ j low. ap (row_with (with_pending xss ps)) (let e : 0 + j ≡ j = omega arith in e) ∙ row_at xss long.long (long.many ∙ sym branches) there j low) in
      ap (option_and_then (rows_of (fitting_row classes (stated_defs new.branches)) new.entries)) news
      ∙ ap (λ (d : List BranchDef). rows_of (fitting_row classes d) new.entries (with_pending xss ps)) (same_defs behind old.entries new.entries ps old.branches new.branches h.branches)
      ∙ ap (λ (k : ℕ). rows_of (fitting_row classes defs) k (with_pending xss ps)) count
      ∙ each

pub saved_rows_are_read : SavedRowsAreRead
unfolding saved_rows rows_by
saved_rows_are_read classes before behind old new saved pending is h = by (all_there (map (branch_entries (basket_bytes before)) old.branches)) refl is
  where
    by : (o : Option (List (List (List ℕ)))) → all_there (map (branch_entries (basket_bytes before)) old.branches) ≡ o → option_and_then (rows_of (fitting_row classes (stated_defs old.branches)) old.entries) o ≡ Some saved
        → saved_rows classes behind new ≡ Some (saved ++ pending)
    by None read e = absurd cc
    by (Some xss) read e = rows_after classes before behind old new saved pending h xss read e

-- there are as many rows as the header says
pub rows_long : (classes : List ClassDef) (f : RecordsAt) (head : TreeHead) (rows : List Row) → saved_rows classes f head ≡ Some rows → length rows ≡ head.entries
unfolding saved_rows rows_by
rows_long classes f head rows is = by (all_there (map (branch_entries (basket_bytes f)) head.branches)) is
  where
    by : (o : Option (List (List (List ℕ)))) → option_and_then (rows_of (fitting_row classes (stated_defs head.branches)) head.entries) o ≡ Some rows → length rows ≡ head.entries
    by None e = absurd cc
    by (Some xss) e = (there_in_range (λ n. fitting_row classes (stated_defs head.branches) (entries_at xss n)) 0 head.entries rows e).long
