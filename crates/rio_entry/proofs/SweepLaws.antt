-- A walk over the rows finds the branches that aren't read: what is known of the refusals behind some entries, and the row behind
-- them, tell the refusals behind one entry more; and behind all entries they stay.
use Rattle.std.proofs.Common.{◌≡◌, true≢false, ℕ, zero, suc, ◌+◌, ◌<◌, ◌≤◌, List, [], ◌∷◌, ◌++◌, map, slice_get, Bool, true, false, ◌&&◌, ◌||◌, not, cond, is_none, is_some, Option, Some, None, ℤ, refl, sym, ap, subst, ◌∙◌, append_assoc, arith}
use Rattle.std.proofs.{lemmas.List.{map-append, append-nil}, lemmas.Bool.{and_parts, not-true}}
use Rattle.std.specs.{List.{list_all, list_any, range_with_len}, Option.{option_or}}
use Rattle.rio_format.specs.{declared.class.ClassDef.{ClassDef}, declared.value.Value.{Value}}
use Rattle.rio_leaf.specs.{declared.leaf.Dim.{Dim, TheVariants.{One, Fixed, Counted}}, declared.leaf.Leaf.{Leaf}}
use Rattle.rio_tree.specs.{declared.head.Branch.{Branch}, declared.refusal.BranchRefusal.TheVariants.{Compressed, BadBasket, BadEntry, NoCounter}, Header.{branch_leaves}}
use Rattle.rio_entry.specs.Counters.{counters_are_read, counts_if_any, is_refused, leaf_count, number_in_branch, number_said, values_or_none}
use Rattle.rio_entry.specs.Refusals.{branch_refusal, entries_are_read, is_entry_read, refusals_behind, refusals_of, refused_first, refused_unless}
use Rattle.rio_entry.specs.BranchRows.{read_values, row_behind, values_at_entry, values_if_read, values_of_branch}
use Rattle.rio_entry.specs.StoredEntries.{are_filled, baskets_refusal, branch_entry, is_compressed_basket, stored_basket}
use Rattle.rio_entry.specs.{Sweeps.{empty_row, sweep, sweep_behind, values_kept}, declared.tree_row.TreeRow.{TreeRow}}
use Rattle.rio_entry.proofs.SweepSteps.{Refusal, refused_by, goes_on, passes, stays}

-- ---- what is known of a branch

-- its refusal behind fewer and behind more entries, its values in the walk, and those of the definition
record Known : Type 0 where
  was : Refusal
  now : Refusal
  kept : List Value
  spelled : List Value

abbrev Holds : Known → Type 0
Holds k = k.now ≡ None → (k.was ≡ None) × (k.kept ≡ k.spelled)

-- of each of several
abbrev AllHold : List Known → Type 0
AllHold [] = Unit {0}
AllHold (k ∷ ks) = Holds k × AllHold ks

all_and : (ks : List Known) (k : Known) → AllHold ks → Holds k → AllHold (ks ++ k ∷ [])
all_and [] k all one = (one, tt)
all_and (x ∷ ks) k all one = (all.0, all_and ks k all.1 one)

abbrev wases : List Known → List Refusal
wases ks = map (λ k. k.was) ks

abbrev nows : List Known → List Refusal
nows ks = map (λ k. k.now) ks

abbrev kepts : List Known → List (List Value)
kepts ks = map (λ k. k.kept) ks

abbrev spelleds : List Known → List (List Value)
spelleds ks = map (λ k. k.spelled) ks

-- ---- one of them by its number

-- one that isn't refused behind more entries isn't behind fewer, and its values are those of the definition
not_refused : (ks : List Known) (i : ℕ) → AllHold ks → is_refused (slice_get (nows ks) i) ≡ false
    → (is_refused (slice_get (wases ks) i) ≡ false) × (slice_get (kepts ks) i ≡ slice_get (spelleds ks) i)
not_refused [] i all e = (refl, refl)
not_refused (k ∷ ks) zero all e = by k.now refl
  where
    by : (o : Refusal) → k.now ≡ o → (is_refused (Some k.was) ≡ false) × (Some k.kept ≡ Some k.spelled)
    by (Some x) is = absurd (true≢false (ap (λ (o : Refusal). is_refused (Some o)) (sym is) ∙ e))
    by None is = (ap (λ (o : Refusal). is_refused (Some o)) (all.0 is).0, ap (λ (vs : List Value). let o : Option (List Value) = Some vs in o) (all.0 is).1)
not_refused (k ∷ ks) (suc i) all e = not_refused ks i all.1 e

pub or_left : (a b : Bool) → (a || b) ≡ false → a ≡ false
or_left false b e = refl
or_left true b e = e

pub or_right : (a b : Bool) → (a || b) ≡ false → b ≡ false
or_right false b e = e
or_right true b e = absurd (true≢false e)

none_refused : (ks : List Known) → AllHold ks → (counters : List ℕ) → list_any (λ i. is_refused (slice_get (nows ks) i)) counters ≡ false
    → list_any (λ i. is_refused (slice_get (wases ks) i)) counters ≡ false
none_refused ks all [] e = refl
none_refused ks all (i ∷ is) e =
    let one = (not_refused ks i all (or_left _ _ e)).0 in
    rw one (none_refused ks all is (or_right _ _ e))

-- their leaves say the same
same_number : (name : List ℕ) (before : List Branch) (ks : List Known) → AllHold ks → (counters : List ℕ) → list_any (λ i. is_refused (slice_get (nows ks) i)) counters ≡ false
    → (found : Option ℤ) → number_said name before (kepts ks) counters found ≡ number_said name before (spelleds ks) counters found
same_number name before ks all [] e found = refl
same_number name before ks all (i ∷ is) e found =
    let one = (not_refused ks i all (or_left _ _ e)).1 in
    ap (λ (vs : Option (List Value)). number_said name before (kepts ks) is (number_in_branch name (slice_get before i) (values_or_none vs) found)) one
    ∙ same_number name before ks all is (or_right _ _ e) _

same_count : (before : List Branch) (ks : List Known) → AllHold ks → (counters : List ℕ) → list_any (λ i. is_refused (slice_get (nows ks) i)) counters ≡ false
    → (leaf : Leaf) → leaf_count before (kepts ks) counters leaf ≡ leaf_count before (spelleds ks) counters leaf
same_count before ks all counters e leaf = by leaf.dim refl
  where
    by : (dim : Dim) → leaf.dim ≡ dim → leaf_count before (kepts ks) counters leaf ≡ leaf_count before (spelleds ks) counters leaf
    by One is = rw is refl
    by (Fixed n) is = rw is refl
    by (Counted name times) is = rw (is, same_number name before ks all counters e None) refl

-- ---- one branch

late_by : (any filled : Bool) → refused_first (cond any (Some Compressed) (cond (not filled) (Some BadBasket) None)) ≡ None
late_by true filled = refl
late_by false true = refl
late_by false false = refl

late_baskets : (file : List ℕ) (b : Branch) → refused_first (baskets_refusal file b) ≡ None
late_baskets file b = late_by (list_any (λ at. is_compressed_basket (stored_basket file b.offsets at)) b.baskets) (are_filled file b.offsets b.entries b.baskets)

blocked : (r : Refusal) (x y : Bool) → goes_on r false x ≡ goes_on r false y
blocked r x y = by (refused_first r) refl
  where
    by : (o : Refusal) → refused_first r ≡ o → goes_on r false x ≡ goes_on r false y
    by None is = rw is refl
    by (Some f) is = rw is refl

module _ (file : List ℕ) (classes : List ClassDef) (e : ℕ) where
  -- the values at an entry with one branch more
  row_more : (bs : List Branch) (before : List Branch) (row : List (List Value)) (b : Branch)
      → row_behind file classes e before row (bs ++ b ∷ []) ≡ row_behind file classes e before row bs ++ values_or_none (values_of_branch file classes e (before ++ bs) (row_behind file classes e before row bs) b) ∷ []
  row_more [] before row b = ap (λ (l : List Branch). row ++ values_or_none (values_of_branch file classes e l row b) ∷ []) (sym (append-nil before))
  row_more (c ∷ bs) before row b =
      let next = row ++ values_or_none (values_of_branch file classes e before row c) ∷ [] in
      let there = row_behind file classes e (before ++ c ∷ []) next bs in
      row_more bs (before ++ c ∷ []) next b
      ∙ ap (λ (l : List Branch). there ++ values_or_none (values_of_branch file classes e l there b) ∷ []) (append_assoc before (c ∷ []) bs)

  entry_more : (before : List Branch) (b : Branch)
      → values_at_entry file classes e (before ++ b ∷ []) ≡ values_at_entry file classes e before ++ values_or_none (values_of_branch file classes e before (values_at_entry file classes e before) b) ∷ []
  unfolding values_at_entry
  entry_more before b = row_more before [] [] b

  same_values : (before : List Branch) (ks : List Known) → AllHold ks → (b : Branch) → counters_are_read (nows ks) b ≡ true
      → values_of_branch file classes e before (kepts ks) b ≡ values_of_branch file classes e before (spelleds ks) b
  same_values before ks all b read =
      let none = not-true _ read in
      let each : leaf_count before (kepts ks) b.counted_by ≡ leaf_count before (spelleds ks) b.counted_by = λ i leaf. same_count before ks all b.counted_by none leaf i in
      ap (λ (f : Leaf → Value). values_if_read classes b.def.shape (counts_if_any b.counted_by f (branch_leaves b)) (branch_entry file b e)) each

  module _ (n m : ℕ) (more : (before : List Branch) (b : Branch) → entries_are_read file classes m before b ≡ (entries_are_read file classes n before b && is_entry_read file classes before b e)) where
    module _ (before : List Branch) (ks : List Known) (all : AllHold ks) (spelled : spelleds ks ≡ values_at_entry file classes e before) (b : Branch) where
      abbrev was_read : Bool
      was_read = counters_are_read (wases ks) b

      abbrev now_read : Bool
      now_read = counters_are_read (nows ks) b

      abbrev kept_values : Option (List Value)
      kept_values = values_of_branch file classes e before (kepts ks) b

      abbrev spelled_values : Option (List Value)
      spelled_values = values_of_branch file classes e before (spelleds ks) b

      abbrev refusal_was : Refusal
      refusal_was = branch_refusal file classes n before (wases ks) b

      abbrev refusal_now : Refusal
      refusal_now = branch_refusal file classes m before (nows ks) b

      abbrev baskets : Refusal
      baskets = baskets_refusal file b

      abbrev entry : Bool
      entry = is_entry_read file classes before b e

      keeps : now_read ≡ true → was_read ≡ true
      keeps read = ap not (none_refused ks all b.counted_by (not-true _ read))

      entry_is : is_some spelled_values ≡ entry
      entry_is = ap (λ (row : List (List Value)). is_some (values_of_branch file classes e before row b)) spelled

      by_first : refusal_was ≡ refused_by b.refused was_read baskets (entries_are_read file classes n before b)
      unfolding branch_refusal
      by_first = refl

      by_now : refusal_now ≡ refused_by b.refused now_read baskets (entries_are_read file classes n before b && entry)
      unfolding branch_refusal
      by_now = ap (refused_by b.refused now_read baskets) (more before b)

      goes : goes_on refusal_was now_read entry ≡ refusal_now
      goes =
          ap (λ (r : Refusal). goes_on r now_read entry) by_first
          ∙ stays b.refused was_read now_read baskets (entries_are_read file classes n before b) entry (late_baskets file b) keeps
          ∙ sym by_now

      goes_kept : goes_on refusal_was now_read (is_some kept_values) ≡ refusal_now
      goes_kept = by now_read refl
        where
          by : (c : Bool) → now_read ≡ c → goes_on refusal_was now_read (is_some kept_values) ≡ refusal_now
          by true is = ap (λ (o : Option (List Value)). goes_on refusal_was now_read (is_some o)) (same_values before ks all b is) ∙ ap (goes_on refusal_was now_read) entry_is ∙ goes
          by false is = ap (λ (c : Bool). goes_on refusal_was c (is_some kept_values)) is ∙ blocked refusal_was (is_some kept_values) entry ∙ ap (λ (c : Bool). goes_on refusal_was c entry) (sym is) ∙ goes

      abbrev known : Known
      known = record { was = refusal_was; now = refusal_now; kept = values_kept refusal_now kept_values; spelled = values_or_none spelled_values }

      known_holds : Holds known
      known_holds none =
          let p = passes b.refused was_read now_read baskets (entries_are_read file classes n before b) entry keeps (sym by_now ∙ none) in
          (by_first ∙ p.1, ap (λ (r : Refusal). values_kept r kept_values) none ∙ ap values_or_none (same_values before ks all b p.0))

    -- ---- all of them

    -- the refusals of the others, behind fewer entries
    abbrev rest : List Branch → List Refusal → List Branch → List Refusal
    rest before was [] = []
    rest before was (b ∷ bs) = let r = branch_refusal file classes n before was b in r ∷ rest (before ++ b ∷ []) (was ++ r ∷ []) bs

    -- the walk ends with the refusals behind more entries, and with the values of the branches that they leave
    abbrev Ends : TreeRow → List Refusal → List (List Value) → Type 0
    Ends row refused values = (row.refusals ≡ refused) × (read_values refused row.values ≡ read_values refused values)

    abbrev Walks : List Branch → List Branch → List Refusal → List (List Value) → List Refusal → List (List Value) → Type 0
    Walks before bs now kept was spelled =
        Ends (sweep_behind file classes e before (record { refusals = now; values = kept }) bs (rest before was bs)) (refusals_behind file classes m before now bs) (row_behind file classes e before spelled bs)

    same_read : (ks : List Known) → AllHold ks → read_values (nows ks) (kepts ks) ≡ read_values (nows ks) (spelleds ks)
    same_read [] all = refl
    same_read (k ∷ ks) all = by (same_read ks all.1) k.now refl
      where
        by : read_values (nows ks) (kepts ks) ≡ read_values (nows ks) (spelleds ks) → (o : Refusal) → k.now ≡ o → read_values (k.now ∷ nows ks) (k.kept ∷ kepts ks) ≡ read_values (k.now ∷ nows ks) (k.spelled ∷ spelleds ks)
        by others None is = rw is (ap (λ (vs : List Value). vs ++ read_values (nows ks) (kepts ks)) (all.0 is).1 ∙ ap (λ (vs : List Value). k.spelled ++ vs) others)
        by others (Some x) is = rw is others

    walks_as : (before bs : List Branch) (now now' : List Refusal) (kept kept' : List (List Value)) (was was' : List Refusal) (spelled spelled' : List (List Value))
        → now ≡ now' → kept ≡ kept' → was ≡ was' → spelled ≡ spelled' → Walks before bs now kept was spelled → Walks before bs now' kept' was' spelled'
    walks_as before bs now now' kept kept' was was' spelled spelled' a b c d w =
        subst (λ (x : List Refusal). Walks before bs x kept' was' spelled') a
        (subst (λ (x : List (List Value)). Walks before bs now x was' spelled') b
        (subst (λ (x : List Refusal). Walks before bs now kept x spelled') c
        (subst (λ (x : List (List Value)). Walks before bs now kept was x) d w)))

    walks : (bs before : List Branch) (ks : List Known) → AllHold ks → spelleds ks ≡ values_at_entry file classes e before → Walks before bs (nows ks) (kepts ks) (wases ks) (spelleds ks)
    walks [] before ks all spelled = (refl, same_read ks all)
    walks (b ∷ bs) before ks all spelled =
        let k = known before ks all spelled b in
        let next = ks ++ k ∷ [] in
        let behind = map-append (λ (x : Known). x.spelled) ks (k ∷ []) in
        let one : spelleds next ≡ values_at_entry file classes e (before ++ b ∷ []) =
        behind
        ∙ ap (λ (row : List (List Value)). row ++ values_or_none (values_of_branch file classes e before row b) ∷ []) spelled
        ∙ sym (entry_more before b) in
        let others = walks bs (before ++ b ∷ []) next (all_and ks k all (known_holds before ks all spelled b)) one in
        let there = walks_as (before ++ b ∷ []) bs _ (nows ks ++ k.now ∷ []) _ (kepts ks ++ k.kept ∷ []) _ (wases ks ++ k.was ∷ []) _ (spelleds ks ++ k.spelled ∷ [])
        (map-append (λ (x : Known). x.now) ks (k ∷ [])) (map-append (λ (x : Known). x.kept) ks (k ∷ [])) (map-append (λ (x : Known). x.was) ks (k ∷ [])) behind others in
        subst (λ (x : Refusal). Ends
        (sweep_behind file classes e (before ++ b ∷ []) (record { refusals = nows ks ++ x ∷ []; values = kepts ks ++ values_kept x (values_of_branch file classes e before (kepts ks) b) ∷ [] }) bs (rest (before ++ b ∷ []) (wases ks ++ k.was ∷ []) bs))
        (refusals_behind file classes m (before ++ b ∷ []) (nows ks ++ k.now ∷ []) bs) (row_behind file classes e (before ++ b ∷ []) (spelleds ks ++ k.spelled ∷ []) bs))
        (sym (goes_kept before ks all spelled b)) there

    behind_rest : (bs before : List Branch) (was : List Refusal) → refusals_behind file classes n before was bs ≡ was ++ rest before was bs
    behind_rest [] before was = sym (append-nil was)
    behind_rest (b ∷ bs) before was =
        let r = branch_refusal file classes n before was b in
        behind_rest bs (before ++ b ∷ []) (was ++ r ∷ []) ∙ append_assoc was (r ∷ []) (rest (before ++ b ∷ []) (was ++ r ∷ []) bs)

    pub swept : (branches : List Branch)
        → ((sweep file classes e branches (refusals_of file classes n branches)).refusals ≡ refusals_of file classes m branches)
        × (read_values (refusals_of file classes m branches) (sweep file classes e branches (refusals_of file classes n branches)).values ≡ read_values (refusals_of file classes m branches) (values_at_entry file classes e branches))
    unfolding sweep refusals_of values_at_entry
    swept branches = subst (λ (rs : List Refusal). Ends (sweep_behind file classes e [] empty_row branches rs) (refusals_behind file classes m [] [] branches) (row_behind file classes e [] [] branches)) (sym (behind_rest branches [] [])) (walks branches [] [] tt nothing)
      where
        nothing : [] ≡ values_at_entry file classes e []
        nothing = refl

-- ---- which entries are read

module _ (p : ℕ → Bool) where
  all_more : (a n : ℕ) → list_all p (range_with_len a (suc n)) ≡ (list_all p (range_with_len a n) && p (a + n))
  all_more a zero = by (p a) ∙ ap (λ (k : ℕ). true && p k) zero_more
    where
      by : (c : Bool) → (c && true) ≡ (true && c)
      by true = refl
      by false = refl

      zero_more : a ≡ a + 0
      zero_more = omega arith
  all_more a (suc n) = ap (λ (c : Bool). p a && c) (all_more (a + 1) n) ∙ by (p a) (list_all p (range_with_len (a + 1) n)) ∙ ap (λ (k : ℕ). list_all p (range_with_len a (suc n)) && p k) one_more
    where
      by : (c d : Bool) → (c && (d && p (a + 1 + n))) ≡ ((c && d) && p (a + 1 + n))
      by true d = refl
      by false d = refl

      one_more : a + 1 + n ≡ a + suc n
      one_more = omega arith

  all_at : (a n k : ℕ) → list_all p (range_with_len a n) ≡ true → k < n → p (a + k) ≡ true
  all_at a zero k all lt = absurd (omega (arith, lt))
  all_at a (suc n) zero all lt = ap p (omega arith) ∙ (and_parts (p a) _ all).0
  all_at a (suc n) (suc k) all lt = ap p (omega arith) ∙ all_at (a + 1) n k (and_parts (p a) _ all).1 (omega (arith, lt))

  all_within : (n k : ℕ) → k < n → list_all p (range_with_len 0 n) ≡ (list_all p (range_with_len 0 n) && p k)
  all_within n k lt = by (list_all p (range_with_len 0 n)) refl
    where
      from_zero : k ≡ 0 + k
      from_zero = omega arith

      by : (c : Bool) → list_all p (range_with_len 0 n) ≡ c → c ≡ (c && p k)
      by true is = sym (ap p from_zero ∙ all_at 0 n k is lt)
      by false is = refl

-- ---- the laws

-- The refusals behind some entries, and the row behind them, tell the refusals behind one entry more.
pub next_refusals : (file : List ℕ) (classes : List ClassDef) (e : ℕ) (branches : List Branch)
    → (sweep file classes e branches (refusals_of file classes e branches)).refusals ≡ refusals_of file classes (e + 1) branches
next_refusals file classes e branches = (swept file classes e e (e + 1) (λ before b. one before b) branches).0
  where
    one : (before : List Branch) (b : Branch) → entries_are_read file classes (e + 1) before b ≡ (entries_are_read file classes e before b && is_entry_read file classes before b e)
    one before b =
        let p = is_entry_read file classes before b in
        let same : e + 1 ≡ suc e = omega arith in
        ap (λ (n : ℕ). list_all p (range_with_len 0 n)) same ∙ all_more p 0 e ∙ ap (λ (k : ℕ). list_all p (range_with_len 0 e) && p k) (omega arith)

-- Behind all entries, a row leaves the refusals as they are, and has the values of the branches that aren't refused.
pub last_row : (file : List ℕ) (classes : List ClassDef) (e n : ℕ) (branches : List Branch) → e < n
    → ((sweep file classes e branches (refusals_of file classes n branches)).refusals ≡ refusals_of file classes n branches)
    × (read_values (refusals_of file classes n branches) (sweep file classes e branches (refusals_of file classes n branches)).values ≡ read_values (refusals_of file classes n branches) (values_at_entry file classes e branches))
last_row file classes e n branches lt = swept file classes e n n (λ before b. all_within (is_entry_read file classes before b) n e lt) branches

-- ---- where nothing is read any more

all_from : (p : ℕ → Bool) (a n : ℕ) → ((k : ℕ) → k < n → p (a + k) ≡ true) → list_all p (range_with_len a n) ≡ true
all_from p a zero each = refl
all_from p a (suc n) each =
    let first : p a ≡ true = ap p (omega arith) ∙ each 0 (omega arith) in
    rw first (all_from p (a + 1) n (λ k lt. ap p (omega arith) ∙ each (suc k) (omega (arith, lt))))

fewer_read : (p : ℕ → Bool) (e n : ℕ) → e ≤ n → list_all p (range_with_len 0 n) ≡ true → list_all p (range_with_len 0 e) ≡ true
fewer_read p e n le all = all_from p 0 e (λ k lt. all_at p 0 n k all (omega (arith, lt, le)))

refused_stays : (told : Refusal) (counters : Bool) (baskets : Refusal) (fewer more : Bool) → (more ≡ true → fewer ≡ true) → is_none (refused_by told counters baskets fewer) ≡ false
    → refused_by told counters baskets more ≡ refused_by told counters baskets fewer
refused_stays told counters baskets true true keeps refused = refl
refused_stays told counters baskets false false keeps refused = refl
refused_stays told counters baskets false true keeps refused = absurd (true≢false (sym (keeps refl)))
refused_stays told counters baskets true false keeps refused = by (refused_first told) refl
  where
    last : (told baskets : Refusal) → is_none (option_or told (option_or baskets None)) ≡ false → option_or told (option_or baskets (Some BadEntry)) ≡ option_or told (option_or baskets None)
    last (Some x) baskets some = refl
    last None (Some x) some = refl
    last None None some = absurd (true≢false some)

    behind : (c : Bool) → is_none (option_or (refused_unless c NoCounter) (option_or told (option_or baskets None))) ≡ false
        → option_or (refused_unless c NoCounter) (option_or told (option_or baskets (Some BadEntry))) ≡ option_or (refused_unless c NoCounter) (option_or told (option_or baskets None))
    behind false some = refl
    behind true some = last told baskets some

    by : (o : Refusal) → refused_first told ≡ o → refused_by told counters baskets false ≡ refused_by told counters baskets true
    by (Some x) is = rw is refl
    by None is = ap (λ (o : Refusal). option_or o (option_or (refused_unless counters NoCounter) (option_or told (option_or baskets (Some BadEntry))))) is
        ∙ behind counters (ap (λ (o : Refusal). is_none (option_or o (option_or (refused_unless counters NoCounter) (option_or told (option_or baskets None))))) (sym is) ∙ refused)
        ∙ ap (λ (o : Refusal). option_or o (option_or (refused_unless counters NoCounter) (option_or told (option_or baskets None)))) (sym is)

module _ (file : List ℕ) (classes : List ClassDef) (e n : ℕ) (le : e ≤ n) where
  one_stays : (before : List Branch) (was : List Refusal) (b : Branch) → is_none (branch_refusal file classes e before was b) ≡ false → branch_refusal file classes n before was b ≡ branch_refusal file classes e before was b
  unfolding branch_refusal
  one_stays before was b refused =
      refused_stays b.refused (counters_are_read was b) (baskets_refusal file b) (entries_are_read file classes e before b) (entries_are_read file classes n before b) (fewer_read (is_entry_read file classes before b) e n le) refused

  stay_behind : (bs before : List Branch) (was : List Refusal) → list_any is_none (refusals_behind file classes e before was bs) ≡ false
      → refusals_behind file classes n before was bs ≡ refusals_behind file classes e before was bs
  stay_behind [] before was none = refl
  stay_behind (b ∷ bs) before was none =
      let r = branch_refusal file classes e before was b in
      let one = one_stays before was b (is_among bs (before ++ b ∷ []) was r none) in
      ap (λ (o : Refusal). refusals_behind file classes n (before ++ b ∷ []) (was ++ o ∷ []) bs) one
      ∙ stay_behind bs (before ++ b ∷ []) (was ++ r ∷ []) none
    where
      last_among : (was : List Refusal) (r : Refusal) → list_any is_none (was ++ r ∷ []) ≡ false → is_none r ≡ false
      last_among [] r e = or_left (is_none r) false e
      last_among (x ∷ xs) r e = last_among xs r (or_right (is_none x) _ e)

      front_among : (xs ys : List Refusal) → list_any is_none (xs ++ ys) ≡ false → list_any is_none xs ≡ false
      front_among [] ys e = refl
      front_among (x ∷ xs) ys e = rw (or_left (is_none x) _ e) (front_among xs ys (or_right (is_none x) _ e))

      begins : (bs before : List Branch) (was : List Refusal) → (more : List Refusal) × (refusals_behind file classes e before was bs ≡ was ++ more)
      begins [] before was = ([], sym (append-nil was))
      begins (b ∷ bs) before was =
          let r = branch_refusal file classes e before was b in
          let p = begins bs (before ++ b ∷ []) (was ++ r ∷ []) in
          (r ∷ p.0, p.1 ∙ append_assoc was (r ∷ []) p.0)

      is_among : (bs before : List Branch) (was : List Refusal) (r : Refusal) → list_any is_none (refusals_behind file classes e before (was ++ r ∷ []) bs) ≡ false → is_none r ≡ false
      is_among bs before was r none =
          let p = begins bs before (was ++ r ∷ []) in
          last_among was r (front_among (was ++ r ∷ []) p.0 (ap (list_any is_none) (sym p.1) ∙ none))

-- Where all branches are refused behind some entries, they are refused so behind more.
pub all_refused : (file : List ℕ) (classes : List ClassDef) (e n : ℕ) (branches : List Branch) → e ≤ n
    → list_any is_none (refusals_of file classes e branches) ≡ false → refusals_of file classes n branches ≡ refusals_of file classes e branches
unfolding refusals_of
all_refused file classes e n branches le none = stay_behind file classes e n le branches [] [] none
