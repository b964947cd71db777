-- What a row is read of, branch after branch.
use Rattle.std.proofs.Common.{◌≡◌, ℕ, ◌+◌, ◌≤◌, List, [], ◌∷◌, ◌++◌, length, map, drop, slice_get, Option, Some, None, Result, Ok, Err, refl, sym, ap, subst, ◌∙◌, append_assoc, append-nil}
use Rattle.std.proofs.lemmas.{List.{drop_all, drop_more, map-append}, Option.{get_or_from_slice_get, same_Some, slice_get-map, slice_get_within}}
use Rattle.std.specs.Option.{option_map}
use Rattle.rio_num.specs.Reading.{◌>>=◌}
use Rattle.rio_leaf.specs.declared.branch.BranchDef.{BranchDef}
use Rattle.rio_entry.specs.{Counting.{counters_within}, declared.lane.Lane.{Lane}, declared.lane.RowFault.{RowFault}}
use Rattle.rio_key.specs.OpenBasket.{OpenBasket}
use Rattle.rio_fill.specs.Fill.{BranchFill, TreeFill, basket_of, count_before, entry_count}
use Rattle.rio_tree.specs.declared.basket_at.BasketAt.{BasketAt}
use Rattle.rio_session.specs.Scans.{entries_of_row, entry_of_branch, entry_within}

-- the element of this number stands before those behind it
pub drop_begins : {A : Type 0} (xs : List A) (k : ℕ) (x : A) → slice_get xs k ≡ Some x → drop k xs ≡ x ∷ drop (k + 1) xs
drop_begins {A} xs k x is = drop_more xs k x (slice_get_within xs k x is) ∙ ap (λ (y : A). y ∷ drop (k + 1) xs) (get_or_from_slice_get xs k x x is)

-- what is made of the element of each number, one behind the other
pub map_more : {A B : Type 0} (f : A → B) (xs : List A) (k : ℕ) (front new : List B) (y : B) (total : List B) → Some y ≡ option_map f (slice_get xs k) → new ≡ front ++ y ∷ [] → front ++ map f (drop k xs) ≡ total
    → new ++ map f (drop (k + 1) xs) ≡ total
map_more {A} {B} f xs k front new y total own more so_far = by (slice_get xs k) refl own
  where
    by : (o : Option A) → slice_get xs k ≡ o → Some y ≡ option_map f o → new ++ map f (drop (k + 1) xs) ≡ total
    by None is e = absurd cc
    by (Some x) is e =
        let same : y ≡ f x = same_Some y (f x) e in
        ap (λ (l : List B). l ++ map f (drop (k + 1) xs)) more
        ∙ append_assoc front (y ∷ []) (map f (drop (k + 1) xs))
        ∙ ap (λ (z : B). front ++ (z ∷ map f (drop (k + 1) xs))) same
        ∙ ap (λ (l : List A). front ++ map f l) (sym (drop_begins xs k x is))
        ∙ so_far

-- ---- entries

abbrev pub behind_entries : List (List ℕ) → Result (List (List ℕ)) RowFault → Result (List (List ℕ)) RowFault
behind_entries front rest = rest >>= λ more. Ok (front ++ more)

front_more : (front : List (List ℕ)) (x : List ℕ) (r : Result (List (List ℕ)) RowFault) → behind_entries (front ++ x ∷ []) r ≡ behind_entries front (r >>= λ more. Ok (x ∷ more))
front_more front x (Ok more) = ap (λ (l : List (List ℕ)). let r : Result (List (List ℕ)) RowFault = Ok l in r) (append_assoc front (x ∷ []) more)
front_more front x (Err fault) = refl

module _ (count : ℕ) (bs : List BranchFill) (lanes : List Lane) (e k : ℕ) (b : BranchFill) (lane : Lane) (there : slice_get bs k ≡ Some b) (held : slice_get lanes k ≡ Some lane) where
  row_on : entries_of_row count (drop k bs) (drop k lanes) e ≡ (entry_of_branch count b lane e >>= λ entry. entries_of_row count (drop (k + 1) bs) (drop (k + 1) lanes) e >>= λ more. Ok (entry ∷ more))
  row_on = λ i. entries_of_row count (drop_begins bs k b there i) (drop_begins lanes k lane held i) e

  pub entries_more : (front new : List (List ℕ)) (x : List ℕ) (total : Result (List (List ℕ)) RowFault) → entry_of_branch count b lane e ≡ Ok x → new ≡ front ++ x ∷ []
      → behind_entries front (entries_of_row count (drop k bs) (drop k lanes) e) ≡ total → behind_entries new (entries_of_row count (drop (k + 1) bs) (drop (k + 1) lanes) e) ≡ total
  entries_more front new x total own more so_far =
      let rest = entries_of_row count (drop (k + 1) bs) (drop (k + 1) lanes) e in
      ap (λ (l : List (List ℕ)). behind_entries l rest) more
      ∙ front_more front x rest
      ∙ sym (ap (behind_entries front) (row_on ∙ ap (λ (r : Result (List ℕ) RowFault). r >>= λ entry. rest >>= λ others. Ok (entry ∷ others)) own))
      ∙ so_far

  pub entries_stop : (front : List (List ℕ)) (fault : RowFault) (total : Result (List (List ℕ)) RowFault) → entry_of_branch count b lane e ≡ Err fault
      → behind_entries front (entries_of_row count (drop k bs) (drop k lanes) e) ≡ total → Err fault ≡ total
  entries_stop front fault total own so_far =
      let rest = entries_of_row count (drop (k + 1) bs) (drop (k + 1) lanes) e in
      sym (ap (behind_entries front) (row_on ∙ ap (λ (r : Result (List ℕ) RowFault). r >>= λ entry. rest >>= λ others. Ok (entry ∷ others)) own)) ∙ so_far

pub entries_all : (count : ℕ) (bs : List BranchFill) (lanes : List Lane) (e k : ℕ) (front : List (List ℕ)) (total : Result (List (List ℕ)) RowFault) → length bs ≤ k
    → behind_entries front (entries_of_row count (drop k bs) (drop k lanes) e) ≡ total → Ok front ≡ total
entries_all count bs lanes e k front total le so_far =
    ap (λ (l : List (List ℕ)). let r : Result (List (List ℕ)) RowFault = Ok l in r) (sym (append-nil front))
    ∙ ap (λ (l : List BranchFill). behind_entries front (entries_of_row count l (drop k lanes) e)) (sym (drop_all k bs le))
    ∙ so_far

-- the counters of one branch more
pub counters_more : (bs : List BranchFill) (k : ℕ) (front new : List (List (Option ℕ))) (def : BranchDef) (counters : List (Option ℕ)) → Some def ≡ option_map (λ b. b.def) (slice_get bs k) → counters ≡ counters_within def.shape
    → new ≡ front ++ counters ∷ [] → front ++ map (λ b. counters_within b.def.shape) (drop k bs) ≡ map (λ b. counters_within b.def.shape) bs
    → new ++ map (λ b. counters_within b.def.shape) (drop (k + 1) bs) ≡ map (λ b. counters_within b.def.shape) bs
counters_more bs k front new def counters own made more so_far = map_more (λ b. counters_within b.def.shape) bs k front new counters (map (λ b. counters_within b.def.shape) bs) (by (slice_get bs k) own) more so_far
  where
    by : (o : Option BranchFill) → Some def ≡ option_map (λ b. b.def) o → Some counters ≡ option_map (λ b. counters_within b.def.shape) o
    by None e = absurd cc
    by (Some b) e =
        let same : def ≡ b.def = same_Some def b.def e in
        ap (λ (c : List (Option ℕ)). let o : Option (List (Option ℕ)) = Some c in o) (made ∙ ap (λ (d : BranchDef). counters_within d.shape) same)

-- one part more
pub parts_more : {P B : Type 0} (f : P → B) (front new : List P) (part : P) (y : B) → new ≡ front ++ part ∷ [] → f part ≡ y → map f new ≡ map f front ++ y ∷ []
parts_more {P} {B} f front new part y more own = ap (map f) more ∙ map-append f front (part ∷ []) ∙ ap (λ (z : B). map f front ++ z ∷ []) own

-- what a branch of a tree is known by
module _ (t : TreeFill) (k : ℕ) (baskets : List BasketAt) (opened : OpenBasket) (first : ℕ) (baskets_are : Some baskets ≡ option_map (λ b. b.baskets) (slice_get t.branches k))
    (open_is : Some opened ≡ option_map basket_of (slice_get t.branches k)) (first_is : Some first ≡ option_map (count_before (entry_count t)) (slice_get t.branches k)) where
  pub entry_known : (b : BranchFill) (lane : Lane) (e : ℕ) → slice_get t.branches k ≡ Some b → entry_within baskets opened.entries first lane e ≡ entry_of_branch (entry_count t) b lane e
  entry_known b lane e is =
      let one = same_Some baskets b.baskets (baskets_are ∙ ap (option_map (λ (c : BranchFill). c.baskets)) is) in
      let two = same_Some opened (basket_of b) (open_is ∙ ap (option_map basket_of) is) in
      let three = same_Some first (count_before (entry_count t) b) (first_is ∙ ap (option_map (count_before (entry_count t))) is) in
      λ i. entry_within (one i) (two i).entries (three i) lane e

-- the counters of the branch of a number
pub counter_there : (bs : List BranchFill) (counters : List (List (Option ℕ))) (k : ℕ) (def : BranchDef) (x : List (Option ℕ)) → counters ≡ map (λ b. counters_within b.def.shape) bs → Some def ≡ option_map (λ b. b.def) (slice_get bs k)
    → slice_get counters k ≡ Some x → x ≡ counters_within def.shape
counter_there bs counters k def x all own is = by (slice_get bs k) own (sym is ∙ ap (λ (l : List (List (Option ℕ))). slice_get l k) all ∙ slice_get-map (λ (b : BranchFill). counters_within b.def.shape) bs k)
  where
    by : (o : Option BranchFill) → Some def ≡ option_map (λ b. b.def) o → Some x ≡ option_map (λ b. counters_within b.def.shape) o → x ≡ counters_within def.shape
    by None e f = absurd cc
    by (Some b) e f = same_Some x (counters_within b.def.shape) f ∙ ap (λ (d : BranchDef). counters_within d.shape) (sym (same_Some def b.def e))
