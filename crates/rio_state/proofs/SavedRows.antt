-- The saved rows of a tree depend on the records at the places of its baskets alone.
use Rattle.std.proofs.Common.{◌≡◌, inl, inr, ◌∙◌, ℕ, List, [], ◌∷◌, ◌++◌, map, Bool, true, Option, Some, None, refl, sym, ap}
use Rattle.std.specs.{Prelude.{is_none, is_some, option_and_then}, Option.{option_map}}
use Rattle.rio_format.specs.declared.class.ClassDef.{ClassDef}
use Rattle.rio_num.specs.Reading.{some_if}
use Rattle.rio_tree.specs.{Index.{basket_counts}, WrittenLaws.{stated_defs}, declared.basket_at.BasketAt.{BasketAt}, declared.head.Branch.{Branch}, declared.head.TreeHead.{TreeHead}}
use Rattle.rio_machine.specs.RowEntries.{fitting_row}
use Rattle.rio_tree.specs.SavedEntries.{all_there, branch_entries, counted_entries, entries_of_baskets, rows_by, rows_of}
use Rattle.rio_state.specs.Trees.{RecordsAt, basket_bytes, saved_rows}
use Rattle.rio_state.proofs.Members.{In}

-- ---- options

pub then_some : {A B : Type 0} (o : Option A) (f : A → Option B) → is_some (option_and_then f o) ≡ true → is_some o ≡ true
then_some None f e = absurd cc
then_some (Some x) f e = refl

map_some : {A B : Type 0} (o : Option A) (f : A → B) → is_some (option_map f o) ≡ true → is_some o ≡ true
map_some None f e = absurd cc
map_some (Some x) f e = refl

-- what is there of the second, where both are
then_both : {A B : Type 0} (o : Option A) (f : A → Option B) (P : Type 0) → ((x : A) → is_some (f x) ≡ true → P) → is_some (option_and_then f o) ≡ true → P
then_both None f P both e = absurd cc
then_both (Some x) f P both e = both x e

first_there : {A : Type 0} (o : Option A) (os : List (Option A)) → is_some (all_there (o ∷ os)) ≡ true → is_some o ≡ true
first_there None os e = absurd cc
first_there (Some x) os e = refl

rest_there : {A : Type 0} (o : Option A) (os : List (Option A)) → is_some (all_there (o ∷ os)) ≡ true → is_some (all_there os) ≡ true
rest_there None os e = absurd cc
rest_there (Some x) os e = map_some (all_there os) (λ xs. x ∷ xs) e

-- all are there, so each is
pub each_there : {A B : Type 0} (f : A → Option B) (x : A) (xs : List A) → is_some (all_there (map f xs)) ≡ true → In x xs → is_some (f x) ≡ true
each_there f x [] e i = absurd i
each_there f x (y ∷ ys) e (inl same) = ap (λ (z : _). is_some (f z)) (sym same) ∙ first_there (f y) (map f ys) e
each_there f x (y ∷ ys) e (inr i) = each_there f x ys (rest_there (f y) (map f ys) e) i

-- ---- the same baskets

-- the baskets of a branch, and of a header
abbrev pub HasBasket : TreeHead → BasketAt → Type 0
HasBasket head at = (b : Branch) × In b head.branches × In at b.baskets

module _ (f g : RecordsAt) where
  abbrev pub IsSameBasket : BasketAt → Type 0
  IsSameBasket at = basket_bytes f at ≡ basket_bytes g at

  baskets_same : (offsets : Bool) (ats : List BasketAt) (counts : List ℕ) → ((at : BasketAt) → In at ats → IsSameBasket at)
      → entries_of_baskets (basket_bytes f) offsets ats counts ≡ entries_of_baskets (basket_bytes g) offsets ats counts
  baskets_same offsets [] counts same = refl
  baskets_same offsets (at ∷ ats) [] same = refl
  baskets_same offsets (at ∷ ats) (count ∷ counts) same =
      let here = same at (inl refl) in
      let rest = baskets_same offsets ats counts (λ a i. same a (inr i)) in
      λ i. option_and_then (λ bytes. option_and_then (λ entries. option_map (λ more. entries ++ more) (rest i)) (counted_entries offsets count bytes)) (here i)

  branch_same : (b : Branch) → ((at : BasketAt) → In at b.baskets → IsSameBasket at) → branch_entries (basket_bytes f) b ≡ branch_entries (basket_bytes g) b
  branch_same b same =
      ap (option_and_then (some_if (is_none b.refused))) (baskets_same b.offsets b.baskets (basket_counts b.baskets b.entries) same)

  branches_same : (bs : List Branch) → ((b : Branch) (at : BasketAt) → In b bs → In at b.baskets → IsSameBasket at) → map (branch_entries (basket_bytes f)) bs ≡ map (branch_entries (basket_bytes g)) bs
  branches_same [] same = refl
  branches_same (b ∷ bs) same =
      let here = branch_same b (λ at i. same b at (inl refl) i) in
      let rest = branches_same bs (λ c at i j. same c at (inr i) j) in
      λ i. here i ∷ rest i

  pub rows_same : (classes : List ClassDef) (head : TreeHead) → ((at : BasketAt) → HasBasket head at → IsSameBasket at) → saved_rows classes f head ≡ saved_rows classes g head
  unfolding saved_rows rows_by
  rows_same classes head same =
      let all = branches_same head.branches (λ b at i j. same at (b, i, j)) in
      λ i. option_and_then (rows_of (fitting_row classes (stated_defs head.branches)) head.entries) (all_there (all i))

-- ---- the baskets are there

module _ (f : RecordsAt) where
  baskets_there : (offsets : Bool) (ats : List BasketAt) (counts : List ℕ) → is_some (entries_of_baskets (basket_bytes f) offsets ats counts) ≡ true → (at : BasketAt) → In at ats
      → is_some (basket_bytes f at) ≡ true
  baskets_there offsets [] counts e at i = absurd i
  baskets_there offsets (a ∷ ats) [] e at i = absurd cc
  baskets_there offsets (a ∷ ats) (count ∷ counts) e at (inl same) = ap (λ (z : BasketAt). is_some (basket_bytes f z)) (sym same) ∙ then_some (basket_bytes f a) _ e
  baskets_there offsets (a ∷ ats) (count ∷ counts) e at (inr i) =
      let rest = then_both (basket_bytes f a) _ (is_some (entries_of_baskets (basket_bytes f) offsets ats counts) ≡ true)
      (λ bytes h. then_both (counted_entries offsets count bytes) _ (is_some (entries_of_baskets (basket_bytes f) offsets ats counts) ≡ true) (λ entries k. map_some (entries_of_baskets (basket_bytes f) offsets ats counts) (λ more. entries ++ more) k) h) e in
      baskets_there offsets ats counts rest at i

  -- where the rows are there, each basket is
  pub rows_there : (classes : List ClassDef) (head : TreeHead) → is_some (saved_rows classes f head) ≡ true → (at : BasketAt) → HasBasket head at → is_some (basket_bytes f at) ≡ true
  unfolding saved_rows rows_by
  rows_there classes head e at (b, i, j) =
      let all = then_some (all_there (map (branch_entries (basket_bytes f)) head.branches)) (rows_of (fitting_row classes (stated_defs head.branches)) head.entries) e in
      let branch = each_there (branch_entries (basket_bytes f)) b head.branches all i in
      baskets_there b.offsets b.baskets (basket_counts b.baskets b.entries) (then_some (entries_of_baskets (basket_bytes f) b.offsets b.baskets (basket_counts b.baskets b.entries)) (some_if (is_none b.refused)) branch) at j
