-- The trees of a session as lists in order of names: as commands are judged by them, and as their headers say.
use Rattle.std.proofs.Common.{◌≡◌, ◌∙◌, inl, inr, ℕ, ◌+◌, List, [], ◌∷◌, map, Bool, true, false, cond, Option, Some, refl, sym, ap, subst}
use Rattle.std.proofs.lemmas.{List.Sums.{sum_by-cons}, Slice.Eq.{bytes_eq-Decides}}
use Rattle.std.specs.{Prelude.{if◌then◌else◌}, List.{find, sum_by}, Option.{option_map}, Ordering.{is_lt}}
use Rattle.std.specs.declared.cmp.Ordering.{Ordering, TheVariants.{Less, Equal, Greater}}
use Rattle.rio_num.specs.Word.{name_order}
use Rattle.rio_dir.specs.Table.{first_by}
use Rattle.rio_tree_table.specs.{Table.{is_of_name, tree_of, with_tree as with_kept, without_tree as without_kept}, declared.table.KeptTree.{KeptTree}}
use Rattle.rio_fill.specs.Fill.{TreeFill}
use Rattle.rio_state.proofs.Members.{In}
use Rattle.rio_recover.proofs.TreeOrder.{before_other}
use Rattle.rio_recover.specs.{TreeTable.{AreAfter, AreInOrder, has_name, is_name_before, with_tree, without_tree}, declared.trees.TreeAt.{TreeAt}}
use Rattle.rio_session.specs.Fills.{AreAfterName, AreNamesOrdered, FilledTree, filled_if, filled_tree_of, is_tree_of, kept_tree_of, tree_at_of, with_change, with_filled, without_filled}
use Rattle.rio_session.proofs.KeysWithout.{map_removed}

-- ---- any list

-- the first that passes, among those that a function gives
pub find_mapped : {A B : Type 0} (f : A → B) (q : B → Bool) (xs : List A) → find q (map f xs) ≡ option_map f (find (λ x. q (f x)) xs)
find_mapped f q [] = refl
find_mapped f q (x ∷ xs) = by (q (f x)) (find_mapped f q xs)
  where
    by : (b : Bool) → find q (map f xs) ≡ option_map f (find (λ x. q (f x)) xs) → cond b (Some (f x)) (find q (map f xs)) ≡ option_map f (cond b (Some x) (find (λ x. q (f x)) xs))
    by true later = refl
    by false later = later

pub sum_mapped : {A B : Type 0} (f : B → ℕ) (g : A → B) (xs : List A) → sum_by f (map g xs) ≡ sum_by (λ x. f (g x)) xs
sum_mapped f g [] = refl
sum_mapped f g (x ∷ xs) = sum_by-cons f (g x) (map g xs) ∙ ap (λ (n : ℕ). f (g x) + n) (sum_mapped f g xs) ∙ sym (sum_by-cons (λ y. f (g y)) x xs)

-- ---- names

-- both tables order names alike
pub before_alike : (a b : List ℕ) → is_name_before a b ≡ is_lt (name_order a b)
before_alike a b = by (name_order a b)
  where
    by : (o : Ordering) → first_by o false ≡ is_lt o
    by Less = refl
    by Equal = refl
    by Greater = refl

-- ---- as commands are judged by them

pub kept_found : (name : List ℕ) (trees : List FilledTree) → tree_of name (map kept_tree_of trees) ≡ option_map kept_tree_of (find (is_tree_of name) trees)
kept_found name trees = find_mapped kept_tree_of (is_of_name name) trees

pub kept_without : (name : List ℕ) (trees : List FilledTree) → map kept_tree_of (without_filled name trees) ≡ without_kept name (map kept_tree_of trees)
kept_without name trees = map_removed kept_tree_of (is_of_name name) trees

pub kept_with : (t : FilledTree) (trees : List FilledTree) → map kept_tree_of (with_filled t trees) ≡ with_kept (kept_tree_of t) (map kept_tree_of trees)
kept_with t [] = refl
kept_with t (u ∷ us) =
    (λ i. map kept_tree_of (if before_alike u.name t.name i then u ∷ with_filled t us else t ∷ u ∷ us)) ∙ by (is_lt (name_order u.name t.name)) (kept_with t us)
  where
    by : (b : Bool) → map kept_tree_of (with_filled t us) ≡ with_kept (kept_tree_of t) (map kept_tree_of us)
        → map kept_tree_of (if b then u ∷ with_filled t us else t ∷ u ∷ us)
        ≡ (if b then kept_tree_of u ∷ with_kept (kept_tree_of t) (map kept_tree_of us) else kept_tree_of t ∷ kept_tree_of u ∷ map kept_tree_of us)
    by true later = ap (λ (l : List KeptTree). kept_tree_of u ∷ l) later
    by false later = refl

-- the tree of a file that is opened: no rows are pending
abbrev pub opened_tree : TreeAt → KeptTree
opened_tree t = kept_tree_of (filled_tree_of t)

-- ---- as their headers say

pub header_found : (name : List ℕ) (trees : List FilledTree) → find (has_name name) (map tree_at_of trees) ≡ option_map tree_at_of (find (is_tree_of name) trees)
header_found name trees = find_mapped tree_at_of (has_name name) trees

pub headers_without : (name : List ℕ) (trees : List FilledTree) → map tree_at_of (without_filled name trees) ≡ without_tree name (map tree_at_of trees)
headers_without name trees = map_removed tree_at_of (has_name name) trees

pub headers_with : (t : FilledTree) (trees : List FilledTree) → map tree_at_of (with_filled t trees) ≡ with_tree (tree_at_of t) (map tree_at_of trees)
headers_with t [] = refl
headers_with t (u ∷ us) = by (is_name_before u.name t.name) (headers_with t us)
  where
    by : (b : Bool) → map tree_at_of (with_filled t us) ≡ with_tree (tree_at_of t) (map tree_at_of us)
        → map tree_at_of (if b then u ∷ with_filled t us else t ∷ u ∷ us)
        ≡ (if b then tree_at_of u ∷ with_tree (tree_at_of t) (map tree_at_of us) else tree_at_of t ∷ tree_at_of u ∷ map tree_at_of us)
    by true later = ap (λ (l : List TreeAt). tree_at_of u ∷ l) later
    by false later = refl

-- ---- order

after_names : (name : List ℕ) (trees : List FilledTree) → AreAfter name (map tree_at_of trees) → AreAfterName name trees
after_names name [] are = tt
after_names name (t ∷ ts) are = (are.0, after_names name ts are.1)

-- trees whose headers are in order are in order
pub ordered_of : (trees : List FilledTree) → AreInOrder (map tree_at_of trees) → AreNamesOrdered trees
ordered_of [] are = tt
ordered_of (t ∷ ts) are = (after_names t.name ts are.0, ordered_of ts are.1)

after_headers : (name : List ℕ) (trees : List FilledTree) → AreAfterName name trees → AreAfter name (map tree_at_of trees)
after_headers name [] are = tt
after_headers name (t ∷ ts) are = (are.0, after_headers name ts are.1)

pub headers_ordered : (trees : List FilledTree) → AreNamesOrdered trees → AreInOrder (map tree_at_of trees)
headers_ordered [] are = tt
headers_ordered (t ∷ ts) are = (after_headers t.name ts are.0, headers_ordered ts are.1)

-- a tree is found by its name
pub own_found : (t : FilledTree) (trees : List FilledTree) → AreNamesOrdered trees → In t trees → find (is_tree_of t.name) trees ≡ Some t
own_found t [] are i = absurd i
own_found t (u ∷ us) are (inl same) =
    ap (λ (b : Bool). cond b (Some u) (find (is_tree_of t.name) us)) ((bytes_eq-Decides u.name t.name).1 (ap (λ (v : FilledTree). v.name) same)) ∙ ap (λ (v : FilledTree). let o : Option FilledTree = Some v in o) same
own_found t (u ∷ us) are (inr i) =
    ap (λ (b : Bool). cond b (Some u) (find (is_tree_of t.name) us)) (before_other u.name t.name (later u.name us are.0 i)) ∙ own_found t us are.1 i
  where
    later : (name : List ℕ) (ts : List FilledTree) → AreAfterName name ts → In t ts → is_name_before name t.name ≡ true
    later name [] are i = absurd i
    later name (v ∷ vs) are (inl same) = subst (λ (w : FilledTree). is_name_before name w.name ≡ true) same are.0
    later name (v ∷ vs) are (inr i) = later name vs are.1 i

-- ---- with one of them changed

module _ (name : List ℕ) (change : TreeFill → TreeFill) where
  -- its name stays
  named_still : (other : List ℕ) (t : FilledTree) → is_tree_of other (filled_if name change t) ≡ is_tree_of other t
  named_still other t = by (is_tree_of name t)
    where
      by : (b : Bool) → is_tree_of other (if b then record t { fill = change t.fill } else t) ≡ is_tree_of other t
      by true = refl
      by false = refl

  pub changed_found : (other : List ℕ) (trees : List FilledTree) → find (is_tree_of other) (with_change name change trees) ≡ option_map (filled_if name change) (find (is_tree_of other) trees)
  changed_found other trees = find_mapped (filled_if name change) (is_tree_of other) trees ∙ (λ i. option_map (filled_if name change) (find (λ t. named_still other t i) trees))

  -- what the change leaves as it is stays
  pub same_changed : {B : Type 0} (f : FilledTree → B) → ((t : FilledTree) → f (record t { fill = change t.fill }) ≡ f t) → (trees : List FilledTree) → map f (with_change name change trees) ≡ map f trees
  same_changed f same [] = refl
  same_changed f same (t ∷ ts) = by (is_tree_of name t) (same_changed f same ts)
    where
      by : (b : Bool) → map f (with_change name change ts) ≡ map f ts → f (if b then record t { fill = change t.fill } else t) ∷ map f (with_change name change ts) ≡ f t ∷ map f ts
      by true later = λ i. same t i ∷ later i
      by false later = λ i. f t ∷ later i
