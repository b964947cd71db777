-- Lists of branches that are changed one after the other.
use Rattle.std.proofs.{Common.{◌≡◌, ℕ, zero, suc, ◌+◌, ◌<◌, ◌≤◌, List, [], ◌∷◌, ◌++◌, length, map, min, take, drop, set, get_or, slice_get, true, Option, Some, None, refl, sym, ap, ◌∙◌, append_assoc, arith}, lemmas.Bool.{and_parts}}
use Rattle.std.proofs.lemmas.List.{append-nil, drop-drop, drop-set-lt, drop_all, map-set, set-get_or, take_all, take_more_set}
use Rattle.rio_entry.proofs.{Counting.{left_begins}, FitsBehind.{drop_min, take_min}}
use Rattle.rio_tree.specs.{declared.basket_at.BasketAt.{BasketAt}, declared.head.Branch.{Branch}}
use Rattle.rio_fill.specs.{Fill.{BranchFill, branch_added, branches_added, changed_at}, Heads.{places_wanted, saved_branch, saved_branches}}
use Rattle.rio_fill.specs.Room.{branch_reserved, branches_reserved, entries_behind, entry_given, may_add, may_be_added, without_room}

pub changed_is : (f : BranchFill → BranchFill) (bs : List BranchFill) (k : ℕ) (b new : BranchFill) → k < length bs → b ≡ get_or bs k b → new ≡ f b → set bs k new ≡ changed_at f bs k
changed_is f [] k b new lt e n = absurd (omega arith)
changed_is f (x ∷ xs) zero b new lt e n = ap (λ (y : BranchFill). y ∷ xs) (n ∙ ap f e)
changed_is f (x ∷ xs) (suc k) b new lt e n = ap (λ (ys : List BranchFill). x ∷ ys) (changed_is f xs k b new (omega arith) e n)

-- what is left at a place begins with what stands there
pub get_left : {X : Type 0} (xs : List X) (k : ℕ) → slice_get (drop k xs) 0 ≡ slice_get xs k
get_left [] zero = refl
get_left [] (suc k) = refl
get_left (x ∷ xs) zero = refl
get_left (x ∷ xs) (suc k) = get_left xs k

entry_left : (row : Option (List (List ℕ))) (k : ℕ) → entry_given (entries_behind row k) 0 ≡ entry_given row k
entry_left None k = refl
entry_left (Some entries) k = get_left entries k

entries_left : (row : Option (List (List ℕ))) (k : ℕ) → entries_behind (entries_behind row k) 1 ≡ entries_behind row (k + 1)
entries_left None k = refl
entries_left (Some entries) k = ap Some (drop-drop 1 k entries)

pub some_same : (x y : List ℕ) → Some x ≡ Some y → x ≡ y
some_same x y e = cc

-- ---- a loop that changes them

module _ (bs : List BranchFill) (k : ℕ) (b new : BranchFill) (lt : k < length bs) (e : b ≡ get_or bs k b) where
  begins : drop k bs ≡ b ∷ drop (k + 1) bs
  begins = left_begins bs k b lt e

  taken : take (k + 1) (set bs k new) ≡ take k bs ++ new ∷ []
  taken = take_more_set bs k new lt

  behind : drop (k + 1) (set bs k new) ≡ drop (k + 1) bs
  behind = drop-set-lt (k + 1) bs k new (omega arith)

  -- the branch is changed, and those behind it as before
  goes_on : (F : List BranchFill → List BranchFill) → take (k + 1) (set bs k new) ++ F (drop (k + 1) (set bs k new)) ≡ take k bs ++ (new ∷ F (drop (k + 1) bs))
  goes_on F =
      ap (λ (l : List BranchFill). l ++ F (drop (k + 1) (set bs k new))) taken
      ∙ ap (λ (l : List BranchFill). (take k bs ++ new ∷ []) ++ F l) behind
      ∙ append_assoc (take k bs) (new ∷ []) (F (drop (k + 1) bs))

  pub reserve_goes_on : (row : Option (List (List ℕ))) (total : List BranchFill) → new ≡ branch_reserved b (entry_given row k) → take k bs ++ branches_reserved (drop k bs) (entries_behind row k) ≡ total
      → take (k + 1) (set bs k new) ++ branches_reserved (drop (k + 1) (set bs k new)) (entries_behind row (k + 1)) ≡ total
  reserve_goes_on row total n so_far =
      goes_on (λ l. branches_reserved l (entries_behind row (k + 1)))
      ∙ ap (λ (y : BranchFill). take k bs ++ (y ∷ branches_reserved (drop (k + 1) bs) (entries_behind row (k + 1)))) (n ∙ ap (branch_reserved b) (sym (entry_left row k)))
      ∙ ap (λ (r : Option (List (List ℕ))). take k bs ++ (branch_reserved b (entry_given (entries_behind row k) 0) ∷ branches_reserved (drop (k + 1) bs) r)) (sym (entries_left row k))
      ∙ ap (λ (l : List BranchFill). take k bs ++ branches_reserved l (entries_behind row k)) (sym begins)
      ∙ so_far

  pub room_stays : without_room new ≡ without_room b → map without_room (set bs k new) ≡ map without_room bs
  room_stays s =
      map-set without_room bs k new
      ∙ ap (λ (x : BranchFill). set (map without_room bs) k x) s
      ∙ sym (map-set without_room bs k b)
      ∙ ap (map without_room) (ap (λ (x : BranchFill). set bs k x) e ∙ set-get_or bs k b)

  -- the entry that is added next
  pub added_first : (row : List (List ℕ)) → may_add (drop k bs) (drop k row) ≡ true
      → (entry : List ℕ) × (slice_get row k ≡ Some entry) × (drop k row ≡ entry ∷ drop (k + 1) row) × (may_be_added b entry ≡ true) × (may_add (drop (k + 1) bs) (drop (k + 1) row) ≡ true)
  added_first row fit = by (drop k row) refl (ap (λ (l : List BranchFill). may_add l (drop k row)) (sym begins) ∙ fit)
    where
      by : (r : List (List ℕ)) → drop k row ≡ r → may_add (b ∷ drop (k + 1) bs) r ≡ true
          → (entry : List ℕ) × (slice_get row k ≡ Some entry) × (drop k row ≡ entry ∷ drop (k + 1) row) × (may_be_added b entry ≡ true) × (may_add (drop (k + 1) bs) (drop (k + 1) row) ≡ true)
      by [] is fit = absurd cc
      by (x ∷ xs) is fit =
          let parts = and_parts (may_be_added b x) (may_add (drop (k + 1) bs) xs) fit in
          let rest : xs ≡ drop (k + 1) row = sym (ap (drop 1) is) ∙ drop-drop 1 k row in
          (x, sym (get_left row k) ∙ ap (λ (l : List (List ℕ)). slice_get l 0) is, is ∙ ap (λ (l : List (List ℕ)). x ∷ l) rest, parts.0, ap (may_add (drop (k + 1) bs)) (sym rest) ∙ parts.1)

  pub add_goes_on : (row : List (List ℕ)) (total : List BranchFill) (entry : List ℕ) → new ≡ branch_added b entry → drop k row ≡ entry ∷ drop (k + 1) row → take k bs ++ branches_added (drop k bs) (drop k row) ≡ total
      → take (k + 1) (set bs k new) ++ branches_added (drop (k + 1) (set bs k new)) (drop (k + 1) row) ≡ total
  add_goes_on row total entry n is so_far =
      goes_on (λ l. branches_added l (drop (k + 1) row))
      ∙ ap (λ (y : BranchFill). take k bs ++ (y ∷ branches_added (drop (k + 1) bs) (drop (k + 1) row))) n
      ∙ ap (λ (r : List (List ℕ)). take k bs ++ branches_added (b ∷ drop (k + 1) bs) r) (sym is)
      ∙ ap (λ (l : List BranchFill). take k bs ++ branches_added l (drop k row)) (sym begins)
      ∙ so_far

  pub may_go_on : (row : List (List ℕ)) → may_add (drop (k + 1) bs) (drop (k + 1) row) ≡ true → may_add (drop (k + 1) (set bs k new)) (drop (k + 1) row) ≡ true
  may_go_on row fit = ap (λ (l : List BranchFill). may_add l (drop (k + 1) row)) behind ∙ fit

-- all are changed
pub all_done : (bs : List BranchFill) (k : ℕ) (F : List BranchFill → List BranchFill) (total : List BranchFill) → F [] ≡ [] → length bs ≤ k → take k bs ++ F (drop k bs) ≡ total → bs ≡ total
all_done bs k F total none le so_far =
    sym (append-nil bs)
    ∙ ap (λ (l : List BranchFill). l ++ []) (sym (take_all k bs le))
    ∙ ap (λ (l : List BranchFill). take k bs ++ l) (sym none ∙ ap F (sym (drop_all k bs le)))
    ∙ so_far

-- ---- the header of a save

module _ (count : ℕ) (bs : List BranchFill) (k : ℕ) (b : BranchFill) (lt : k < length bs) (e : b ≡ get_or bs k b) where
  pub save_goes_on : (made : List Branch) (rest own others : List BasketAt) (n : ℕ) (total : List Branch) → n ≡ min (places_wanted b) (length rest) → own ≡ take n rest → others ≡ drop n rest
      → made ++ saved_branches count (drop k bs) rest ≡ total → (made ++ saved_branch count b own ∷ []) ++ saved_branches count (drop (k + 1) bs) others ≡ total
  save_goes_on made rest own others n total is own_is others_is so_far =
      let w = places_wanted b in
      let first : own ≡ take w rest = own_is ∙ ap (λ (m : ℕ). take m rest) is ∙ take_min w rest in
      let last : others ≡ drop w rest = others_is ∙ ap (λ (m : ℕ). drop m rest) is ∙ drop_min w rest in
      append_assoc made (saved_branch count b own ∷ []) (saved_branches count (drop (k + 1) bs) others)
      ∙ ap (λ (l : List BasketAt). made ++ (saved_branch count b l ∷ saved_branches count (drop (k + 1) bs) others)) first
      ∙ ap (λ (l : List BasketAt). made ++ (saved_branch count b (take w rest) ∷ saved_branches count (drop (k + 1) bs) l)) last
      ∙ ap (λ (l : List BranchFill). made ++ saved_branches count l rest) (sym (left_begins bs k b lt e))
      ∙ so_far
