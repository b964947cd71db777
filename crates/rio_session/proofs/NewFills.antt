-- What a session keeps of a new tree, and trees with it among them.
use Rattle.std.proofs.Common.{◌≡◌, ◌∙◌, ℕ, List, [], ◌∷◌, ◌++◌, map, Bool, true, false, cond, Option, Some, None, refl, sym, ap}
use Rattle.std.proofs.lemmas.Slice.Eq.{bytes_eq-Decides}
use Rattle.std.specs.{Prelude.{if◌then◌else◌}, List.{find}, Option.{option_map}, Str.{bytes_eq}}
use Rattle.rio_leaf.specs.declared.branch.BranchDef.{BranchDef}
use Rattle.rio_format.specs.declared.class.ClassDef.{ClassDef}
use Rattle.rio_key.specs.Cut.{Cut}
use Rattle.rio_machine.specs.State.{Tree}
use Rattle.rio_state.specs.{TreeLengths.{cuts_of}, Trees.{RecordsAt}}
use Rattle.rio_tree.specs.{WrittenLaws.{stated_defs}, declared.head.Branch.{Branch}, declared.head.TreeHead.{TreeHead}}
use Rattle.rio_fill.specs.Fill.{BranchFill, branch_fill_of, defs_of, fill_of}
use Rattle.rio_step.specs.{KeptItems.{kept_tree}, Step.{new_tree}}
use Rattle.rio_effect.specs.{PutBaskets.{AreAllPut}, TreeRecords.{new_branch, new_branches, new_head}}
use Rattle.rio_recover.specs.TreeTable.{is_name_before}
use Rattle.rio_session.specs.Fills.{FilledTree, branch_in_header, header_of, is_tree_of, kept_tree_of, put_in, put_of, with_filled}
use Rattle.rio_session.proofs.{CutFills.{opened, rests}, KeysWithout.{none_parts}}

-- ---- its branches

branches_said : (classes : List ClassDef) (before branches : List BranchDef)
    → map (branch_in_header 0) (map branch_fill_of (new_branches classes before branches)) ≡ new_branches classes before branches
branches_said classes before [] = refl
branches_said classes before (b ∷ bs) = ap (λ (l : List Branch). new_branch classes before b ∷ l) (branches_said classes (before ++ b ∷ []) bs)

branches_defs : (classes : List ClassDef) (before branches : List BranchDef) → defs_of (map branch_fill_of (new_branches classes before branches)) ≡ branches
branches_defs classes before [] = refl
branches_defs classes before (b ∷ bs) = ap (λ (l : List BranchDef). b ∷ l) (branches_defs classes (before ++ b ∷ []) bs)

branches_open : (classes known : List ClassDef) (before branches : List BranchDef) → opened (map branch_fill_of (new_branches classes before branches)) ≡ rests (cuts_of known branches [])
branches_open classes known before [] = refl
branches_open classes known before (b ∷ bs) = ap (λ (l : List (List (List ℕ))). [] ∷ l) (branches_open classes known (before ++ b ∷ []) bs)

-- without rows none of its baskets were put
pub new_put : (f : RecordsAt) (classes known : List ClassDef) (before branches : List BranchDef) → AreAllPut f 0 (new_branches classes before branches) (cuts_of known branches []) []
new_put f classes known before [] = tt
new_put f classes known before (b ∷ bs) = (record { firsts = refl; hold = tt }, new_put f classes known (before ++ b ∷ []) bs)

-- ---- the tree

module _ (name : List ℕ) (classes : List ClassDef) (branches : List BranchDef) where
  abbrev pub new_filled : FilledTree
  new_filled = record { name = name; fill = fill_of (new_head classes branches) }

  pub new_said : header_of (fill_of (new_head classes branches)) ≡ new_head classes branches
  new_said = let same = branches_said classes [] branches in λ i. record { entries = 0; branches = same i }

  pub new_kept : kept_tree_of (record { name = name; fill = fill_of (new_head classes branches) }) ≡ kept_tree (name, new_tree branches)
  new_kept = let same = branches_defs classes [] branches in λ i. record { name = name; branches = same i; saved = 0; pending = 0 }

  pub new_opened : (known : List ClassDef) → opened (fill_of (new_head classes branches)).branches ≡ rests (cuts_of known branches [])
  new_opened known = branches_open classes known [] branches

-- ---- trees with one more

module _ (t : FilledTree) where
  pub found_own : (ts : List FilledTree) → find (is_tree_of t.name) ts ≡ None → find (is_tree_of t.name) (with_filled t ts) ≡ Some t
  found_own [] none = ap (λ (b : Bool). cond b (Some t) None) ((bytes_eq-Decides t.name t.name).1 refl)
  found_own (u ∷ us) none = by (is_name_before u.name t.name) (found_own us parts.1)
    where
      parts : (bytes_eq u.name t.name ≡ false) × (find (is_tree_of t.name) us ≡ None)
      parts = none_parts (bytes_eq u.name t.name) u (find (is_tree_of t.name) us) none

      by : (b : Bool) → find (is_tree_of t.name) (with_filled t us) ≡ Some t → find (is_tree_of t.name) (if b then u ∷ with_filled t us else t ∷ u ∷ us) ≡ Some t
      by true later = ap (λ (b : Bool). cond b (Some u) (find (is_tree_of t.name) (with_filled t us))) parts.0 ∙ later
      by false later = ap (λ (b : Bool). cond b (Some t) (find (is_tree_of t.name) (u ∷ us))) ((bytes_eq-Decides t.name t.name).1 refl)

  pub found_other : (name : List ℕ) → bytes_eq t.name name ≡ false → (ts : List FilledTree) → find (is_tree_of name) (with_filled t ts) ≡ find (is_tree_of name) ts
  found_other name apart [] = ap (λ (b : Bool). cond b (Some t) None) apart
  found_other name apart (u ∷ us) = by (is_name_before u.name t.name) (found_other name apart us)
    where
      by : (b : Bool) → find (is_tree_of name) (with_filled t us) ≡ find (is_tree_of name) us → find (is_tree_of name) (if b then u ∷ with_filled t us else t ∷ u ∷ us) ≡ find (is_tree_of name) (u ∷ us)
      by true later = ap (λ (o : Option FilledTree). cond (bytes_eq u.name name) (Some u) o) later
      by false later = ap (λ (b : Bool). cond b (Some t) (find (is_tree_of name) (u ∷ us))) apart

pub none_mapped : {A B : Type 0} (f : A → B) (o : Option A) → option_map f o ≡ None → o ≡ None
none_mapped f None e = refl
none_mapped f (Some x) e = absurd cc
