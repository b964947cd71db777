-- The branches of a header that was read have the tree's entries, and their baskets stand in order, where the header doesn't refuse them.
use Rattle.std.proofs.Common.{◌≡◌, ℕ, ℤ, pos, List, [], ◌∷◌, ◌++◌, Bool, true, false, Option, Some, None, Result, Ok, Err, refl, sym, ap, subst, ◌∙◌}
use Rattle.std.proofs.lemmas.{Bool.Decides.{Decides-int_eq}, List.Elements.{All-append, All-cons, All-nil}}
use Rattle.std.specs.{List.{All}, Option.{ok_or}, Ordering.{int_eq}, Prelude.{codes}}
use Rattle.rio_num.proofs.ReadLaws.{bind_ok}
use Rattle.rio_format.specs.declared.value.Value.{Value}
use Rattle.rio_tree.specs.{BranchMembers.{BranchSaid, class_version_said, leaf_items}, Header.{branch_in, branch_known, branches_from, entries_member, entries_said, known_branch, met_behind, or_refused, tree_head_in}}
use Rattle.rio_tree.specs.{HeaderLeaves.{LeavesMet, LeavesSaid, name_said, no_leaves_met}, Labels.{ObjectLabels, labels_in, object_behind}, Members.{pointers_member}}
use Rattle.rio_tree.specs.Refusals.{are_in_order, leaves_from, listed_baskets, no_leaves, number_baskets, readable_branch, unless_refused}
use Rattle.rio_tree.specs.declared.refusal.BranchRefusal.{BranchRefusal, TheVariants.{BadBasketList, EntryCount}}
use Rattle.rio_tree.specs.{declared.basket_at.BasketAt.{BasketAt}, declared.fault.TreeFault.{TheVariants.{MissingMember}}, declared.head.Branch.{Branch}, declared.head.TreeHead.{TreeHead}}
use Rattle.rio_entry.specs.SavedRows.{AreInOrder, IsInOrder, ReadHeadsAreInOrder}

passes : (b : Bool) (why : BranchRefusal) (u : Unit {0}) → unless_refused b why ≡ Ok u → b ≡ true
passes true why u e = refl
passes false why u e = absurd cc

is_there : (o : Option (List BasketAt)) (why : BranchRefusal) (bs : List BasketAt) → ok_or o why ≡ Ok bs → o ≡ Some bs
is_there None why bs e = absurd cc
is_there (Some x) why bs e = let same : x ≡ bs = cc in ap (λ y. Some y) same

same_number : (m n : ℤ) → int_eq m n ≡ true → m ≡ n
same_number m n e = (Decides-int_eq m n).0 e

-- ---- the baskets

list_is : (entries : ℕ) (said : BranchSaid) (bs : List BasketAt) → listed_baskets entries said ≡ Ok bs → (said.entries ≡ pos entries) × (are_in_order entries bs ≡ true)
unfolding listed_baskets
list_is entries said bs e =
    let one = bind_ok (unless_refused (int_eq said.entries (pos entries)) EntryCount) _ bs e in
    let two = bind_ok (ok_or (number_baskets said said.write_basket) BadBasketList) _ bs one.2 in
    let three = bind_ok (unless_refused (are_in_order entries two.0) BadBasketList) _ bs two.2 in
    let same : two.0 ≡ bs = let ends = three.2 in cc in (
      same_number said.entries (pos entries) (passes (int_eq said.entries (pos entries)) EntryCount one.0 one.1),
      ap (are_in_order entries) (sym same) ∙ passes (are_in_order entries two.0) BadBasketList three.0 three.1,
    )

known_order : (entries : ℕ) (name : List ℕ) (version : ℤ) (said : BranchSaid) (read : LeavesSaid) (r : Result (List BasketAt) BranchRefusal) → listed_baskets entries said ≡ r
    → (let b = branch_known name version said read r in b.refused ≡ None → IsInOrder entries b)
known_order entries name version said read (Err why) e none = absurd cc
known_order entries name version said read (Ok bs) e none =
    let two = list_is entries said bs e in
    record { as_tree = ap entries_said two.0; rising = two.1 }

-- ---- a branch

module _ (entries : ℕ) (labels : ObjectLabels) (branches : List Branch) (met : LeavesMet) (item : Value) where
  refused_order : (r : Result Branch BranchRefusal) → ((b : Branch) → r ≡ Ok b → b.refused ≡ None → IsInOrder entries b)
      → (let b = or_refused (name_said (object_behind labels item)) r in b.refused ≡ None → IsInOrder entries b)
  refused_order (Ok b) known none = known b refl none
  refused_order (Err why) known none = absurd cc

  known_is : (b : Branch) → known_branch entries labels branches met item ≡ Ok b → b.refused ≡ None → IsInOrder entries b
  unfolding known_branch
  known_is b e none =
      let one = bind_ok (readable_branch labels item) _ b e in
      let two = bind_ok (leaves_from labels branches (leaf_items (object_behind labels item)) met no_leaves) _ b one.2 in
      let made = branch_known (name_said (object_behind labels item)) (class_version_said (object_behind labels item)) one.0 two.0 (listed_baskets entries one.0) in
      let same : made ≡ b = let ends = two.2 in cc in
      subst (λ (x : Branch). x.refused ≡ None → IsInOrder entries x) same (known_order entries _ _ one.0 two.0 (listed_baskets entries one.0) refl) none

  branch_order : (branch_in entries labels branches met item).refused ≡ None → IsInOrder entries (branch_in entries labels branches met item)
  unfolding branch_in
  branch_order none = refused_order (known_branch entries labels branches met item) known_is none

-- ---- the header

module _ (entries : ℕ) (labels : ObjectLabels) where
  abbrev IsOrdered : Branch → Type 0
  IsOrdered b = b.refused ≡ None → IsInOrder entries b

  all_order : (items : List Value) (branches : List Branch) (met : LeavesMet) → All IsOrdered branches → All IsOrdered (branches_from entries labels items branches met)
  all_order [] branches met all = all
  all_order (item ∷ items) branches met all =
      let b = branch_in entries labels branches met item in
      all_order items (branches ++ b ∷ []) (met_behind labels branches met item) (All-append IsOrdered branches (b ∷ []) all (All-cons IsOrdered b [] (branch_order entries labels branches met item) (All-nil IsOrdered)))

pub head_in_order : ReadHeadsAreInOrder
unfolding tree_head_in
head_in_order v head e =
    let one = bind_ok (ok_or (entries_member v) (MissingMember (codes "fEntries"))) _ head e in
    let two = bind_ok (ok_or (pointers_member (codes "fBranches") v) (MissingMember (codes "fBranches"))) _ head one.2 in
    let made : TreeHead = record { entries = one.0; branches = branches_from one.0 (labels_in v) two.0 [] no_leaves_met } in
    let same : made ≡ head = let ends = two.2 in cc in
    subst AreInOrder same (all_order one.0 (labels_in v) two.0 [] no_leaves_met (All-nil (IsOrdered one.0 (labels_in v))))
