-- The trees of a file with one header more that counts.
use Rattle.std.proofs.Common.{◌≡◌, ◌∙◌, ℕ, List, [], ◌∷◌, ◌++◌, map, Bool, true, false, cond, Option, Some, refl, sym, ap, subst}
use Rattle.std.proofs.lemmas.List.{Elements.{filter_map-append}, Sorted.{IsPermutation-cons, IsPermutation-middle, IsPermutation-refl, IsPermutation-trans}}
use Rattle.std.proofs.{lemmas.Option.{same_Some}, lemmas.Slice.Eq.{bytes_eq-Decides}}
use Rattle.std.specs.{Prelude.{if◌then◌else◌}, List.{cons_option, find, Sorted.{IsPermutation}}, Option.{option_map}}
use Rattle.rio_tree.specs.declared.head.TreeHead.{TreeHead}
use Rattle.rio_state.specs.{Contents.{FileClasses, file_classes}, KeyedRecords.{KeyedRecord, info_key, top_keys, tree_records}, OneMore.{HasOneMoreIn}, Referred.{is_tree_item}, Trees.{header_in}}
use Rattle.rio_effect.proofs.{AllItems.{AllItems}, HeaderLess.{headers_less}}
use Rattle.rio_recover.specs.{TreeTable.{AreAfter, AreInOrder, is_name_before, without_tree}, Trees.{AreTreesOf, tree_at, trees_at}, declared.trees.TreeAt.{TreeAt}}
use Rattle.rio_recover.proofs.TreeOrder.{behind_other}
use Rattle.rio_fill.specs.Fill.{TreeFill}
use Rattle.rio_session.specs.Fills.{FilledTree, is_tree_of, tree_at_of, with_change}

abbrev pub tree_by : KeyedRecord → TreeHead → TreeAt
tree_by r head = record { name = r.head.name; head = head }

one_among : (classes : FileClasses) (x : KeyedRecord) (said : TreeHead) (front back : List KeyedRecord) → header_in classes x ≡ Some said
    → trees_at classes (front ++ x ∷ back) ≡ trees_at classes front ++ tree_by x said ∷ trees_at classes back
one_among classes x said front back read =
    filter_map-append (tree_at classes) front (x ∷ back)
    ∙ ap (λ (o : Option TreeHead). trees_at classes front ++ cons_option (option_map (λ (head : TreeHead). tree_by x head) o) (trees_at classes back)) read

-- the trees with one more, in another order
pub one_tree_more : (mid final : List KeyedRecord) (x : KeyedRecord) (said : TreeHead) (trees : List TreeAt) → HasOneMoreIn mid final x → AllItems final → is_tree_item (top_keys final) x ≡ true
    → info_key final ≡ info_key mid → header_in (file_classes (info_key mid)) x ≡ Some said → AreTreesOf mid trees
    → IsPermutation (trees_at (file_classes (info_key final)) (tree_records (top_keys final))) (tree_by x said ∷ trees)
one_tree_more mid final x said trees more items counts info read are =
    let classes = file_classes (info_key mid) in
    let t = tree_by x said in
    let fewer = headers_less final mid x more items counts in
    let all : trees_at (file_classes (info_key final)) (tree_records (top_keys final)) ≡ trees_at classes fewer.front ++ t ∷ trees_at classes fewer.back =
    (λ i. trees_at (file_classes (info i)) (fewer.after i)) ∙ one_among classes x said fewer.front fewer.back read in
    let left : trees_at classes fewer.front ++ trees_at classes fewer.back ≡ trees_at classes (tree_records (top_keys mid)) =
    sym (filter_map-append (tree_at classes) fewer.front fewer.back) ∙ sym (ap (trees_at classes) fewer.before) in
    let moved = IsPermutation-cons t (trees_at classes fewer.front ++ trees_at classes fewer.back) trees (subst (λ (ts : List TreeAt). IsPermutation ts trees) (sym left) are.each) in
    subst (λ (ts : List TreeAt). IsPermutation ts (t ∷ trees)) (sym all)
    (IsPermutation-trans (trees_at classes fewer.front ++ t ∷ trees_at classes fewer.back) (t ∷ trees_at classes fewer.front ++ trees_at classes fewer.back) (t ∷ trees)
    (IsPermutation-middle (trees_at classes fewer.front) t (trees_at classes fewer.back)) moved)

-- ---- one in place of another

-- a tree of another name stays
other_stays : (name : List ℕ) (change : TreeFill → TreeFill) (us : List FilledTree) → AreAfter name (map tree_at_of us) → with_change name change us ≡ us
other_stays name change [] are = refl
other_stays name change (u ∷ us) are =
    let one = ap (λ (b : Bool). if b then record u { fill = change u.fill } else u) (behind_other name u.name are.0) in
    let rest = other_stays name change us are.1 in
    λ i. one i ∷ rest i

-- the changed tree in front of the others is in another order what they are with it changed
pub changed_moved : (name : List ℕ) (change : TreeFill → TreeFill) (t : FilledTree) (us : List FilledTree) → AreInOrder (map tree_at_of us) → find (is_tree_of name) us ≡ Some t
    → IsPermutation (tree_at_of (record t { fill = change t.fill }) ∷ without_tree name (map tree_at_of us)) (map tree_at_of (with_change name change us))
changed_moved name change t [] are found = absurd cc
changed_moved name change t (u ∷ us) are found = by (is_tree_of name u) refl found (changed_moved name change t us are.1)
  where
    by : (b : Bool) → is_tree_of name u ≡ b → cond b (Some u) (find (is_tree_of name) us) ≡ Some t
        → (find (is_tree_of name) us ≡ Some t → IsPermutation (tree_at_of (record t { fill = change t.fill }) ∷ without_tree name (map tree_at_of us)) (map tree_at_of (with_change name change us)))
        → IsPermutation (tree_at_of (record t { fill = change t.fill }) ∷ cond b (map tree_at_of us) (tree_at_of u ∷ without_tree name (map tree_at_of us)))
        (tree_at_of (if b then record u { fill = change u.fill } else u) ∷ map tree_at_of (with_change name change us))
    by true is found later =
        let same : u ≡ t = same_Some u t found in
        let named : u.name ≡ name = (bytes_eq-Decides u.name name).0 is in
        let rest = other_stays name change us (subst (λ (n : List ℕ). AreAfter n (map tree_at_of us)) named are.0) in
        subst (λ (ts : List TreeAt). IsPermutation (tree_at_of (record t { fill = change t.fill }) ∷ map tree_at_of us) ts) (λ i. tree_at_of (record (sym same i) { fill = change (sym same i).fill }) ∷ map tree_at_of (sym rest i))
        (IsPermutation-refl (tree_at_of (record t { fill = change t.fill }) ∷ map tree_at_of us))
    by false is found later =
        let left = without_tree name (map tree_at_of us) in
        let first = tree_at_of (record t { fill = change t.fill }) in
        IsPermutation-trans (first ∷ tree_at_of u ∷ left) (tree_at_of u ∷ first ∷ left) (tree_at_of u ∷ map tree_at_of (with_change name change us)) (IsPermutation-middle (first ∷ []) (tree_at_of u) left)
        (IsPermutation-cons (tree_at_of u) (first ∷ left) (map tree_at_of (with_change name change us)) (later found))

after_changed : (other name : List ℕ) (change : TreeFill → TreeFill) (us : List FilledTree) → AreAfter other (map tree_at_of us) → AreAfter other (map tree_at_of (with_change name change us))
after_changed other name change [] are = tt
after_changed other name change (u ∷ us) are = (by (is_tree_of name u), after_changed other name change us are.1)
  where
    by : (b : Bool) → is_name_before other (if b then record u { fill = change u.fill } else u).name ≡ true
    by true = are.0
    by false = are.0

-- they stay in order
pub changed_ordered : (name : List ℕ) (change : TreeFill → TreeFill) (us : List FilledTree) → AreInOrder (map tree_at_of us) → AreInOrder (map tree_at_of (with_change name change us))
changed_ordered name change [] are = tt
changed_ordered name change (u ∷ us) are = (by (is_tree_of name u), changed_ordered name change us are.1)
  where
    by : (b : Bool) → AreAfter (if b then record u { fill = change u.fill } else u).name (map tree_at_of (with_change name change us))
    by true = after_changed u.name name change us are.0
    by false = after_changed u.name name change us are.0
