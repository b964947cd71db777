-- The trees of a session with one of them changed, by name.
use Rattle.std.proofs.Common.{◌≡◌, ◌∙◌, ℕ, List, [], ◌∷◌, map, Bool, true, false, cond, Option, Some, None, refl, sym, ap, subst}
use Rattle.std.proofs.lemmas.{List.Elements.{All-cons, All-head, All-tail}, Option.{same_Some}, Slice.Eq.{bytes_eq-Decides}}
use Rattle.std.specs.{Prelude.{if◌then◌else◌}, List.{All, find}, Option.{option_map, option_map_or}, Str.{bytes_eq}}
use Rattle.rio_fill.specs.Fill.{TreeFill}
use Rattle.rio_recover.proofs.TreeOrder.{behind_other}
use Rattle.rio_session.specs.Fills.{AreAfterName, AreNamesOrdered, FilledTree, filled_if, is_tree_of, put_in, put_of, with_change}
use Rattle.rio_session.proofs.{FillLists.{changed_found}, FilledTrees.{found_name}}

-- behind a name no tree is changed of that name
pub none_changed : (name : List ℕ) (change : TreeFill → TreeFill) (trees : List FilledTree) → AreAfterName name trees → with_change name change trees ≡ trees
none_changed name change [] are = refl
none_changed name change (t ∷ ts) are =
    let other : is_tree_of name t ≡ false = behind_other name t.name are.0 in
    λ i. ap (λ (b : Bool). if b then record t { fill = change t.fill } else t) other i ∷ none_changed name change ts are.1 i

module _ (name : List ℕ) (change : TreeFill → TreeFill) where
  -- what the change of this tree leaves as it is stays
  pub map_changed : {B : Type 0} (f : FilledTree → B) (t : FilledTree) (trees : List FilledTree) → AreNamesOrdered trees → find (is_tree_of name) trees ≡ Some t → f (record t { fill = change t.fill }) ≡ f t
      → map f (with_change name change trees) ≡ map f trees
  map_changed f t [] are found same = absurd cc
  map_changed f t (u ∷ us) are found same = by (is_tree_of name u) refl found (map_changed f t us are.1)
    where
      by : (b : Bool) → is_tree_of name u ≡ b → cond b (Some u) (find (is_tree_of name) us) ≡ Some t
          → (find (is_tree_of name) us ≡ Some t → f (record t { fill = change t.fill }) ≡ f t → map f (with_change name change us) ≡ map f us)
          → map f ((if b then record u { fill = change u.fill } else u) ∷ with_change name change us) ≡ map f (u ∷ us)
      by true own is rest =
          let one : u ≡ t = same_Some u t is in
          let still : with_change name change us ≡ us = none_changed name change us (subst (λ (n : List ℕ). AreAfterName n us) ((bytes_eq-Decides u.name name).0 own) are.0) in
          let first : f (record u { fill = change u.fill }) ≡ f u = ap (λ (v : FilledTree). f (record v { fill = change v.fill })) one ∙ same ∙ ap f (sym one) in
          λ i. first i ∷ map f (still i)
      by false own is rest = ap (λ l. f u ∷ l) (rest is same)

  -- what holds of all trees holds still where it holds of the changed one
  pub changed_all : (P : FilledTree → Type 0) (t : FilledTree) (trees : List FilledTree) → AreNamesOrdered trees → find (is_tree_of name) trees ≡ Some t → P (record t { fill = change t.fill }) → All P trees
      → All P (with_change name change trees)
  changed_all P t [] are found own all = absurd cc
  changed_all P t (u ∷ us) are found own all = by (is_tree_of name u) refl found (λ is. changed_all P t us are.1 is own (All-tail P u us all))
    where
      by : (b : Bool) → is_tree_of name u ≡ b → cond b (Some u) (find (is_tree_of name) us) ≡ Some t → (find (is_tree_of name) us ≡ Some t → All P (with_change name change us))
          → All P ((if b then record u { fill = change u.fill } else u) ∷ with_change name change us)
      by true named is rest =
          let one : t ≡ u = sym (same_Some u t is) in
          let still : us ≡ with_change name change us = sym (none_changed name change us (subst (λ (n : List ℕ). AreAfterName n us) ((bytes_eq-Decides u.name name).0 named) are.0)) in
          All-cons P (record u { fill = change u.fill }) (with_change name change us) (subst (λ (v : FilledTree). P (record v { fill = change v.fill })) one own) (subst (All P) still (All-tail P u us all))
      by false named is rest = All-cons P u (with_change name change us) (All-head P u us all) (rest is)

  -- it is found
  pub changed_own : (t : FilledTree) (trees : List FilledTree) → find (is_tree_of name) trees ≡ Some t → find (is_tree_of name) (with_change name change trees) ≡ Some (record t { fill = change t.fill })
  changed_own t trees found =
      let named : is_tree_of name t ≡ true = (bytes_eq-Decides t.name name).1 (found_name name t trees found) in
      changed_found name change name trees
      ∙ ap (option_map (filled_if name change)) found
      ∙ ap (λ (b : Bool). let o : Option FilledTree = Some (if b then record t { fill = change t.fill } else t) in o) named

  -- and the others as they were
  still_if : (other : List ℕ) (o : Option FilledTree) (trees : List FilledTree) → bytes_eq other name ≡ false → find (is_tree_of other) trees ≡ o → option_map (filled_if name change) o ≡ o
  still_if other None trees apart is = refl
  still_if other (Some t) trees apart is =
      let none : is_tree_of name t ≡ false = ap (λ (n : List ℕ). bytes_eq n name) (found_name other t trees is) ∙ apart in
      ap (λ (b : Bool). let o : Option FilledTree = Some (if b then record t { fill = change t.fill } else t) in o) none

  pub changed_other : (other : List ℕ) (trees : List FilledTree) → bytes_eq other name ≡ false → find (is_tree_of other) (with_change name change trees) ≡ find (is_tree_of other) trees
  changed_other other trees apart = changed_found name change other trees ∙ still_if other (find (is_tree_of other) trees) trees apart refl

  pub put_own : (t : FilledTree) (trees : List FilledTree) → find (is_tree_of name) trees ≡ Some t → put_in (with_change name change trees) name ≡ put_of (change t.fill)
  put_own t trees found = ap (λ (o : Option FilledTree). option_map_or (λ (u : FilledTree). put_of u.fill) o []) (changed_own t trees found)

  pub put_other : (other : List ℕ) (trees : List FilledTree) → bytes_eq other name ≡ false → put_in (with_change name change trees) other ≡ put_in trees other
  put_other other trees apart = ap (λ (o : Option FilledTree). option_map_or (λ (u : FilledTree). put_of u.fill) o []) (changed_other other trees apart)
