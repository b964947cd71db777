-- The trees that a session keeps, by name, and the trees of the state.
use Rattle.std.proofs.Common.{◌≡◌, ◌∙◌, inl, inr, ℕ, List, [], ◌∷◌, length, map, Bool, true, false, cond, Option, Some, None, refl, sym, ap, subst}
use Rattle.std.proofs.lemmas.{Option.{same_Some}, Slice.Eq.{bytes_eq-Decides}}
use Rattle.std.specs.{Prelude.{is_some}, FinMap.{get}, List.{find}, Option.{option_map}, Str.{bytes_eq}}
use Rattle.rio_num.proofs.Cases.{none_from, some_of}
use Rattle.rio_machine.specs.State.{State, Tree, names_tree}
use Rattle.rio_state.proofs.Members.{In}
use Rattle.rio_step.specs.KeptItems.{kept_tree}
use Rattle.rio_judge.proofs.ItemsOfState.{names_one_tree, tree_is}
use Rattle.rio_session.specs.{Fills.{FilledTree, is_tree_of, kept_tree_of}, Items.{IsOfKeys}, SessionState.{SessionState, kept_trees}}
use Rattle.rio_session.proofs.FillLists.{kept_found}

-- ---- by name

-- a tree that is found has the name
pub found_name : (name : List ℕ) (t : FilledTree) (trees : List FilledTree) → find (is_tree_of name) trees ≡ Some t → t.name ≡ name
found_name name t [] e = absurd cc
found_name name t (u ∷ us) e = by (is_tree_of name u) refl e (found_name name t us)
  where
    by : (b : Bool) → is_tree_of name u ≡ b → cond b (Some u) (find (is_tree_of name) us) ≡ Some t → (find (is_tree_of name) us ≡ Some t → t.name ≡ name) → t.name ≡ name
    by true is e rest = ap (λ (v : FilledTree). v.name) (sym (same_Some u t e)) ∙ (bytes_eq-Decides u.name name).0 is
    by false is e rest = rest e

-- and is among them
pub found_among : (name : List ℕ) (t : FilledTree) (trees : List FilledTree) → find (is_tree_of name) trees ≡ Some t → In t trees
found_among name t [] e = absurd cc
found_among name t (u ∷ us) e = by (is_tree_of name u) e (found_among name t us)
  where
    by : (b : Bool) → cond b (Some u) (find (is_tree_of name) us) ≡ Some t → (find (is_tree_of name) us ≡ Some t → In t us) → In t (u ∷ us)
    by true e rest = inl (same_Some u t e)
    by false e rest = inr (rest e)

-- ---- the state's

-- the kept tree of a name, and the state's
pub record IsFilledOf (s : SessionState) (m : State) (name : List ℕ) (t : FilledTree) (x : Tree) : Type 0 where
  pub found : find (is_tree_of name) s.trees ≡ Some t
  pub there : get m.trees name ≡ Some x
  pub kept : kept_tree_of t ≡ kept_tree (name, x)

kept_some : (o : Option FilledTree) → is_some (option_map kept_tree_of o) ≡ is_some o
kept_some None = refl
kept_some (Some t) = refl

module _ (s : SessionState) (m : State) (keys : IsOfKeys s m) (name : List ℕ) where
  some_tree : names_tree m name ≡ is_some (find (is_tree_of name) s.trees)
  some_tree = tree_is s.heads (kept_trees s) m keys.keys name ∙ ap is_some (kept_found name s.trees) ∙ kept_some (find (is_tree_of name) s.trees)

  pub tree_of_fill : (t : FilledTree) → find (is_tree_of name) s.trees ≡ Some t → (x : Tree) × IsFilledOf s m name t x
  tree_of_fill t e =
      let n = names_one_tree s.heads (kept_trees s) m keys.keys name (kept_tree_of t) (kept_found name s.trees ∙ ap (option_map kept_tree_of) e) in
      (n.tree, record { found = e; there = n.there; kept = sym n.kept })

  pub fill_of_tree : (x : Tree) → get m.trees name ≡ Some x → (t : FilledTree) × IsFilledOf s m name t x
  fill_of_tree x e =
      let some = some_of (find (is_tree_of name) s.trees) (sym some_tree ∙ ap is_some e) in
      let own = tree_of_fill some.0 some.1 in
      let same : own.0 ≡ x = same_Some own.0 x (sym own.1.there ∙ e) in
      (some.0, subst (λ (y : Tree). IsFilledOf s m name some.0 y) same own.1)

  pub no_fill : get m.trees name ≡ None → find (is_tree_of name) s.trees ≡ None
  no_fill e = none_from (find (is_tree_of name) s.trees) (sym some_tree ∙ ap is_some e)
