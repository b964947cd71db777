-- How many rows the tree of a key has, and what its save costs, as told of the tree with its rooms.
use Rattle.std.proofs.Common.{◌≡◌, ◌∙◌, ℕ, zero, suc, ◌+◌, ◌*◌, ◌-◌, ◌^◌, min, List, [], ◌∷◌, length, map, slice_get, false, true, Option, Some, None, refl, sym, ap, subst}
use Rattle.std.proofs.lemmas.{List.{length-map}, Option.{same_Some}}
use Rattle.std.specs.{Prelude.{IsSome}, List.{find}, Option.{option_map}}
use Rattle.rio_leaf.specs.declared.branch.BranchDef.{BranchDef}
use Rattle.rio_tree.specs.HeaderLength.{header_size}
use Rattle.rio_fill.specs.Fill.{BranchFill, defs_of}
use Rattle.rio_session.specs.{Fills.{AreNamesOrdered, FilledTree, bare_tree, is_tree_of}, RowPlans.{IsNamedAt}, SessionState.{SessionState}}
use Rattle.rio_session.proofs.{Bare.{bare_found, defs_bare}, FilledTrees.{found_name}, RowPut.{mapped_at, ordered_bare}}

module _ (other s : SessionState) (view_is : s ≡ other) (trees : List FilledTree) (same : s.trees ≡ map bare_tree trees) (name : List ℕ) (at : ℕ) (t : FilledTree) (named : IsNamedAt other name at t) where
  of_tree : (u : FilledTree) × (slice_get trees at ≡ Some u) × (bare_tree u ≡ t)
  of_tree = mapped_at bare_tree trees at t (ap (λ (l : List FilledTree). slice_get l at) (sym same) ∙ ap (λ (x : SessionState). slice_get x.trees at) view_is ∙ named.there)

  abbrev u : FilledTree
  u = of_tree.0

  own_name : u.name ≡ name
  own_name = ap (λ (x : FilledTree). x.name) of_tree.2 ∙ found_name name t other.trees named.found

  own_defs : defs_of u.fill.branches ≡ defs_of t.fill.branches
  own_defs = sym (defs_bare u.fill.branches) ∙ ap (λ (x : FilledTree). defs_of x.fill.branches) of_tree.2

  own_width : length u.fill.branches ≡ length (defs_of t.fill.branches)
  own_width = sym (length-map u.fill.branches (λ (b : BranchFill). b.def)) ∙ ap length own_defs

  pub rows_now : (saved pending : ℕ) → ((x : FilledTree) → slice_get trees at ≡ Some x → (saved ≡ x.fill.saved) × (pending ≡ x.fill.pending)) → saved + pending ≡ t.fill.saved + t.fill.pending
  rows_now saved pending told =
      let two = told u of_tree.1 in
      (λ i. two.0 i + two.1 i) ∙ ap (λ (x : FilledTree). x.fill.saved + x.fill.pending) of_tree.2

  pub cost_now : (rows cost : ℕ) → rows ≡ t.fill.saved + t.fill.pending
      → ((x : FilledTree) → slice_get trees at ≡ Some x → cost ≡ min (240 + header_size x.name (defs_of x.fill.branches) + 20 * length x.fill.branches * rows) (2 ^ 64 - 1))
      → cost ≡ min (240 + header_size name (defs_of t.fill.branches) + 20 * length (defs_of t.fill.branches) * (t.fill.saved + t.fill.pending)) (2 ^ 64 - 1)
  cost_now rows cost rows_are told =
      let names = own_name in
      let defs = own_defs in
      let width = own_width in
      told u of_tree.1 ∙ (λ i. min (240 + header_size (names i) (defs i) + 20 * width i * rows_are i) (2 ^ 64 - 1))

  pub trees_in_order : AreNamesOrdered trees → AreNamesOrdered other.trees
  trees_in_order ordered = subst AreNamesOrdered (sym same ∙ ap (λ (x : SessionState). x.trees) view_is) (ordered_bare trees ordered)

-- ---- the tree of a key

mapped_there : (trees : List FilledTree) (at : ℕ) (u : FilledTree) → slice_get trees at ≡ Some u → slice_get (map bare_tree trees) at ≡ Some (bare_tree u)
mapped_there [] zero u is = absurd cc
mapped_there [] (suc at) u is = absurd cc
mapped_there (x ∷ xs) zero u is = ap (λ (y : FilledTree). let o : Option FilledTree = Some (bare_tree y) in o) (same_Some x u is)
mapped_there (x ∷ xs) (suc at) u is = mapped_there xs at u is

module _ (other s : SessionState) (view_is : s ≡ other) (trees : List FilledTree) (same : s.trees ≡ map bare_tree trees) (name : List ℕ) (some : IsSome (find (is_tree_of name) other.trees)) where
  seen_as : other.trees ≡ map bare_tree trees
  seen_as = ap (λ (x : SessionState). x.trees) (sym view_is) ∙ same

  found_as : find (is_tree_of name) other.trees ≡ option_map bare_tree (find (is_tree_of name) trees)
  found_as = ap (find (is_tree_of name)) seen_as ∙ bare_found name trees

  pub never_none : find (is_tree_of name) trees ≡ None → ⊥
  never_none none = absurd (let f : false ≡ true = subst IsSome (found_as ∙ ap (option_map bare_tree) none) some in cc)

  pub there_at : (at : ℕ) → find (is_tree_of name) trees ≡ slice_get trees at → (t : FilledTree) × IsNamedAt other name at t
  there_at at is = by (slice_get trees at) refl
    where
      by : (o : Option FilledTree) → slice_get trees at ≡ o → (t : FilledTree) × IsNamedAt other name at t
      by None e = absurd (never_none (is ∙ e))
      by (Some u) e = (
        bare_tree u,
        record {
          found = found_as ∙ ap (option_map bare_tree) (is ∙ e);
          there = ap (λ (l : List FilledTree). slice_get l at) seen_as ∙ mapped_there trees at u e;
        },
      )
