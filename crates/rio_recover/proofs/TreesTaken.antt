-- What trees in order of their names are without one.
use Rattle.std.proofs.Common.{◌≡◌, ◌∙◌, ℕ, ◌+◌, Bool, true, false, cond, List, [], ◌∷◌, get_or, Option, Some, None, refl, ap, subst, sym, slice_get}
use Rattle.std.proofs.{Math.Numerals.{one-add}, lemmas.Option.{get_or_from_slice_get}}
use Rattle.std.specs.{Prelude.{option_and_then}, List.{find, prefix_len, remove}, Option.{option_map_or}, Set.{remove_key}}
use Rattle.rio_recover.specs.TreeTable.{AreAfter, AreInOrder, has_name, if_of_name, is_tree_before}
use Rattle.rio_recover.specs.declared.trees.TreeAt.{TreeAt}
use Rattle.rio_recover.proofs.TreeOrder.{before_other, searched}

-- ---- order

after_without : (name : List ℕ) (p : TreeAt → Bool) (us : List TreeAt) → AreAfter name us → AreAfter name (remove_key p us)
after_without name p [] are = tt
after_without name p (u ∷ us) are = by (after_without name p us are.1) (p u)
  where
    by : AreAfter name (remove_key p us) → (b : Bool) → AreAfter name (cond b us (u ∷ remove_key p us))
    by ih true = are.1
    by ih false = (are.0, ih)

pub ordered_without : (p : TreeAt → Bool) (trees : List TreeAt) → AreInOrder trees → AreInOrder (remove_key p trees)
ordered_without p [] are = tt
ordered_without p (u ∷ us) are = by (ordered_without p us are.1) (p u)
  where
    by : AreInOrder (remove_key p us) → (b : Bool) → AreInOrder (cond b us (u ∷ remove_key p us))
    by ih true = are.1
    by ih false = (after_without u.name p us are.0, ih)

-- ---- what the code reads at the place where its search ends

removed : (name : List ℕ) (trees : List TreeAt) → AreInOrder trees → option_map_or (has_name name) (slice_get trees (prefix_len (is_tree_before name) trees)) false ≡ true
    → remove trees (prefix_len (is_tree_before name) trees) ≡ remove_key (has_name name) trees
removed name [] are found = absurd cc
removed name (t ∷ ts) are found = by (removed name ts are.1) (is_tree_before name t) refl found
  where
    by : (option_map_or (has_name name) (slice_get ts (prefix_len (is_tree_before name) ts)) false ≡ true → remove ts (prefix_len (is_tree_before name) ts) ≡ remove_key (has_name name) ts) → (b : Bool) → is_tree_before name t ≡ b
        → option_map_or (has_name name) (slice_get (t ∷ ts) (cond b (1 + prefix_len (is_tree_before name) ts) 0)) false ≡ true
        → remove (t ∷ ts) (cond b (1 + prefix_len (is_tree_before name) ts) 0) ≡ cond (has_name name t) ts (t ∷ remove_key (has_name name) ts)
    by ih true e found = rw (one-add, before_other t.name name e) (ap (λ (l : List TreeAt). t ∷ l) (ih (rw one-add at found)))
    by ih false e found = rw found refl

taken : (name : List ℕ) (trees : List TreeAt) (at : ℕ) (d : TreeAt) → option_map_or (has_name name) (slice_get trees at) false ≡ true → d ≡ get_or trees at d → option_and_then (if_of_name name) (slice_get trees at) ≡ Some d
taken name trees at d found read = by (slice_get trees at) refl found
  where
    by : (o : Option TreeAt) → slice_get trees at ≡ o → option_map_or (has_name name) o false ≡ true → option_and_then (if_of_name name) o ≡ Some d
    by None is found = absurd cc
    by (Some t) is found =
        let same : d ≡ t = read ∙ get_or_from_slice_get trees at t d is in
        rw found (ap (λ (u : TreeAt). let o : Option TreeAt = Some u in o) (sym same))

not_taken : (name : List ℕ) (o : Option TreeAt) → option_map_or (has_name name) o false ≡ false → option_and_then (if_of_name name) o ≡ None
not_taken name None found = refl
not_taken name (Some t) found = rw found refl

-- a search among the items of a table, which are its trees, ends at a place; `seen` are the items that the code looks at
module _ (name : List ℕ) (items trees seen : List TreeAt) (at : ℕ) (same : items ≡ trees) (seen_is : seen ≡ items) (are : AreInOrder items) (at_is : at ≡ prefix_len (is_tree_before name) trees)
    (b : Bool) (test : b ≡ option_map_or (has_name name) (slice_get seen at) false) where
  ends : at ≡ prefix_len (is_tree_before name) items
  ends = at_is ∙ ap (prefix_len (is_tree_before name)) (sym same)

  tested : option_map_or (has_name name) (slice_get items at) false ≡ b
  tested = ap (λ (l : List TreeAt). option_map_or (has_name name) (slice_get l at) false) (sym seen_is) ∙ sym test

  found_in : option_and_then (if_of_name name) (slice_get items at) ≡ find (has_name name) trees
  found_in = ap (λ (k : ℕ). option_and_then (if_of_name name) (slice_get items k)) ends ∙ searched name items are ∙ ap (find (has_name name)) same

  pub taken_there : b ≡ true → (d : TreeAt) → d ≡ get_or items at d → find (has_name name) trees ≡ Some d
  taken_there hit d read = sym found_in ∙ taken name items at d (tested ∙ hit) read

  pub removed_there : b ≡ true → remove items at ≡ remove_key (has_name name) trees
  removed_there hit =
      let here = subst (λ (k : ℕ). option_map_or (has_name name) (slice_get items k) false ≡ true) ends (tested ∙ hit) in
      ap (remove items) ends ∙ removed name items are here ∙ ap (remove_key (has_name name)) same

  pub none_there : b ≡ false → find (has_name name) trees ≡ None
  none_there miss = sym found_in ∙ not_taken name (slice_get items at) (tested ∙ miss)

pub nothing_removed : (name : List ℕ) (trees : List TreeAt) → find (has_name name) trees ≡ None → remove_key (has_name name) trees ≡ trees
nothing_removed name [] none = refl
nothing_removed name (t ∷ ts) none = by (nothing_removed name ts) (has_name name t) none
  where
    by : (find (has_name name) ts ≡ None → remove_key (has_name name) ts ≡ ts) → (b : Bool) → cond b (Some t) (find (has_name name) ts) ≡ None → cond b ts (t ∷ remove_key (has_name name) ts) ≡ t ∷ ts
    by ih true none = absurd cc
    by ih false none = ap (λ (l : List TreeAt). t ∷ l) (ih none)
