-- The trees of a session of which one is changed.
use Rattle.std.proofs.Common.{◌≡◌, ℕ, zero, suc, ◌<◌, ◌≤◌, List, [], ◌∷◌, length, map, get_or, slice_get, Some, refl, sym, ap, subst, ◌∙◌, arith}
use Rattle.std.specs.Prelude.{set}
use Rattle.rio_fill.specs.Fill.{TreeFill}
use Rattle.rio_session.specs.Fills.{AreAfterName, AreNamesOrdered, FilledTree, bare_tree, changed_tree}

pub changed_is : (f : TreeFill → TreeFill) (ts : List FilledTree) (at : ℕ) (t new : FilledTree) → at < length ts → t ≡ get_or ts at t → new ≡ record t { fill = f t.fill } → set ts at new ≡ changed_tree at f ts
changed_is f [] at t new lt is new_is = absurd (omega (arith, lt))
changed_is f (u ∷ us) zero t new lt is new_is =
    let one : new ≡ record u { fill = f u.fill } = new_is ∙ ap (λ (x : FilledTree). record x { fill = f x.fill }) is in
    ap (λ (x : FilledTree). x ∷ us) one
changed_is f (u ∷ us) (suc at) t new lt is new_is = ap (λ (l : List FilledTree). u ∷ l) (changed_is f us at t new (omega (arith, lt)) is new_is)

-- the same of the tree as it is read at the number
pub changed_there : (f : TreeFill → TreeFill) (ts : List FilledTree) (at : ℕ) (t new : FilledTree) → at < length ts → t ≡ get_or ts at t → new ≡ record (get_or ts at t) { fill = f (get_or ts at t).fill } → set ts at new ≡ changed_tree at f ts
changed_there f ts at t new lt is new_is = changed_is f ts at (get_or ts at t) new lt (ap (λ (x : FilledTree). get_or ts at x) is) new_is

-- none is changed at a number behind the last
pub none_past : (f : TreeFill → TreeFill) (ts : List FilledTree) (at : ℕ) → length ts ≤ at → changed_tree at f ts ≡ ts
none_past f [] at le = refl
none_past f (u ∷ us) zero le = absurd (omega (arith, le))
none_past f (u ∷ us) (suc at) le = ap (λ (l : List FilledTree). u ∷ l) (none_past f us at (omega (arith, le)))

-- the names stay, and their order
after_changed : (name : List ℕ) (f : TreeFill → TreeFill) (ts : List FilledTree) (at : ℕ) → AreAfterName name ts → AreAfterName name (changed_tree at f ts)
after_changed name f [] at are = tt
after_changed name f (u ∷ us) zero are = are
after_changed name f (u ∷ us) (suc at) are = (are.0, after_changed name f us at are.1)

pub ordered_changed : (f : TreeFill → TreeFill) (ts : List FilledTree) (at : ℕ) → AreNamesOrdered ts → AreNamesOrdered (changed_tree at f ts)
ordered_changed f [] at are = tt
ordered_changed f (u ∷ us) zero are = are
ordered_changed f (u ∷ us) (suc at) are = (after_changed u.name f us at are.0, ordered_changed f us at are.1)

-- names in order hang on no room
after_bare : (name : List ℕ) (ts : List FilledTree) → AreAfterName name ts → AreAfterName name (map bare_tree ts)
after_bare name [] are = tt
after_bare name (u ∷ us) are = (are.0, after_bare name us are.1)

full_after : (name : List ℕ) (ts : List FilledTree) → AreAfterName name (map bare_tree ts) → AreAfterName name ts
full_after name [] are = tt
full_after name (u ∷ us) are = (are.0, full_after name us are.1)

pub ordered_bare : (ts : List FilledTree) → AreNamesOrdered ts → AreNamesOrdered (map bare_tree ts)
ordered_bare [] are = tt
ordered_bare (u ∷ us) are = (after_bare u.name us are.0, ordered_bare us are.1)

full_ordered : (ts : List FilledTree) → AreNamesOrdered (map bare_tree ts) → AreNamesOrdered ts
full_ordered [] are = tt
full_ordered (u ∷ us) are = (full_after u.name us are.0, full_ordered us are.1)

pub ordered_alike : (new old : List FilledTree) → map bare_tree new ≡ map bare_tree old → AreNamesOrdered old → AreNamesOrdered new
ordered_alike new old same are = full_ordered new (subst AreNamesOrdered (sym same) (ordered_bare old are))

-- a tree that is changed to one that is alike without the room
pub bare_set : (ts : List FilledTree) (at : ℕ) (t new : FilledTree) → at < length ts → t ≡ get_or ts at t → bare_tree new ≡ bare_tree t → map bare_tree (set ts at new) ≡ map bare_tree ts
bare_set [] at t new lt is same = absurd (omega (arith, lt))
bare_set (u ∷ us) zero t new lt is same = ap (λ (x : FilledTree). x ∷ map bare_tree us) (same ∙ ap bare_tree is)
bare_set (u ∷ us) (suc at) t new lt is same = ap (λ (l : List FilledTree). bare_tree u ∷ l) (bare_set us at t new (omega (arith, lt)) is same)

pub tree_within : (ts : List FilledTree) (at : ℕ) (t : FilledTree) → slice_get ts at ≡ Some t → at < length ts
tree_within [] at t is = absurd cc
tree_within (u ∷ us) zero t is = omega arith
tree_within (u ∷ us) (suc at) t is = let more = tree_within us at t is in omega (arith, more)
