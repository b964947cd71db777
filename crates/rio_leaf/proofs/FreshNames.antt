-- A name is left where few leaves are.
use Rattle.std.proofs.{Common.{◌≡◌, ℕ, ◌+◌, ◌*◌, ◌^◌, ◌<◌, ◌≤◌, List, [], ◌∷◌, length, true, false, refl, arith}, lemmas.Bool.{or_from, or_parts}}
use Rattle.std.specs.Str.{bytes_eq}
use Rattle.rio_num.specs.Word.{is_name_text}
use Rattle.rio_num.proofs.FreshNames.{is_one_of, new_name}
use Rattle.rio_leaf.specs.{declared.leaf.Dim.{Dim, TheVariants.{One, Fixed, Counted}}, declared.leaf.Leaf.{Leaf}}
use Rattle.rio_leaf.specs.Leaves.{has_counted_leaf, has_leaf, is_dim_by, is_taken}

abbrev with_counter : Dim → List (List ℕ) → List (List ℕ)
with_counter One names = names
with_counter (Fixed n) names = names
with_counter (Counted counter times) names = counter ∷ names

abbrev names_of : List Leaf → List (List ℕ)
names_of [] = []
names_of (leaf ∷ leaves) = leaf.name ∷ with_counter leaf.dim (names_of leaves)

one_more : (dim : Dim) (names : List (List ℕ)) → length (with_counter dim names) ≤ 1 + length names
one_more One names = omega arith
one_more (Fixed n) names = omega arith
one_more (Counted counter times) names = omega arith

at_most_two : (leaves : List Leaf) → length (names_of leaves) ≤ 2 * length leaves
at_most_two [] = omega arith
at_most_two (leaf ∷ leaves) = omega (arith, one_more leaf.dim (names_of leaves), at_most_two leaves)

counter_new : (dim : Dim) (name : List ℕ) (names : List (List ℕ)) → is_one_of (with_counter dim names) name ≡ false → (is_dim_by dim name ≡ false) × (is_one_of names name ≡ false)
counter_new One name names h = (refl, h)
counter_new (Fixed n) name names h = (refl, h)
counter_new (Counted counter times) name names h = or_parts (bytes_eq counter name) (is_one_of names name) h

both_new : (leaves : List Leaf) (name : List ℕ) → is_one_of (names_of leaves) name ≡ false → (has_leaf leaves name ≡ false) × (has_counted_leaf leaves name ≡ false)
both_new [] name h = (refl, refl)
both_new (leaf ∷ leaves) name h =
    let own = or_parts (bytes_eq leaf.name name) (is_one_of (with_counter leaf.dim (names_of leaves)) name) h in
    let counter = counter_new leaf.dim name (names_of leaves) own.1 in
    let others = both_new leaves name counter.1 in
    (or_from _ _ own.0 others.0, or_from _ _ counter.0 others.1)

-- a name that a leaf behind these may have
pub record IsLeft (before : List Leaf) : Type 0 where
  pub name : List ℕ
  pub named : is_name_text name ≡ true
  pub free : is_taken before name ≡ false

pub name_left : (before : List Leaf) → length before < 2 ^ 32 → IsLeft before
name_left before lt =
    let n = new_name (names_of before) (omega (arith, at_most_two before, lt)) in
    let both = both_new before n.name n.new in
    record { name = n.name; named = n.named; free = rw (both.0, both.1) refl }
