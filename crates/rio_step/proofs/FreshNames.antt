-- Of fewer than 2^32 names there is always one more.
use Rattle.std.proofs.{Common.{◌≡◌, ℕ, ◌<◌, ◌^◌, List, length, true, false, refl, sym, ◌∙◌, arith}, lemmas.Bool.{or_parts}, lemmas.List.{length-map}}
use Rattle.std.specs.{List.{list_any}, Str.{bytes_eq}, Prelude.{map}}
use Rattle.rio_num.specs.Word.{is_name_text}
use Rattle.rio_num.proofs.{FreshNames.{new_name}, NameSets.{any_map}}
use Rattle.rio_leaf.specs.{declared.branch.BranchDef.{BranchDef}, declared.leaf.Leaf.{Leaf}, Leaves.{has_counted_leaf, has_leaf}}
use Rattle.rio_leaf.proofs.FreshNames.{name_left}
use Rattle.rio_step.specs.TreeGrammar.{is_new_branch, is_new_leaf}

pub new_leaf : (leaves : List Leaf) → length leaves < 2 ^ 32 → (name : List ℕ) × (is_new_leaf leaves name ≡ true)
new_leaf leaves few =
    let n = name_left leaves few in
    let named = n.named in
    let free = (or_parts (has_leaf leaves n.name) (has_counted_leaf leaves n.name) n.free).0 in
    (n.name, rw (named, free) refl)

-- a name that none of these has
pub new_among : {A : Type 0} (name_of : A → List ℕ) (xs : List A) → length xs < 2 ^ 32
    → (name : List ℕ) × (is_name_text name ≡ true) × (list_any (λ x. bytes_eq (name_of x) name) xs ≡ false)
new_among {A} name_of xs few =
    let n = new_name (map name_of xs) (let same = length-map xs name_of in omega (arith, same, few)) in
    (n.name, n.named, sym (any_map name_of (λ other. bytes_eq other n.name) xs) ∙ n.new)

pub new_branch : (branches : List BranchDef) → length branches < 2 ^ 32 → (name : List ℕ) × (is_new_branch branches name ≡ true)
new_branch branches few =
    let n = new_among (λ (b : BranchDef). b.name) branches few in
    let named = n.1 in
    let free = n.2 in
    (n.0, rw (named, free) refl)
