-- The branches that tokens spell can be stated.
use Rattle.std.proofs.{Common.{◌≡◌, List, [], ◌∷◌, ◌++◌, length, true, not, ◌==◌, refl, sym, ap, subst, append_assoc}, Math.Dec.{eqb-suc-zero}}
use Rattle.std.proofs.{lemmas.Bool.{and_from}, lemmas.List.{append-nil}}
use Rattle.rio_leaf.specs.{declared.branch.BranchDef.{BranchDef}, declared.branch.Shape.{Shape, TheVariants.{Leaves, Class}}, declared.leaf.Leaf.{Leaf}}
use Rattle.rio_leaf.specs.Stated.{all_leaves, are_branches_behind, are_stated_branches, are_stated_leaves, is_stated_branch, is_stated_leaf, is_stated_shape}
use Rattle.rio_model.specs.Lexemes.{Lexeme}
use Rattle.rio_step.specs.CommandSpelling.{SpellsBranch, SpellsEach, SpellsNextLeaf, SpellsShape, SpellsSome}

-- ---- leaves

next_stated : (before front : List Leaf) (leaf : Leaf) (ls : List Lexeme) → SpellsNextLeaf before front leaf ls → is_stated_leaf (before ++ front) leaf ≡ true
next_stated before [] leaf ls c = subst (λ l. is_stated_leaf l leaf ≡ true) (sym (append-nil before)) c.2
next_stated before (l ∷ own) leaf ls c = c.2.2

leaves_stated : (before front xs : List Leaf) (ls : List Lexeme) → SpellsEach (SpellsNextLeaf before) front xs ls → are_stated_leaves (before ++ front) xs ≡ true
leaves_stated before front [] ls c = refl
leaves_stated before front (x ∷ xs) ls c =
    and_from (is_stated_leaf (before ++ front) x) _ (next_stated before front x c.0 c.3)
    (subst (λ l. are_stated_leaves l xs ≡ true) (sym (append_assoc before front (x ∷ []))) (leaves_stated before (front ++ x ∷ []) xs c.1 c.4))

some_there : {A : Type 0} (x : A) (xs : List A) → not (length (x ∷ xs) == 0) ≡ true
some_there x xs = ap not (eqb-suc-zero (length xs))

shape_stated : (before : List Leaf) (shape : Shape) (ls : List Lexeme) → SpellsShape before shape ls → is_stated_shape before shape ≡ true
shape_stated before (Class name) ls c = c.0
shape_stated before (Leaves []) ls c = absurd c
shape_stated before (Leaves (l ∷ more)) ls c =
    and_from _ _ (some_there l more) (subst (λ b. are_stated_leaves b (l ∷ more) ≡ true) (append-nil before) (leaves_stated before [] (l ∷ more) ls c))

-- ---- branches

branch_stated : (before : List BranchDef) (b : BranchDef) (ls : List Lexeme) → SpellsBranch before b ls → is_stated_branch before b ≡ true
branch_stated before b ls c = and_from _ _ c.2 (shape_stated (all_leaves before) b.shape c.0 c.3)

each_stated : (front xs : List BranchDef) (ls : List Lexeme) → SpellsEach SpellsBranch front xs ls → are_branches_behind front xs ≡ true
each_stated front [] ls c = refl
each_stated front (x ∷ xs) ls c = and_from (is_stated_branch front x) _ (branch_stated front x c.0 c.3) (each_stated (front ++ x ∷ []) xs c.1 c.4)

pub branches_stated : (bs : List BranchDef) (ls : List Lexeme) → SpellsSome SpellsBranch bs ls → are_stated_branches bs ≡ true
branches_stated [] ls c = absurd c
branches_stated (b ∷ bs) ls c = and_from _ _ (some_there b bs) (each_stated [] (b ∷ bs) ls c)
