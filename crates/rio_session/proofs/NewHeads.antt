-- The branches of the header of a new tree, one after the other.
use Rattle.std.proofs.Common.{◌≡◌, ℕ, ◌+◌, ◌<◌, ◌≤◌, append_assoc, List, [], ◌∷◌, ◌++◌, length, drop, get_or, take, refl, sym, ap, ◌∙◌}
use Rattle.std.proofs.lemmas.List.{append-nil, drop_all, drop_more, take_more}
use Rattle.rio_format.specs.declared.class.ClassDef.{ClassDef}
use Rattle.rio_leaf.specs.declared.branch.BranchDef.{BranchDef}
use Rattle.rio_tree.specs.declared.head.Branch.{Branch}
use Rattle.rio_effect.specs.TreeRecords.{new_branch, new_branches}

-- those so far, and those to come
abbrev pub Heading : List ClassDef → List BranchDef → ℕ → List Branch → Type 0
Heading classes bs k made = made ++ new_branches classes (take k bs) (drop k bs) ≡ new_branches classes [] bs

pub heading_begins : (classes : List ClassDef) (bs : List BranchDef) → Heading classes bs 0 []
heading_begins classes bs = refl

pub heading_goes_on : (classes : List ClassDef) (bs : List BranchDef) (k : ℕ) (made new : List Branch) → Heading classes bs k made → (b : BranchDef) → k < length bs → b ≡ get_or bs k b
    → (branch : Branch) → branch ≡ new_branch classes (take k bs) b → new ≡ made ++ branch ∷ [] → Heading classes bs (k + 1) new
heading_goes_on classes bs k made new sofar b lt is branch branch_is new_is =
    let left : drop k bs ≡ b ∷ drop (k + 1) bs = drop_more bs k b lt ∙ ap (λ (x : BranchDef). x ∷ drop (k + 1) bs) (sym is) in
    let taken : take (k + 1) bs ≡ take k bs ++ b ∷ [] = take_more bs k b lt ∙ ap (λ (x : BranchDef). take k bs ++ x ∷ []) (sym is) in
    let rest = drop (k + 1) bs in
    let one = new_branch classes (take k bs) b in
    ap (λ (l : List Branch). l ++ new_branches classes (take (k + 1) bs) rest) (new_is ∙ ap (λ (x : Branch). made ++ x ∷ []) branch_is)
    ∙ append_assoc made (one ∷ []) (new_branches classes (take (k + 1) bs) rest)
    ∙ ap (λ (l : List BranchDef). made ++ one ∷ new_branches classes l rest) taken
    ∙ ap (λ (l : List BranchDef). made ++ new_branches classes (take k bs) l) (sym left)
    ∙ sofar

pub heading_ends : (classes : List ClassDef) (bs : List BranchDef) (k : ℕ) (made : List Branch) → Heading classes bs k made → length bs ≤ k → made ≡ new_branches classes [] bs
heading_ends classes bs k made sofar end =
    sym (ap (λ (l : List BranchDef). made ++ new_branches classes (take k bs) l) (drop_all k bs end) ∙ append-nil made) ∙ sofar
