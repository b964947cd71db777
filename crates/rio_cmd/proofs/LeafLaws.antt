-- The leaves of a branch, as a loop reads them: it goes on while a colon follows directly.
use Rattle.std.proofs.Common.{◌≡◌, ℕ, ◌+◌, ◌-◌, ◌<◌, List, [], ◌∷◌, ◌++◌, length, Bool, true, false, if◌then◌else◌, Ok, Err, refl, sym, ◌∙◌, ap, arith}
use Rattle.std.proofs.lemmas.List.{append-nil}
use Rattle.rio_num.specs.At.{At}
use Rattle.rio_token.specs.{declared.fault.TextFault.{TextFault}, Reading.{Read}, Tokens.{behind}}
use Rattle.rio_leaf.specs.{declared.branch.BranchDef.{BranchDef}, declared.leaf.Leaf.{Leaf}, Stated.{all_leaves}}
use Rattle.rio_step.specs.TreeGrammar.{branch_leaf_at, further_at, glued_mark_at, is_glued_mark, items_at, tree_leaf_at}
use Rattle.rio_cmd.proofs.FurtherLaws.{further_fails, further_goes_on, further_stops}

-- no other leaf stands before the first one of a branch
pub first_leaf : (before own : List Leaf) (s : At) (leaf : Leaf) (new : At) → own ≡ [] → tree_leaf_at (before ++ own) s ≡ Ok (leaf, new)
    → items_at (is_glued_mark 58) (branch_leaf_at before) s ≡ further_at (length new.rest) (is_glued_mark 58) (branch_leaf_at before) (own ++ leaf ∷ []) new
unfolding items_at branch_leaf_at
first_leaf before own s leaf new none e =
    let first : tree_leaf_at before s ≡ Ok (leaf, new) = ap (λ (l : List Leaf). tree_leaf_at l s) (sym (append-nil before)) ∙ ap (λ (l : List Leaf). tree_leaf_at (before ++ l) s) (sym none) ∙ e in
    rw (none, first) refl

behind_colon : (before own : List Leaf) (s : At) → 0 < length own → is_glued_mark 58 s ≡ true → branch_leaf_at before own s ≡ tree_leaf_at (before ++ own) (behind s)
unfolding branch_leaf_at glued_mark_at
behind_colon before [] s some marks = absurd (omega arith)
behind_colon before (leaf ∷ own) s some marks = rw marks refl

module _ (branches known : List BranchDef) (own : List Leaf) (n i : ℕ) (s : At) (total : Read (List Leaf)) (takes : Bool) (t : At) (lt : i < n) (value : takes ≡ is_glued_mark 58 s) (state : t ≡ (if takes then behind s else s)) where
  pub leaves_stop : takes ≡ false → further_at (n - i) (is_glued_mark 58) (branch_leaf_at (all_leaves branches)) own s ≡ total → total ≡ Ok (own, t)
  leaves_stop ends so_far =
      let stays : t ≡ s = rw ends at state in
      further_stops (is_glued_mark 58) (branch_leaf_at (all_leaves branches)) n i own s total lt (sym value ∙ ends) so_far ∙ ap (λ (u : At). Ok (own, u)) (sym stays)

  module _ (some : 0 < length own) (same : known ≡ branches) (goes : takes ≡ true) where
    here : branch_leaf_at (all_leaves branches) own s ≡ tree_leaf_at (all_leaves known ++ own) t
    here =
        let passed : t ≡ behind s = rw goes at state in
        behind_colon (all_leaves branches) own s some (sym value ∙ goes)
        ∙ ap (λ (u : At). tree_leaf_at (all_leaves branches ++ own) u) (sym passed)
        ∙ ap (λ (bs : List BranchDef). tree_leaf_at (all_leaves bs ++ own) t) (sym same)

    pub leaves_fail : (e : TextFault) → tree_leaf_at (all_leaves known ++ own) t ≡ Err e
        → further_at (n - i) (is_glued_mark 58) (branch_leaf_at (all_leaves branches)) own s ≡ total → total ≡ Err e
    leaves_fail e next so_far = further_fails (is_glued_mark 58) (branch_leaf_at (all_leaves branches)) n i own s total lt e (sym value ∙ goes) (here ∙ next) so_far

    pub leaves_go_on : (leaf : Leaf) (new : At) → tree_leaf_at (all_leaves known ++ own) t ≡ Ok (leaf, new)
        → further_at (n - i) (is_glued_mark 58) (branch_leaf_at (all_leaves branches)) own s ≡ total
        → further_at (n - (i + 1)) (is_glued_mark 58) (branch_leaf_at (all_leaves branches)) (own ++ leaf ∷ []) new ≡ total
    leaves_go_on leaf new next so_far = further_goes_on (is_glued_mark 58) (branch_leaf_at (all_leaves branches)) n i own s total lt leaf new (sym value ∙ goes) (here ∙ next) so_far
