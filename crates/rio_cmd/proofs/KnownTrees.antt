-- The names that are kept beside the branches of a tree are theirs, also with one more.
use Rattle.std.proofs.Common.{◌≡◌, ℕ, List, [], ◌∷◌, ◌++◌, ◌||◌, ◌&&◌, Ok, Err, refl, sym, ◌∙◌, ap, append_assoc}
use Rattle.std.proofs.lemmas.List.{append-nil, flat_map_more}
use Rattle.std.specs.Str.{bytes_eq}
use Rattle.rio_num.specs.{At.{At}, Reading.{◌>>=◌}, Word.{is_among}}
use Rattle.rio_token.specs.{declared.fault.TextFault.{TextFault}, Reading.{Read}}
use Rattle.rio_leaf.specs.{declared.branch.BranchDef.{BranchDef}, declared.leaf.Leaf.{Leaf}, Leaves.{can_count, has_counting_leaf, has_leaf}, Stated.{all_leaves, leaves_of}}
use Rattle.rio_decl.proofs.KnownLaws.{with_last}
use Rattle.rio_step.specs.TreeGrammar.{branch_at}
use Rattle.rio_cmd.specs.Known.{KnowsTree, TreeSoFar, more_branches_at, with_branch}

module _ (branches : List BranchDef) (own : List Leaf) (branch_names leaf_names counters : List (List ℕ)) (knows : KnowsTree branches own branch_names leaf_names counters) where
  -- one more leaf
  pub leaf_known : (more : List Leaf) (leaf : Leaf) (noted counted : List (List ℕ)) → more ≡ own ++ leaf ∷ []
      → ((name : List ℕ) → is_among noted name ≡ (bytes_eq leaf.name name || is_among leaf_names name))
      → ((name : List ℕ) → is_among counted name ≡ (bytes_eq leaf.name name && can_count leaf || is_among counters name))
      → KnowsTree branches more branch_names noted counted
  leaf_known more leaf noted counted is notes counts =
      let before = all_leaves branches ++ own in
      let longer : all_leaves branches ++ more ≡ before ++ leaf ∷ [] =
      ap (λ (l : List Leaf). all_leaves branches ++ l) is ∙ sym (append_assoc (all_leaves branches) own (leaf ∷ [])) in
      record {
        branch = knows.branch;
        leaf = λ name. with_last (λ (l : Leaf). bytes_eq l.name name) before _ leaf _ _ longer (notes name) (knows.leaf name);
        counter = λ name. with_last (λ (l : Leaf). bytes_eq l.name name && can_count l) before _ leaf _ _ longer (counts name) (knows.counter name);
      }

  -- the branch whole, and no leaves behind it
  pub branch_known : (more : List BranchDef) (left : List Leaf) (branch : BranchDef) (noted : List (List ℕ)) → more ≡ branches ++ branch ∷ []
      → leaves_of branch.shape ≡ own → left ≡ [] → ((name : List ℕ) → is_among noted name ≡ (bytes_eq branch.name name || is_among branch_names name))
      → KnowsTree more left noted leaf_names counters
  branch_known more left branch noted is holds none notes =
      let same : all_leaves branches ++ own ≡ all_leaves more ++ left =
      ap (λ (l : List Leaf). all_leaves branches ++ l) (sym holds)
      ∙ flat_map_more (λ (b : BranchDef). leaves_of b.shape) [] branches branch
      ∙ ap all_leaves (sym is)
      ∙ sym (append-nil (all_leaves more))
      ∙ ap (λ (l : List Leaf). all_leaves more ++ l) (sym none) in
      record {
        branch = λ name. with_last (λ (b : BranchDef). bytes_eq b.name name) branches more branch _ _ is (notes name) (knows.branch name);
        leaf = λ name. knows.leaf name ∙ ap (λ (l : List Leaf). has_leaf l name) same;
        counter = λ name. knows.counter name ∙ ap (λ (l : List Leaf). has_counting_leaf l name) same;
      }

-- ---- one more branch is read

abbrev with_next : List BranchDef → Read BranchDef → Read TreeSoFar
with_next before r = r >>= λ branch. Ok (with_branch before branch.0, branch.1)

pub next_branch : (before : List BranchDef) (s : At) (more : TreeSoFar) (new : At) → more_branches_at before s ≡ Ok (more, new)
    → (branch : BranchDef) × (branch_at before s ≡ Ok (branch, new)) × (more ≡ with_branch before branch)
next_branch before s more new e = by (branch_at before s) refl e
  where
    by : (r : Read BranchDef) → branch_at before s ≡ r → with_next before r ≡ Ok (more, new)
        → (branch : BranchDef) × (branch_at before s ≡ Ok (branch, new)) × (more ≡ with_branch before branch)
    by (Ok x) is e =
        let same : ◌≡◌ {A = TreeSoFar × At} (with_branch before x.0, x.1) (more, new) = cc in
        let place = ap (λ (p : TreeSoFar × At). p.1) same in
        let whole = ap (λ (p : TreeSoFar × At). p.0) same in
        (x.0, is ∙ ap (λ (t : At). Ok (x.0, t)) place, sym whole)
    by (Err f) is e = absurd cc

pub no_next_branch : (before : List BranchDef) (s : At) (fault : TextFault) → more_branches_at before s ≡ Err fault → branch_at before s ≡ Err fault
no_next_branch before s fault e = by (branch_at before s) refl e
  where
    by : (r : Read BranchDef) → branch_at before s ≡ r → with_next before r ≡ Err fault → branch_at before s ≡ Err fault
    by (Ok x) is e = absurd cc
    by (Err f) is e = let same : f ≡ fault = cc in rw same at is
