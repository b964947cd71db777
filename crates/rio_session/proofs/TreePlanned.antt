-- What is planned for a new tree: how long its records are, and what a close needs with them.
use Rattle.std.proofs.Common.{◌≡◌, ◌≢◌, ◌∙◌, ℕ, ◌-◌, ◌<◌, ◌≤◌, ◌^◌, List, [], ◌∷◌, ◌++◌, codes, length, map, sum, true, false, not, Bool, Option, Some, None, refl, sym, ap, subst, arith}
use Rattle.std.proofs.lemmas.{Bool.{and_parts, ltb-false, or_parts}, List.Elements.{All-from_recursion}}
use Rattle.std.specs.{Prelude.{IfSome, ◌&&◌, nat_lt}, List.{AllByRecursion, find, list_any}, Option.{option_map}}
use Rattle.rio_num.specs.Text.{text_bytes}
use Rattle.rio_num.proofs.TextLengths.{short_text_bytes}
use Rattle.rio_leaf.specs.{Stated.{are_stated_branches}, declared.branch.BranchDef.{BranchDef}}
use Rattle.rio_format.specs.declared.class.ClassDef.{ClassDef}
use Rattle.rio_key.specs.{declared.head.KeyHead.{KeyHead}}
use Rattle.rio_model.specs.{Declaring.{shape_lacks_class}, StateClasses.{StateClasses}}
use Rattle.rio_machine.specs.Limits.{branch_limit, has_many_branches, has_many_leaves, head_length}
use Rattle.rio_judge.specs.declared.work.NewTree.{NewTree}
use Rattle.rio_tree.specs.{HeaderLength.{basket_count, header_length, header_size}, WrittenLaws.{stated_defs}, declared.head.{Branch.{Branch}, TreeHead.{TreeHead}}}
use Rattle.rio_fill.specs.{Fill.{defs_of, fill_of}, Heads.{AreFillable, BranchCanBeFilled, CanBeFilled}}
use Rattle.rio_tree_table.specs.declared.table.KeptTree.{KeptTree}
use Rattle.rio_step.specs.Costs.{info_size}
use Rattle.rio_effect.proofs.{NewHeaders.{new_defs}, PutClasses.{short_item}}
use Rattle.rio_effect.specs.{HeaderRecords.{HeadersHaveRecords}, TreeRecords.{new_branches}}
use Rattle.rio_session.specs.{Doable.{IsNewTree}, Fills.{FilledTree, bare_tree, is_tree_of, kept_tree_of}, Measures.{IsBoundedTree}, SessionState.{SessionState}, TreePlans.{first_length, head_now, lengths_with, making_now, need_of_tree, records_more}}
use Rattle.rio_session.proofs.{Bare.{bare_found}, BoundsKept.{bounded_begun}, HeaderBound.{header_low}, HeadersWritten.{none_named}, NewFills.{new_filled, new_kept}, TreeLengths.{header_is, making_lengths}}

-- ---- the branches of a new tree

module _ (s : SessionState) (t : NewTree) (own : IsNewTree s t) where
  abbrev head : TreeHead
  head = head_now s t.branches

  pub named_short : length t.name ≤ 100
  named_short = short_item t.name own.item

  parts : (are_stated_branches t.branches && not (has_many_branches t.branches) ≡ true) × (not (list_any (λ b. shape_lacks_class s.classes b.shape) t.branches) ≡ true)
  parts = and_parts (are_stated_branches t.branches && not (has_many_branches t.branches)) (not (list_any (λ b. shape_lacks_class s.classes b.shape) t.branches)) own.branches

  stated : are_stated_branches t.branches ≡ true
  stated = (and_parts (are_stated_branches t.branches) (not (has_many_branches t.branches)) parts.0).0

  not_many : has_many_branches t.branches ≡ false
  not_many = by (has_many_branches t.branches) (and_parts (are_stated_branches t.branches) (not (has_many_branches t.branches)) parts.0).1
    where
      by : (b : Bool) → not b ≡ true → b ≡ false
      by true e = absurd cc
      by false e = refl

  defs : stated_defs (head_now s t.branches).branches ≡ t.branches
  defs = new_defs s.classes [] t.branches

  pub size_low : header_size t.name t.branches ≤ 3000000
  size_low = header_low t.name t.branches named_short stated not_many

  pub fillable : AreFillable (stated_defs (head_now s t.branches).branches)
  fillable = subst AreFillable (sym defs) (record { few = ltb-false branch_limit (length t.branches) (or_parts (nat_lt branch_limit (length t.branches)) (list_any (λ b. has_many_leaves b.shape) t.branches) not_many).0; stated = stated })

  -- it has no rows
  branches_empty : (before branches : List BranchDef) → AllByRecursion (BranchCanBeFilled 0) (new_branches s.classes before branches)
  branches_empty before [] = tt
  branches_empty before (b ∷ bs) = (record { refused = refl; entries_as_tree = refl; offsets_as_shape = refl; in_order = refl; before_end = refl }, branches_empty (before ++ b ∷ []) bs)

  pub can_be_filled : CanBeFilled (head_now s t.branches)
  can_be_filled = record { defs = fillable; branches = All-from_recursion (BranchCanBeFilled 0) (new_branches s.classes [] t.branches) (branches_empty [] t.branches) }

  pub no_baskets : basket_count (head_now s t.branches) ≡ 0
  no_baskets = none_named s.classes [] t.branches

  sized : header_size t.name (stated_defs (head_now s t.branches).branches) ≡ header_size t.name t.branches
  sized = ap (header_size t.name) defs

  pub bytes_are : header_size t.name (stated_defs (head_now s t.branches).branches) ≡ header_size t.name t.branches
  bytes_are = sized

  pub bounded : IsBoundedTree t.name (fill_of (head_now s t.branches))
  bounded = bounded_begun t.name head named_short fillable (omega (arith, no_baskets)) (omega (arith, sized, size_low))

  pub kept_then : kept_tree_of (new_filled t.name s.classes t.branches) ≡ record { name = t.name; branches = t.branches; saved = 0; pending = 0 }
  kept_then = new_kept t.name s.classes t.branches

  pub defs_then : defs_of (fill_of (head_now s t.branches)).branches ≡ t.branches
  defs_then = ap (λ (k : KeptTree). k.branches) kept_then

  -- its header is short
  pub header_short : header_length t.name (stated_defs (head_now s t.branches).branches) (basket_count (head_now s t.branches)) < 2 ^ 30 - 200
  header_short =
      let same : header_length t.name (stated_defs head.branches) (basket_count head) ≡ header_size t.name t.branches = ap (header_length t.name (stated_defs head.branches)) no_baskets ∙ without t.name (stated_defs head.branches) ∙ sized in
      omega (arith, same, size_low)
    where
      without : (name : List ℕ) (ds : List BranchDef) → header_length name ds 0 ≡ header_size name ds
      without name ds = omega arith

  -- ---- what is planned

  module _ (headers : HeadersHaveRecords) (are : StateClasses s.classes) (soon : s.datime < 2 ^ 32) (list : Option ℕ) (n header : ℕ) (n_is : n ≡ info_size s.classes) (list_is : list ≡ first_length s.info n) (header_is : header ≡ header_size t.name t.branches) where
    pub planned_lengths : lengths_with list t.name header ≡ (making_now s t.name t.branches).lengths
    planned_lengths =
        ap (λ (o : Option ℕ). lengths_with o t.name header) list_is
        ∙ (λ i. lengths_with (first_length s.info (n_is i)) t.name (header_is i))
        ∙ sym (making_lengths headers s are soon t own)

    as_many : (o : Option ℕ) → length (lengths_with o t.name header) ≡ records_more o
    as_many None = refl
    as_many (Some k) = refl

    pub planned_need : need_of_tree s t.name (records_more list) ≡ need_of_tree s t.name (length (making_now s t.name t.branches).lengths)
    planned_need = ap (need_of_tree s t.name) (sym (as_many list) ∙ ap length planned_lengths)

    key_short : head_length (codes "TTree") t.name ≤ 200
    key_short =
        let class : length (text_bytes (codes "TTree")) ≡ 6 = refl in
        let title : length (text_bytes []) ≡ 1 = refl in
        omega (arith, short_text_bytes t.name named_short, class, title)

    sum_by_list : (o : Option ℕ) → IfSome o (λ k. k ≤ 16777216) → sum (lengths_with o t.name header) < 2 ^ 64
    sum_by_list None low = omega (arith, key_short, header_is, size_low)
    sum_by_list (Some k) low = omega (arith, key_short, header_is, size_low, low)

    pub planned_sum : IfSome list (λ k. k ≤ 16777216) → sum (lengths_with list t.name header) < 2 ^ 64
    planned_sum low = sum_by_list list low

-- the list's length, where one has to be put
pub first_low : (o : Option KeyHead) (n : ℕ) → n ≤ 16777216 → IfSome (first_length o n) (λ k. k ≤ 16777216)
first_low None n low = low
first_low (Some h) n low = tt

-- no tree has the name where none is found
pub none_named_so : (s : SessionState) (trees : List FilledTree) → s.trees ≡ map bare_tree trees → (name : List ℕ) → find (is_tree_of name) trees ≡ None → find (is_tree_of name) s.trees ≡ None
none_named_so s trees same name none = ap (find (is_tree_of name)) same ∙ bare_found name trees ∙ ap (option_map bare_tree) none
