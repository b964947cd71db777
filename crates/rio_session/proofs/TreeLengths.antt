-- How long the records of a new tree are.
use Rattle.std.proofs.Common.{◌≡◌, ◌∙◌, ℕ, ◌+◌, ◌*◌, ◌<◌, ◌≤◌, ◌^◌, List, [], ◌∷◌, ◌++◌, codes, length, Option, Some, None, true, refl, sym, ap, subst, arith}
use Rattle.rio_leaf.specs.declared.branch.BranchDef.{BranchDef}
use Rattle.rio_format.specs.{declared.class.ClassDef.{ClassDef}, TreeClasses.{tree_classes}}
use Rattle.rio_key.specs.declared.head.KeyHead.{KeyHead}
use Rattle.rio_format.proofs.Picks.{later_leave_picks}
use Rattle.rio_model.specs.StateClasses.{StateClasses}
use Rattle.rio_machine.specs.{Limits.{head_length}, State.{State, empty_state}}
use Rattle.rio_tree.specs.{HeaderLength.{basket_count, header_length, header_size}, WrittenLaws.{stated_defs}, declared.head.TreeHead.{TreeHead}}
use Rattle.rio_judge.specs.declared.work.NewTree.{NewTree}
use Rattle.rio_state.specs.{Closing.{padded_length}, Contents.{FileClasses}, Trees.{can_be_branches}}
use Rattle.rio_step.specs.Costs.{info_size}
use Rattle.rio_effect.specs.{ClassRecord.{list_key_size, list_record}, HeaderRecords.{HeadersHaveRecords, IsHeaderRecord}, TreeRecords.{header_record, new_head}}
use Rattle.rio_effect.proofs.{ListPut.{CanBeListed, list_long}, NewHeaders.{new_defs}}
use Rattle.rio_session.specs.{Doable.{IsNewTree}, Fillings.{both_done, heading, listing_if_none}, SessionState.{SessionState}, TreePlans.{first_length, lengths_with, making_now}}
use Rattle.rio_session.proofs.{EmptyList.{state_short}, HeadersWritten.{header_written, new_fits, new_is_readable, none_named}, ListCalls.{few_classes}}

-- ---- the class list

pub list_size : (datime : ℕ) (classes : List ClassDef) → datime < 2 ^ 32 → StateClasses classes → length (list_record 0 datime 1 classes) ≡ padded_length (list_key_size + info_size classes)
unfolding list_record
list_size datime classes soon are =
    let can : CanBeListed [] 0 datime classes = record {
      low = omega arith;
      soon = soon;
      are = are;
      short = state_short classes are;
      few = few_classes classes are;
      cycle_low = omega arith;
    } in
    list_long [] 0 datime classes can

-- ---- the tree

module _ (headers : HeadersHaveRecords) (s : SessionState) (classes_are : StateClasses s.classes) (soon : s.datime < 2 ^ 32) (new : NewTree) (is : IsNewTree s new) where
  abbrev head : TreeHead
  head = new_head s.classes new.branches

  abbrev classes : FileClasses
  classes = record { described = tree_classes ++ []; declared = s.classes }

  pub defs : stated_defs head.branches ≡ new.branches
  defs = new_defs s.classes [] new.branches

  pub new_written : IsHeaderRecord (record { described = tree_classes ++ []; declared = s.classes }) 0 s.datime new.name 1 (new_head s.classes new.branches)
  new_written =
      header_written headers classes 0 s.datime new.name 1 head is.item is.free (ap (can_be_branches s.classes) defs ∙ is.branches) (later_leave_picks tree_classes [])
      (new_fits s.classes new.branches classes_are) (new_is_readable s.classes new.branches) (omega arith) soon (omega arith) (omega (arith, none_named s.classes [] new.branches))

  pub header_is : header_length new.name (stated_defs head.branches) (basket_count head) ≡ header_size new.name new.branches
  header_is =
      let none = none_named s.classes [] new.branches in
      ap (header_length new.name (stated_defs head.branches)) none ∙ no_baskets new.name (stated_defs head.branches) ∙ ap (header_size new.name) defs
    where
      no_baskets : (name : List ℕ) (ds : List BranchDef) → header_length name ds 0 ≡ header_size name ds
      no_baskets name ds = omega arith

  pub header_long : length (header_record 0 s.datime new.name 1 (new_head s.classes new.branches)) ≡ padded_length (head_length (codes "TTree") new.name + header_size new.name new.branches)
  header_long = new_written.long ∙ ap (λ (n : ℕ). padded_length (head_length (codes "TTree") new.name + n)) header_is

  abbrev m : State
  m = record empty_state { classes = s.classes }

  pub making_lengths : (making_now s new.name new.branches).lengths ≡ lengths_with (first_length s.info (info_size s.classes)) new.name (header_size new.name new.branches)
  making_lengths = by s.info
    where
      by : (o : Option KeyHead) → (both_done (listing_if_none s m o) (heading (listing_if_none s m o).kept new.name head)).lengths ≡ lengths_with (first_length o (info_size s.classes)) new.name (header_size new.name new.branches)
      by None = let list = list_size s.datime s.classes soon classes_are in let own = header_long in λ i. list i ∷ own i ∷ []
      by (Some h) = let own = header_long in λ i. own i ∷ []
