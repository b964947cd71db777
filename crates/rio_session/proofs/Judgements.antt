-- What a judgement by the parts of a session says of what it keeps.
use Rattle.std.proofs.Common.{◌≡◌, List, subst}
use Rattle.rio_format.specs.declared.class.ClassDef.{ClassDef}
use Rattle.rio_key.specs.declared.head.KeyHead.{KeyHead}
use Rattle.rio_tree_table.specs.declared.table.KeptTree.{KeptTree}
use Rattle.rio_machine.specs.declared.command.Command.{Command}
use Rattle.rio_step.specs.Statable.{IsStatable}
use Rattle.rio_judge.specs.Trees.{IsJudgementOfItems, IsSoundWithTrees}
use Rattle.rio_judge.specs.declared.work.{AnyWork.{AnyWork}, JudgedWithTrees.{JudgedWithTrees, TheVariants.{Accepted}}}
use Rattle.rio_session.specs.{Doable.{IsToDo}, SessionState.{SessionState, kept_trees}}

-- what is judged by
abbrev Parts : Type 0
Parts = List ClassDef × (List KeyHead × (List KeptTree × JudgedWithTrees))

module _ (s : SessionState) (c : Command) (classes : List ClassDef) (heads : List KeyHead) (trees : List KeptTree) (classes_are : classes ≡ s.classes) (heads_are : heads ≡ s.heads) (trees_are : trees ≡ kept_trees s) where
  pub judged_now : (j k : JudgedWithTrees) → j ≡ k → IsJudgementOfItems classes heads trees c j → IsJudgementOfItems s.classes s.heads (kept_trees s) c k
  judged_now j k is judged = subst (λ (x : Parts). IsJudgementOfItems x.0 x.1.0 x.1.1.0 c x.1.1.1) (λ i. (classes_are i, (heads_are i, (trees_are i, is i)))) judged

  -- accepted work is to be done
  pub to_do : (j : JudgedWithTrees) (work : AnyWork) → j ≡ Accepted work → IsStatable c → IsJudgementOfItems classes heads trees c j → IsSoundWithTrees classes heads trees c j → IsToDo s c work
  to_do j work is statable judged sound = record {
    statable = statable;
    can = subst (λ (x : Parts). IsSoundWithTrees x.0 x.1.0 x.1.1.0 c x.1.1.1) (λ i. (classes_are i, (heads_are i, (trees_are i, is i)))) sound;
    judged = judged_now j (Accepted work) is judged;
  }
