-- What is told of the value of a key: an object, a tree, or a header of which there is a greater cycle.
use Rattle.std.proofs.Common.{◌≡◌, ◌∙◌, List, [], ◌∷◌, ◌++◌, Bool, true, false, cond, Option, Some, None, Err, refl, sym, ap}
use Rattle.rio_key.specs.declared.head.KeyHead.{KeyHead}
use Rattle.rio_head.specs.declared.reason.Reason.TheVariants.{BadObject, BadTree}
use Rattle.rio_tree.specs.declared.head.TreeHead.{TreeHead}
use Rattle.rio_state.specs.{KeyedRecords.{KeyedRecord, is_tree_record}, Reasons.{Beside, ReasonAt, is_bad_object, is_bad_tree, reason_if}, Trees.{header_in}}
use Rattle.rio_recover.specs.{Causes.{Judges}, Checks.{GivesHeader, GivesTree, HasNamed, kind_of, value_reasons}, declared.fault.RecoverFault.{RecoverFault}, declared.named.NamedPlaces.{NamedPlaces}}
use Rattle.rio_recover.specs.declared.judge.KeyKind.TheVariants.{Object, Tree, Outdated}
use Rattle.rio_recover.proofs.{Judging.{judges_again, judges_same}, KeyKinds.{object_alone, object_record, old_alone, old_record, tree_alone, tree_record}, TreeJudged.{named_same}}

module _ (beside : Beside) (before : List KeyedRecord) (r : KeyedRecord) (head : KeyHead) (same : r.head ≡ head) where
  pub object_refused : {X Y : Type 0} (e : RecoverFault) (P : X → Type 0) (Q : Y → Type 0) → kind_of beside.tops head ≡ Object → Judges (Err e) (reason_if (is_bad_object beside r) r.head.seek BadObject) P
      → Judges (Err e) (value_reasons beside r) Q
  object_refused e P Q kind j =
      judges_same (Err e) (reason_if (is_bad_object beside r) r.head.seek BadObject) (value_reasons beside r) Q (sym (object_alone beside r head same kind)) (judges_again e (reason_if (is_bad_object beside r) r.head.seek BadObject) P Q j)

  pub header_refused : {X Y : Type 0} (e : RecoverFault) (P : X → Type 0) (Q : Y → Type 0) → kind_of beside.tops head ≡ Tree → Judges (Err e) (reason_if (is_bad_tree beside r) r.head.seek BadTree) P
      → Judges (Err e) (value_reasons beside r) Q
  header_refused e P Q kind j =
      judges_same (Err e) (reason_if (is_bad_tree beside r) r.head.seek BadTree) (value_reasons beside r) Q (sym (tree_alone beside r head same kind)) (judges_again e (reason_if (is_bad_tree beside r) r.head.seek BadTree) P Q j)

  no_tree : (named : NamedPlaces) → is_tree_record beside.tops r ≡ false → HasNamed beside before named → GivesTree beside before r named None
  no_tree named e has = record {
    header = sym (ap (λ (b : Bool). cond b (header_in beside.classes r) None) e);
    noted = named_same beside before r named e has;
    plain = λ t. let f : true ≡ false = sym t ∙ e in absurd cc;
  }

  pub object_given : (named : NamedPlaces) → kind_of beside.tops head ≡ Object → reason_if (is_bad_object beside r) r.head.seek BadObject ≡ [] → HasNamed beside before named
      → (value_reasons beside r ≡ []) × GivesTree beside before r named None
  object_given named kind none has = (object_alone beside r head same kind ∙ none, no_tree named (object_record beside r head same kind).1 has)

  pub old_given : (named : NamedPlaces) → kind_of beside.tops head ≡ Outdated → HasNamed beside before named → (value_reasons beside r ≡ []) × GivesTree beside before r named None
  old_given named kind has = (old_alone beside r head same kind, no_tree named (old_record beside r head same kind) has)

  pub header_given : (named : NamedPlaces) (tree : TreeHead) → kind_of beside.tops head ≡ Tree → reason_if (is_bad_tree beside r) r.head.seek BadTree ≡ [] → GivesHeader beside before r named tree
      → (value_reasons beside r ≡ []) × GivesTree beside before r named (Some tree)
  header_given named tree kind none gives = (
    tree_alone beside r head same kind ∙ none,
    record {
      header = sym (ap (λ (b : Bool). cond b (header_in beside.classes r) None) (tree_record beside r head same kind) ∙ gives.header);
      noted = gives.noted;
      plain = λ t. gives.plain;
    },
  )
