-- The fault that reading gives is the first one of the bytes.
use Rattle.std.proofs.Common.{◌≡◌, ℕ, List, Result, Ok, Err, sym, ap, subst, ◌∙◌}
use Rattle.rio_num.specs.{Answers.{TellsUnless}, At.{AreBytes}, Meanings.{read}}
use Rattle.rio_format.specs.{declared.class.ClassDef.{ClassDef}, declared.value.Value.{Value}, ReaderState.{ReaderState}, declared.fault.ObjFault.{ObjFault, TheVariants.{NoMemory}}}
use Rattle.rio_format.specs.Objects.{BreaksObject, depth_limit, object_of, only_value, value_at}
use Rattle.rio_format.proofs.ObjectLaws.{broken_is_fault, fault_is_broken, not_both}
use Rattle.rio_num.proofs.Agree as Agree
use Rattle.rio_read.specs.Reading.{Answers, ReadsNext}
use Rattle.rio_read.specs.FirstFault.{BreaksNext, RefusesBreak}

module _ (classes : List ClassDef) (class : List ℕ) (start : ℕ) (bytes : List ℕ) where
  pub tells_first : (answer : Result Value ObjFault) → AreBytes bytes → Answers answer (value_at classes class start bytes) → TellsUnless NoMemory (BreaksObject classes start class bytes) answer
  tells_first (Ok v) fits e = tt
  tells_first (Err d) fits e = λ memory. fault_is_broken classes class start bytes d fits (e memory)

  pub refuses_first : (answer : Result Value ObjFault) → Answers answer (value_at classes class start bytes) → RefusesBreak (BreaksObject classes start class bytes) answer
  refuses_first answer e fault broken = subst (Answers answer) (broken_is_fault classes class start bytes fault broken) e

module _ (classes : List ClassDef) (class : List ℕ) (old new : ReaderState) where
  pub tells_next : (answer : Result Value ObjFault) → AreBytes old.at.rest → ReadsNext classes class answer old new → TellsUnless NoMemory (BreaksNext classes class old) answer
  tells_next (Ok v) fits e = tt
  tells_next (Err d) fits e = λ memory. Agree.fault_is_broken (object_of depth_limit classes class) old d fits (e memory)

  pub refuses_next : (answer : Result Value ObjFault) → ReadsNext classes class answer old new → RefusesBreak (BreaksNext classes class old) answer
  refuses_next (Ok v) e fault broken =
      let gives : read (object_of depth_limit classes class) old ≡ Err fault = Agree.broken_is_fault (object_of depth_limit classes class) old.at.place old.words old.at.rest fault broken in
      absurd (not_both (read (object_of depth_limit classes class) old) fault (v, new) gives e)
  refuses_next (Err d) e fault broken = λ memory.
      let gives : read (object_of depth_limit classes class) old ≡ Err fault = Agree.broken_is_fault (object_of depth_limit classes class) old.at.place old.words old.at.rest fault broken in
      ap only_value (sym gives ∙ e memory)
