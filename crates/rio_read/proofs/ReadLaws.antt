-- What is read of data, and what spells it.
use Rattle.std.proofs.{Common.{◌≡◌, ℕ, ◌+◌, ◌≤◌, List, ◌++◌, length, Result, Ok, Err, refl, ap, subst, IfOk, arith}, lemmas.List.{length-append}}
use Rattle.rio_format.specs.{declared.class.ClassDef.{ClassDef}, declared.value.Value.{Value}, Frames.{Step, ReadsAs}, ReaderState.{ReaderState, standing}, declared.fault.ObjFault.{ObjFault}}
use Rattle.rio_num.specs.{At.{AreBytes}, Meanings.{read}}
use Rattle.rio_format.specs.Objects.{SpellsObject, depth_limit, first_at, object_of, only_value, value_at}
use Rattle.rio_num.proofs.Agree as Agree
use Rattle.rio_format.proofs.ObjectLaws.{read_is_spelled, spelled_is_read}
use Rattle.rio_num.proofs.ReadLaws.{ok_is}
use Rattle.rio_read.specs.Reading.{Answers, HasFront, IsRead, IsSpelled}

read_at : (step : Step Value) (v : Value) → only_value step ≡ Ok v → (s : ReaderState) × (step ≡ Ok (v, s))
read_at (Ok x) v e = (x.1, ap (λ (w : Value). let r : Step Value = Ok (w, x.1) in r) (ok_is {E = ObjFault} x.0 v e))
read_at (Err d) v e = absurd cc

module _ (classes : List ClassDef) (class : List ℕ) (start : ℕ) (bytes : List ℕ) where
  pub is_found : (answer : Result Value ObjFault) → AreBytes bytes → Answers answer (value_at classes class start bytes) → IfOk answer (λ v. HasFront classes start class v bytes)
  is_found (Ok v) fits e =
      let at = read_at (first_at classes class start bytes) v e in
      let spelled = read_is_spelled classes class start bytes v at.0 fits at.1 in
      (spelled.0, at.0.at.rest, spelled.1, spelled.2)
  is_found (Err d) fits e = tt

  pub is_only : (v : Value) (front rest : List ℕ) → bytes ≡ front ++ rest → SpellsObject classes start class v front → value_at classes class start bytes ≡ Ok v
  is_only v front rest e spelled =
      let there = spelled_is_read classes class start v front rest spelled in
      rw (e, there.1) refl

module _ (classes : List ClassDef) (class : List ℕ) (old new : ReaderState) where
  pub is_spelled : (answer : Result Value ObjFault) → AreBytes old.at.rest → ReadsAs (λ (x : Value). x) answer (read (object_of depth_limit classes class) old) new → IfOk answer (λ v. IsSpelled classes class v old new)
  is_spelled (Ok v) fits e = Agree.read_is_spelled (object_of depth_limit classes class) old v new fits e
  is_spelled (Err d) fits e = tt

  pub is_read : (answer : Result Value ObjFault) → ReadsAs (λ (x : Value). x) answer (read (object_of depth_limit classes class) old) new → IsRead classes class answer old new
  is_read answer e v front rest words parts spelled =
      let le : old.at.place + length front ≤ old.at.place + length (front ++ rest) = omega (arith, length-append front rest) in
      let again : read (object_of depth_limit classes class) (standing old.at.place old.at.rest old.words) ≡ Ok (v, standing (old.at.place + length front) rest words) =
      rw parts (Agree.spelled_is_read (object_of depth_limit classes class) (old.at.place + length front) old.at.place old.words v front rest words le spelled) in
      subst (λ (r : Step Value). ReadsAs (λ (x : Value). x) answer r new) again e
