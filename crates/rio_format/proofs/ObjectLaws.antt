-- How reading, spelling and first faults of objects belong together, from the laws of descriptions.
use Rattle.std.proofs.Common.{◌≡◌, ◌⊎◌, inl, inr, ℕ, ◌+◌, ◌≤◌, List, ◌++◌, length, Result, Ok, Err, refl, sym, ap, ◌∙◌, arith}
use Rattle.std.proofs.lemmas.List.{append_cancel_right, length-append}
use Rattle.rio_num.specs.At.{AreBytes}
use Rattle.rio_num.proofs.ReadLaws.{ok_is}
use Rattle.rio_format.specs.{declared.class.ClassDef.{ClassDef}, declared.value.Value.{Value}, Frames.{Step}, ReaderState.{ReaderState, no_words, standing}, declared.fault.ObjFault.{ObjFault}}
use Rattle.rio_num.proofs.Agree as Agree
use Rattle.rio_format.specs.Laws.{BrokenIsFault, BrokenIsNotSpelled, FaultIsBroken, FaultIsNotSpelled, IsBrokenOnce, IsSpelledOnce, ReadIsSpelled, SpelledIsRead, SpelledOrBroken}
use Rattle.rio_format.specs.Objects.{BreaksObject, SpellsObject, depth_limit, first_at, object_of, only_value, value_at}
use Rattle.rio_format.proofs.Closed.{closed_object}

pub spelled_is_read : SpelledIsRead
unfolding SpellsObject
spelled_is_read classes class start v front more c =
    let le : start + length front ≤ start + length (front ++ more) = omega (arith, length-append front more) in
    (standing (start + length front) more c.0, Agree.spelled_is_read (object_of depth_limit classes class) (start + length front) start no_words v front more c.0 le c.1, refl, refl)

pub read_is_spelled : ReadIsSpelled
unfolding SpellsObject
read_is_spelled classes class start bytes v s fits h =
    let a = Agree.read_is_spelled (object_of depth_limit classes class) (standing start bytes no_words) v s fits h in
    (a.front, a.parts, (s.words, (closed_object depth_limit classes class).closed (start + length bytes) start no_words v a.front s.words a.spelled))

pub is_spelled_once : IsSpelledOnce
is_spelled_once classes class start v w front more other rest e first second =
    let a = spelled_is_read classes class start v front more first in
    let b = spelled_is_read classes class start w other rest second in
    let same = ok_is {E = ObjFault} (v, a.0) (w, b.0) (sym a.1 ∙ ap (first_at classes class start) e ∙ b.1) in
    let behind : more ≡ rest = sym a.2 ∙ ap (λ (q : Value × ReaderState). q.1.at.rest) same ∙ b.2 in
    (ap (λ (q : Value × ReaderState). q.0) same, append_cancel_right front other rest (ap (λ (m : List ℕ). front ++ m) (sym behind) ∙ e))

pub not_both : {A E : Type 0} (r : Result A E) (e : E) (x : A) → r ≡ Err e → r ≡ Ok x → ⊥
not_both (Ok y) e x a b = absurd cc
not_both (Err d) e x a b = absurd cc

pub fault_is_not_spelled : FaultIsNotSpelled
fault_is_not_spelled classes class start v front more fault e spelled =
    let a = spelled_is_read classes class start v front more spelled in
    not_both (first_at classes class start (front ++ more)) fault (v, a.0) e a.1

-- ---- faults

pub broken_is_fault : BrokenIsFault
unfolding BreaksObject
broken_is_fault classes class start bytes fault c = ap only_value (Agree.broken_is_fault (object_of depth_limit classes class) start no_words bytes fault c)

failed : (step : Step Value) (d : ObjFault) → only_value step ≡ Err d → step ≡ Err d
failed (Ok x) d h = absurd cc
failed (Err f) d h = cc

pub fault_is_broken : FaultIsBroken
unfolding BreaksObject
fault_is_broken classes class start bytes fault fits h =
    Agree.fault_is_broken (object_of depth_limit classes class) (standing start bytes no_words) fault fits (failed (first_at classes class start bytes) fault h)

module _ (classes : List ClassDef) (class : List ℕ) (start : ℕ) (bytes : List ℕ) (fits : AreBytes bytes) where
  by : (read : Step Value) → first_at classes class start bytes ≡ read
      → ((v : Value) × (front : List ℕ) × (rest : List ℕ) × (bytes ≡ front ++ rest) × SpellsObject classes start class v front) ⊎ ((fault : ObjFault) × BreaksObject classes start class bytes fault)
  by (Ok x) e =
      let spelled = read_is_spelled classes class start bytes x.0 x.1 fits e in
      inl (x.0, spelled.0, x.1.at.rest, spelled.1, spelled.2)
  by (Err d) e = inr (d, fault_is_broken classes class start bytes d fits (ap only_value e))

pub spelled_or_broken : SpelledOrBroken
spelled_or_broken classes class start bytes fits = by classes class start bytes fits (first_at classes class start bytes) refl

pub broken_is_not_spelled : BrokenIsNotSpelled
broken_is_not_spelled classes class start v front more fault broken spelled =
    let read = spelled_is_read classes class start v front more spelled in
    not_both (value_at classes class start (front ++ more)) fault v (broken_is_fault classes class start (front ++ more) fault broken) (ap only_value read.1)

err_is : {A E : Type 0} (x y : E) → (let r : Result A E = Err x in r) ≡ Err y → x ≡ y
err_is x y e = cc

pub broken_once : IsBrokenOnce
broken_once classes class start bytes fault other first second =
    err_is {A = Value} fault other (sym (broken_is_fault classes class start bytes fault first) ∙ broken_is_fault classes class start bytes other second)
