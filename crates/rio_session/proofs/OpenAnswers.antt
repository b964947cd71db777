-- What is answered of a file that is opened.
use Rattle.std.proofs.Common.{◌≡◌, inl, ℕ, List, Option, Some, None, Bool, true, if◌then◌else◌, Result, Err, refl, sym, ap, subst, ◌∙◌}
use Rattle.std.specs.Prelude.{MatchBool}
use Rattle.std.proofs.lemmas.Option.{none-some}
use Rattle.rio_create.specs.declared.fault.CreateFault.{CreateFault, TheVariants.{NoMemory as NoRoomToMake, HostFault as NotMade}}
use Rattle.rio_head.specs.{Head.{head_at}}
use Rattle.rio_host.specs.{Host.{Any, Becomes, IsLawful, IsQuiet, View}, Image.{Same}, OnlyReads.{OnlyReads}}
use Rattle.rio_host.proofs.{Images.{becomes_as, same_becomes}, ReadsLaws.{left_before, reads_join}}
use Rattle.rio_dir.specs.{Closed.{fault_of}, Unborn.{header_fault, is_unborn}}
use Rattle.rio_recover.specs.Recovered.{IsAnswer}
use Rattle.rio_recover.specs.declared.fault.RecoverFault.{RecoverFault, TheVariants.{BadFile, ReadOnly, NoMemory, HostFault}}
use Rattle.rio_state.specs.Reasons.{IsFirstReason, IsReasonOfMade, ReasonAt}
use Rattle.rio_state.proofs.OneReason.{reason_one}
use Rattle.rio_session.specs.declared.fault.OpenFault.{OpenFault}
use Rattle.rio_session.specs.Opening.{LeavesFileOrUnclosed, SparesFile, TellsWhyNot, fault_of_making, fault_of_recovery}

-- ---- a file that is only read

-- calls that only read, and then calls that spare the file
pub spares_then : (file : List ℕ) (a b c : View) → IsLawful b → OnlyReads a b → SparesFile file b c → SparesFile file a c
spares_then file a b c law calls spared = record {
  broken = λ fault is. reads_join law calls (spared.broken fault is);
  reason = λ against is. reads_join law calls (spared.reason against is);
}

pub reads_quiet : (a b : View) → IsLawful b → IsQuiet a → OnlyReads a b → IsQuiet b
reads_quiet a b law quiet calls image said bytes left holds = quiet image said bytes (left_before law calls image said left) (sym calls.holds ∙ holds)

pub reads_unclosed : (file : List ℕ) (a b : View) → IsLawful b → IsQuiet a → a.holds ≡ Some file → OnlyReads a b → LeavesFileOrUnclosed file b
reads_unclosed file a b law quiet holds calls image said left = inl (quiet image said file (left_before law calls image said left) holds)

pub reads_told : (a b : View) → OnlyReads a b → Becomes Any a.holds b.holds
reads_told a b calls = becomes_as Same Any a.holds b.holds (λ x y e. tt) (same_becomes a.holds b.holds calls.holds)

-- ---- a file against which nothing stands

pub spares_none : (file : List ℕ) (old new : View) → header_fault file ≡ None → IsFirstReason file None → SparesFile file old new
spares_none file old new sound none = record {
  broken = λ fault is. absurd (none-some fault (sym sound ∙ is));
  reason = λ against is. absurd (none-some against (reason_one file None (Some against) none is));
}

-- ---- faults

why_not_read : (X : Type 0) (file : List ℕ) (e : RecoverFault) → IsAnswer (Err e) file → TellsWhyNot file {X = X} (Err (fault_of_recovery e))
why_not_read X file (BadFile place kind) is = is
why_not_read X file (ReadOnly place reason) is = is
why_not_read X file NoMemory is = tt
why_not_read X file HostFault is = tt

pub tells_why : {X : Type 0} (file : List ℕ) (result : Result X OpenFault) (fault : OpenFault) (e : RecoverFault) → result ≡ Err fault → fault ≡ fault_of_recovery e → IsAnswer (Err e) file
    → TellsWhyNot file result
tells_why {X} file result fault e is same answer =
    subst (λ (r : Result X OpenFault). TellsWhyNot file r) (sym is) (subst (λ (f : OpenFault). TellsWhyNot file {X = X} (Err f)) (sym same) (why_not_read X file e answer))

-- a file that isn't made yet breaks no rule, and nothing stands against making it
pub unborn_sound : (file : List ℕ) → is_unborn file ≡ true → (header_fault file ≡ None) × IsFirstReason file None
unborn_sound file unborn = (
  ap (λ (b : Bool). if b then None else fault_of (head_at file)) unborn,
  subst (λ (b : Bool). MatchBool b (none ≡ none) (IsReasonOfMade file none)) (sym unborn) refl,
)
  where
    none : Option ReasonAt
    none = None

why_not_made : (X : Type 0) (file : List ℕ) (e : CreateFault) → TellsWhyNot file {X = X} (Err (fault_of_making e))
why_not_made X file NoRoomToMake = tt
why_not_made X file NotMade = tt

pub tells_why_new : {X : Type 0} (file : List ℕ) (result : Result X OpenFault) (fault : OpenFault) (e : CreateFault) → result ≡ Err fault → fault ≡ fault_of_making e → TellsWhyNot file result
tells_why_new {X} file result fault e is same =
    subst (λ (r : Result X OpenFault). TellsWhyNot file r) (sym is) (subst (λ (f : OpenFault). TellsWhyNot file {X = X} (Err f)) (sym same) (why_not_made X file e))
