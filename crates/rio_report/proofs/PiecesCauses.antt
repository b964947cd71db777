-- Why a listing that is said in pieces ends so.
use Rattle.std.proofs.Common.{ℕ, Err, sym, subst, ◌∙◌}
use Rattle.rio_host.specs.Host.{Rose, View}
use Rattle.rio_close.specs.{Causes.{IsCallCause, NoDiskFault, NoKind}, declared.fault.ReportFault.{ReportFault, TheVariants.{BadFile, NoMemory, HostFault, SayFault}}}
use Rattle.rio_report.specs.PiecesCause.{IsPiecesCauseOf}

-- a fault of a call, after which lines were said
pub cause_before : (X Y : Type 0) (a b c : View) (e : ReportFault) → IsCallCause {X = X} a b (Err e) → NoDiskFault b c → IsPiecesCauseOf {X = Y} NoKind a c (Err e)
cause_before X Y a b c (BadFile place kind) cause calm = absurd cause
cause_before X Y a b c NoMemory cause calm = calm ∙ cause
cause_before X Y a b c HostFault cause calm = subst (λ (n : ℕ). Rose a.disk_faults n) (sym calm) cause
cause_before X Y a b c SayFault cause calm = absurd cause
