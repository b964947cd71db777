-- Where nothing fails, all is done unless memory runs out.
use Rattle.std.proofs.Common.{◌≡◌, ℕ, List, true, Some, None, subst, refl, arith}
use Rattle.rio_head.specs.{declared.fault.HeadFault.{HeadFault}, Head.{fault_at}}
use Rattle.rio_host.specs.{Host.{View}, Source.{Input}}
use Rattle.rio_dir.specs.Unborn.{header_fault}
use Rattle.rio_report.specs.FirstFault.{first_fault}
use Rattle.rio_state.specs.Reasons.{ReasonAt, reason_at}
use Rattle.rio_state.proofs.MeetsNoReason.{meets_no_reason}
use Rattle.rootio.specs.{Causes.{IsCause}, Complete.{CanBeDone, IsComplete}, Input.{TellsTooLong}, Reading.{TellsFirstFault, reads_input, rules_of}}
use Rattle.rootio.specs.Writing.{IsReasonFor, TellsFirstReason}
use Rattle.rootio.specs.declared.status.Status.{Status, TheVariants.{Done, Usage, BadFile, DiskFault, InputFault, NoMemory, InputTooLong, ReadOnly, SayFault}}
use Rattle.rootio.specs.{declared.words.Form.{Form, TheVariants.{Reads, Writes}}, declared.words.Work.TheVariants.{Run, Recover, Import, Generate}}
use Rattle.rootio.proofs.ReasonsFor.{reason_for_one}

-- words that have a form aren't refused
pub formed : (form : Form) (old new : View) (before after : Input) (status : Status) → IsCause (Some form) old new before after status → status ≡ Usage → ⊥
formed form old new before after status cause is =
    let none : IsCause (Some form) old new before after Usage = subst (λ (s : Status). IsCause (Some form) old new before after s) is cause in
    let e : Some form ≡ None = none.0 in
    cc

module _ (old new : View) (before after : Input) where
  not_bad_file : (form : Form) → CanBeDone form old before → (p : HeadFault) → ((file : List ℕ) → old.holds ≡ Some file → first_fault (rules_of form) file ≡ Some p) → ⊥
  not_bad_file (Reads list) can p tells = let is = tells can.file can.holds in let sound = can.sound in cc
  not_bad_file (Writes work) can p tells =
      let none : header_fault can.file ≡ None = (meets_no_reason can.file can.state can.reads).fault in
      let is : header_fault can.file ≡ Some p = tells can.file can.holds in cc

  not_read_only : (form : Form) → CanBeDone form old before → (r : ReasonAt) → ((file : List ℕ) → old.holds ≡ Some file → IsReasonFor form file r) → ⊥
  not_read_only (Reads list) can r tells = tells can.file can.holds
  not_read_only (Writes work) can r tells =
      let none : Some r ≡ None = reason_for_one work can.file (Some r) None (tells can.file can.holds).1 can.free in
      cc

  not_too_long : (form : Form) → CanBeDone form old before → reads_input (Some form) ≡ true → TellsTooLong before InputTooLong → ⊥
  not_too_long (Reads list) can reads tells = cc
  not_too_long (Writes (Run target)) can reads tells = omega (arith, tells refl can.input.0 can.input.1, can.input.2)
  not_too_long (Writes (Recover target)) can reads tells = cc
  not_too_long (Writes (Import target words)) can reads tells = omega (arith, tells refl can.input.0 can.input.1, can.input.2)
  not_too_long (Writes (Generate target entries)) can reads tells = cc

  pub completes : (form : Form) (status : Status) → TellsFirstFault (rules_of form) old status → TellsFirstReason form old status
      → TellsTooLong before status → IsCause (Some form) old new before after status → IsComplete form old new before after status
  completes form Done faults reasons long cause can none = tt
  completes form Usage faults reasons long cause can none = formed form old new before after Usage cause refl
  completes form (BadFile place kind) faults reasons long cause can none =
      not_bad_file form can (fault_at place kind) (λ file here. faults place kind refl file here)
  completes form DiskFault faults reasons long cause can none = none.disk cause.0
  completes form InputFault faults reasons long cause can none = none.input cause.3
  completes form NoMemory faults reasons long cause can none = tt
  completes form InputTooLong faults reasons long cause can none = not_too_long form can cause.0 long
  completes form (ReadOnly place reason) faults reasons long cause can none =
      not_read_only form can (reason_at place reason) (λ file here. reasons place reason refl file here)
  completes form SayFault faults reasons long cause can none = none.say cause.1
