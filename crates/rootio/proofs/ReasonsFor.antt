-- The first reason against what a verb does to a file.
use Rattle.std.proofs.Common.{◌≡◌, ◌∙◌, ℕ, Bool, true, false, List, Option, None, Some, MatchBool, sym}
use Rattle.rio_chain.specs.Walks.{Told}
use Rattle.rio_dir.specs.Unborn.{is_unborn}
use Rattle.rio_host.specs.Host.{View}
use Rattle.rio_state.specs.Reasons.{IsFirstReason, IsReasonOfMade, ReasonAt}
use Rattle.rio_state.proofs.OneReason.{reason_one}
use Rattle.rootio.specs.{Writing.{IsFirstReasonFor, not_new}, declared.words.Work.{Work, TheVariants.{Run, Recover, Import, Generate}}}

-- the verb takes the file, as far as it is told: any that can be opened, or one that isn't made yet
abbrev pub Takes : Work → View → Type 0
Takes (Run target) v = Unit {0}
Takes (Recover target) v = Unit {0}
Takes (Import target words) v = Unit {0}
Takes (Generate target entries) v = Told v (λ file. is_unborn file ≡ true)

same_reason : (unborn : Bool) (x y : Option ReasonAt) → MatchBool unborn (x ≡ None) (x ≡ Some not_new) → MatchBool unborn (y ≡ None) (y ≡ Some not_new) → x ≡ y
same_reason true x y p q = p ∙ sym q
same_reason false x y p q = p ∙ sym q

pub reason_for_one : (work : Work) (file : List ℕ) (x y : Option ReasonAt) → IsFirstReasonFor work file x → IsFirstReasonFor work file y → x ≡ y
reason_for_one (Run target) file x y p q = reason_one file x y p q
reason_for_one (Recover target) file x y p q = reason_one file x y p q
reason_for_one (Import target words) file x y p q = reason_one file x y p q
reason_for_one (Generate target entries) file x y p q = same_reason (is_unborn file) x y p q

none_against : (made : Type 0) (unborn : Bool) (x : ReasonAt) → unborn ≡ true → MatchBool unborn (◌≡◌ {A = Option ReasonAt} (Some x) None) made → ⊥
none_against made true x is p = cc
none_against made false x is p = cc

module _ (v : View) (file : List ℕ) (here : v.holds ≡ Some file) (x : ReasonAt) where
  pub reason_given : (work : Work) → Takes work v → IsFirstReason file (Some x) → IsFirstReasonFor work file (Some x)
  reason_given (Run target) takes first = first
  reason_given (Recover target) takes first = first
  reason_given (Import target words) takes first = first
  reason_given (Generate target entries) takes first = absurd (none_against (IsReasonOfMade file (Some x)) (is_unborn file) x (takes file here) first)

  pub reason_taken : (work : Work) → Takes work v → IsFirstReasonFor work file (Some x) → IsFirstReason file (Some x)
  reason_taken (Run target) takes first = first
  reason_taken (Recover target) takes first = first
  reason_taken (Import target words) takes first = first
  reason_taken (Generate target entries) takes first =
      absurd (none_against (◌≡◌ {A = Option ReasonAt} (Some x) (Some not_new)) (is_unborn file) x (takes file here) first)
