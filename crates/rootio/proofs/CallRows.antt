-- Calls one after the other on one file.
use Rattle.std.proofs.Common.{◌≡◌, ◌⊎◌, inl, inr, ⊎_elim, ℕ, ◌≤◌, List, [], ◌∷◌, Some, refl, sym, subst, ◌∙◌, arith}
use Rattle.rio_host.specs.{Host.{Elapses, IsLawful, Leaves, View}, Source.{Input}}
use Rattle.rio_machine.specs.State.{State}
use Rattle.rio_step.specs.Runs.{saved_of}
use Rattle.rio_state.specs.{Left.{ReadsClosedUnlessOpen}, Reads.{ReadsAsState}}
use Rattle.rio_state.proofs.OneState.{reads_one}
use Rattle.rootio.specs.{Headline.{IsStopOf}, InARow.{AreCalls, Call, CallsInARow, HoldsPrefixOf, IsCallOn, IsUnbegun, LeadsTo, LeavesCalls, run_at}}
use Rattle.rootio.specs.{Writing.{Beginning, BeginsRun, IsInputOf, KeepsHeadline, run_of_work}, declared.status.Status.{Status}, declared.words.Work.{Work}}

-- ---- one call after the other

module _ (file : List ℕ) (m : State) (c : Call) (reads : ReadsAsState file m) (is : IsCallOn file c) where
  -- the file reads as the state with which the call begins
  same_start : c.begins.state ≡ m
  same_start = reads_one file c.begins.state m (subst (λ (f : List ℕ). ReadsAsState f c.begins.state) is.file_is is.reads) reads

  unbegun : IsUnbegun c → (next : State) × LeadsTo c m next
  unbegun u = (
    m,
    record {
      reads = subst (λ (f : List ℕ). ReadsAsState f m) (sym (u.image ∙ is.file_is)) reads;
      closed = λ before. subst (λ (f : List ℕ). ReadsClosedUnlessOpen f m) (sym u.image) before;
      prefix = inl (u, refl);
    },
  )

  begun : IsStopOf (run_at c m) c.begins.file c.begins.text c.image c.said → (next : State) × LeadsTo c m next
  begun s = (
    saved_of s.prefix.state,
    record {
      reads = s.prefix.reads;
      closed = s.prefix.closed;
      prefix = inr (record { j = s.j; k = s.k; replies = s.replies; state = s.prefix.state; state_is = s.prefix.state_is; saved = refl; holds = s.holds; next = s.next });
    },
  )

  one_call : (next : State) × LeadsTo c m next
  one_call = ⊎_elim unbegun (λ s. begun (subst (λ (n : State). IsStopOf (run_at c n) c.begins.file c.begins.text c.image c.said) same_start s)) is.left

pub calls_lead : CallsInARow
calls_lead file image m [] reads same =
    (m, subst (λ (f : List ℕ). ReadsAsState f m) same reads, (λ before. subst (λ (f : List ℕ). ReadsClosedUnlessOpen f m) same before), refl)
calls_lead file image m (c ∷ calls) reads are =
    let one = one_call file m c reads are.0 in
    let others = calls_lead c.image image one.0 calls one.1.reads are.1 in
    let closed : ReadsClosedUnlessOpen file m → ReadsClosedUnlessOpen c.image one.0 =
    λ before. one.1.closed (subst (λ (f : List ℕ). ReadsClosedUnlessOpen f m) (sym are.0.file_is) before) in
    (others.0, others.1, (λ before. others.2 (closed before)), (one.0, one.1, others.3))

-- ---- what the headline says of one call

pub leaves_calls : (work : Work) (old new : View) (before after : Input) (status : Status) → IsLawful old → KeepsHeadline work old new before after status → LeavesCalls work old new before
leaves_calls work old new before after status law keeps b begins input image said left =
    let time : Elapses old new (IsStopOf (run_of_work work b) b.file b.text) = keeps.stops b begins input in
    let same : old.now ≤ old.now = omega arith in
    record {
      file_is = refl;
      reads = begins.reads;
      begins = begins.begins;
      listing = begins.listing;
      left = ⊎_elim (λ was. inl (record { image = begins.quiet image said b.file was begins.holds; said = law.text image said b.text was begins.said })) (λ s. inr s)
          (time.nothing_else old.now image said same left);
    }
