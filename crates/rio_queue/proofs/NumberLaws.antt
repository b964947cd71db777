-- A filler handed over no more units than there were steps.
use Rattle.std.proofs.Common.{◌≡◌, ◌∙◌, ℕ, zero, suc, ◌+◌, ◌≤◌, ◌<◌, ◌^◌, Bool, true, false, cond, List, [], ◌∷◌, length, replicate, Option, Some, None, refl, ap, subst, sym, arith}
use Rattle.std.proofs.lemmas.{Bool.{eqb-true, eqb-false}, Option.{same_Some}}
use Rattle.std.specs.List.{fold, slice_get, slice_set}
use Rattle.std.specs.Prelude.{nat_le, ◌==◌}
use Rattle.rio_queue.specs.Steps.{Row, add_effect, unit_after_hand, effect_of, hand_effect, HasNumber, empty_unit, refusal_effect, take_effect, unit_limit, unit_of, with_row}
use Rattle.rio_queue.specs.Histories.{History, NumbersSuffice, history_of, history_with, initial_history, queue_of}
use Rattle.rio_queue.specs.declared.fillers.OpenUnit.{OpenUnit}
use Rattle.rio_queue.specs.declared.steps.Step.{Step, TheVariants.{Add, Hand, Take}}
use Rattle.rio_queue.specs.declared.steps.StepReply.{TheVariants.{Added, Handed}}
use Rattle.rio_queue.specs.declared.steps.Unit.{Unit as RowUnit}
use Rattle.rio_queue.proofs.LogLaws.{get_set_other, get_set_same}

-- no filler handed over more than n units
abbrev FewHanded : ℕ → List OpenUnit → Type 0
FewHanded n fillers = (filler : ℕ) (o : OpenUnit) → slice_get fillers filler ≡ Some o → o.handed ≤ n

module _ (n : ℕ) (fillers : List OpenUnit) (few : FewHanded n fillers) where
  still_few : FewHanded (n + 1) fillers
  still_few = λ filler o there. omega (arith, few filler o there)

  set_few : (filler : ℕ) (o new : OpenUnit) → slice_get fillers filler ≡ Some o → new.handed ≤ n + 1 → FewHanded (n + 1) (slice_set fillers filler new)
  set_few filler o new there le = λ other p at. by other p at (filler == other) refl
    where
      by : (other : ℕ) (p : OpenUnit) → slice_get (slice_set fillers filler new) other ≡ Some p → (b : Bool) → (filler == other) ≡ b → p.handed ≤ n + 1
      by other p at true same =
          let is : filler ≡ other = eqb-true filler other same in
          subst (λ (u : OpenUnit). u.handed ≤ n + 1) (same_Some new p (sym (get_set_same fillers filler o new there) ∙ ap (λ (k : ℕ). slice_get (slice_set fillers filler new) k) is ∙ at)) le
      by other p at false differ = still_few other p (sym (get_set_other fillers filler other new (eqb-false filler other differ)) ∙ at)

  add_few : (filler : ℕ) (row : Row) (o : Option OpenUnit) → slice_get fillers filler ≡ o → FewHanded (n + 1) (add_effect fillers filler row o).fillers
  add_few filler row None there = still_few
  add_few filler row (Some o) there = by (nat_le unit_limit (length o.rows))
    where
      by : (b : Bool) → FewHanded (n + 1) (cond b (refusal_effect fillers 26) (record { reply = Added (length o.rows + 1); fillers = slice_set fillers filler (with_row row o); put = []; taken = 0 })).fillers
      by true = still_few
      by false = set_few filler o (with_row row o) there (still_few filler o there)

  hand_few : (cap : ℕ) (queue : List RowUnit) (filler : ℕ) (o : Option OpenUnit) → slice_get fillers filler ≡ o → FewHanded (n + 1) (hand_effect cap queue fillers filler o).fillers
  hand_few cap queue filler None there = still_few
  hand_few cap queue filler (Some o) there = by (nat_le cap (length queue)) (length o.rows == 0)
    where
      by : (b c : Bool) → FewHanded (n + 1) (cond b (refusal_effect fillers 23) (cond c (refusal_effect fillers 25) (record { reply = Handed o.handed; fillers = slice_set fillers filler (unit_after_hand o); put = unit_of filler o ∷ []; taken = 0 }))).fillers
      by true c = still_few
      by false true = still_few
      by false false = set_few filler o (unit_after_hand o) there (omega (arith, few filler o there))

  take_few : (queue : List RowUnit) → FewHanded (n + 1) (take_effect fillers queue).fillers
  take_few [] = still_few
  take_few (unit ∷ queue) = still_few

  step_few : (cap : ℕ) (queue : List RowUnit) (step : Step) → FewHanded (n + 1) (effect_of cap queue fillers step).fillers
  step_few cap queue (Add filler row) = add_few filler row (slice_get fillers filler) refl
  step_few cap queue (Hand filler) = hand_few cap queue filler (slice_get fillers filler) refl
  step_few cap queue Take = take_few queue

few_after : (cap n : ℕ) (h : History) → FewHanded n h.fillers → (steps : List Step) → FewHanded (n + length steps) (fold (history_with cap) h steps).fillers
few_after cap n h few [] = λ filler o there. omega (arith, few filler o there)
few_after cap n h few (step ∷ steps) =
    let more = few_after cap (n + 1) (history_with cap h step) (step_few n h.fillers few cap (queue_of h) step) steps in
    λ filler o there. omega (arith, more filler o there)

few_at_first : (fillers : ℕ) → FewHanded 0 (replicate fillers empty_unit)
few_at_first zero filler o there = absurd cc
few_at_first (suc n) zero o there = subst (λ (u : OpenUnit). u.handed ≤ 0) (same_Some empty_unit o there) (omega arith)
few_at_first (suc n) (suc filler) o there = few_at_first n filler o there

few_of : (cap fillers : ℕ) (steps : List Step) → FewHanded (length steps) (history_of cap fillers steps).fillers
unfolding history_of
few_of cap fillers steps =
    let more = few_after cap 0 (initial_history fillers) (few_at_first fillers) steps in
    λ filler o there. omega (arith, more filler o there)

has_number : (n : ℕ) → n < 2 ^ 32 → (p : Option OpenUnit) → ((o : OpenUnit) → p ≡ Some o → o.handed ≤ n) → HasNumber p
has_number n lt None few = tt
has_number n lt (Some o) few = omega (arith, lt, few o refl)

pub numbers_suffice : NumbersSuffice
numbers_suffice fillers steps (Add filler row) core lt after = tt
numbers_suffice fillers steps (Hand filler) core lt after =
    has_number (length steps) lt (slice_get core.fillers filler) (λ o there.
    few_of core.cap fillers steps filler o (ap (λ (l : List OpenUnit). slice_get l filler) (sym after.fillers) ∙ there))
numbers_suffice fillers steps Take core lt after = tt
