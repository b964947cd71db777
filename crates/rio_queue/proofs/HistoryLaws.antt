-- What a core keeps of a history, one step further.
use Rattle.std.proofs.Common.{◌≡◌, ◌∙◌, ℕ, ◌+◌, ◌≤◌, Bool, true, false, cond, List, [], ◌∷◌, ◌++◌, length, take, drop, Option, Some, None, refl, ap, subst, sym, arith, length-append, length-drop}
use Rattle.std.proofs.lemmas.List.{drop-append-le, drop-drop, take-append-drop, take-append-le, take-take, drop-take}
use Rattle.std.proofs.lemmas.List.Sums.{fold_push}
use Rattle.std.specs.List.{slice_get, slice_set}
use Rattle.std.specs.Prelude.{nat_le, ◌==◌}
use Rattle.rio_queue.specs.Steps.{CoreState, Effect, IsStep, Row, add_effect, unit_after_hand, core_effect, core_after, effect_of, hand_effect, refusal_effect, take_effect, unit_limit, unit_of, with_row}
use Rattle.rio_queue.specs.Histories.{History, IsAfter, KeepsHistory, effect_in, history_of, history_with, initial_history, queue_of, reply_after, unit_in}
use Rattle.rio_queue.specs.declared.fillers.OpenUnit.{OpenUnit}
use Rattle.rio_queue.specs.declared.steps.Step.{Step, TheVariants.{Add, Hand, Take}}
use Rattle.rio_queue.specs.declared.steps.StepReply.{StepReply, TheVariants.{Added, Handed}}
use Rattle.rio_queue.specs.declared.steps.Unit.{Unit as RowUnit}

-- ---- what a step takes from the queue

-- it takes the units that its reply gives, which stand at the front of the queue
pub record Gives (queue : List RowUnit) (d : Effect) : Type 0 where
  pub front : unit_in d.reply ≡ take d.taken queue
  pub there : d.taken ≤ length queue

none_given : (queue : List RowUnit) (d : Effect) → unit_in d.reply ≡ [] → d.taken ≡ 0 → Gives queue d
none_given queue d none zero_is = record {
  front = none ∙ ap (λ (n : ℕ). take n queue) (sym zero_is);
  there = omega (arith, zero_is);
}

add_gives : (queue : List RowUnit) (fillers : List OpenUnit) (filler : ℕ) (row : Row) (o : Option OpenUnit) → Gives queue (add_effect fillers filler row o)
add_gives queue fillers filler row None = none_given queue _ refl refl
add_gives queue fillers filler row (Some o) = by (nat_le unit_limit (length o.rows))
  where
    by : (b : Bool) → Gives queue (cond b (refusal_effect fillers 26) (record { reply = Added (length o.rows + 1); fillers = slice_set fillers filler (with_row row o); put = []; taken = 0 }))
    by true = none_given queue _ refl refl
    by false = none_given queue _ refl refl

hand_gives : (cap : ℕ) (queue : List RowUnit) (fillers : List OpenUnit) (filler : ℕ) (o : Option OpenUnit) → Gives queue (hand_effect cap queue fillers filler o)
hand_gives cap queue fillers filler None = none_given queue _ refl refl
hand_gives cap queue fillers filler (Some o) = by (nat_le cap (length queue)) (length o.rows == 0)
  where
    by : (b c : Bool) → Gives queue (cond b (refusal_effect fillers 23) (cond c (refusal_effect fillers 25) (record { reply = Handed o.handed; fillers = slice_set fillers filler (unit_after_hand o); put = unit_of filler o ∷ []; taken = 0 })))
    by true c = none_given queue _ refl refl
    by false true = none_given queue _ refl refl
    by false false = none_given queue _ refl refl

take_gives : (fillers : List OpenUnit) (queue : List RowUnit) → Gives queue (take_effect fillers queue)
take_gives fillers [] = none_given [] _ refl refl
take_gives fillers (unit ∷ queue) = record { front = refl; there = omega arith }

pub gives : (cap : ℕ) (queue : List RowUnit) (fillers : List OpenUnit) (step : Step) → Gives queue (effect_of cap queue fillers step)
gives cap queue fillers (Add filler row) = add_gives queue fillers filler row (slice_get fillers filler)
gives cap queue fillers (Hand filler) = hand_gives cap queue fillers filler (slice_get fillers filler)
gives cap queue fillers Take = take_gives fillers queue

-- ---- lists from whose front some items are taken

module _ {X : Type 0} (xs ys : List X) (t n : ℕ) (le : t + n ≤ length xs) where
  pub dropped_more : drop (t + n) (xs ++ ys) ≡ drop n (drop t xs) ++ ys
  dropped_more = drop-append-le (t + n) xs ys le ∙ ap (λ (l : List X). l ++ ys) (sym (drop-drop n t xs))

  pub taken_more : take (t + n) (xs ++ ys) ≡ take t xs ++ take n (drop t xs)
  taken_more =
      take-append-le (t + n) xs ys le
      ∙ sym (take-append-drop t (take (t + n) xs))
      ∙ ap (λ (l : List X). l ++ drop t (take (t + n) xs)) (take-take t (t + n) xs (omega arith))
      ∙ ap (λ (l : List X). take t xs ++ l) (drop-take t n xs)

-- ---- histories

module _ (cap : ℕ) (h : History) (within : h.taken ≤ length h.handed) (step : Step) where
  few : h.taken + (effect_in cap h step).taken ≤ length h.handed
  few = omega (arith, within, (gives cap (queue_of h) h.fillers step).there, length-drop h.taken h.handed)

  pub within_with : (history_with cap h step).taken ≤ length (history_with cap h step).handed
  within_with = omega (arith, few, length-append h.handed (effect_in cap h step).put)

  pub queue_with : queue_of (history_with cap h step) ≡ drop (effect_in cap h step).taken (queue_of h) ++ (effect_in cap h step).put
  queue_with = dropped_more h.handed (effect_in cap h step).put h.taken (effect_in cap h step).taken few

  pub given_with : take (history_with cap h step).taken (history_with cap h step).handed ≡ take h.taken h.handed ++ unit_in (effect_in cap h step).reply
  given_with =
      taken_more h.handed (effect_in cap h step).put h.taken (effect_in cap h step).taken few
      ∙ ap (λ (l : List RowUnit). take h.taken h.handed ++ l) (sym (gives cap (queue_of h) h.fillers step).front)

-- ---- a core

module _ (h : History) (step : Step) (reply : StepReply) (old new : CoreState) (does : IsStep old step reply new) (keeps : KeepsHistory h old) where
  same_effect : core_effect old step ≡ effect_in old.cap h step
  same_effect = λ i. effect_of old.cap (keeps.queue i) (keeps.fillers i) step

  pub reply_kept : reply ≡ (effect_in old.cap h step).reply
  reply_kept = does.reply_is ∙ ap (λ (d : Effect). d.reply) same_effect

  is_with : new ≡ core_after old (effect_in old.cap h step)
  is_with = does.core_is ∙ ap (core_after old) same_effect

  pub cap_kept : new.cap ≡ old.cap
  cap_kept = ap (λ (c : CoreState). c.cap) is_with

  pub core_kept : KeepsHistory (history_with old.cap h step) new
  core_kept = record {
    queue =
        ap (λ (c : CoreState). c.queue) is_with
        ∙ ap (λ (q : List RowUnit). drop (effect_in old.cap h step).taken q ++ (effect_in old.cap h step).put) keeps.queue
        ∙ sym (queue_with old.cap h keeps.within step);
    fillers = ap (λ (c : CoreState). c.fillers) is_with;
    within = within_with old.cap h keeps.within step;
  }

-- ---- a core behind a list of steps

pub history_more : (cap fillers : ℕ) (steps : List Step) (step : Step) → history_of cap fillers (steps ++ step ∷ []) ≡ history_with cap (history_of cap fillers steps) step
unfolding history_of
history_more cap fillers steps step = fold_push (history_with cap) (initial_history fillers) steps step

module _ (fillers : ℕ) (steps : List Step) (step : Step) (reply : StepReply) (old new : CoreState) (does : IsStep old step reply new) (after : IsAfter fillers steps old) where
  pub step_replies : reply ≡ reply_after old.cap fillers steps step
  step_replies = reply_kept (history_of old.cap fillers steps) step reply old new does after

  pub step_keeps : IsAfter fillers (steps ++ step ∷ []) new
  step_keeps =
      subst (λ (cap : ℕ). KeepsHistory (history_of cap fillers (steps ++ step ∷ [])) new) (sym (cap_kept (history_of old.cap fillers steps) step reply old new does after))
      (subst (λ (h : History). KeepsHistory h new) (sym (history_more old.cap fillers steps step)) (core_kept (history_of old.cap fillers steps) step reply old new does after))

pub starts : (cap fillers : ℕ) (core : CoreState) → core.cap ≡ cap → core.queue ≡ [] → core.fillers ≡ (initial_history fillers).fillers → IsAfter fillers [] core
unfolding history_of
starts cap fillers core cap_is queue_is fillers_is = record { queue = queue_is; fillers = fillers_is; within = omega arith }
