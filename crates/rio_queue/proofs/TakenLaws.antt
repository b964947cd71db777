-- The units that are taken.
use Rattle.std.proofs.Common.{◌≡◌, ◌∙◌, ℕ, ◌≤◌, List, [], ◌∷◌, ◌++◌, length, take, refl, ap, sym, arith}
use Rattle.std.specs.List.{fold}
use Rattle.rio_queue.specs.Histories.{History, effect_in, history_of, history_with, initial_history, unit_in}
use Rattle.rio_queue.specs.Logs.{Log, TakenInOrder, log_of, log_with, units_taken}
use Rattle.rio_queue.specs.declared.steps.Step.{Step}
use Rattle.rio_queue.specs.declared.steps.Unit.{Unit as RowUnit}
use Rattle.rio_queue.proofs.HistoryLaws.{given_with, within_with}
use Rattle.rio_queue.proofs.LogLaws.{history_is_logged}

all_taken : (cap : ℕ) (h : History) (log : Log) → h.taken ≤ length h.handed → units_taken log ≡ take h.taken h.handed → (steps : List Step)
    → units_taken (log_with cap h log steps) ≡ take (fold (history_with cap) h steps).taken (fold (history_with cap) h steps).handed
all_taken cap h log within is [] = is
all_taken cap h log within is (step ∷ steps) =
    all_taken cap (history_with cap h step) (record { step = step; reply = (effect_in cap h step).reply } ∷ log) (within_with cap h within step)
    (ap (λ (l : List RowUnit). l ++ unit_in (effect_in cap h step).reply) is ∙ sym (given_with cap h within step))
    steps

taken_by_history : (cap fillers : ℕ) (steps : List Step) → units_taken (log_of cap fillers steps) ≡ take (history_of cap fillers steps).taken (history_of cap fillers steps).handed
unfolding history_of
taken_by_history cap fillers steps = all_taken cap (initial_history fillers) [] (omega arith) refl steps

pub taken_in_order : TakenInOrder
taken_in_order cap fillers steps =
    let is = history_is_logged cap fillers steps in
    taken_by_history cap fillers steps ∙ (λ i. take (is.taken i) (is.handed i))
