-- A history is that of its log.
use Rattle.std.proofs.Common.{◌≡◌, ◌∙◌, ℕ, zero, suc, ◌+◌, ◌<◌, ◌≤◌, Bool, true, false, cond, List, [], ◌∷◌, ◌++◌, length, replicate, drop, Option, Some, None, refl, ap, subst, sym, arith}
use Rattle.std.proofs.lemmas.{Bool.{eqb-true, eqb-false, leb-true, leb-false}, List.{length-replicate}, Option.{same_Some, slice_get_past}}
use Rattle.std.specs.Option.{option_map}
use Rattle.std.specs.List.{fold, slice_get, slice_set}
use Rattle.std.specs.Prelude.{nat_le, ◌==◌}
use Rattle.rio_queue.specs.Steps.{Effect, Row, add_effect, effect_of, empty_unit, hand_effect, refusal_effect, take_effect, unit_after_hand, unit_limit, unit_of, with_row}
use Rattle.rio_queue.specs.Histories.{History, effect_in, history_of, history_with, initial_history, queue_of, reply_after, unit_in}
use Rattle.rio_queue.specs.Logs.{HistoryIsLogged, IsLogged, Log, LogGrows, Logged, RepliesByLog, handed_in, hands_in, hands_with, log_of, log_with, open_in, queue_in, reply_in, rows_since, rows_with, taken_reply, takes_in, unit_handed}
use Rattle.rio_queue.specs.declared.fillers.OpenUnit.{OpenUnit}
use Rattle.rio_queue.specs.declared.steps.Step.{Step, TheVariants.{Add, Hand, Take}}
use Rattle.rio_queue.specs.declared.steps.StepReply.{StepReply, TheVariants.{Added, Handed, Taken, Refused}}
use Rattle.rio_queue.specs.declared.steps.Unit.{Unit as RowUnit}

-- ---- lists

pub get_set_same : {X : Type 0} (xs : List X) (i : ℕ) (x y : X) → slice_get xs i ≡ Some x → slice_get (slice_set xs i y) i ≡ Some y
get_set_same [] i x y e = absurd cc
get_set_same (z ∷ zs) zero x y e = refl
get_set_same (z ∷ zs) (suc i) x y e = get_set_same zs i x y e

pub get_set_other : {X : Type 0} (xs : List X) (i j : ℕ) (y : X) → (i ≡ j → ⊥) → slice_get (slice_set xs i y) j ≡ slice_get xs j
get_set_other [] i j y differ = refl
get_set_other (z ∷ zs) zero zero y differ = absurd (differ refl)
get_set_other (z ∷ zs) zero (suc j) y differ = refl
get_set_other (z ∷ zs) (suc i) zero y differ = refl
get_set_other (z ∷ zs) (suc i) (suc j) y differ = get_set_other zs i j y (λ e. differ (ap suc e))

get_replicate : {X : Type 0} (n i : ℕ) (x : X) → i < n → slice_get (replicate n x) i ≡ Some x
get_replicate zero i x lt = absurd (omega (arith, lt))
get_replicate (suc n) zero x lt = refl
get_replicate (suc n) (suc i) x lt = get_replicate n i x (omega (arith, lt))

-- ---- open units

-- an open unit after a step with this reply
abbrev open_with : ℕ → Step → StepReply → OpenUnit → OpenUnit
open_with filler step reply o = record { rows = rows_with filler step reply o.rows; handed = hands_with filler step reply o.handed }

open_more : (fillers filler : ℕ) (l : Logged) (log : Log) → open_in fillers (l ∷ log) filler ≡ option_map (open_with filler l.step l.reply) (open_in fillers log filler)
open_more fillers filler l log = by (nat_le fillers filler)
  where
    by : (b : Bool) → cond b None (Some (open_with filler l.step l.reply (record { rows = rows_since filler log; handed = hands_in filler log }))) ≡ option_map (open_with filler l.step l.reply) (cond b None (Some (record { rows = rows_since filler log; handed = hands_in filler log })))
    by true = refl
    by false = refl

map_same : (h : OpenUnit → OpenUnit) → ((o : OpenUnit) → h o ≡ o) → (p : Option OpenUnit) → p ≡ option_map h p
map_same h same None = refl
map_same h same (Some o) = ap Some (sym (same o))

-- one open unit is another one
module _ (fillers : List OpenUnit) (filler : ℕ) (o : OpenUnit) (there : slice_get fillers filler ≡ Some o) (f : OpenUnit → OpenUnit) where
  set_open : (other : ℕ) (h : OpenUnit → OpenUnit) → ((p : OpenUnit) → h p ≡ cond (filler == other) (f p) p) → slice_get (slice_set fillers filler (f o)) other ≡ option_map h (slice_get fillers other)
  set_open other h is = by (filler == other) refl
    where
      by : (b : Bool) → (filler == other) ≡ b → slice_get (slice_set fillers filler (f o)) other ≡ option_map h (slice_get fillers other)
      by true same =
          let k : filler ≡ other = eqb-true filler other same in
          ap (λ (j : ℕ). slice_get (slice_set fillers filler (f o)) j) (sym k)
          ∙ get_set_same fillers filler o (f o) there
          ∙ ap Some (sym (is o ∙ ap (λ (c : Bool). cond c (f o) o) same))
          ∙ ap (option_map h) (sym there ∙ ap (λ (j : ℕ). slice_get fillers j) k)
      by false differ =
          get_set_other fillers filler other (f o) (eqb-false filler other differ)
          ∙ map_same h (λ p. is p ∙ ap (λ (c : Bool). cond c (f p) p) differ) (slice_get fillers other)

-- ---- one step

-- what a step does is what the log has of it
record IsLoggedEffect (log : Log) (fillers : List OpenUnit) (step : Step) (d : Effect) : Type 0 where
  pub put : d.put ≡ unit_handed step d.reply log
  pub taken : d.taken ≡ length (unit_in d.reply)
  pub open_units : (filler : ℕ) → slice_get d.fillers filler ≡ option_map (open_with filler step d.reply) (slice_get fillers filler)

module _ (log : Log) (fillers : List OpenUnit) (n : ℕ) (open_is : (filler : ℕ) → slice_get fillers filler ≡ open_in n log filler) where
  add_refused : (filler : ℕ) (row : Row) (number : ℕ) → IsLoggedEffect log fillers (Add filler row) (refusal_effect fillers number)
  add_refused filler row number = record { put = refl; taken = refl; open_units = λ other. map_same _ (λ o. refl) (slice_get fillers other) }

  hand_refused : (filler number : ℕ) → IsLoggedEffect log fillers (Hand filler) (refusal_effect fillers number)
  hand_refused filler number = record { put = refl; taken = refl; open_units = λ other. map_same _ (λ o. refl) (slice_get fillers other) }

  -- the open unit of a filler that is there
  open_is_logged : (filler : ℕ) (o : OpenUnit) → slice_get fillers filler ≡ Some o → o ≡ record { rows = rows_since filler log; handed = hands_in filler log }
  open_is_logged filler o there = by (nat_le n filler) (sym there ∙ open_is filler)
    where
      by : (b : Bool) → Some o ≡ cond b None (Some (record { rows = rows_since filler log; handed = hands_in filler log })) → o ≡ record { rows = rows_since filler log; handed = hands_in filler log }
      by true e = absurd cc
      by false e = same_Some o _ e

  add_logged : (filler : ℕ) (row : Row) (o : Option OpenUnit) → slice_get fillers filler ≡ o → IsLoggedEffect log fillers (Add filler row) (add_effect fillers filler row o)
  add_logged filler row None there = add_refused filler row 22
  add_logged filler row (Some o) there = by (nat_le unit_limit (length o.rows))
    where
      rows_set : (b : Bool) (p : OpenUnit) → record { rows = cond b (p.rows ++ row ∷ []) p.rows; handed = p.handed } ≡ cond b (with_row row p) p
      rows_set true p = refl
      rows_set false p = refl

      by : (b : Bool) → IsLoggedEffect log fillers (Add filler row) (cond b (refusal_effect fillers 26) (record { reply = Added (length o.rows + 1); fillers = slice_set fillers filler (with_row row o); put = []; taken = 0 }))
      by true = add_refused filler row 26
      by false = record { put = refl; taken = refl; open_units = λ other. set_open fillers filler o there (with_row row) other _ (rows_set (filler == other)) }

  hand_logged : (cap : ℕ) (queue : List RowUnit) (filler : ℕ) (o : Option OpenUnit) → slice_get fillers filler ≡ o → IsLoggedEffect log fillers (Hand filler) (hand_effect cap queue fillers filler o)
  hand_logged cap queue filler None there = hand_refused filler 22
  hand_logged cap queue filler (Some o) there = by (nat_le cap (length queue)) (length o.rows == 0)
    where
      unit_set : (b : Bool) (p : OpenUnit) → record { rows = cond b [] p.rows; handed = cond b (p.handed + 1) p.handed } ≡ cond b (unit_after_hand p) p
      unit_set true p = refl
      unit_set false p = refl

      by : (b c : Bool) → IsLoggedEffect log fillers (Hand filler) (cond b (refusal_effect fillers 23) (cond c (refusal_effect fillers 25) (record { reply = Handed o.handed; fillers = slice_set fillers filler (unit_after_hand o); put = unit_of filler o ∷ []; taken = 0 })))
      by true c = hand_refused filler 23
      by false true = hand_refused filler 25
      by false false = record {
        put = ap (λ (p : OpenUnit). unit_of filler p ∷ []) (open_is_logged filler o there);
        taken = refl;
        open_units = λ other. set_open fillers filler o there unit_after_hand other _ (unit_set (filler == other));
      }

  take_logged : (queue : List RowUnit) → IsLoggedEffect log fillers Take (take_effect fillers queue)
  take_logged [] = record { put = refl; taken = refl; open_units = λ other. map_same _ (λ o. refl) (slice_get fillers other) }
  take_logged (unit ∷ queue) = record { put = refl; taken = refl; open_units = λ other. map_same _ (λ o. refl) (slice_get fillers other) }

  step_logged : (cap : ℕ) (queue : List RowUnit) (step : Step) → IsLoggedEffect log fillers step (effect_of cap queue fillers step)
  step_logged cap queue (Add filler row) = add_logged filler row (slice_get fillers filler) refl
  step_logged cap queue (Hand filler) = hand_logged cap queue filler (slice_get fillers filler) refl
  step_logged cap queue Take = take_logged queue

-- ---- a list of steps

module _ (cap fillers : ℕ) where
  history_logged : (h : History) (log : Log) → IsLogged fillers log h → (step : Step) → IsLogged fillers (record { step = step; reply = (effect_in cap h step).reply } ∷ log) (history_with cap h step)
  history_logged h log is step =
      let d = effect_in cap h step in
      let logged = step_logged log h.fillers fillers is.open_units cap (queue_of h) step in
      record {
        handed = (λ i. is.handed i ++ logged.put i);
        taken = (λ i. is.taken i + logged.taken i);
        open_units = λ filler.
            logged.open_units filler
            ∙ ap (option_map (open_with filler step d.reply)) (is.open_units filler)
            ∙ sym (open_more fillers filler (record { step = step; reply = d.reply }) log);
      }

  all_logged : (h : History) (log : Log) → IsLogged fillers log h → (steps : List Step) → IsLogged fillers (log_with cap h log steps) (fold (history_with cap) h steps)
  all_logged h log is [] = is
  all_logged h log is (step ∷ steps) = all_logged (history_with cap h step) (record { step = step; reply = (effect_in cap h step).reply } ∷ log) (history_logged h log is step) steps

  initial_open : (filler : ℕ) → slice_get (replicate fillers empty_unit) filler ≡ open_in fillers [] filler
  initial_open filler = by (nat_le fillers filler) refl
    where
      by : (b : Bool) → nat_le fillers filler ≡ b → slice_get (replicate fillers empty_unit) filler ≡ cond b None (Some empty_unit)
      by true le = slice_get_past (replicate fillers empty_unit) filler (omega (arith, length-replicate fillers empty_unit, leb-true fillers filler le))
      by false gt = get_replicate fillers filler empty_unit (omega (arith, leb-false fillers filler gt))

pub history_is_logged : HistoryIsLogged
unfolding history_of
history_is_logged cap fillers steps = all_logged cap fillers (initial_history fillers) [] (record { handed = refl; taken = refl; open_units = initial_open cap fillers }) steps

log_more : (cap : ℕ) (h : History) (log : Log) (steps : List Step) (step : Step)
    → log_with cap h log (steps ++ step ∷ []) ≡ record { step = step; reply = (effect_in cap (fold (history_with cap) h steps) step).reply } ∷ log_with cap h log steps
log_more cap h log [] step = refl
log_more cap h log (s ∷ steps) step = log_more cap (history_with cap h s) (record { step = s; reply = (effect_in cap h s).reply } ∷ log) steps step

pub log_grows : LogGrows
unfolding history_of
log_grows cap fillers steps step = log_more cap (initial_history fillers) [] steps step

-- ---- the next reply

module _ (cap fillers : ℕ) (h : History) (log : Log) (is : IsLogged fillers log h) where
  same_queue : queue_of h ≡ queue_in log
  same_queue = λ i. drop (is.taken i) (is.handed i)

  add_replies : (filler : ℕ) (row : Row) (b : Bool) (rows : List Row) (hands : ℕ)
      → (add_effect h.fillers filler row (cond b None (Some (record { rows = rows; handed = hands })))).reply
      ≡ cond b (Refused 22) (cond (nat_le unit_limit (length rows)) (Refused 26) (Added (length rows + 1)))
  add_replies filler row true rows hands = refl
  add_replies filler row false rows hands = by (nat_le unit_limit (length rows))
    where
      by : (c : Bool) → (cond c (refusal_effect h.fillers 26) (record { reply = Added (length rows + 1); fillers = slice_set h.fillers filler (with_row row (record { rows = rows; handed = hands })); put = []; taken = 0 })).reply ≡ cond c (Refused 26) (Added (length rows + 1))
      by true = refl
      by false = refl

  hand_replies : (queue : List RowUnit) (filler : ℕ) (b : Bool) (rows : List Row) (hands : ℕ)
      → (hand_effect cap queue h.fillers filler (cond b None (Some (record { rows = rows; handed = hands })))).reply
      ≡ cond b (Refused 22) (cond (nat_le cap (length queue)) (Refused 23) (cond (length rows == 0) (Refused 25) (Handed hands)))
  hand_replies queue filler true rows hands = refl
  hand_replies queue filler false rows hands = by (nat_le cap (length queue)) (length rows == 0)
    where
      by : (c e : Bool) → (cond c (refusal_effect h.fillers 23) (cond e (refusal_effect h.fillers 25) (record { reply = Handed hands; fillers = slice_set h.fillers filler (unit_after_hand (record { rows = rows; handed = hands })); put = unit_of filler (record { rows = rows; handed = hands }) ∷ []; taken = 0 }))).reply ≡ cond c (Refused 23) (cond e (Refused 25) (Handed hands))
      by true e = refl
      by false true = refl
      by false false = refl

  take_replies : (queue : List RowUnit) → (take_effect h.fillers queue).reply ≡ taken_reply queue
  take_replies [] = refl
  take_replies (unit ∷ queue) = refl

  replies_logged : (step : Step) → (effect_in cap h step).reply ≡ reply_in cap fillers log step
  replies_logged (Add filler row) =
      ap (λ (p : Option OpenUnit). (add_effect h.fillers filler row p).reply) (is.open_units filler)
      ∙ add_replies filler row (nat_le fillers filler) (rows_since filler log) (hands_in filler log)
  replies_logged (Hand filler) =
      (λ i. (hand_effect cap (same_queue i) h.fillers filler (is.open_units filler i)).reply)
      ∙ hand_replies (queue_in log) filler (nat_le fillers filler) (rows_since filler log) (hands_in filler log)
  replies_logged Take = ap (λ (q : List RowUnit). (take_effect h.fillers q).reply) same_queue ∙ take_replies (queue_in log)

pub replies_by_log : RepliesByLog
replies_by_log cap fillers steps step = replies_logged cap fillers (history_of cap fillers steps) (log_of cap fillers steps) (history_is_logged cap fillers steps) step
