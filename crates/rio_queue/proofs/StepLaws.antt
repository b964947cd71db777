-- Each way through a step does what it should.
use Rattle.std.proofs.Common.{◌≡◌, ◌∙◌, ℕ, zero, suc, ◌+◌, ◌≤◌, ◌<◌, ◌^◌, Bool, true, false, cond, List, [], ◌∷◌, ◌++◌, length, Some, None, ap, subst, sym, arith, refl}
use Rattle.std.proofs.lemmas.Bool.{eq-eqb, le-leb, lt-leb}
use Rattle.std.proofs.lemmas.List.{append-nil}
use Rattle.std.proofs.lemmas.Option.{get_or_from_slice_get}
use Rattle.std.proofs.Math.Dec.{eqb-suc-zero}
use Rattle.std.specs.List.{slice_get, slice_index_or, slice_set}
use Rattle.std.specs.Prelude.{nat_le, ◌==◌}
use Rattle.rio_queue.specs.Steps.{CoreState, Effect, IsStep, HasNumber, Row, add_effect, unit_after_hand, core_effect, core_after, hand_effect, refusal_effect, unit_limit, unit_of, with_row}
use Rattle.rio_queue.specs.declared.fillers.OpenUnit.{OpenUnit}
use Rattle.rio_queue.specs.declared.steps.Step.{Step, TheVariants.{Add, Hand}}
use Rattle.rio_queue.specs.declared.steps.StepReply.{StepReply, TheVariants.{Added, Handed, Refused}}
use Rattle.rio_queue.specs.declared.steps.Unit.{Unit as RowUnit}

-- ---- refused steps

pub refuses : (core : CoreState) (step : Step) (number : ℕ) (reply : StepReply) → core_effect core step ≡ refusal_effect core.fillers number → reply ≡ Refused number → IsStep core step reply core
refuses core step number reply same is = record {
  reply_is = is ∙ ap (λ (d : Effect). d.reply) (sym same);
  core_is = (λ i. record { cap = core.cap; queue = sym (append-nil core.queue) i; fillers = core.fillers }) ∙ ap (core_after core) (sym same);
}

-- ---- the open unit of a filler

some_rows : (n : ℕ) → 0 < n → (n == 0) ≡ false
some_rows zero lt = absurd (omega (arith, lt))
some_rows (suc n) lt = eqb-suc-zero n

pub set_there : (fillers : List OpenUnit) (filler : ℕ) (o : OpenUnit) → slice_get fillers filler ≡ Some o → (f : OpenUnit → OpenUnit) (now new : List OpenUnit) → now ≡ fillers → ((d : OpenUnit) → new ≡ slice_set now filler (f (slice_index_or now filler d))) → new ≡ slice_set fillers filler (f o)
set_there fillers filler o there f now new same is =
    is o
    ∙ ap (λ (l : List OpenUnit). slice_set l filler (f (slice_index_or l filler o))) same
    ∙ ap (λ (u : OpenUnit). slice_set fillers filler (f u)) (get_or_from_slice_get fillers filler o o there)

pub unit_there : (fillers : List OpenUnit) (filler : ℕ) (o : OpenUnit) → slice_get fillers filler ≡ Some o → (now : List OpenUnit) → now ≡ fillers → unit_of filler (slice_index_or now filler o) ≡ unit_of filler o
unit_there fillers filler o there now same =
    ap (λ (l : List OpenUnit). unit_of filler (slice_index_or l filler o)) same
    ∙ ap (unit_of filler) (get_or_from_slice_get fillers filler o o there)

module _ (core : CoreState) (filler : ℕ) where
  pub nobody_adds : (row : Row) → slice_get core.fillers filler ≡ None → core_effect core (Add filler row) ≡ refusal_effect core.fillers 22
  nobody_adds row none = ap (add_effect core.fillers filler row) none

  pub nobody_hands : slice_get core.fillers filler ≡ None → core_effect core (Hand filler) ≡ refusal_effect core.fillers 22
  nobody_hands none = ap (hand_effect core.cap core.queue core.fillers filler) none

  module _ (o : OpenUnit) (there : slice_get core.fillers filler ≡ Some o) where
    -- ---- add

    module _ (row : Row) where
      abbrev accepted : Effect
      accepted = record { reply = Added (length o.rows + 1); fillers = slice_set core.fillers filler (with_row row o); put = []; taken = 0 }

      add_by : (b : Bool) → nat_le unit_limit (length o.rows) ≡ b → core_effect core (Add filler row) ≡ cond b (refusal_effect core.fillers 26) accepted
      add_by b is = ap (add_effect core.fillers filler row) there ∙ ap (λ (c : Bool). cond c (refusal_effect core.fillers 26) accepted) is

      pub full_adds : unit_limit ≤ length o.rows → core_effect core (Add filler row) ≡ refusal_effect core.fillers 26
      full_adds le = add_by true (le-leb unit_limit (length o.rows) le)

      pub added : length o.rows < unit_limit → (rows : ℕ) → rows ≡ length o.rows → (new : CoreState) → new.cap ≡ core.cap → new.queue ≡ core.queue → new.fillers ≡ slice_set core.fillers filler (with_row row o) → IsStep core (Add filler row) (Added (rows + 1)) new
      added lt rows rows_is new cap_is queue_is fillers_is =
          let same = add_by false (lt-leb unit_limit (length o.rows) lt) in
          record {
            reply_is = ap (λ (n : ℕ). Added (n + 1)) rows_is ∙ ap (λ (d : Effect). d.reply) (sym same);
            core_is =
                (λ i. record { cap = cap_is i; queue = (queue_is ∙ sym (append-nil core.queue)) i; fillers = fillers_is i })
                ∙ ap (core_after core) (sym same);
          }

    -- ---- hand

    abbrev given : Effect
    given = record { reply = Handed o.handed; fillers = slice_set core.fillers filler (unit_after_hand o); put = unit_of filler o ∷ []; taken = 0 }

    hand_by : (b c : Bool) → nat_le core.cap (length core.queue) ≡ b → (length o.rows == 0) ≡ c → core_effect core (Hand filler) ≡ cond b (refusal_effect core.fillers 23) (cond c (refusal_effect core.fillers 25) given)
    hand_by b c full empty =
        ap (hand_effect core.cap core.queue core.fillers filler) there
        ∙ (λ i. cond (full i) (refusal_effect core.fillers 23) (cond (empty i) (refusal_effect core.fillers 25) given))

    pub full_hands : core.cap ≤ length core.queue → core_effect core (Hand filler) ≡ refusal_effect core.fillers 23
    full_hands le = hand_by true (length o.rows == 0) (le-leb core.cap (length core.queue) le) refl

    pub empty_hands : length core.queue < core.cap → length o.rows ≡ 0 → core_effect core (Hand filler) ≡ refusal_effect core.fillers 25
    empty_hands lt none = hand_by false true (lt-leb core.cap (length core.queue) lt) (eq-eqb (length o.rows) 0 none)

    pub handed : length core.queue < core.cap → 0 < length o.rows → (unit : RowUnit) → unit ≡ unit_of filler o → (new : CoreState) → new.cap ≡ core.cap → new.queue ≡ core.queue ++ unit ∷ [] → new.fillers ≡ slice_set core.fillers filler (unit_after_hand o) → IsStep core (Hand filler) (Handed unit.number) new
    handed lt some unit unit_is new cap_is queue_is fillers_is =
        let same = hand_by false false (lt-leb core.cap (length core.queue) lt) (some_rows (length o.rows) some) in
        record {
          reply_is = ap (λ (u : RowUnit). Handed u.number) unit_is ∙ ap (λ (d : Effect). d.reply) (sym same);
          core_is =
              (λ i. record { cap = cap_is i; queue = (queue_is ∙ ap (λ (u : RowUnit). core.queue ++ u ∷ []) unit_is) i; fillers = fillers_is i })
              ∙ ap (core_after core) (sym same);
        }

    pub few_handed : HasNumber (slice_get core.fillers filler) → (now : List OpenUnit) → now ≡ core.fillers → (d : OpenUnit) → (slice_index_or now filler d).handed < 2 ^ 32
    few_handed few now same d =
        let fine : o.handed < 2 ^ 32 = subst HasNumber there few in
        subst (λ (u : OpenUnit). u.handed < 2 ^ 32) (sym (get_or_from_slice_get now filler o d (ap (λ (l : List OpenUnit). slice_get l filler) same ∙ there))) fine
