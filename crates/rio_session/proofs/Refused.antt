-- Refusals with a mark and without one, and what is changed then.
use Rattle.std.proofs.Common.{◌≡◌, List, [], ◌∷◌, ◌++◌, take, Option, Some, None, cond, refl, sym, ap, ◌∙◌}
use Rattle.std.specs.{Prelude.{if◌then◌else◌, is_some}, Option.{option_or}}
use Rattle.rio_num.proofs.Cases.{or_none}
use Rattle.rio_machine.specs.{State.{State}, declared.command.Command.{Command}, declared.refusal.Refusal.{Refusal, TheVariants.{Full}}}
use Rattle.rio_machine.specs.declared.command.Outcome.TheVariants.{Accepted, Refused}
use Rattle.rio_step.specs.{Costs.{accepted_cost, cost_of}, Refusing.{FullMark, first_of, marked_full, refusal_of, refusals}}
use Rattle.rio_step.specs.Step.{Stepped, by_refusal, outcome_of, refused, reply_to, state_behind, step}
use Rattle.rio_session.specs.{Kept.{LinksChange, changes_after, changes_by, kept_after, kept_by}, Marks.{mark_of_command}, Session.{SessionState, next_of}}

-- all tests but that of room
abbrev pub own_refusals : State → Command → List (Option Refusal)
own_refusals m c = take 18 (refusals m c None)

or_in : {A : Type 0} (x y z : Option A) → option_or x (option_or y z) ≡ option_or (option_or x y) z
or_in None y z = refl
or_in (Some x) y z = refl

first-behind : {A : Type 0} (xs : List (Option A)) (x : Option A) → first_of (xs ++ x ∷ []) ≡ option_or (first_of xs) x
first-behind [] x = or_none x
first-behind (y ∷ xs) x = ap (option_or y) (first-behind xs x) ∙ or_in y (first_of xs) x

refusals_are : (m : State) (c : Command) (mark : Option FullMark) → refusals m c mark ≡ own_refusals m c ++ marked_full mark ∷ []
refusals_are m c mark = refl

refusal_is : (m : State) (c : Command) (mark : Option FullMark) → refusal_of m c mark ≡ option_or (first_of (own_refusals m c)) (marked_full mark)
unfolding refusal_of
refusal_is m c mark = ap first_of (refusals_are m c mark) ∙ first-behind (own_refusals m c) (marked_full mark)

-- without a mark the command's own refusal is told
own_is : (m : State) (c : Command) → refusal_of m c None ≡ first_of (own_refusals m c)
own_is m c = refusal_is m c None ∙ or_none (first_of (own_refusals m c))

-- a command's own refusal is told whatever the mark
pub refused_anyway : (m : State) (c : Command) (mark : Option FullMark) (refusal : Refusal) → refusal_of m c None ≡ Some refusal → refusal_of m c mark ≡ Some refusal
refused_anyway m c mark refusal is =
    refusal_is m c mark ∙ ap (λ (o : Option Refusal). option_or o (marked_full mark)) (sym (own_is m c) ∙ is)

-- and where there is none, want of room
pub refused_full : (m : State) (c : Command) (mark : FullMark) → refusal_of m c None ≡ None → refusal_of m c (Some mark) ≡ Some (Full mark.end mark.wanted)
refused_full m c mark is =
    refusal_is m c (Some mark) ∙ ap (λ (o : Option Refusal). option_or o (marked_full (Some mark))) (sym (own_is m c) ∙ is)

-- ---- steps

pub step_refused : (m : State) (c : Command) (mark : Option FullMark) (refusal : Refusal) → refusal_of m c mark ≡ Some refusal → step m c mark ≡ record { state = m; reply = refused refusal }
unfolding step
step_refused m c mark refusal is = ap (by_refusal m c) is

pub step_accepted : (m : State) (c : Command) (mark : Option FullMark) → refusal_of m c mark ≡ None → step m c mark ≡ record { state = state_behind m c; reply = reply_to m c }
unfolding step
step_accepted m c mark is = ap (by_refusal m c) is

pub cost_accepted : (m : State) (c : Command) → refusal_of m c None ≡ None → cost_of m c ≡ accepted_cost m c
unfolding cost_of
cost_accepted m c none = ap (λ (o : Option Refusal). cond (is_some o) 0 (accepted_cost m c)) none

pub cost_refused : (m : State) (c : Command) (refusal : Refusal) → refusal_of m c None ≡ Some refusal → cost_of m c ≡ 0
unfolding cost_of
cost_refused m c refusal is = ap (λ (o : Option Refusal). cond (is_some o) 0 (accepted_cost m c)) is

-- ---- what is changed

-- a refused command changes nothing
pub kept_refused : (s : SessionState) (m : State) (c : Command) (refusal : Refusal) → refusal_of m c (mark_of_command s m c) ≡ Some refusal → kept_after s m c ≡ s
unfolding kept_after
kept_refused s m c refusal is = ap (λ (o : Option Refusal). if is_some o then s else kept_by s m c) is

pub changes_refused : (s : SessionState) (m : State) (c : Command) (refusal : Refusal) → refusal_of m c (mark_of_command s m c) ≡ Some refusal → changes_after s m c ≡ []
changes_refused s m c refusal is = ap (λ (o : Option Refusal). let l : List LinksChange = if is_some o then [] else changes_by s m c in l) is

-- another does what it is to do
pub kept_done : (s : SessionState) (m : State) (c : Command) → refusal_of m c (mark_of_command s m c) ≡ None → kept_after s m c ≡ kept_by s m c
unfolding kept_after
kept_done s m c is = ap (λ (o : Option Refusal). if is_some o then s else kept_by s m c) is

pub changes_done : (s : SessionState) (m : State) (c : Command) → refusal_of m c (mark_of_command s m c) ≡ None → changes_after s m c ≡ changes_by s m c
changes_done s m c is = ap (λ (o : Option Refusal). let l : List LinksChange = if is_some o then [] else changes_by s m c in l) is

-- an accepted command wasn't refused
pub unrefused : (s : SessionState) (m : State) (c : Command) → outcome_of (next_of s m c).reply ≡ Accepted → refusal_of m c (mark_of_command s m c) ≡ None
unrefused s m c accepted = by (refusal_of m c (mark_of_command s m c)) refl
  where
    by : (o : Option Refusal) → refusal_of m c (mark_of_command s m c) ≡ o → refusal_of m c (mark_of_command s m c) ≡ None
    by None is = is
    by (Some refusal) is =
        let told : outcome_of (next_of s m c).reply ≡ Refused refusal = ap (λ (t : Stepped). outcome_of t.reply) (step_refused m c (mark_of_command s m c) refusal is) in
        let never : Refused refusal ≡ Accepted = sym told ∙ accepted in
        absurd cc
