-- The costs of a run's commands, and where there is room for them.
use Rattle.std.proofs.Common.{◌≡◌, inl, inr, ℕ, zero, suc, add-zero, length-append, length-take, Some, Err, ◌+◌, ◌*◌, ◌-◌, ◌^◌, ◌<◌, ◌≤◌, min, List, [], ◌∷◌, ◌++◌, length, take, drop, subst, sym, refl, ap, ◌∙◌, arith}
use Rattle.std.proofs.{lemmas.Bool.{cases_lt}, lemmas.Option.{get_or_from_slice_get, same_Some, slice_get_within}}
use Rattle.rio_host.specs.Host.{View}
use Rattle.rio_machine.specs.{State.{State}, declared.command.Command.{Command, TheVariants.{Ls}}, declared.command.Outcome.{Outcome}}
use Rattle.rio_machine.specs.declared.refusal.Refusal.TheVariants.{Full}
use Rattle.rio_step.specs.{Costs.{HasFileRoom, cost_of, costs_of_run, room_limit}, Runs.{Marks, first_step, later_marks, state_after}}
use Rattle.rio_step.specs.Step.{Reply, class_declared, object_put, objects_put, item_deleted, tree_made, row_added, rows_saved, object_told, rows_told, items_listed, refused, outcome_of}
use Rattle.rio_session.specs.{Behind.{SaysPart}, Causes.{IsSaid, SaysNothing}, Replying.{reply_text}, Session.{LacksRoomIfFull, SessionState, with_cost}}
use Rattle.rio_session.specs.declared.fault.SessionFault.{SessionFault, TheVariants.{HostFault, SayFault, NoMemory}}
use Rattle.rootio.specs.Headline.{AllFindRoom, IsWantOfRoom, SaidFindRoom, ScriptRun, replies, reply_at}
use Rattle.rootio.proofs.RunStops.{IsNext, behind, pushed, replies_keep, replies_longer}

costs_push : (m : State) (cs : List Command) (c : Command) (marks : Marks)
    → costs_of_run m (cs ++ c ∷ []) marks ≡ costs_of_run m cs marks + cost_of (state_after m cs marks) c
unfolding costs_of_run state_after
costs_push m [] c marks = omega arith
costs_push m (d ∷ cs) c marks =
    let h = costs_push (first_step m d marks).state cs c (later_marks marks) in
    omega arith

-- the costs of the first k commands
abbrev pub costs_to : ScriptRun → ℕ → ℕ
costs_to r k = costs_of_run r.start (take k r.commands) r.marks

costs_next : (r : ScriptRun) (k : ℕ) (c : Command) → IsNext r k c → costs_to r (k + 1) ≡ costs_to r k + cost_of (behind r k) c
costs_next r k c next = ap (λ cs. costs_of_run r.start cs r.marks) (pushed r k c next) ∙ costs_push r.start (take k r.commands) c r.marks

-- The session counts the costs, as far as 64 bits hold them; and a reply of want of room came only where they pass what there is
-- room for.
pub record CostsSo (first s : SessionState) (r : ScriptRun) (k : ℕ) : Type 0 where
  pub opened : s.opened ≡ first.opened
  pub count : s.costs ≤ first.costs + costs_to r k
  pub lacks : (j : ℕ) (c : Command) → j < k → IsNext r j c → IsWantOfRoom (reply_at r j c) → room_limit < 3 * first.opened + first.costs + costs_to r (j + 1)

pub no_costs : (first : SessionState) (r : ScriptRun) → CostsSo first first r 0
no_costs first r = record { opened = refl; count = omega arith; lacks = λ j c below. absurd (omega (arith, below)) }

-- want of room is told as such
lacking : (s : SessionState) (reply : Reply) → LacksRoomIfFull s (outcome_of reply) → IsWantOfRoom reply → room_limit < 3 * s.opened + s.costs
lacking s (class_declared name version) told want = absurd want
lacking s (object_put name cycle) told want = absurd want
lacking s (item_deleted name cycle) told want = absurd want
lacking s (objects_put items) told want = absurd want
lacking s (tree_made name cycle) told want = absurd want
lacking s (row_added name entry) told want = absurd want
lacking s (rows_saved name cycle entries) told want = absurd want
lacking s (object_told name cycle v) told want = absurd want
lacking s (rows_told name rows) told want = absurd want
lacking s (items_listed items) told want = absurd want
lacking s (refused (Full end wanted)) told want = told
lacking s (refused other) told want = absurd want

same_next : (r : ScriptRun) (j : ℕ) (c d : Command) → IsNext r j c → IsNext r j d → c ≡ d
same_next r j c d a b = sym a.is ∙ b.is

pub costs_more : (first s s1 : SessionState) (r : ScriptRun) (k : ℕ) (c : Command) → IsNext r k c → CostsSo first s r k → (outcome : Outcome)
    → s1.opened ≡ s.opened → s1.costs ≡ min (s.costs + cost_of (behind r k) c) (2 ^ 64 - 1) → outcome ≡ outcome_of (reply_at r k c) → LacksRoomIfFull s1 outcome
    → CostsSo first s1 r (k + 1)
costs_more first s s1 r k c next so outcome opened costs is full =
    let sum = costs_next r k c next in
    let count : s1.costs ≤ first.costs + costs_to r (k + 1) = omega (arith, costs, so.count, sum) in
    record {
      opened = opened ∙ so.opened;
      count = count;
      lacks = λ j d below there want. elim (cases_lt j k) [
        | inl before ↦ so.lacks j d before there want
        | inr not_before ↦
            let here : j ≡ k = omega (arith, below, not_before) in
            let now : IsNext r k d = subst (λ n. IsNext r n d) here there in
            let same : d ≡ c = same_next r k d c now next in
            let asked : IsWantOfRoom (reply_at r k c) = subst (λ n. IsWantOfRoom (reply_at r n c)) here (subst (λ x. IsWantOfRoom (reply_at r j x)) same want) in
            let told : LacksRoomIfFull s1 (outcome_of (reply_at r k c)) = subst (LacksRoomIfFull s1) is full in
            let lacks = lacking s1 (reply_at r k c) told asked in
            subst (λ n. room_limit < 3 * first.opened + first.costs + costs_to r (n + 1)) (sym here) (omega (arith, lacks, count, opened, so.opened))
      ];
    }

pub all_find_room : (first s : SessionState) (r : ScriptRun) (k : ℕ) → length r.commands ≤ k → CostsSo first s r k → first.costs ≡ 0 → AllFindRoom first.opened r
all_find_room first s r k all so none j c there room want =
    let within : j < length r.commands = slice_get_within r.commands j c there in
    let next : IsNext r j c = record { within = within; is = get_or_from_slice_get r.commands j c Ls there } in
    let lacks = so.lacks j c (omega (arith, within, all)) next want in
    omega (arith, lacks, none, room)

-- ---- whatever is answered

-- more replies are longer
replies_later : (r : ScriptRun) (k d : ℕ) → k + d ≤ length r.commands → length (replies r k) ≤ length (replies r (k + d))
replies_later r k zero le = subst (λ (n : ℕ). length (replies r k) ≤ length (replies r n)) (sym (add-zero k)) (omega arith)
replies_later r k (suc d) le =
    let one = replies_later r k d (omega (arith, le)) in
    let more = replies_keep r (k + d) (omega (arith, le)) in
    let e : k + d + 1 ≡ k + suc d = omega arith in
    subst (λ (n : ℕ). length (replies r k) ≤ length (replies r n)) e (omega (arith, one, more))

-- nothing was said
pub silent_room : (opened : ℕ) (r : ScriptRun) (text : List ℕ) (new : View) → new.said ≡ Some text → SaidFindRoom opened r text new
silent_room opened r text new is said told k c there long room want = omega (arith, ap length (same_Some said text (sym told ∙ is)), long)

module _ (first s : SessionState) (r : ScriptRun) (text : List ℕ) (k : ℕ) (c : Command) (next : IsNext r k c) (so : CostsSo first s r k) (none : first.costs ≡ 0) where
  earlier : (j : ℕ) (d : Command) → j < k → IsNext r j d → HasFileRoom first.opened r.start (take (j + 1) r.commands) r.marks → IsWantOfRoom (reply_at r j d) → ⊥
  earlier j d below at room want =
      let lacks = so.lacks j d below at want in
      omega (arith, lacks, none, room)

  here : LacksRoomIfFull (with_cost (cost_of (behind r k) c) s) (outcome_of (reply_at r k c)) → (d : Command) → IsNext r k d
      → HasFileRoom first.opened r.start (take (k + 1) r.commands) r.marks → IsWantOfRoom (reply_at r k d) → ⊥
  here full d at room want =
      let asked : IsWantOfRoom (reply_at r k c) = subst (λ (x : Command). IsWantOfRoom (reply_at r k x)) (same_next r k d c at next) want in
      let lacks = lacking (with_cost (cost_of (behind r k) c) s) (reply_at r k c) full asked in
      let sum = costs_next r k c next in
      omega (arith, lacks, so.count, so.opened, sum, none, room)

  module _ (v new : View) (was : v.said ≡ Some (text ++ replies r k)) (said : List ℕ) (told : new.said ≡ Some said) where
    nothing_more : new.said ≡ v.said → length said ≡ length text + length (replies r k)
    nothing_more same = ap length (same_Some said (text ++ replies r k) (sym told ∙ same ∙ was)) ∙ length-append text (replies r k)

    this_one : (e : SessionFault) → (SaysNothing {X = Outcome} (Err e) → new.said ≡ v.said)
        → (IsSaid {X = Outcome} (Err e) → LacksRoomIfFull (with_cost (cost_of (behind r k) c) s) (outcome_of (reply_at r k c)))
        → (d : Command) → IsNext r k d → length text + length (replies r k) < length said
        → HasFileRoom first.opened r.start (take (k + 1) r.commands) r.marks → IsWantOfRoom (reply_at r k d) → ⊥
    this_one HostFault silent full d at long room want = omega (arith, nothing_more (silent tt), long)
    this_one SayFault silent full d at long room want = here (full tt) d at room want
    this_one NoMemory silent full d at long room want = omega (arith, nothing_more (silent tt), long)

    -- no more than this reply was said
    short : SaysPart new (text ++ replies r k) (reply_text r.replies (reply_at r k c)) → length said ≤ length text + length (replies r (k + 1))
    short part =
        let is = ap length (same_Some said ((text ++ replies r k) ++ take part.0 (reply_text r.replies (reply_at r k c))) (sym told ∙ part.1)) in
        let one = length-append (text ++ replies r k) (take part.0 (reply_text r.replies (reply_at r k c))) in
        omega (arith, is, one, length-append text (replies r k), length-take part.0 (reply_text r.replies (reply_at r k c)), replies_longer r k c next)

    later : (j : ℕ) → k < j → j < length r.commands → length (replies r (k + 1)) ≤ length (replies r j)
    later j behind_k within =
        let e : k + 1 + (j - (k + 1)) ≡ j = omega (arith, behind_k) in
        subst (λ (n : ℕ). length (replies r (k + 1)) ≤ length (replies r n)) e (replies_later r (k + 1) (j - (k + 1)) (omega (arith, within, behind_k)))

  -- a command failed
  pub room_at_fault : (v new : View) (e : SessionFault) → v.said ≡ Some (text ++ replies r k) → (SaysNothing {X = Outcome} (Err e) → new.said ≡ v.said)
      → (IsSaid {X = Outcome} (Err e) → LacksRoomIfFull (with_cost (cost_of (behind r k) c) s) (outcome_of (reply_at r k c)))
      → SaysPart new (text ++ replies r k) (reply_text r.replies (reply_at r k c)) → SaidFindRoom first.opened r text new
  room_at_fault v new e was silent full part said told j d there long room want =
      let within : j < length r.commands = slice_get_within r.commands j d there in
      let at : IsNext r j d = record { within = within; is = get_or_from_slice_get r.commands j d Ls there } in
      elim (cases_lt j k) [
        | inl in_front ↦ earlier j d in_front at room want
        | inr not_in_front ↦ elim (cases_lt k j) [
          | inl behind_k ↦ omega (arith, long, short v new was said told part, later v new was said told j behind_k within)
          | inr not_behind ↦
              let same : j ≡ k = omega (arith, not_in_front, not_behind) in
              let long_here : length text + length (replies r k) < length said = subst (λ (n : ℕ). length text + length (replies r n) < length said) same long in
              let room_here : HasFileRoom first.opened r.start (take (k + 1) r.commands) r.marks =
              subst (λ (n : ℕ). HasFileRoom first.opened r.start (take (n + 1) r.commands) r.marks) same room in
              this_one v new was said told e silent full d (subst (λ (n : ℕ). IsNext r n d) same at) long_here room_here (subst (λ (n : ℕ). IsWantOfRoom (reply_at r n d)) same want)
        ]
      ]

-- no next command was to be had, and nothing more was said
pub room_between : (first s : SessionState) (r : ScriptRun) (text : List ℕ) (k : ℕ) → k ≤ length r.commands → CostsSo first s r k → first.costs ≡ 0
    → (new : View) → new.said ≡ Some (text ++ replies r k) → SaidFindRoom first.opened r text new
room_between first s r text k within so none new is said told j d there long room want =
    let inside : j < length r.commands = slice_get_within r.commands j d there in
    let at : IsNext r j d = record { within = inside; is = get_or_from_slice_get r.commands j d Ls there } in
    let all : length said ≡ length text + length (replies r k) = ap length (same_Some said (text ++ replies r k) (sym told ∙ is)) ∙ length-append text (replies r k) in
    elim (cases_lt j k) [
      | inl in_front ↦
          let lacks = so.lacks j d in_front at want in
          omega (arith, lacks, none, room)
      | inr not_in_front ↦
          let e : k + (j - k) ≡ j = omega (arith, not_in_front) in
          let more : length (replies r k) ≤ length (replies r j) =
          subst (λ (n : ℕ). length (replies r k) ≤ length (replies r n)) e (replies_later r k (j - k) (omega (arith, inside, not_in_front))) in
          omega (arith, long, all, more)
    ]
