-- What a fill does whose entries are made, in all clauses.
use Rattle.std.proofs.Common.{◌≡◌, ◌∙◌, ◌==◌, ℕ, ◌+◌, ◌-◌, ◌*◌, ◌<◌, ◌^◌, min, sum, List, [], length, true, false, Result, Ok, Err, IfOk, refl, sym, ap, subst, arith, Some}
use Rattle.std.proofs.lemmas.List.{append-nil}
use Rattle.std.specs.{Prelude.{if◌then◌else◌}, List.{find, sum_by}}
use Rattle.rio_host.specs.Host.{IsLawful, View}
use Rattle.rio_chain.specs.{Adjoining.{AreSegments}, Placing.{end_after, file_end, record_count, space_of}}
use Rattle.rio_machine.specs.{State.{State, Tree}, declared.command.Command.{Command, TheVariants.{Fill}}, declared.command.Outcome.{Outcome, TheVariants.{Accepted, Refused}}, declared.refusal.Refusal.TheVariants.{Full}}
use Rattle.rio_state.specs.{Closing.{end_limit, is_full}}
use Rattle.rio_step.specs.{Costs.{room_limit}, ReplyText.{text_of}, Step.{outcome_of, refused, row_added, state_behind}}
use Rattle.rio_effect.proofs.Held.{chain_segments}
use Rattle.rio_judge.specs.declared.work.NewRow.{NewRow}
use Rattle.rio_recover.specs.Closable.{list_count}
use Rattle.rio_session.specs.{Behind.{IsOfKeys}, Changing.{ChangesFile}, Does.{Does}, Due.{IsClosableWith, need_with}, Effects.{IsChangeOf, TakesEffect}, Fillings.{Done, filling_with}, Fills.{AreNamesOrdered, FilledTree, is_tree_of}}
use Rattle.rio_session.specs.{Kept.{kept_by}, Marks.{state_need}, Replying.{Replies, reply_text}, RowPlans.{IsFillOf, IsRowOf, need_of_row, row_cost}, Says.{SaysReply}, Session.{HoldsState, IsReady, LacksRoomIfFull, SessionState, next_of, with_cost}, Sound.{IsSoundState}, TreeWorks.{doing}, declared.fault.SessionFault.{SessionFault}}
use Rattle.rio_session.proofs.{Changed.{does_change}, FillAgrees.{filled, passed, segments_then}, FillEffects.{fill_is_kept, fill_takes_effect_on}, FillKept.{need_is, put_kept}, FillRoom.{row_need_is}}
use Rattle.rio_session.proofs.{FillSteps.{fill_cost_is, fill_is_change, fill_lengths_are, fill_need_is, filling_one}, FilledTrees.{IsFilledOf, found_name, tree_of_fill}, FullCommands.{full_outcome, full_still, full_told}, LacksBehind.{lacks_behind}}
use Rattle.rio_session.proofs.{PlanRoom.{plan_full_is}, OnlyReplies.{IsStill, does_says}, States.{of_keys}}

module _ (replies : Replies) (old new : View) (s s' : SessionState) (law : IsLawful old) (law' : IsLawful new) (ready : IsReady old s) (fresh : s.failed ≡ false) (sound : IsSoundState s) (soon : s.datime < 2 ^ 32) (answer : Result Outcome SessionFault)
    (r : NewRow) (entries : List (List ℕ)) (t : FilledTree) (found : find (is_tree_of r.name) s.trees ≡ Some t) (of : IsRowOf t entries) (ordered : AreNamesOrdered s.trees)
    (cost : ℕ) (cost_is : cost ≡ row_cost entries t.fill.pending) (c : Command) (is : IsFillOf s r entries c) where
  abbrev fill : Command
  fill = Fill r.name is.row

  abbrev done : Done
  done = filling_with s r.name entries t.fill

  abbrev need : ℕ
  need = need_of_row s t entries

  closable : IsClosableWith s.segments s.heads s.trees s.info s.name
  closable = sound.kept fresh

  named : t.name ≡ r.name
  named = found_name r.name t s.trees found

  its_found : find (is_tree_of t.name) s.trees ≡ Some t
  its_found = subst (λ (n : List ℕ). find (is_tree_of n) s.trees ≡ Some t) (sym named) found

  costs : cost ≡ sum_by (λ entry. 2 * length entry + 5) entries + (if t.fill.pending == 0 then 330 * length t.fill.branches else 0)
  costs = cost_is ∙ ap (λ (n : ℕ). sum_by (λ entry. 2 * length entry + 5) entries + (if t.fill.pending == 0 then 330 * n else 0)) of.each

  -- ---- by a state

  module _ (m : State) (keys : IsOfKeys s m) where
    x : (y : Tree) × IsFilledOf s m r.name t y
    x = tree_of_fill s m keys r.name t found

    needed : state_need s.name (list_count s.info) (filling_with s r.name entries t.fill).kept.trees (state_behind m (Fill r.name is.row)) ≡ need_of_row s t entries
    needed =
        subst (λ (n : List ℕ). state_need s.name (list_count s.info) (filling_with s n entries t.fill).kept.trees (state_behind m (Fill n is.row)) ≡ need_of_row s t entries) named
        (row_need_is s m keys closable ordered t x.0 (subst (λ (n : List ℕ). IsFilledOf s m n t x.0) (sym named) x.1) is.row entries of.each)

    -- ---- where there is room

    is_change : (text : List ℕ) → text ≡ text_of (row_added r.name (t.fill.saved + t.fill.pending)) → is_full s.segments (filling_with s r.name entries t.fill).lengths (need_of_row s t entries) ≡ false
        → IsChangeOf (doing (filling_with s r.name entries t.fill) text cost) s m (Fill r.name is.row)
    is_change text text_is room = fill_is_change s m keys r.name t x.0 x.1 is.row entries (is.made m t keys found) text cost need (is.free m keys) needed room text_is costs

    -- ---- where there is none

    module _ (full : is_full s.segments (filling_with s r.name entries t.fill).lengths (need_of_row s t entries) ≡ true) where
      its_need : state_need s.name (list_count s.info) (kept_by s m (Fill r.name is.row)).trees (state_behind m (Fill r.name is.row)) ≡ need_of_row s t entries
      its_need = fill_need_is s m keys r.name t x.0 x.1 is.row entries (is.made m t keys found) ∙ needed

      still : IsStill s m (Fill r.name is.row) cost
      still =
          full_still s m fill done.lengths need (fill_lengths_are s m keys r.name t x.0 x.1 is.row entries (is.made m t keys found)) its_need (is.free m keys) full cost
          (costs ∙ fill_cost_is s m keys r.name t x.0 x.1 is.row entries (is.made m t keys found) (is.free m keys))

      told : text_of (refused (Full (file_end s.segments) (sum (filling_with s r.name entries t.fill).lengths))) ≡ text_of (next_of s m (Fill r.name is.row)).reply
      told = full_told s m fill done.lengths need (fill_lengths_are s m keys r.name t x.0 x.1 is.row entries (is.made m t keys found)) its_need (is.free m keys) full

      outcome : outcome_of (next_of s m (Fill r.name is.row)).reply ≡ Refused (Full (file_end s.segments) (sum (filling_with s r.name entries t.fill).lengths))
      outcome = full_outcome s m fill done.lengths need (fill_lengths_are s m keys r.name t x.0 x.1 is.row entries (is.made m t keys found)) its_need (is.free m keys) full

      kept_so : kept_by s m (Fill r.name is.row) ≡ (filling_with s r.name entries t.fill).kept
      kept_so = ap (λ (d : Done). d.kept) (filling_one s m keys r.name t x.0 x.1 is.row entries (is.made m t keys found))

  -- ---- on a file

  module _ (full : is_full s.segments (filling_with s r.name entries t.fill).lengths (need_of_row s t entries) ≡ true) (m : State) (file : List ℕ) (h : HoldsState s m file) where
    form : AreSegments s.segments
    form = subst AreSegments (sym h.chain.same) (chain_segments file h.links h.chain.chain)

    -- what the file would hold passes the limit
    much_by : end_limit < file_end (filling_with s t.name entries t.fill).kept.segments + need_with s.name s.heads (record_count (filling_with s t.name entries t.fill).kept.segments) (filling_with s t.name entries t.fill).kept.trees
    much_by =
        let d = filling_with s t.name entries t.fill in
        let kept = put_kept s t entries of.each its_found closable ordered form in
        let end : file_end d.kept.segments ≡ end_after d.lengths (space_of s.segments) = kept.end [] ∙ ap (λ (l : List ℕ). end_after l (space_of s.segments)) (append-nil d.lengths) in
        let full_so : is_full s.segments d.lengths need ≡ true = ap (λ (n : List ℕ). is_full s.segments (filling_with s n entries t.fill).lengths need) named ∙ full in
        omega (arith, end, need_is s t entries of.each its_found closable ordered form, plan_full_is s.segments d.lengths need full_so)

    much : end_limit < file_end (kept_by s m (Fill r.name is.row)).segments
        + need_with (kept_by s m (Fill r.name is.row)).name (kept_by s m (Fill r.name is.row)).heads (record_count (kept_by s m (Fill r.name is.row)).segments) (kept_by s m (Fill r.name is.row)).trees
    much =
        let keys = of_keys s m file h in
        subst (λ (k : SessionState). end_limit < file_end k.segments + need_with k.name k.heads (record_count k.segments) k.trees)
        (ap (λ (n : List ℕ). (filling_with s n entries t.fill).kept) named ∙ sym (kept_so m keys full)) much_by

    lacks : room_limit < 3 * s.opened + min (s.costs + cost) (2 ^ 64 - 1)
    lacks =
        let keys = of_keys s m file h in
        let free = is.free m keys in
        let links = passed s m file h sound fresh soon r.name is.row is.named free in
        lacks_behind s m fill file h _ (filled s m file h sound fresh soon r.name is.row is.named free) (segments_then s m file h sound fresh soon r.name is.row is.named free)
        (fill_is_kept s m file h sound fresh soon r.name is.row is.named free links).held much cost (still m keys full).cost_is

  -- ---- in all clauses

  takes : (m : State) (file : List ℕ) (h : HoldsState s m file) → TakesEffect s m (Fill r.name is.row) h.links
  takes m file h = fill_takes_effect_on s m file h sound fresh soon r.name is.row is.named (is.free m (of_keys s m file h))

  pub row_is_done : (text : List ℕ) → text ≡ reply_text replies (row_added r.name (t.fill.saved + t.fill.pending)) → is_full s.segments (filling_with s t.name entries t.fill).lengths (need_of_row s t entries) ≡ false
      → ChangesFile (doing (filling_with s r.name entries t.fill) text cost) old new s s' answer → IfOk answer (λ outcome. outcome ≡ Accepted) → Does replies old new s s' c answer
  row_is_done text text_is room changes same =
      let its_room : is_full s.segments done.lengths need ≡ false = ap (λ (n : List ℕ). is_full s.segments (filling_with s n entries t.fill).lengths need) (sym named) ∙ room in
      subst (λ (d : Command). Does replies old new s s' d answer) (sym is.fill)
      (does_change replies (doing done (text_of (row_added r.name (t.fill.saved + t.fill.pending))) cost) old new s s' law ready fill answer fresh fresh law'
      (subst (λ (l : List ℕ). ChangesFile (doing done l cost) old new s s' answer) text_is changes) refl
      (λ m keys. is_change m keys (text_of (row_added r.name (t.fill.saved + t.fill.pending))) refl its_room) takes same)

  same_full : (a : Result Outcome SessionFault) → is_full s.segments (filling_with s r.name entries t.fill).lengths (need_of_row s t entries) ≡ true
      → IfOk a (λ outcome. outcome ≡ Refused (Full (file_end s.segments) (sum (filling_with s r.name entries t.fill).lengths))) → IfOk a (λ outcome. (m : State) → IsOfKeys s m → outcome ≡ outcome_of (next_of s m (Fill r.name is.row)).reply)
  same_full (Err e) full same = tt
  same_full (Ok o) full same = λ m keys. same ∙ sym (outcome m keys full)

  pub row_is_full : (end wanted : ℕ) → end ≡ file_end s.segments → wanted ≡ sum (filling_with s t.name entries t.fill).lengths → is_full s.segments (filling_with s t.name entries t.fill).lengths (need_of_row s t entries) ≡ true
      → SaysReply (reply_text replies (refused (Full end wanted))) cost old new s s' answer → IfOk answer (λ outcome. outcome ≡ Refused (Full end wanted)) → Does replies old new s s' c answer
  row_is_full end wanted end_is wanted_is full says same =
      let its_full : is_full s.segments done.lengths need ≡ true = ap (λ (n : List ℕ). is_full s.segments (filling_with s n entries t.fill).lengths need) (sym named) ∙ full in
      let its_wanted : wanted ≡ sum done.lengths = wanted_is ∙ ap (λ (n : List ℕ). sum (filling_with s n entries t.fill).lengths) named in
      let its_says = subst (λ (p : ℕ × ℕ). SaysReply (reply_text replies (refused (Full p.0 p.1))) cost old new s s' answer) (λ i. (end_is i, its_wanted i)) says in
      let its_outcome = subst (λ (p : ℕ × ℕ). IfOk answer (λ outcome. outcome ≡ Refused (Full p.0 p.1))) (λ i. (end_is i, its_wanted i)) same in
      subst (λ (d : Command). Does replies old new s s' d answer) (sym is.fill)
      (does_says replies old new s s' (text_of (refused (Full (file_end s.segments) (sum done.lengths)))) cost law law' ready fill answer fresh its_says
      (λ spoken m keys. still m keys its_full)
      (λ spoken m said st. told m (of_keys s m st.file st.state) its_full)
      (same_full answer its_full its_outcome)
      (λ spoken m said st. subst (LacksRoomIfFull (with_cost cost s)) (sym (outcome m (of_keys s m st.file st.state) its_full)) (lacks its_full m st.file st.state)))
