-- What a tree command does, in all clauses.
use Rattle.std.proofs.Common.{◌≡◌, ◌∙◌, ℕ, ◌+◌, ◌-◌, ◌*◌, ◌<◌, ◌^◌, min, sum, List, length, true, false, Option, None, Some, Result, Ok, Err, IfOk, refl, sym, ap, subst, arith}
use Rattle.rio_host.specs.Host.{IsLawful, View}
use Rattle.rio_format.specs.declared.class.ClassDef.{ClassDef}
use Rattle.rio_key.specs.declared.head.KeyHead.{KeyHead}
use Rattle.rio_chain.specs.{Adjoining.{AreSegments}, Placing.{file_end, record_count}}
use Rattle.rio_machine.specs.{State.{State, empty_state}, declared.command.Command.{Command, TheVariants.{Bad, Class, Put, Batch, Delete, Tree as MakeTree, Fill, Save, Get, Scan, Ls}}}
use Rattle.rio_machine.specs.{declared.command.Outcome.{Outcome, TheVariants.{Accepted, Refused}}, declared.refusal.Refusal.TheVariants.{Full}}
use Rattle.rio_tree.specs.HeaderLength.{header_size}
use Rattle.rio_tree_table.specs.declared.table.KeptTree.{KeptTree}
use Rattle.rio_state.specs.Closing.{end_limit, is_full}
use Rattle.rio_step.specs.{Costs.{info_size, room_limit}, Refusing.{refusal_of}, ReplyText.{text_of}, Statable.{IsStatable, is_statable}, Step.{outcome_of, refused, state_behind, tree_made}}
use Rattle.rio_effect.specs.HeaderRecords.{HeadersHaveRecords}
use Rattle.rio_effect.proofs.Held.{chain_segments}
use Rattle.rio_judge.specs.{Judging.{refused_by_object}, Trees.{IsTreeWorkOf, TreeWorkCanBeDone}, declared.work.NewTree.{NewTree}}
use Rattle.rio_judge.specs.declared.work.{AnyWork.TheVariants.{Tree as OfTree}, TreeWork.TheVariants.{Make as Making}}
use Rattle.rio_session.specs.{Behind.{IsOfKeys}, Changing.{ChangesFile}, Doable.{IsNewTree, IsToDo}, Does.{Does}, Due.{IsClosableWith, need_with}, Effects.{IsChangeOf, TakesEffect}, Fillings.{Done, both_done, heading, listing_if_none, making}, Kept.{kept_by}, Marks.{command_lengths, state_need}}
use Rattle.rio_session.specs.{Replying.{Replies, reply_text}, Says.{SaysReply}, Session.{HoldsState, IsReady, LacksRoomIfFull, SessionState, next_of, with_cost}, SessionState.{kept_trees}, Sound.{IsSoundState}, TreePlans.{head_now, making_now, need_of_tree}, TreeWorks.{doing}, declared.fault.SessionFault.{SessionFault}}
use Rattle.rio_session.proofs.{Changed.{does_change}, FullCommands.{full_outcome, full_still, full_told}, LacksBehind.{lacks_behind}, PlanRoom.{plan_full_is}, OnlyReplies.{IsStill, does_says}, States.{of_keys}}
use Rattle.rio_session.proofs.{TreeEffects.{after_is, filled, tree_ended, tree_takes_effect_on}, TreeKept.{tree_need_then}, TreeMaking.{making_end}, TreeRoom.{tree_need_is}, TreeSteps.{making_same, tree_cost_is, tree_is_change, tree_lengths_are}}

is_make : (classes : List ClassDef) (heads : List KeyHead) (trees : List KeptTree) (c : Command) (t : NewTree) → TreeWorkCanBeDone classes heads trees c (Making t) → c ≡ MakeTree t.name t.branches
is_make classes heads trees (Bad line place) t can = absurd can
is_make classes heads trees (Class class) t can = absurd can
is_make classes heads trees (Put name v) t can = absurd can
is_make classes heads trees (Batch puts) t can = absurd can
is_make classes heads trees (Delete name cycle) t can = absurd can
is_make classes heads trees (MakeTree name branches) t can = λ i. MakeTree (sym can.named i) (sym can.stated i)
is_make classes heads trees (Fill name row) t can = absurd can
is_make classes heads trees (Save name) t can = absurd can
is_make classes heads trees (Get name asked version) t can = absurd can
is_make classes heads trees (Scan name class) t can = absurd can
is_make classes heads trees Ls t can = absurd can

module _ (replies : Replies) (headers : HeadersHaveRecords) (old new : View) (s s' : SessionState) (law : IsLawful old) (law' : IsLawful new) (ready : IsReady old s) (fresh : s.failed ≡ false) (sound : IsSoundState s) (soon : s.datime < 2 ^ 32)
    (answer : Result Outcome SessionFault) (t : NewTree) (own : IsNewTree s t) (cost : ℕ) (cost_is : cost ≡ 600 + info_size s.classes + 2 * header_size t.name t.branches) (c : Command) (todo : IsToDo s c (OfTree (Making t))) where
  abbrev make : Command
  make = MakeTree t.name t.branches

  abbrev done : Done
  done = making_now s t.name t.branches

  abbrev need : ℕ
  need = need_of_tree s t.name (length (making_now s t.name t.branches).lengths)

  closable : IsClosableWith s.segments s.heads s.trees s.info s.name
  closable = sound.kept fresh

  command_is : c ≡ MakeTree t.name t.branches
  command_is = is_make s.classes s.heads (kept_trees s) c t todo.can

  statable : is_statable (MakeTree t.name t.branches) ≡ true
  statable = subst IsStatable command_is todo.statable

  -- ---- by a state

  module _ (m : State) (keys : IsOfKeys s m) where
    free : refusal_of m (MakeTree t.name t.branches) None ≡ None
    free = (subst (λ (d : Command). (refusal_of m d None ≡ refused_by_object m d) × IsTreeWorkOf m d (Making t)) command_is (todo.judged m keys.classes keys.keys)).0

    same : making s m t.name t.branches ≡ making_now s t.name t.branches
    same = making_same s m (record empty_state { classes = s.classes }) t.name t.branches keys.classes

    needed : state_need s.name 1 (making s m t.name t.branches).kept.trees (state_behind m (MakeTree t.name t.branches)) ≡ need_of_tree s t.name (length (making_now s t.name t.branches).lengths)
    needed = tree_need_is s m keys closable t.name t.branches free ∙ ap (λ (d : Done). need_of_tree s t.name (length d.lengths)) same

    costs : cost ≡ 600 + info_size m.classes + 2 * header_size t.name t.branches
    costs = cost_is ∙ ap (λ (l : List ClassDef). 600 + info_size l + 2 * header_size t.name t.branches) (sym keys.classes)

    is_change : (text : List ℕ) → text ≡ text_of (tree_made t.name 1) → is_full s.segments (making_now s t.name t.branches).lengths (need_of_tree s t.name (length (making_now s t.name t.branches).lengths)) ≡ false
        → IsChangeOf (doing (making_now s t.name t.branches) text cost) s m (MakeTree t.name t.branches)
    is_change text text_is room =
        let its_room : is_full s.segments (making s m t.name t.branches).lengths need ≡ false = ap (λ (d : Done). is_full s.segments d.lengths need) same ∙ room in
        subst (λ (d : Done). IsChangeOf (doing d text cost) s m make) same (tree_is_change s m keys t.name t.branches free text cost need needed its_room text_is costs)

    -- ---- where there is no room

    module _ (full : is_full s.segments (making_now s t.name t.branches).lengths (need_of_tree s t.name (length (making_now s t.name t.branches).lengths)) ≡ true) where
      lengths_are : command_lengths s m (MakeTree t.name t.branches) ≡ (making_now s t.name t.branches).lengths
      lengths_are = tree_lengths_are s m keys t.name t.branches free ∙ ap (λ (d : Done). d.lengths) same

      still : IsStill s m (MakeTree t.name t.branches) cost
      still = full_still s m make done.lengths need lengths_are needed free full cost (costs ∙ tree_cost_is s m keys t.name t.branches free)

      told : text_of (refused (Full (file_end s.segments) (sum (making_now s t.name t.branches).lengths))) ≡ text_of (next_of s m (MakeTree t.name t.branches)).reply
      told = full_told s m make done.lengths need lengths_are needed free full

      outcome : outcome_of (next_of s m (MakeTree t.name t.branches)).reply ≡ Refused (Full (file_end s.segments) (sum (making_now s t.name t.branches).lengths))
      outcome = full_outcome s m make done.lengths need lengths_are needed free full

  -- ---- on a file

  module _ (full : is_full s.segments (making_now s t.name t.branches).lengths (need_of_tree s t.name (length (making_now s t.name t.branches).lengths)) ≡ true) (m : State) (file : List ℕ) (h : HoldsState s m file) where
    keys : IsOfKeys s m
    keys = of_keys s m file h

    form : AreSegments s.segments
    form = subst AreSegments (sym h.chain.same) (chain_segments file h.links h.chain.chain)

    -- what the file would hold passes the limit
    much_by : end_limit < file_end (making_now s t.name t.branches).kept.segments
        + need_with (making_now s t.name t.branches).kept.name (making_now s t.name t.branches).kept.heads (record_count (making_now s t.name t.branches).kept.segments) (making_now s t.name t.branches).kept.trees
    much_by =
        omega (
          arith,
          making_end s sound.classes soon headers t own form,
          tree_need_then s t.name t.branches closable,
          plan_full_is s.segments done.lengths need full,
        )

    much : end_limit < file_end (kept_by s m (MakeTree t.name t.branches)).segments
        + need_with (kept_by s m (MakeTree t.name t.branches)).name (kept_by s m (MakeTree t.name t.branches)).heads (record_count (kept_by s m (MakeTree t.name t.branches)).segments) (kept_by s m (MakeTree t.name t.branches)).trees
    much = subst (λ (d : Done). end_limit < file_end d.kept.segments + need_with d.kept.name d.kept.heads (record_count d.kept.segments) d.kept.trees) (sym (same m keys)) much_by

    lacks : room_limit < 3 * s.opened + min (s.costs + cost) (2 ^ 64 - 1)
    lacks =
        lacks_behind s m make file h _ (filled headers s m file h sound fresh soon t.name t.branches statable (free m keys)) (tree_ended headers s m file h sound fresh soon t.name t.branches statable (free m keys))
        (after_is headers s m file h sound fresh soon t.name t.branches statable (free m keys)).held much cost (still m keys full).cost_is

  -- ---- in all clauses

  takes : (m : State) (file : List ℕ) (h : HoldsState s m file) → TakesEffect s m (MakeTree t.name t.branches) h.links
  takes m file h = tree_takes_effect_on headers s m file h sound fresh soon t.name t.branches statable (free m (of_keys s m file h))

  fresh_then : (making_now s t.name t.branches).kept.failed ≡ false
  fresh_then = still_fresh s.info
    where
      still_fresh : (o : Option KeyHead) → (both_done (listing_if_none s (record empty_state { classes = s.classes }) o) (heading (listing_if_none s (record empty_state { classes = s.classes }) o).kept t.name (head_now s t.branches))).kept.failed ≡ false
      still_fresh None = fresh
      still_fresh (Some k) = fresh

  pub tree_is_done : (text : List ℕ) → text ≡ reply_text replies (tree_made t.name 1) → is_full s.segments (making_now s t.name t.branches).lengths (need_of_tree s t.name (length (making_now s t.name t.branches).lengths)) ≡ false
      → ChangesFile (doing (making_now s t.name t.branches) text cost) old new s s' answer → IfOk answer (λ outcome. outcome ≡ Accepted) → Does replies old new s s' c answer
  tree_is_done text text_is room changes accepted =
      subst (λ (d : Command). Does replies old new s s' d answer) (sym command_is)
      (does_change replies (doing done (text_of (tree_made t.name 1)) cost) old new s s' law ready make answer fresh fresh_then law'
      (subst (λ (l : List ℕ). ChangesFile (doing done l cost) old new s s' answer) text_is changes) refl
      (λ m keys. is_change m keys (text_of (tree_made t.name 1)) refl room) takes accepted)

  same_full : (a : Result Outcome SessionFault) → is_full s.segments (making_now s t.name t.branches).lengths (need_of_tree s t.name (length (making_now s t.name t.branches).lengths)) ≡ true
      → IfOk a (λ outcome. outcome ≡ Refused (Full (file_end s.segments) (sum (making_now s t.name t.branches).lengths))) → IfOk a (λ outcome. (m : State) → IsOfKeys s m → outcome ≡ outcome_of (next_of s m (MakeTree t.name t.branches)).reply)
  same_full (Err e) full is = tt
  same_full (Ok o) full is = λ m keys. is ∙ sym (outcome m keys full)

  pub tree_is_full : (end wanted : ℕ) → end ≡ file_end s.segments → wanted ≡ sum (making_now s t.name t.branches).lengths
      → is_full s.segments (making_now s t.name t.branches).lengths (need_of_tree s t.name (length (making_now s t.name t.branches).lengths)) ≡ true
      → SaysReply (reply_text replies (refused (Full end wanted))) cost old new s s' answer → IfOk answer (λ outcome. outcome ≡ Refused (Full end wanted)) → Does replies old new s s' c answer
  tree_is_full end wanted end_is wanted_is full says became =
      let its_says = subst (λ (p : ℕ × ℕ). SaysReply (reply_text replies (refused (Full p.0 p.1))) cost old new s s' answer) (λ i. (end_is i, wanted_is i)) says in
      let its_outcome = subst (λ (p : ℕ × ℕ). IfOk answer (λ outcome. outcome ≡ Refused (Full p.0 p.1))) (λ i. (end_is i, wanted_is i)) became in
      subst (λ (d : Command). Does replies old new s s' d answer) (sym command_is)
      (does_says replies old new s s' (text_of (refused (Full (file_end s.segments) (sum done.lengths)))) cost law law' ready make answer fresh its_says
      (λ spoken m keys. still m keys full)
      (λ spoken m said st. told m (of_keys s m st.file st.state) full)
      (same_full answer full its_outcome)
      (λ spoken m said st. subst (LacksRoomIfFull (with_cost cost s)) (sym (outcome m (of_keys s m st.file st.state) full)) (lacks full m st.file st.state)))
