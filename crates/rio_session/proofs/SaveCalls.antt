-- What a save does, in all clauses, by what was planned for it.
use Rattle.std.proofs.Common.{◌≡◌, ◌∙◌, ℕ, ◌+◌, ◌*◌, ◌-◌, ◌^◌, ◌<◌, min, List, length, sum, Bool, true, false, Option, Some, None, Result, Ok, Err, IfOk, refl, sym, ap, subst, arith}
use Rattle.std.specs.{List.{find}, Option.{option_map_or}}
use Rattle.rio_host.specs.Host.{IsLawful, View}
use Rattle.rio_key.specs.declared.head.KeyHead.{KeyHead}
use Rattle.rio_dir.specs.Table.{head_of}
use Rattle.rio_chain.specs.{Adjoining.{AreSegments}, Placing.{file_end}}
use Rattle.rio_machine.specs.{State.{State}, declared.command.Command.{Command, TheVariants.{Bad, Class, Put, Batch, Delete, Tree as MakeTree, Fill, Save, Get, Scan, Ls}}}
use Rattle.rio_machine.specs.{declared.command.Outcome.{Outcome, TheVariants.{Accepted, Refused}}, declared.refusal.Refusal.TheVariants.{Full}}
use Rattle.rio_tree.specs.HeaderLength.{header_size}
use Rattle.rio_tree_table.specs.declared.table.KeptTree.{KeptTree}
use Rattle.rio_format.specs.declared.class.ClassDef.{ClassDef}
use Rattle.rio_fill.specs.Fill.{defs_of}
use Rattle.rio_judge.proofs.KeysOfState.{first_is_found, found_key}
use Rattle.rio_judge.specs.{Trees.{IsJudgementOfItems, TreeWorkCanBeDone}, declared.work.JudgedWithTrees.TheVariants.{Accepted as Judgement}}
use Rattle.rio_judge.specs.declared.work.{AnyWork.TheVariants.{Tree}, TreeWork.TheVariants.{Save as Saving}}
use Rattle.rio_state.specs.Closing.{is_full}
use Rattle.rio_step.specs.{Refusing.{refusal_of}, ReplyText.{text_of}, Step.{outcome_of, refused, rows_saved, state_behind}}
use Rattle.rio_effect.specs.HeaderRecords.{HeadersHaveRecords}
use Rattle.rio_recover.specs.Closable.{list_count}
use Rattle.rio_session.specs.{Changing.{ChangesFile}, Doable.{AnyCanBeDone, IsToDo}, Does.{Does}, Due.{IsClosableWith}, Effects.{IsChangeOf, TakesEffect}, Fillings.{Done, nothing_done, saving, saving_tree, saving_with}}
use Rattle.rio_session.specs.{Fills.{AreNamesOrdered, FilledTree, is_tree_of, places_of_trees}, Items.{IsOfKeys}, Marks.{command_lengths, state_need}, Replying.{Replies, reply_text}, SavePlans.{need_of_save, saving_now}, Says.{Said, SaysReply}}
use Rattle.rio_session.specs.{Session.{HoldsState, IsReady, LacksRoomIfFull, StandsFor, next_of, with_cost}, SessionState.{SessionState, kept_trees}, Sound.{IsSoundState}, TreeWorks.{doing}, declared.fault.SessionFault.{SessionFault, TheVariants.{HostFault, SayFault, NoMemory}}}
use Rattle.rio_session.proofs.{Changed.{does_change}, FilledTrees.{found_name}, Follows.{saving_file}, FullCommands.{full_outcome, full_still, full_told}, KeepsGone.{key_begins, key_later}, OnlyReplies.{does_says}}
use Rattle.rio_session.proofs.{SaveCan.{is_savable, own_apart, own_sound, short}, SaveEffects.{save_takes}, SaveLacks.{save_lacks}, SaveRoom.{save_need_is, sound_here, tree_named}, SaveSteps.{cost_is, save_is_change}, StandsOn.{StandsOn, holds_on}, States.{of_keys}}

-- ---- costs, as far as 64 bits hold them

pub said_as : (text : List ℕ) (cost meant : ℕ) (old new : View) (before after : SessionState) → cost ≡ min meant (2 ^ 64 - 1) → Said text cost old new before after → Said text meant old new before after
said_as text cost meant old new before after is said = record {
  time = said.time;
  holds = said.holds;
  says = said.says;
  faults = said.faults;
  kept =
      let counted : min (before.costs + cost) (2 ^ 64 - 1) ≡ min (before.costs + meant) (2 ^ 64 - 1) = omega (arith, is) in
      said.kept ∙ (λ i. record before { costs = counted i });
}

pub says_as : {X : Type 0} (text : List ℕ) (cost meant : ℕ) (old new : View) (before after : SessionState) (answer : Result X SessionFault) → cost ≡ min meant (2 ^ 64 - 1) → SaysReply text cost old new before after answer
    → SaysReply text meant old new before after answer
says_as text cost meant old new before after (Ok x) is said = said_as text cost meant old new before after is said
says_as text cost meant old new before after (Err HostFault) is said = said
says_as text cost meant old new before after (Err SayFault) is said = said
says_as text cost meant old new before after (Err NoMemory) is said = said

-- ---- which command it is

is_save : (classes : List ClassDef) (heads : List KeyHead) (trees : List KeptTree) (c : Command) (h : KeyHead) → TreeWorkCanBeDone classes heads trees c (Saving h) → c ≡ Save h.name
is_save classes heads trees (Save name) h can = ap Save (sym (found_key name h.cycle heads h (first_is_found name heads h can.0.key)).0)
is_save classes heads trees (Bad line place) h can = absurd can
is_save classes heads trees (Class class) h can = absurd can
is_save classes heads trees (Put name v) h can = absurd can
is_save classes heads trees (Batch puts) h can = absurd can
is_save classes heads trees (Delete name cycle) h can = absurd can
is_save classes heads trees (MakeTree name branches) h can = absurd can
is_save classes heads trees (Fill name row) h can = absurd can
is_save classes heads trees (Get name cycle version) h can = absurd can
is_save classes heads trees (Scan name class) h can = absurd can
is_save classes heads trees Ls h can = absurd can

lengths_told : (s : SessionState) (m : State) (name : List ℕ) → command_lengths s m (Save name) ≡ (saving s name).lengths
unfolding command_lengths
lengths_told s m name = refl

-- ---- what it does

module _ (replies : Replies) (headers : HeadersHaveRecords) (old new : View) (s s' : SessionState) (law : IsLawful old) (law' : IsLawful new) (ready : IsReady old s) (fresh : s.failed ≡ false) (sound : IsSoundState s) (soon : s.datime < 2 ^ 32)
    (answer : Result Outcome SessionFault) (k : KeyHead) (can : AnyCanBeDone s (Tree (Saving k))) (t : FilledTree) (found : find (is_tree_of k.name) s.trees ≡ Some t) (ordered : AreNamesOrdered s.trees) (form : AreSegments s.segments)
    (c : Command) (todo : IsToDo s c (Tree (Saving k))) where
  closable : IsClosableWith s.segments s.heads s.trees s.info s.name
  closable = sound.kept fresh

  first : head_of k.name None s.heads ≡ Some k
  first = can.0

  abbrev v : FilledTree
  v = tree_named k t.fill

  as_named : t ≡ tree_named k t.fill
  as_named = let name = found_name k.name t s.trees found in λ i. record { name = name i; fill = t.fill }

  found_named : find (is_tree_of k.name) s.trees ≡ Some (tree_named k t.fill)
  found_named = found ∙ ap (λ (x : FilledTree). let o : Option FilledTree = Some x in o) as_named

  is : c ≡ Save k.name
  is = is_save s.classes s.heads (kept_trees s) c k todo.can

  judged : IsJudgementOfItems s.classes s.heads (kept_trees s) (Save k.name) (Judgement (Tree (Saving k)))
  judged = subst (λ (x : Command). IsJudgementOfItems s.classes s.heads (kept_trees s) x (Judgement (Tree (Saving k)))) is todo.judged

  free : (m : State) → IsOfKeys s m → refusal_of m (Save k.name) None ≡ None
  free m keys = (judged m keys.classes keys.keys).0

  done_is : saving s k.name ≡ saving_now s t k
  done_is =
      ap (λ (o : Option FilledTree). option_map_or (saving_tree s k.name) o (nothing_done s)) found_named
      ∙ ap (λ (o : Option KeyHead). option_map_or (saving_with s k.name t.fill) o (nothing_done s)) first
      ∙ ap (λ (x : FilledTree). saving_now s x k) (sym as_named)

  abbrev need_in : State → ℕ
  need_in m = state_need s.name (list_count s.info) (saving s k.name).kept.trees (state_behind m (Save k.name))

  room_as : (b : Bool) (m : State) → IsOfKeys s m → is_full s.segments (saving_now s t k).lengths (need_of_save s t k) ≡ b → is_full s.segments (saving s k.name).lengths (need_in m) ≡ b
  room_as b m keys room =
      let lengths = ap (λ (d : Done). d.lengths) (sym done_is) in
      let need = ap (λ (x : FilledTree). need_of_save s x k) as_named ∙ sym (save_need_is s k t.fill found_named first closable ordered form m keys) in
      subst (λ (x : List ℕ × ℕ). is_full s.segments x.0 x.1 ≡ b) (λ i. (lengths i, need i)) room

  room_named : (b : Bool) → is_full s.segments (saving_now s t k).lengths (need_of_save s t k) ≡ b → is_full s.segments (saving_now s v k).lengths (need_of_save s v k) ≡ b
  room_named b room = subst (λ (x : FilledTree). is_full s.segments (saving_now s x k).lengths (need_of_save s x k) ≡ b) as_named room

  abbrev pub save_meant : ℕ
  save_meant = 240 + header_size k.name (defs_of t.fill.branches) + 20 * length (defs_of t.fill.branches) * (t.fill.saved + t.fill.pending)

  takes : (m : State) (file : List ℕ) (h : HoldsState s m file) → TakesEffect s m (Save k.name) h.links
  takes m file h =
      let on : StandsOn s m file = holds_on s m file h in
      let its = own_sound s m file on k v found_named first closable in
      let savable = is_savable s m file on k v found_named first closable headers soon (free m (of_keys s m file h)) in
      let begins = key_begins s.segments s.heads s.info (places_of_trees s.trees) s.name k form closable.closable (first_is_found k.name s.heads k first) in
      let later = key_later s.segments s.heads s.info (places_of_trees s.trees) s.name k form closable.closable (first_is_found k.name s.heads k first) in
      save_takes s m file on k v found_named first its savable (own_apart s m file on k v found_named first closable) begins later

  pub save_is_done : (text : List ℕ) → is_full s.segments (saving_now s t k).lengths (need_of_save s t k) ≡ false → text ≡ reply_text replies (rows_saved k.name (k.cycle + 1) (t.fill.saved + t.fill.pending))
      → ChangesFile (doing (saving_now s t k) text save_meant) old new s s' answer → IfOk answer (λ outcome. outcome ≡ Accepted) → Does replies old new s s' c answer
  save_is_done text room text_is changes outcome =
      subst (λ (x : Command). Does replies old new s s' x answer) (sym is)
      (does_change replies (doing (saving s k.name) (text_of (rows_saved k.name (k.cycle + 1) (t.fill.saved + t.fill.pending))) save_meant) old new s s' law ready (Save k.name) answer fresh ((saving_file s k.name).failed ∙ fresh) law'
      (subst (λ (x : Done × List ℕ). ChangesFile (doing x.0 x.1 save_meant) old new s s' answer) (λ i. (sym done_is i, text_is i)) changes) refl is_change takes outcome)
    where
      is_change : (m : State) → IsOfKeys s m → IsChangeOf (doing (saving s k.name) (text_of (rows_saved k.name (k.cycle + 1) (t.fill.saved + t.fill.pending))) save_meant) s m (Save k.name)
      is_change m keys =
          let full : List ℕ = text_of (rows_saved k.name (k.cycle + 1) (t.fill.saved + t.fill.pending)) in
          save_is_change s m k keys v found_named first full save_meant (free m keys) (room_as false m keys room) refl refl

  -- ---- where there is no room

  module _ (full : is_full s.segments (saving_now s t k).lengths (need_of_save s t k) ≡ true) where
    abbrev lengths : List ℕ
    lengths = (saving s k.name).lengths

    outcome_is : (m : State) → IsOfKeys s m → outcome_of (next_of s m (Save k.name)).reply ≡ Refused (Full (file_end s.segments) (sum lengths))
    outcome_is m keys = full_outcome s m (Save k.name) lengths (need_in m) (lengths_told s m k.name) refl (free m keys) (room_as true m keys full)

    same_full : (a : Result Outcome SessionFault) → IfOk a (λ outcome. outcome ≡ Refused (Full (file_end s.segments) (sum lengths)))
        → IfOk a (λ outcome. (m : State) → IsOfKeys s m → outcome ≡ outcome_of (next_of s m (Save k.name)).reply)
    same_full (Ok outcome) same = λ m keys. same ∙ sym (outcome_is m keys)
    same_full (Err e) same = tt

    lacks_full : (m : State) (said : List ℕ) → StandsFor old s m said → LacksRoomIfFull (with_cost save_meant s) (outcome_of (next_of s m (Save k.name)).reply)
    lacks_full m said st =
        let on = holds_on s m st.file st.state in
        let named = short s m st.file on k v found_named first closable in
        let lacks = save_lacks s k t.fill found_named first named (sound_here s k t.fill found_named first closable ordered form) m st.file st.state closable (room_named true full) in
        subst (LacksRoomIfFull (with_cost save_meant s)) (sym (outcome_is m (of_keys s m st.file st.state))) lacks

    full_does : SaysReply (reply_text replies (refused (Full (file_end s.segments) (sum lengths)))) save_meant old new s s' answer → IfOk answer (λ outcome. outcome ≡ Refused (Full (file_end s.segments) (sum lengths)))
        → Does replies old new s s' (Save k.name) answer
    full_does says same =
        does_says replies old new s s' (text_of (refused (Full (file_end s.segments) (sum lengths)))) save_meant law law' ready (Save k.name) answer fresh says
        (λ spoken m keys. full_still s m (Save k.name) lengths (need_in m) (lengths_told s m k.name) refl (free m keys) (room_as true m keys full) save_meant (cost_is s m k keys v found_named first (free m keys)))
        (λ spoken m said st. let keys = of_keys s m st.file st.state in full_told s m (Save k.name) lengths (need_in m) (lengths_told s m k.name) refl (free m keys) (room_as true m keys full))
        (same_full answer same) (λ spoken. lacks_full)

    pub save_is_refused : (end wanted : ℕ) → end ≡ file_end s.segments → wanted ≡ sum (saving_now s t k).lengths → SaysReply (reply_text replies (refused (Full end wanted))) save_meant old new s s' answer
        → IfOk answer (λ outcome. outcome ≡ Refused (Full end wanted)) → Does replies old new s s' c answer
    save_is_refused end wanted end_is wanted_is says same =
        let all : wanted ≡ sum lengths = wanted_is ∙ ap (λ (d : Done). sum d.lengths) (sym done_is) in
        subst (λ (x : Command). Does replies old new s s' x answer) (sym is)
        (full_does (subst (λ (x : ℕ × ℕ). SaysReply (reply_text replies (refused (Full x.0 x.1))) save_meant old new s s' answer) (λ i. (end_is i, all i)) says)
        (subst (λ (x : ℕ × ℕ). IfOk answer (λ outcome. outcome ≡ Refused (Full x.0 x.1))) (λ i. (end_is i, all i)) same))
