-- What each command does, in all clauses.
use Rattle.std.proofs.Common.{◌≡◌, ℕ, ℤ, ◌+◌, ◌^◌, ◌<◌, ◌≤◌, List, [], ◌∷◌, Option, Some, None, Result, Ok, Err, IfOk, Bool, true, false, refl, sym, ap, subst, ◌∙◌, arith}
use Rattle.rio_host.specs.Host.{IsLawful, View}
use Rattle.rio_num.specs.Word.{is_item_text}
use Rattle.rio_format.specs.{declared.class.ClassDef.{ClassDef}, declared.value.Value.{Value}}
use Rattle.rio_key.specs.declared.head.KeyHead.{KeyHead}
use Rattle.rio_dir.specs.Table.{head_of, with_head}
use Rattle.rio_chain.specs.Placing.{file_end, place_of, record_count}
use Rattle.rio_machine.specs.{Limits.{head_length}, State.{State}}
use Rattle.rio_machine.specs.declared.command.Command.{Command, TheVariants.{Bad, Class, Put, Batch, Delete, Tree, Fill, Save, Get, Scan, Ls}}
use Rattle.rio_machine.specs.{declared.command.Outcome.{Outcome, TheVariants.{Accepted, Refused}}, declared.refusal.Refusal.{Refusal, TheVariants.{Full}}}
use Rattle.rio_chain.specs.declared.record.NewRecord.{NewRecord}
use Rattle.rio_reply.specs.Told.{item_listing_of}
use Rattle.rio_state.specs.Closing.{is_full, padded_length}
use Rattle.rio_step.specs.{Costs.{cost_of, value_size}, Refusing.{meant_object, refusal_of}, ReplyText.{text_of}, Step.{object_put, outcome_of, refused}}
use Rattle.rio_judge.specs.{Judging.{IsStep, WorkCanBeDone}, Trees.{IsJudgementOfItems}}
use Rattle.rio_judge.specs.declared.work.{AnyWork.TheVariants.{Item}, JudgedWithTrees.TheVariants.{Accepted as Judgement, Refused as RefusalOf}}
use Rattle.rio_judge.specs.declared.work.{StoredObject.{StoredObject}, Work.TheVariants.{Put as Storing, Get as Telling, Ls as Listing}}
use Rattle.rio_effect.specs.ObjectRecord.{key_of_put}
use Rattle.rio_model.specs.StateClasses.{StateClasses}
use Rattle.rio_recover.specs.Closable.{is_sized}
use Rattle.rio_session.specs.{Behind.{IsOfKeys}, Changing.{ChangesFile}, Due.{IsClosableWith, need_with}, Doable.{IsToDo}, Does.{Does}, Causes.{IsSaid}, Effects.{IsChangeOf, TakesEffect}, Gets.{TellsObject}, Replying.{Replies, printed_of, reply_text}, Sound.{IsSoundState}}
use Rattle.rio_session.specs.{Puts.{IsStoredRecord, putting}, Says.{SaysReply}}
use Rattle.rio_session.specs.{Session.{HoldsState, IsReady, LacksRoomIfFull, SessionState, StandsFor, next_of, with_cost}, declared.fault.SessionFault.{SessionFault}}
use Rattle.rio_session.proofs.GetSteps.{IsSaidOf, get_lacks, get_plain, get_said, get_still, some_of}
use Rattle.rio_session.proofs.OtherSteps.{ls_outcome, ls_still, ls_told, refused_lacks, refused_outcome, refused_still, refused_told}
use Rattle.rio_session.proofs.{Changed.{does_change}, PutEffects.{put_takes_effect_on}}
use Rattle.rio_session.proofs.PutSteps.{full_lacks, full_outcome, full_still, full_told, key_class, key_name, key_sized, put_is_change}
use Rattle.rio_session.proofs.{Refused.{cost_accepted}, OnlyReplies.{IsOutcomeOf, IsStill, does_reply, does_says}, States.{of_keys}}
use Rattle.rio_session.specs.SessionState.{kept_trees}

-- ---- which command it is

is_ls : (classes : List ClassDef) (heads : List KeyHead) (c : Command) → WorkCanBeDone classes heads c Listing → c ≡ Ls
is_ls classes heads (Bad line place) can = absurd can
is_ls classes heads (Class class) can = absurd can
is_ls classes heads (Put name v) can = absurd can
is_ls classes heads (Batch puts) can = absurd can
is_ls classes heads (Delete name cycle) can = absurd can
is_ls classes heads (Tree name branches) can = absurd can
is_ls classes heads (Fill name row) can = absurd can
is_ls classes heads (Save name) can = absurd can
is_ls classes heads (Get name cycle version) can = absurd can
is_ls classes heads (Scan name class) can = absurd can
is_ls classes heads Ls can = refl

pub is_get : (classes : List ClassDef) (heads : List KeyHead) (c : Command) (h : KeyHead) (version : Option ℤ) → WorkCanBeDone classes heads c (Telling h version) → (name : List ℕ) × (asked : Option ℕ) × (c ≡ Get name asked version)
is_get classes heads (Bad line place) h version can = absurd can
is_get classes heads (Class class) h version can = absurd can
is_get classes heads (Put name v) h version can = absurd can
is_get classes heads (Batch puts) h version can = absurd can
is_get classes heads (Delete name cycle) h version can = absurd can
is_get classes heads (Tree name branches) h version can = absurd can
is_get classes heads (Fill name row) h version can = absurd can
is_get classes heads (Save name) h version can = absurd can
is_get classes heads (Get name asked own) h version can = (name, asked, ap (λ (o : Option ℤ). Get name asked o) (sym can.0))
is_get classes heads (Scan name class) h version can = absurd can
is_get classes heads Ls h version can = absurd can

pub is_put : (classes : List ClassDef) (heads : List KeyHead) (c : Command) (o : StoredObject) → WorkCanBeDone classes heads c (Storing o) → (v : Value) × (c ≡ Put o.name v)
is_put classes heads (Bad line place) o can = absurd can
is_put classes heads (Class class) o can = absurd can
is_put classes heads (Put name v) o can = (v, ap (λ (n : List ℕ). Put n v) (sym can.0))
is_put classes heads (Batch puts) o can = absurd can
is_put classes heads (Delete name cycle) o can = absurd can
is_put classes heads (Tree name branches) o can = absurd can
is_put classes heads (Fill name row) o can = absurd can
is_put classes heads (Save name) o can = absurd can
is_put classes heads (Get name asked version) o can = absurd can
is_put classes heads (Scan name class) o can = absurd can
is_put classes heads Ls o can = absurd can

module _ (replies : Replies) (old new : View) (s s' : SessionState) (law : IsLawful old) (law' : IsLawful new) (ready : IsReady old s) (fresh : s.failed ≡ false) (answer : Result Outcome SessionFault) where
  -- ---- refused by the state

  same_refused : (c : Command) (refusal : Refusal) (a : Result Outcome SessionFault) → IsJudgementOfItems s.classes s.heads (kept_trees s) c (RefusalOf refusal) → IfOk a (λ outcome. outcome ≡ Refused refusal)
      → IfOk a (λ outcome. (m : State) → IsOfKeys s m → outcome ≡ outcome_of (next_of s m c).reply)
  same_refused c refusal (Ok outcome) judged is = λ m keys. is ∙ sym (refused_outcome s m c refusal (judged m keys.classes keys.keys))
  same_refused c refusal (Err e) judged is = tt

  pub refused_does : (c : Command) (refusal : Refusal) → IsJudgementOfItems s.classes s.heads (kept_trees s) c (RefusalOf refusal) → SaysReply (reply_text replies (refused refusal)) 0 old new s s' answer → IfOk answer (λ outcome. outcome ≡ Refused refusal)
      → Does replies old new s s' c answer
  refused_does c refusal judged says is =
      does_says replies old new s s' (text_of (refused refusal)) 0 law law' ready c answer fresh says
      (λ spoken m keys. refused_still s m c refusal (judged m keys.classes keys.keys))
      (λ spoken m said st. let keys = of_keys s m st.file st.state in refused_told s m c refusal (judged m keys.classes keys.keys))
      (same_refused c refusal answer judged is) lacks
    where
      lacks : IsSaid answer → (m : State) (said : List ℕ) → StandsFor old s m said → LacksRoomIfFull (with_cost 0 s) (outcome_of (next_of s m c).reply)
      lacks spoken m said st =
          let keys = of_keys s m st.file st.state in
          let j = judged m keys.classes keys.keys in
          subst (λ (o : Outcome). LacksRoomIfFull (with_cost 0 s) o) (sym (refused_outcome s m c refusal j)) (refused_lacks s m c refusal j (with_cost 0 s))

  -- ---- ls

  same_accepted : (c : Command) (a : Result Outcome SessionFault) → ((m : State) → IsOfKeys s m → outcome_of (next_of s m c).reply ≡ Accepted) → IfOk a (λ outcome. outcome ≡ Accepted)
      → IfOk a (λ outcome. (m : State) → IsOfKeys s m → outcome ≡ outcome_of (next_of s m c).reply)
  same_accepted c (Ok outcome) accepted is = λ m keys. is ∙ sym (accepted m keys)
  same_accepted c (Err e) accepted is = tt

  lacks_accepted : (c : Command) → ((m : State) → IsOfKeys s m → outcome_of (next_of s m c).reply ≡ Accepted)
      → (m : State) (said : List ℕ) → StandsFor old s m said → LacksRoomIfFull (with_cost 0 s) (outcome_of (next_of s m c).reply)
  lacks_accepted c accepted m said st = subst (λ (o : Outcome). LacksRoomIfFull (with_cost 0 s) o) (sym (accepted m (of_keys s m st.file st.state))) tt

  pub ls_does : IsSoundState s → IsJudgementOfItems s.classes s.heads (kept_trees s) Ls (Judgement (Item Listing)) → SaysReply (printed_of replies (item_listing_of (kept_trees s) s.heads)) 0 old new s s' answer → IfOk answer (λ outcome. outcome ≡ Accepted) → Does replies old new s s' Ls answer
  ls_does sound judged says is =
      does_says replies old new s s' (item_listing_of (kept_trees s) s.heads) 0 law law' ready Ls answer fresh says
      (λ spoken m keys. ls_still s m keys (sound.kept fresh) (judged m keys.classes keys.keys).0)
      (λ spoken m said st. let keys = of_keys s m st.file st.state in ls_told s m keys (sound.kept fresh) (judged m keys.classes keys.keys).0)
      (same_accepted Ls answer outcome is) (λ spoken. lacks_accepted Ls outcome)
    where
      outcome : (m : State) → IsOfKeys s m → outcome_of (next_of s m Ls).reply ≡ Accepted
      outcome m keys = ls_outcome s m keys (sound.kept fresh) (judged m keys.classes keys.keys).0

  -- ---- get

  its_outcome : (c : Command) (became : Outcome) (a : Result Outcome SessionFault) → (IsSaid a → IsOutcomeOf old s c became) → IfOk a (λ outcome. outcome ≡ became) → IfOk a (IsOutcomeOf old s c)
  its_outcome c became (Ok outcome) of is = subst (IsOutcomeOf old s c) (sym is) (of tt)
  its_outcome c became (Err e) of is = tt

  pub get_does : (name : List ℕ) (asked : Option ℕ) (version : Option ℤ) (h : KeyHead) → IsSoundState s → head_of name (Some h.cycle) s.heads ≡ Some h
      → IsJudgementOfItems s.classes s.heads (kept_trees s) (Get name asked version) (Judgement (Item (Telling h version))) → TellsObject replies h version old new s s' answer → Does replies old new s s' (Get name asked version) answer
  get_does name asked version h sound found judged t =
      does_reply replies old new s s' t.prints.text 0 law law' ready (Get name asked version) answer fresh t.prints.says
      (λ spoken m keys. get_still s m keys (sound.kept fresh) name asked version)
      (λ spoken m said st. (said_of spoken m said st).0)
      (its_outcome (Get name asked version) t.prints.outcome answer becomes t.prints.outcome_is)
      (λ spoken m said st. get_lacks s m (of_keys s m st.file st.state) (sound.kept fresh) name asked version (with_cost 0 s))
    where
      said_of : IsSaid answer → (m : State) (said : List ℕ) → StandsFor old s m said → IsSaidOf s m name asked version t.prints.text t.prints.outcome
      said_of spoken m said st =
          let keys = of_keys s m st.file st.state in
          let j = judged m keys.classes keys.keys in
          let x = some_of (meant_object m name asked) j.1.2 in
          get_said s m st.file st.state (sound.kept fresh) name asked h.cycle h t.bytes j.1.1 found (t.there spoken st.file st.holds st.state.links st.state.chain) x.0 x.1
          version j.0 t.prints.text t.prints.outcome (t.prints.reply spoken)

      becomes : IsSaid answer → IsOutcomeOf old s (Get name asked version) t.prints.outcome
      becomes spoken = record {
        same = λ m said st. (said_of spoken m said st).1;
        told = λ by_keys m keys. get_plain s m keys (sound.kept fresh) name asked version h t.bytes by_keys t.prints.text t.prints.outcome (t.prints.reply spoken) (judged m keys.classes keys.keys).0;
        plain = λ m keys accepted. record { changes = refl; kept = refl };
      }

  pub ls_is_done : (c : Command) → IsToDo s c (Item Listing) → IsSoundState s → SaysReply (printed_of replies (item_listing_of (kept_trees s) s.heads)) 0 old new s s' answer → IfOk answer (λ outcome. outcome ≡ Accepted) → Does replies old new s s' c answer
  ls_is_done c todo sound says outcome =
      let is : c ≡ Ls = is_ls s.classes s.heads c todo.can.0 in
      subst (λ (x : Command). Does replies old new s s' x answer) (sym is) (ls_does sound (subst (λ (x : Command). IsJudgementOfItems s.classes s.heads (kept_trees s) x (Judgement (Item Listing))) is todo.judged) says outcome)

  pub get_is_done : (c : Command) (h : KeyHead) (version : Option ℤ) → IsToDo s c (Item (Telling h version)) → IsSoundState s → TellsObject replies h version old new s s' answer → Does replies old new s s' c answer
  get_is_done c h version todo sound t =
      let is = is_get s.classes s.heads c h version todo.can.0 in
      let to : IsToDo s (Get is.0 is.1 version) (Item (Telling h version)) = subst (λ (x : Command). IsToDo s x (Item (Telling h version))) is.2 todo in
      subst (λ (x : Command). Does replies old new s s' x answer) (sym is.2) (get_does is.0 is.1 version h sound to.can.0.1 to.judged t)

  -- ---- put

  module _ (v : Value) (o : StoredObject) (n need cost : ℕ) (classes : StateClasses s.classes) (kept : IsClosableWith s.segments s.heads s.trees s.info s.name)
      (named : is_item_text o.name ≡ true) (soon : s.datime < 2 ^ 32) (judged : IsJudgementOfItems s.classes s.heads (kept_trees s) (Put o.name v) (Judgement (Item (Storing o)))) (unused : head_of o.name (Some o.cycle) s.heads ≡ None)
      (n_is : n ≡ padded_length (head_length o.class o.name + o.length)) (need_is : (h : KeyHead) → is_sized h ≡ true → h.class ≡ o.class → h.name ≡ o.name → need ≡ need_with s.name (with_head h s.heads) (record_count s.segments + 1) s.trees)
      (cost_is : cost ≡ 500 + o.length) where
    its : (m : State) → IsOfKeys s m → (refusal_of m (Put o.name v) None ≡ None) × IsStep m v o
    its m keys = let j = judged m keys.classes keys.keys in (j.0, j.1.1)

    abbrev room_of : Bool → ℕ → State → Type 0
    room_of b place m = is_full s.segments (padded_length (head_length o.class o.name + o.length) ∷ []) (need_with s.name (with_head (key_of_put m place s.datime o.name v) s.heads) (record_count s.segments + 1) s.trees) ≡ b

    room_is : (b : Bool) (place : ℕ) → place < 2 ^ 32 → is_full s.segments (n ∷ []) need ≡ b → (m : State) (keys : IsOfKeys s m) → room_of b place m
    room_is b place low is m keys =
        let j = its m keys in
        let k = need_is (key_of_put m place s.datime o.name v)
        (key_sized s m keys classes kept.closable.count kept.closable.sized v o place low soon named j.0 j.1 unused)
        (key_class s m keys classes kept.closable.count kept.closable.sized v o place low soon named j.0 j.1 unused)
        (key_name s m keys classes kept.closable.count kept.closable.sized v o place low soon named j.0 j.1 unused) in
        subst (λ (x : ℕ × ℕ). is_full s.segments (x.0 ∷ []) x.1 ≡ b) (λ i. (n_is i, k i)) is

    pub put_does : (place : ℕ) (made : NewRecord) (text : List ℕ) → place < 2 ^ 32 → IsStoredRecord s place o made → text ≡ reply_text replies (object_put o.name o.cycle)
        → place ≡ place_of s.segments n → is_full s.segments (n ∷ []) need ≡ false → ChangesFile (putting s made text cost) old new s s' answer → IfOk answer (λ outcome. outcome ≡ Accepted) → Does replies old new s s' (Put o.name v) answer
    put_does place made text low r text_is at room changes is =
        does_change replies (putting s made (text_of (object_put o.name o.cycle)) cost) old new s s' law ready (Put o.name v) answer fresh fresh law'
        (subst (λ (l : List ℕ). ChangesFile (putting s made l cost) old new s s' answer) text_is changes) refl is_change takes is
      where
        is_change : (m : State) → IsOfKeys s m → IsChangeOf (putting s made (text_of (object_put o.name o.cycle)) cost) s m (Put o.name v)
        is_change m keys =
            let j = its m keys in
            put_is_change s m keys classes kept.closable.count kept.closable.sized v o place low soon named j.0 j.1 unused made r (room_is false place low room m keys) (at ∙ ap (place_of s.segments) n_is) (text_of (object_put o.name o.cycle)) cost refl cost_is

        takes : (m : State) (file : List ℕ) (h : HoldsState s m file) → TakesEffect s m (Put o.name v) h.links
        takes m file h = put_takes_effect_on s m file h (record { classes = classes; kept = λ f. kept }) fresh soon o.name v named (its m (of_keys s m file h)).0

    same_full : (a : Result Outcome SessionFault) → is_full s.segments (n ∷ []) need ≡ true → IfOk a (λ outcome. outcome ≡ Refused (Full (file_end s.segments) n))
        → IfOk a (λ outcome. (m : State) → IsOfKeys s m → outcome ≡ outcome_of (next_of s m (Put o.name v)).reply)
    same_full (Err e) room is = tt
    same_full (Ok outcome) room is = λ m keys.
        let j = its m keys in
        is ∙ ap (λ (k : ℕ). Refused (Full (file_end s.segments) k)) n_is
        ∙ sym (full_outcome s m keys classes kept.closable.count kept.closable.sized v o 0 (omega arith) soon named j.0 j.1 unused (room_is true 0 (omega arith) room m keys))

    lacks_full : head_length o.class o.name ≤ 229 → is_full s.segments (n ∷ []) need ≡ true
        → (m : State) (said : List ℕ) → StandsFor old s m said → LacksRoomIfFull (with_cost cost s) (outcome_of (next_of s m (Put o.name v)).reply)
    lacks_full short room m said st =
        let keys = of_keys s m st.file st.state in
        let j = its m keys in
        let full = room_is true 0 (omega arith) room m keys in
        let lacks = full_lacks s m st.file st.state classes kept v o 0 (omega arith) soon named j.0 j.1 unused full cost cost_is short in
        subst (LacksRoomIfFull (with_cost cost s)) (sym (full_outcome s m keys classes kept.closable.count kept.closable.sized v o 0 (omega arith) soon named j.0 j.1 unused full)) lacks

    pub full_does : head_length o.class o.name ≤ 229 → is_full s.segments (n ∷ []) need ≡ true → SaysReply (reply_text replies (refused (Full (file_end s.segments) n))) cost old new s s' answer
        → IfOk answer (λ outcome. outcome ≡ Refused (Full (file_end s.segments) n)) → Does replies old new s s' (Put o.name v) answer
    full_does short room says is =
        does_says replies old new s s' (text_of (refused (Full (file_end s.segments) n))) cost law law' ready (Put o.name v) answer fresh says still told
        (same_full answer room is) (λ spoken. lacks_full short room)
      where
        still : IsSaid answer → (m : State) → IsOfKeys s m → IsStill s m (Put o.name v) cost
        still spoken m keys =
            let j = its m keys in
            let costs : cost ≡ cost_of m (Put o.name v) = cost_is ∙ ap (λ (k : ℕ). 500 + k) (j.1.written ∙ ap (λ (w : Value). value_size m.classes w) j.1.value) ∙ sym (cost_accepted m (Put o.name v) j.0) in
            full_still s m keys classes kept.closable.count kept.closable.sized v o 0 (omega arith) soon named j.0 j.1 unused (room_is true 0 (omega arith) room m keys) cost costs

        told : IsSaid answer → (m : State) (said : List ℕ) → StandsFor old s m said → text_of (refused (Full (file_end s.segments) n)) ≡ text_of (next_of s m (Put o.name v)).reply
        told spoken m said st =
            let keys = of_keys s m st.file st.state in
            let j = its m keys in
            ap (λ (k : ℕ). text_of (refused (Full (file_end s.segments) k))) n_is
            ∙ full_told s m keys classes kept.closable.count kept.closable.sized v o 0 (omega arith) soon named j.0 j.1 unused (room_is true 0 (omega arith) room m keys)
