-- What a batch does, in all clauses.
use Rattle.std.proofs.Common.{◌≡◌, ℕ, ◌+◌, ◌^◌, ◌<◌, List, [], ◌∷◌, length, map, None, Result, Ok, Err, IfOk, true, false, refl, sym, subst, ◌∙◌}
use Rattle.std.specs.{Prelude.{sum}, List.{All}}
use Rattle.rio_host.specs.Host.{IsLawful, View}
use Rattle.rio_format.specs.declared.class.ClassDef.{ClassDef}
use Rattle.rio_key.specs.declared.head.KeyHead.{KeyHead}
use Rattle.rio_dir.specs.Table.{with_heads}
use Rattle.rio_chain.specs.Placing.{file_end, place_of, record_count}
use Rattle.rio_model.specs.StateClasses.{StateClasses}
use Rattle.rio_machine.specs.State.{State}
use Rattle.rio_machine.specs.declared.command.Command.{Command, TheVariants.{Bad, Class, Put, Batch, Delete, Tree, Fill, Save, Get, Scan, Ls}}
use Rattle.rio_machine.specs.declared.command.{Outcome.{Outcome, TheVariants.{Accepted, Refused}}, PutItem.{PutItem}}
use Rattle.rio_machine.specs.declared.refusal.Refusal.TheVariants.{Full}
use Rattle.rio_state.specs.Closing.{is_full}
use Rattle.rio_step.specs.{Refusing.{refusal_of}, ReplyText.{text_of}, Statable.{IsStatable}, Step.{objects_put, outcome_of, refused}}
use Rattle.rio_judge.specs.{Judging.{AreSteps, WorkCanBeDone}, Trees.{IsJudgementOfItems}}
use Rattle.rio_judge.specs.declared.work.{AnyWork.TheVariants.{Item}, JudgedWithTrees.TheVariants.{Accepted as Judgement}}
use Rattle.rio_judge.specs.declared.work.{StoredObject.{StoredObject}, Work.TheVariants.{Batch as StoringAll}}
use Rattle.rio_session.specs.{Behind.{IsOfKeys}, Causes.{IsSaid}, Changing.{ChangesFile}, Does.{Does}, Due.{IsClosableWith, need_with}, Effects.{IsChangeOf, TakesEffect}}
use Rattle.rio_session.specs.{Puts.{AreKeysFor, IsStored, IsStoredBatch, putting_all, stored_length}, Replying.{Replies, reply_text}, Says.{SaysReply}}
use Rattle.rio_session.specs.{Session.{HoldsState, IsReady, LacksRoomIfFull, SessionState, StandsFor, next_of, with_cost}, SessionState.{kept_trees}, declared.batch.NewBatch.{NewBatch}, declared.fault.SessionFault.{SessionFault}}
use Rattle.rio_session.proofs.{BatchRoom.{batch_takes}, Changed.{does_change}, OnlyReplies.{IsStill, does_says}, States.{of_keys}}
use Rattle.rio_session.proofs.BatchSteps.{batch_full_lacks, batch_full_outcome, batch_full_still, batch_full_told, batch_is_change}

-- ---- which command it is

pub is_batch : (classes : List ClassDef) (heads : List KeyHead) (c : Command) (os : List StoredObject) → WorkCanBeDone classes heads c (StoringAll os) → (puts : List PutItem) × (c ≡ Batch puts)
is_batch classes heads (Bad line place) os can = absurd can
is_batch classes heads (Class class) os can = absurd can
is_batch classes heads (Put name v) os can = absurd can
is_batch classes heads (Batch puts) os can = (puts, refl)
is_batch classes heads (Delete name cycle) os can = absurd can
is_batch classes heads (Tree name branches) os can = absurd can
is_batch classes heads (Fill name row) os can = absurd can
is_batch classes heads (Save name) os can = absurd can
is_batch classes heads (Get name asked version) os can = absurd can
is_batch classes heads (Scan name class) os can = absurd can
is_batch classes heads Ls os can = absurd can

-- ---- what it does

module _ (replies : Replies) (old new : View) (s s' : SessionState) (law : IsLawful old) (law' : IsLawful new) (ready : IsReady old s) (fresh : s.failed ≡ false) (answer : Result Outcome SessionFault)
    (puts : List PutItem) (os : List StoredObject) (n need cost : ℕ) (classes : StateClasses s.classes) (kept : IsClosableWith s.segments s.heads s.trees s.info s.name) (statable : IsStatable (Batch puts)) (soon : s.datime < 2 ^ 32)
    (judged : IsJudgementOfItems s.classes s.heads (kept_trees s) (Batch puts) (Judgement (Item (StoringAll os)))) (all : All (IsStored s.classes) os) (n_is : n ≡ sum (map stored_length os))
    (need_of : (hs : List KeyHead) → AreKeysFor os hs → need ≡ need_with s.name (with_heads hs s.heads) (record_count s.segments + length os) s.trees) (cost_is : cost ≡ sum (map (λ o. 500 + o.length) os)) where
  its : (m : State) → IsOfKeys s m → (refusal_of m (Batch puts) None ≡ None) × AreSteps m puts os
  its m keys = let j = judged m keys.classes keys.keys in (j.0, j.1)

  pub batch_does : (place : ℕ) (made : NewBatch) (text : List ℕ) → IsStoredBatch s place os made → text ≡ reply_text replies (objects_put (map (λ o. (o.name, o.cycle)) os)) → place ≡ place_of s.segments n
      → is_full s.segments (n ∷ []) need ≡ false → ChangesFile (putting_all s made text cost) old new s s' answer → IfOk answer (λ outcome. outcome ≡ Accepted) → Does replies old new s s' (Batch puts) answer
  batch_does place made text r text_is at room changes is =
      does_change replies (putting_all s made (text_of (objects_put (map (λ o. (o.name, o.cycle)) os))) cost) old new s s' law ready (Batch puts) answer fresh fresh law'
      (subst (λ (l : List ℕ). ChangesFile (putting_all s made l cost) old new s s' answer) text_is changes) refl is_change takes is
    where
      is_change : (m : State) → IsOfKeys s m → IsChangeOf (putting_all s made (text_of (objects_put (map (λ o. (o.name, o.cycle)) os))) cost) s m (Batch puts)
      is_change m keys =
          let j = its m keys in
          batch_is_change s m keys classes kept puts os all j.0 j.1 n need n_is need_of place made r at room (text_of (objects_put (map (λ o. (o.name, o.cycle)) os))) cost refl cost_is

      takes : (m : State) (file : List ℕ) (h : HoldsState s m file) → TakesEffect s m (Batch puts) h.links
      takes m file h = batch_takes s m file h (record { classes = classes; kept = λ f. kept }) fresh soon puts statable (is_change m (of_keys s m file h)).free

  module _ (full : is_full s.segments (n ∷ []) need ≡ true) where
    outcome_is : (m : State) → IsOfKeys s m → outcome_of (next_of s m (Batch puts)).reply ≡ Refused (Full (file_end s.segments) n)
    outcome_is m keys = let j = its m keys in batch_full_outcome s m keys classes kept puts os all j.0 j.1 n need n_is need_of full

    same_full : (a : Result Outcome SessionFault) → IfOk a (λ outcome. outcome ≡ Refused (Full (file_end s.segments) n)) → IfOk a (λ outcome. (m : State) → IsOfKeys s m → outcome ≡ outcome_of (next_of s m (Batch puts)).reply)
    same_full (Ok outcome) is = λ m keys. is ∙ sym (outcome_is m keys)
    same_full (Err e) is = tt

    lacks_full : (m : State) (said : List ℕ) → StandsFor old s m said → LacksRoomIfFull (with_cost cost s) (outcome_of (next_of s m (Batch puts)).reply)
    lacks_full m said st =
        let keys = of_keys s m st.file st.state in
        let j = its m keys in
        let lacks = batch_full_lacks s m keys classes kept puts os all j.0 j.1 n need n_is need_of full st.file st.state cost cost_is in
        subst (LacksRoomIfFull (with_cost cost s)) (sym (outcome_is m keys)) lacks

    pub batch_full_does : SaysReply (reply_text replies (refused (Full (file_end s.segments) n))) cost old new s s' answer → IfOk answer (λ outcome. outcome ≡ Refused (Full (file_end s.segments) n)) → Does replies old new s s' (Batch puts) answer
    batch_full_does says is =
        does_says replies old new s s' (text_of (refused (Full (file_end s.segments) n))) cost law law' ready (Batch puts) answer fresh says still told
        (same_full answer is) (λ spoken. lacks_full)
      where
        still : IsSaid answer → (m : State) → IsOfKeys s m → IsStill s m (Batch puts) cost
        still spoken m keys = let j = its m keys in batch_full_still s m keys classes kept puts os all j.0 j.1 n need n_is need_of full cost cost_is

        told : IsSaid answer → (m : State) (said : List ℕ) → StandsFor old s m said → text_of (refused (Full (file_end s.segments) n)) ≡ text_of (next_of s m (Batch puts)).reply
        told spoken m said st =
            let keys = of_keys s m st.file st.state in
            let j = its m keys in
            batch_full_told s m keys classes kept puts os all j.0 j.1 n need n_is need_of full
