-- The facts that storing the objects of a batch needs, by the command's judgement and what a session keeps.
use Rattle.std.proofs.Common.{◌≡◌, ℕ, ◌+◌, ◌^◌, ◌<◌, ◌≤◌, List, [], ◌∷◌, ◌++◌, length, map, max, Bool, true, false, cond, None, Some, Result, IfOk, refl, sym, ap, subst, ◌∙◌, arith}
use Rattle.std.proofs.{lemmas.Bool.{and_parts, ltb-true}, lemmas.List.{length-map}, lemmas.Slice.Eq.{bytes_eq-Decides}}
use Rattle.std.specs.{Prelude.{if◌then◌else◌, nat_lt, sum}, List.{All, list_all}, Str.{bytes_eq}}
use Rattle.rio_num.specs.Word.{is_item_text}
use Rattle.rio_host.specs.Host.{IsLawful, View}
use Rattle.rio_key.specs.declared.head.KeyHead.{KeyHead}
use Rattle.rio_format.specs.declared.class.ClassDef.{ClassDef}
use Rattle.rio_dir.specs.Table.{greatest_cycle, head_of, is_before, is_of_name, with_head, with_heads}
use Rattle.rio_chain.specs.{Adjoining.{AreSegments}, Placing.{file_end, place_of, record_count, with_segment}}
use Rattle.rio_model.specs.StateClasses.{StateClasses}
use Rattle.rio_machine.specs.declared.command.Command.{Command, TheVariants.{Batch}}
use Rattle.rio_machine.specs.declared.command.{Outcome.{Outcome, TheVariants.{Accepted, Refused}}, PutItem.{PutItem}}
use Rattle.rio_machine.specs.declared.refusal.Refusal.TheVariants.{Full}
use Rattle.rio_state.specs.Closing.{end_limit, is_full}
use Rattle.rio_step.specs.{Refusing.{times_put}, Step.{objects_put, refused}}
use Rattle.rio_step.proofs.BatchLaws.{times_more}
use Rattle.rio_judge.proofs.KeysOfState.{next_is_new}
use Rattle.rio_judge.specs.Judging.{CanAllBePut, CanEachBePut}
use Rattle.rio_judge.specs.declared.work.{AnyWork.TheVariants.{Item}, StoredObject.{StoredObject}, Work.TheVariants.{Batch as StoringAll}}
use Rattle.rio_session.specs.{Changing.{ChangesFile}, Doable.{CanBeDone, IsToDo}, Does.{Does}, Due.{need_with}, Sound.{IsSoundState}}
use Rattle.rio_session.specs.Puts.{AreKeysFor, AreStored, CanPutAll, IsStored, IsStoredBatch, putting_all, stored_length}
use Rattle.rio_session.specs.{Replying.{Replies, reply_text}, Says.{SaysReply}, Session.{IsReady, SessionState}, declared.batch.NewBatch.{NewBatch}, declared.fault.SessionFault.{SessionFault}}
use Rattle.rio_session.proofs.{BatchDoes.{batch_does, batch_full_does, is_batch}, BatchFacts.{can_put_all, keys_for}, BatchMade.{each_stored}, StoredRecords.{is_stored}}

-- ---- greatest cycles

abbrev raised : Bool → ℕ → ℕ → ℕ
raised b cycle n = cond b (max cycle n) n

swapped : (a b : Bool) (x y n : ℕ) → raised a x (raised b y n) ≡ raised b y (raised a x n)
swapped true true x y n = omega arith
swapped true false x y n = refl
swapped false true x y n = refl
swapped false false x y n = refl

-- with a key more
greatest_with : (name : List ℕ) (h : KeyHead) (heads : List KeyHead) → greatest_cycle name (with_head h heads) ≡ raised (is_of_name name h) h.cycle (greatest_cycle name heads)
greatest_with name h [] = refl
greatest_with name h (k ∷ ks) = by (is_before h.name h.cycle k) (greatest_with name h ks)
  where
    by : (b : Bool) → greatest_cycle name (with_head h ks) ≡ raised (is_of_name name h) h.cycle (greatest_cycle name ks)
        → greatest_cycle name (if b then k ∷ with_head h ks else h ∷ k ∷ ks) ≡ raised (is_of_name name h) h.cycle (greatest_cycle name (k ∷ ks))
    by true later = ap (raised (is_of_name name k) k.cycle) later ∙ swapped (is_of_name name k) (is_of_name name h) k.cycle h.cycle (greatest_cycle name ks)
    by false later = refl

-- behind some puts the greatest cycle of each name is higher by how many of them have it
abbrev CountPuts : List KeyHead → List PutItem → List KeyHead → Type 0
CountPuts heads before now = (name : List ℕ) → greatest_cycle name now ≡ greatest_cycle name heads + times_put name before

counts_more : (heads : List KeyHead) (before : List PutItem) (now : List KeyHead) (p : PutItem) (h : KeyHead) → h.name ≡ p.name → h.cycle ≡ greatest_cycle p.name now + 1 → CountPuts heads before now
    → CountPuts heads (before ++ p ∷ []) (with_head h now)
counts_more heads before now p h named cycle counts name =
    greatest_with name h now
    ∙ ap (λ (x : List ℕ). raised (bytes_eq x name) h.cycle (greatest_cycle name now)) named
    ∙ by (bytes_eq p.name name) refl
    ∙ ap (λ (k : ℕ). greatest_cycle name heads + k) (sym (times_more name before p))
  where
    by : (b : Bool) → bytes_eq p.name name ≡ b → raised b h.cycle (greatest_cycle name now) ≡ greatest_cycle name heads + (times_put name before + length (cond b (p ∷ []) []))
    by true is =
        let same = ap (λ (x : List ℕ). greatest_cycle x now) ((bytes_eq-Decides p.name name).0 is) in
        let there = counts name in
        omega (arith, same, cycle, there)
    by false is = let there = counts name in omega (arith, there)

-- ---- they can be stored

each_many : (classes : List ClassDef) (heads : List KeyHead) (before puts : List PutItem) (os : List StoredObject) → CanEachBePut classes heads before puts os → length os ≡ length puts
each_many classes heads before [] [] each = refl
each_many classes heads before [] (o ∷ os) each = absurd each
each_many classes heads before (p ∷ ps) [] each = absurd each
each_many classes heads before (p ∷ ps) (o ∷ os) each = let rest = each_many classes heads (before ++ p ∷ []) ps os each.2 in omega (arith, rest)

-- whatever the keys of those before them are
stored_behind : (classes : List ClassDef) (heads : List KeyHead) → StateClasses classes → (before puts : List PutItem) (os : List StoredObject) (now : List KeyHead) → CountPuts heads before now
    → list_all (λ p. is_item_text p.name) puts ≡ true → CanEachBePut classes heads before puts os → AreStored classes now os
stored_behind classes heads sound before [] [] now counts named each = tt
stored_behind classes heads sound before [] (o ∷ os) now counts named each = absurd each
stored_behind classes heads sound before (p ∷ ps) [] now counts named each = absurd each
stored_behind classes heads sound before (p ∷ ps) (o ∷ os) now counts named each =
    let names = and_parts (is_item_text p.name) (list_all (λ (q : PutItem). is_item_text q.name) ps) named in
    let can = each.1 in
    let times = ap (λ (x : List ℕ). times_put x before) each.0 in
    let there = counts o.name in
    let told = can.cycle in
    let cycle : o.cycle ≡ greatest_cycle o.name now + 1 = omega (arith, told, times, there) in
    let new : head_of o.name (Some o.cycle) now ≡ None = ap (λ (k : ℕ). head_of o.name (Some k) now) cycle ∙ next_is_new o.name now in
    let next : o.cycle ≡ greatest_cycle p.name now + 1 = cycle ∙ ap (λ (x : List ℕ). greatest_cycle x now + 1) each.0 in (
      is_stored classes o can.class can.object can.written can.last sound (ap is_item_text each.0 ∙ names.0),
      new,
      λ h name its. stored_behind classes heads sound (before ++ p ∷ []) ps os (with_head h now) (counts_more heads before now p h (name ∙ each.0) (its ∙ next) counts) names.1 each.2,
    )

pub can_store_all : (s : SessionState) (c : Command) (os : List StoredObject) → IsToDo s c (Item (StoringAll os)) → IsSoundState s → CanBeDone s (StoringAll os)
can_store_all s c os todo sound =
    let p = is_batch s.classes s.heads c os todo.can.0 in
    let to : IsToDo s (Batch p.0) (Item (StoringAll os)) = subst (λ (x : Command). IsToDo s x (Item (StoringAll os))) p.1 todo in
    let can : CanAllBePut s.classes s.heads p.0 os = to.can.0 in
    let stated = and_parts (nat_lt 0 (length p.0)) (list_all (λ (q : PutItem). is_item_text q.name) p.0) to.statable in
    let many = each_many s.classes s.heads [] p.0 os can.each in
    let few = can.few in
    record {
      some = omega (arith, ltb-true 0 (length p.0) stated.0, many);
      few = omega (arith, few, many);
      each = stored_behind s.classes s.heads sound.classes [] p.0 os s.heads (λ name. omega arith) stated.1 can.each;
    }

-- ---- what is done

module _ (s : SessionState) (os : List StoredObject) (can : CanBeDone s (StoringAll os)) (n need : ℕ) (n_is : n ≡ sum (map stored_length os))
    (need_is : (hs : List KeyHead) → AreKeysFor os hs → need ≡ need_with s.name (with_heads hs s.heads) (record_count s.segments + length os) s.trees) where
  pub batch_can_be_put : (place : ℕ) (made : NewBatch) → AreSegments s.segments → place + n < 2 ^ 32 → IsStoredBatch s place os made → place ≡ place_of s.segments n
      → file_end (with_segment (place_of s.segments n) n s.segments) + need ≤ end_limit → CanPutAll s made
  batch_can_be_put place made shape low r at fits =
      let own : AreKeysFor os made.heads.items = subst (AreKeysFor os) (sym r.heads) (keys_for s os place) in
      let many : length os ≡ length made.lengths = sym (ap length r.lengths ∙ length-map os stored_length) in
      can_put_all s place os made r n need n_is can.each shape low at
      (need_is made.heads.items own ∙ ap (λ (k : ℕ). need_with s.name (with_heads made.heads.items s.heads) (record_count s.segments + k) s.trees) many) fits

  module _ (sound : IsSoundState s) (replies : Replies) (old new : View) (s' : SessionState) (law : IsLawful old) (law' : IsLawful new) (ready : IsReady old s) (fresh : s.failed ≡ false) (soon : s.datime < 2 ^ 32) (answer : Result Outcome SessionFault)
      (cost : ℕ) (cost_is : cost ≡ sum (map (λ o. 500 + o.length) os)) (c : Command) (todo : IsToDo s c (Item (StoringAll os))) where
    abbrev puts : List PutItem
    puts = (is_batch s.classes s.heads c os todo.can.0).0

    is : c ≡ Batch (is_batch s.classes s.heads c os todo.can.0).0
    is = (is_batch s.classes s.heads c os todo.can.0).1

    to : IsToDo s (Batch (is_batch s.classes s.heads c os todo.can.0).0) (Item (StoringAll os))
    to = subst (λ (x : Command). IsToDo s x (Item (StoringAll os))) is todo

    all : All (IsStored s.classes) os
    all = each_stored s.classes s.heads os can.each

    pub batch_is_done : (place : ℕ) (made : NewBatch) (text : List ℕ) → IsStoredBatch s place os made → text ≡ reply_text replies (objects_put (map (λ o. (o.name, o.cycle)) os)) → place ≡ place_of s.segments n
        → is_full s.segments (n ∷ []) need ≡ false → ChangesFile (putting_all s made text cost) old new s s' answer → IfOk answer (λ outcome. outcome ≡ Accepted) → Does replies old new s s' c answer
    batch_is_done place made text r text_is at room changes outcome =
        subst (λ (x : Command). Does replies old new s s' x answer) (sym is)
        (batch_does replies old new s s' law law' ready fresh answer puts os n need cost sound.classes (sound.kept fresh) to.statable soon to.judged all n_is need_is cost_is
        place made text r text_is at room changes outcome)

    pub batch_full_is_said : (end wanted : ℕ) → end ≡ file_end s.segments → wanted ≡ n → is_full s.segments (n ∷ []) need ≡ true → SaysReply (reply_text replies (refused (Full end wanted))) cost old new s s' answer
        → IfOk answer (λ outcome. outcome ≡ Refused (Full end wanted)) → Does replies old new s s' c answer
    batch_full_is_said end wanted end_is wanted_is full says outcome =
        subst (λ (x : Command). Does replies old new s s' x answer) (sym is)
        (batch_full_does replies old new s s' law law' ready fresh answer puts os n need cost sound.classes (sound.kept fresh) to.statable soon to.judged all n_is need_is cost_is full
        (subst (λ (x : ℕ × ℕ). SaysReply (reply_text replies (refused (Full x.0 x.1))) cost old new s s' answer) (λ i. (end_is i, wanted_is i)) says)
        (subst (λ (x : ℕ × ℕ). IfOk answer (λ outcome. outcome ≡ Refused (Full x.0 x.1))) (λ i. (end_is i, wanted_is i)) outcome))
