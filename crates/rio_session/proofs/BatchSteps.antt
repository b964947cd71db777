-- A batch is the step of its command.
use Rattle.std.proofs.Common.{◌≡◌, ℕ, ◌+◌, ◌-◌, ◌*◌, ◌^◌, ◌<◌, ◌≤◌, List, [], ◌∷◌, length, map, min, true, false, None, sym, ap, subst, ◌∙◌, arith}
use Rattle.std.proofs.lemmas.List.Elements.{All-head, All-tail}
use Rattle.std.specs.{Prelude.{sum}, List.{All}}
use Rattle.rio_format.specs.declared.class.ClassDef.{ClassDef}
use Rattle.rio_key.specs.declared.head.KeyHead.{KeyHead}
use Rattle.rio_dir.specs.Table.{with_heads}
use Rattle.rio_chain.specs.Placing.{file_end, place_of, record_count}
use Rattle.rio_chain.proofs.PutsNoted.{sum_more}
use Rattle.rio_model.specs.StateClasses.{StateClasses}
use Rattle.rio_machine.specs.{Limits.{head_length}, State.{State}}
use Rattle.rio_machine.specs.declared.command.{Command.TheVariants.{Batch}, Outcome.TheVariants.{Refused}, PutItem.{PutItem}}
use Rattle.rio_machine.specs.declared.refusal.Refusal.TheVariants.{Full}
use Rattle.rio_state.specs.{Closing.{KeptRecords, free_length, held_with, is_full, list_length}, Sizes.{close_size}, TreeLengths.{pending_in}}
use Rattle.rio_step.specs.{Costs.{room_limit}, Refusing.{refusal_of}, ReplyText.{text_of}, Step.{objects_put, outcome_of, refused, state_behind}}
use Rattle.rio_effect.specs.ObjectRecord.{keys_of_batch}
use Rattle.rio_judge.specs.{Judging.{AreSteps}, declared.work.StoredObject.{StoredObject}}
use Rattle.rio_recover.specs.Closable.{is_sized, list_count}
use Rattle.rio_session.specs.{Behind.{IsOfKeys}, Due.{IsClosableWith, due_of, kept_records, need_with}, Effects.{IsChangeOf}}
use Rattle.rio_session.specs.Marks.{basket_total, command_lengths, lists_after, mark_of_command, state_need, trees_after}
use Rattle.rio_session.specs.{Puts.{AreKeysFor, IsStored, IsStoredBatch, putting_all, stored_length}, Session.{HoldsState, SessionState, next_of}, SessionState.{kept_trees}, declared.batch.NewBatch.{NewBatch}}
use Rattle.rio_session.proofs.BatchCounts.{all_with_all, heads_length, keys_counted, keys_sized, length_with_all, need_with_all}
use Rattle.rio_session.proofs.BatchFacts.{changes_are, command_keys, cost_is, kept_is, lengths_alike, place_is, text_is}
use Rattle.rio_session.proofs.{BatchKeys.{batch_of_keys, batch_stands, batch_tree_keys}, FilledFiles.{filled_now, held_most}, FillSums.{due_baskets}}
use Rattle.rio_session.proofs.FullCommands.{free_still, full_outcome, full_still, full_told}
use Rattle.rio_session.proofs.{Lacking.{lacking}, Needs.{baskets_counted, need_by_keys}, OnlyReplies.{IsStill}, Places.{end_most, full_is, sum_one}}

-- records of objects, and what a close needs for their keys, are no longer than what it costs to store them
costs_most : (classes : List ClassDef) (os : List StoredObject) → All (IsStored classes) os → sum (map stored_length os) + heads_length os + 10 * length os ≤ sum (map (λ o. 500 + o.length) os)
costs_most classes [] all = omega arith
costs_most classes (o ∷ os) all =
    let short = (All-head (IsStored classes) o os all).key_short in
    let records : sum (map stored_length (o ∷ os)) ≡ stored_length o + sum (map stored_length os) = sum_more (stored_length o) (map stored_length os) in
    let heads : heads_length (o ∷ os) ≡ head_length o.class o.name + heads_length os = sum_more (head_length o.class o.name) (map (λ (x : StoredObject). head_length x.class x.name) os) in
    let costs : sum (map (λ (x : StoredObject). 500 + x.length) (o ∷ os)) ≡ 500 + o.length + sum (map (λ (x : StoredObject). 500 + x.length) os) =
    sum_more (500 + o.length) (map (λ (x : StoredObject). 500 + x.length) os) in
    omega (arith, short, records, heads, costs, costs_most classes os (All-tail (IsStored classes) o os all))

module _ (s : SessionState) (m : State) (keys : IsOfKeys s m) (sound : StateClasses s.classes) (kept : IsClosableWith s.segments s.heads s.trees s.info s.name)
    (puts : List PutItem) (os : List StoredObject) (all : All (IsStored s.classes) os) (free : refusal_of m (Batch puts) None ≡ None) (steps : AreSteps m puts os)
    (n need : ℕ) (n_is : n ≡ sum (map stored_length os)) (need_of : (hs : List KeyHead) → AreKeysFor os hs → need ≡ need_with s.name (with_heads hs s.heads) (record_count s.segments + length os) s.trees) where
  abbrev same : s.classes ≡ m.classes
  same = sym keys.classes

  classes : StateClasses m.classes
  classes = subst StateClasses (sym keys.classes) sound

  abbrev new : List KeyHead
  new = keys_of_batch m 0 s.datime puts

  own_keys : AreKeysFor os (keys_of_batch m 0 s.datime puts)
  own_keys = command_keys s m puts os same all free steps 0

  need_is : state_need s.name (lists_after s (Batch puts)) (trees_after s m (Batch puts)) (state_behind m (Batch puts)) ≡ need
  need_is =
      let more : 1 + list_count s.info + length (with_heads new s.heads) + basket_total s.trees ≡ record_count s.segments + length os =
      omega (arith, length_with_all new s.heads, keys_counted os new own_keys, kept.closable.count, baskets_counted s.trees) in
      need_by_keys (with_heads new s.heads) (kept_trees s) (state_behind m (Batch puts)) (batch_stands s m keys puts free 0 classes) (batch_tree_keys s m keys puts free 0 classes)
      (all_with_all is_sized new s.heads (keys_sized os new own_keys) kept.closable.sized) s.name (list_count s.info) s.trees
      ∙ ap (λ (k : ℕ). need_with s.name (with_heads new s.heads) k s.trees) more
      ∙ sym (need_of new own_keys)

  lengths_are : command_lengths s m (Batch puts) ≡ n ∷ []
  unfolding command_lengths
  lengths_are = ap (λ (k : ℕ). k ∷ []) (sym (n_is ∙ lengths_alike s puts os m same steps))

  -- ---- where there is room

  pub batch_free : is_full s.segments (n ∷ []) need ≡ false → refusal_of m (Batch puts) (mark_of_command s m (Batch puts)) ≡ None
  batch_free room = free_still s m (Batch puts) (n ∷ []) need lengths_are need_is free room

  pub batch_is_change : (place : ℕ) (made : NewBatch) → IsStoredBatch s place os made → place ≡ place_of s.segments n → is_full s.segments (n ∷ []) need ≡ false
      → (text : List ℕ) (cost : ℕ) → text ≡ text_of (objects_put (map (λ o. (o.name, o.cycle)) os)) → cost ≡ sum (map (λ o. 500 + o.length) os) → IsChangeOf (putting_all s made text cost) s m (Batch puts)
  batch_is_change place made r at room text cost is costs =
      let own = place_is s m puts os same all free steps place n n_is at in
      record {
        free = batch_free room;
        changes = changes_are s m puts os same all free steps place made r own text cost;
        kept = kept_is s m puts os same all free steps place made r own text cost;
        text = text_is s m puts os same all free steps text is;
        cost = cost_is s m puts os same all free steps cost costs;
        stands = batch_of_keys s m keys puts free classes;
      }

  -- ---- where there is none

  module _ (full : is_full s.segments (n ∷ []) need ≡ true) where
    pub batch_full_still : (cost : ℕ) → cost ≡ sum (map (λ o. 500 + o.length) os) → IsStill s m (Batch puts) cost
    batch_full_still cost costs = full_still s m (Batch puts) (n ∷ []) need lengths_are need_is free full cost (cost_is s m puts os same all free steps cost costs)

    pub batch_full_told : text_of (refused (Full (file_end s.segments) n)) ≡ text_of (next_of s m (Batch puts)).reply
    batch_full_told =
        ap (λ (k : ℕ). text_of (refused (Full (file_end s.segments) k))) (sym (sum_one n)) ∙ full_told s m (Batch puts) (n ∷ []) need lengths_are need_is free full

    pub batch_full_outcome : outcome_of (next_of s m (Batch puts)).reply ≡ Refused (Full (file_end s.segments) n)
    batch_full_outcome = full_outcome s m (Batch puts) (n ∷ []) need lengths_are need_is free full ∙ ap (λ (k : ℕ). Refused (Full (file_end s.segments) k)) (sum_one n)

    -- what is held where there is no room
    abbrev mine : KeptRecords
    mine = kept_records s.name s.heads (record_count s.segments) s.trees

    need_most : need ≤ (due_of s.trees).bytes + (list_length mine + heads_length os + 3 + (free_length mine + 10 * length os + 3))
    unfolding close_size
    need_most = omega (arith, need_of new own_keys, need_with_all s.name s.heads s.trees new os (record_count s.segments + length os) own_keys, due_baskets s.trees)

    pub batch_full_lacks : (file : List ℕ) (h : HoldsState s m file) (cost : ℕ) → cost ≡ sum (map (λ o. 500 + o.length) os) → room_limit < 3 * s.opened + min (s.costs + cost) (2 ^ 64 - 1)
    batch_full_lacks file h cost is = lacking (3 * s.opened) s.costs cost (held_with (pending_in m) h.links) h.held
        (omega (arith, held_most s m h.links (filled_now s m file h kept) (sym h.chain.same), need_most, full_is s.segments n need full, end_most n s.segments, costs_most s.classes os all, n_is, is))
