-- What the records of a batch make of the state that a session stands for.
use Rattle.std.proofs.Common.{◌≡◌, ◌∙◌, ℕ, ◌+◌, ◌<◌, ◌≤◌, ◌^◌, List, [], ◌∷◌, length, map, None, true, false, refl, sym, ap, subst, arith}
use Rattle.std.proofs.lemmas.Bool.{and_parts}
use Rattle.std.specs.{Prelude.{nat_lt}, FinMap.{FinMap, get}, List.{list_all}}
use Rattle.rio_num.specs.Word.{is_item_text, name_order}
use Rattle.rio_format.specs.declared.class.ClassDef.{ClassDef}
use Rattle.rio_chain.specs.{Adjoining.{AreSegments}, Changes.{with_records}, Placing.{HasRoomAt, place_of, record_count}, Segments.{Link, segment_of}}
use Rattle.rio_model.specs.StateClasses.{StateClasses}
use Rattle.rio_machine.specs.{State.{State, Tree}, declared.command.Command.TheVariants.{Batch}, declared.command.PutItem.{PutItem}}
use Rattle.rio_key.specs.Cut.{Cut}
use Rattle.rio_state.specs.{Closing.{held_with, kept_with}, DirectoryKeys.{AreKeysOf}, KeyedRecords.{keyed_records}, Left.{info_head}, Reads.{AreRecordsOf}, TreeLengths.{PendingRows, cuts_of, pending_in}}
use Rattle.rio_step.proofs.BatchLaws.{same_classes, same_trees}
use Rattle.rio_step.specs.{Costs.{cost_of}, Refusing.{refusal_of}, Runs.{saved_of}, Statable.{is_statable}, Step.{state_behind, with_object, with_objects}}
use Rattle.rio_effect.specs.{Batches.{AreNamed, HasBatchRecords, IsBatch, IsFreeFrom}, BasketRuns.{places_put}, ObjectRecord.{records_of_batch, size_of_batch, size_of_put}}
use Rattle.rio_effect.proofs.{BatchEffect.{batches_have_records, saved_batch_keys_follow, saved_batch_takes_effect}, BatchHeld.{batch_held_grows}, FileChanges.{batch_size}, Held.{chain_segments}}
use Rattle.rio_recover.specs.Trees.{AreTreesOf}
use Rattle.rio_session.specs.{Effects.{IsKeptAfter, TakesEffect, links_by}, Fills.{put_in}, Kept.{kept_by, place_of_batch}, Session.{HoldsPutRows, HoldsState, OpensRows, SessionState}}
use Rattle.rio_session.specs.{SessionState.{headers_of}, Sound.{IsSoundState}}
use Rattle.rio_session.proofs.{BatchCounts.{count_with_all, place_rooms}, BatchSpace.{space_free}, BatchStays.{LeavesOthers, batch_leaves}, FillableBehind.{fillable_behind}, RowsStay.{rows_stay, say_alike}, TreesOfFile.{headers_still}}

-- as many records as puts
pub records_many : (puts : List PutItem) (m : State) (place datime : ℕ) → length (map length (records_of_batch m place datime puts)) ≡ length puts
records_many [] m place datime = refl
records_many (p ∷ ps) m place datime = let rest = records_many ps (with_object m p.name p.value) (place + size_of_put m place datime p) datime in omega (arith, rest)

module _ (s : SessionState) (m : State) (file : List ℕ) (h : HoldsState s m file) (sound : IsSoundState s) (fresh : s.failed ≡ false) (soon : s.datime < 2 ^ 32)
    (puts : List PutItem) (statable : is_statable (Batch puts) ≡ true) (free : refusal_of m (Batch puts) None ≡ None)
    (low : place_of_batch s m puts + size_of_batch m (place_of_batch s m puts) s.datime puts < 2 ^ 32) where
  abbrev at : ℕ
  at = place_of_batch s m puts

  abbrev records : List (List ℕ)
  records = records_of_batch m (place_of_batch s m puts) s.datime puts

  abbrev size : ℕ
  size = size_of_batch m (place_of_batch s m puts) s.datime puts

  abbrev after : List Link
  after = with_records (place_of_batch s m puts) (records_of_batch m (place_of_batch s m puts) s.datime puts) h.links

  abbrev behind : State
  behind = state_behind m (Batch puts)

  shape : AreSegments (map segment_of h.links)
  shape = chain_segments file h.links h.chain.chain

  -- the records are as long together wherever they are
  placed : at ≡ place_of (map segment_of h.links) size
  placed =
      let long : size_of_batch m 0 s.datime puts ≡ size = sym (batch_size m 0 s.datime puts) ∙ batch_size m at s.datime puts in
      λ i. place_of (h.chain.same i) (long i)

  room : HasRoomAt (map segment_of h.links) at size
  room = place_rooms (map segment_of h.links) size at shape placed

  pub batch_classes : StateClasses m.classes
  batch_classes = subst StateClasses (sym h.stands.classes) sound.classes

  named : AreNamed puts
  named = (and_parts (nat_lt 0 (length puts)) (list_all (λ (p : PutItem). is_item_text p.name) puts) statable).1

  is : IsBatch m (place_of_batch s m puts) s.datime puts None
  is = record { low = low; soon = soon; named = named; taken = free }

  has : HasBatchRecords m (place_of_batch s m puts) s.datime puts
  has = batches_have_records m at s.datime puts None batch_classes is

  -- no record begins there
  space : IsFreeFrom (keyed_records h.links) at size
  space = space_free file h.links at size h.chain.chain placed

  leaves : LeavesOthers (pending_in m) h.links after (length puts)
  leaves = batch_leaves (pending_in m) file h.links m at s.datime puts h.chain.chain has.each space

  trees_same : (with_objects m puts).trees ≡ m.trees
  trees_same = same_trees puts m

  -- the same rows are pending
  pending_same : pending_in (state_behind m (Batch puts)) ≡ pending_in m
  pending_same = ap (λ (ts : FinMap name_order Tree). pending_in (record m { trees = ts })) trees_same

  cuts_same : (x : Tree) → cuts_of behind.classes x.branches x.pending ≡ cuts_of m.classes x.branches x.pending
  cuts_same x = ap (λ (cs : List ClassDef). cuts_of cs x.branches x.pending) (same_classes puts m)

  records_after : AreRecordsOf (keyed_records after) (saved_of (state_behind m (Batch puts)))
  records_after = saved_batch_takes_effect h.links m at s.datime puts None is space h.records

  keys_after : AreKeysOf (keyed_records after) (kept_by s m (Batch puts)).heads
  keys_after = saved_batch_keys_follow h.links m s.heads at s.datime puts None is space h.records h.keys

  -- the new records stand where no basket does
  rows_after : HoldsPutRows (kept_by s m (Batch puts)) (state_behind m (Batch puts)) after
  rows_after =
      rows_stay s (kept_by s m (Batch puts)) m behind h.links after (say_alike h.links after leaves.info leaves.headers) refl trees_same (λ own x there. cuts_same x)
      (λ own. leaves.still (places_put (put_in s.trees own))) h.rows

  opens_after : OpensRows (kept_by s m (Batch puts)) (state_behind m (Batch puts))
  opens_after name t x found there =
      h.opens name t x found (ap (λ (ts : FinMap name_order Tree). get ts name) (sym trees_same) ∙ there)
      ∙ ap (map (λ (cut : Cut). cut.rest)) (sym (cuts_same x))

  trees_after : AreTreesOf (keyed_records after) (headers_of s)
  trees_after = headers_still (keyed_records h.links) (keyed_records after) (headers_of s) leaves.info leaves.headers h.trees

  held_after : held_with (pending_in (state_behind m (Batch puts))) after ≤ held_with (pending_in m) h.links + cost_of m (Batch puts)
  held_after =
      subst (λ (rows : PendingRows). held_with rows after ≤ held_with (pending_in m) h.links + cost_of m (Batch puts)) (sym pending_same)
      (batch_held_grows (pending_in m) file h.links m at s.datime puts h.chain.chain room batch_classes is)

  count_after : (kept_with (pending_in (state_behind m (Batch puts))) after).count ≡ record_count (kept_by s m (Batch puts)).segments
  count_after =
      ap (λ (rows : PendingRows). (kept_with rows after).count) pending_same
      ∙ omega (arith, leaves.count, h.count, count_with_all (map length records) at s.segments, records_many puts m at s.datime)

  pub batch_is_kept : IsKeptAfter s m (Batch puts) h.links (with_records (place_of_batch s m puts) (records_of_batch m (place_of_batch s m puts) s.datime puts) h.links)
  batch_is_kept = record {
    keys = keys_after;
    records = records_after;
    trees = trees_after;
    items = leaves.items h.items;
    fillable = fillable_behind m (Batch puts) statable free h.fillable;
    rows = rows_after;
    opens = opens_after;
    info = h.info ∙ ap info_head (sym leaves.info);
    name = leaves.name;
    count = count_after;
    held = held_after;
  }

  pub batch_takes_effect_on : TakesEffect s m (Batch puts) h.links
  batch_takes_effect_on = record {
    turn = 0;
    within = omega arith;
    early = λ k low passed.
        let none : 0 ≡ k = omega (arith, low) in
        subst (λ (n : ℕ). AreRecordsOf (keyed_records (links_by s m (Batch puts) n h.links)) (saved_of m)) none h.records;
    late = λ k later low passed.
        let one : 1 ≡ k = omega (arith, later, low) in
        subst (λ (n : ℕ). AreRecordsOf (keyed_records (links_by s m (Batch puts) n h.links)) (saved_of (state_behind m (Batch puts)))) one records_after;
    ends = λ passed. batch_is_kept;
  }
