-- What the records of a batch leave of the others: one put after the other.
use Rattle.std.proofs.Common.{◌≡◌, ◌∙◌, inl, ℕ, ◌+◌, ◌==◌, ◌&&◌, List, [], ◌∷◌, length, map, false, refl, sym, subst, arith}
use Rattle.std.proofs.lemmas.Bool.{ne_eqb}
use Rattle.rio_key.specs.declared.head.KeyHead.{KeyHead}
use Rattle.rio_chain.specs.{Changes.{with_record, with_records}, Segments.{GapAt, IsChain, IsRecord, Link, RecordAt}}
use Rattle.rio_chain.proofs.{PutsNoted.{sum_more}, Words.{whole_long}}
use Rattle.rio_machine.specs.{State.{State}, declared.command.PutItem.{PutItem}}
use Rattle.rio_state.specs.{Closing.{kept_in, kept_with}, KeyedRecords.{begins_at, info_key, is_top_key, keyed_records, record_at, top_keys, tree_records}}
use Rattle.rio_state.specs.{OneMore.{HasOneMoreIn, keyed_bytes}, TreeLengths.{PendingRows, none_pending}}
use Rattle.rio_state.proofs.{Insertion.{any_more, filter_more}, MoreRecords.{first_is, record_more}, ObjectStands.{trees_same}, Stays.{info_stays}}
use Rattle.rio_step.specs.Step.{with_object}
use Rattle.rio_effect.specs.{AllItems.{AreAllItems}, Batches.{ArePutRecords, IsFreeFrom}, Laws.{IsPutRecord}, More.{KeepsOneMore}, ObjectRecord.{key_of_put, object_key, record_of_put, records_of_batch, size_of_batch, size_of_put}}
use Rattle.rio_effect.proofs.{AllItems.{items_stay_with}, Needs.{need_grows_by}}
use Rattle.rio_session.proofs.{RowsBeside.{hold_with}, RowsKept.{HoldStill}}

-- So many records of objects more leave the class list, the trees and the name as they are, and the baskets where they were.
pub record LeavesOthers (pending : PendingRows) (links after : List Link) (n : ℕ) : Type 0 where
  pub info : info_key (keyed_records after) ≡ info_key (keyed_records links)
  pub headers : tree_records (top_keys (keyed_records after)) ≡ tree_records (top_keys (keyed_records links))
  pub items : AreAllItems links → AreAllItems after
  pub name : (kept_in after).name ≡ (kept_in links).name
  pub count : (kept_with pending after).count ≡ (kept_with pending links).count + n
  pub still : (places : List ℕ) → HoldStill (record_at (keyed_records links)) (record_at (keyed_records after)) places

-- ---- one record

module _ (q : ℕ) (first : List ℕ) (links : List Link) (whole : IsRecord q first) (m : State) (place datime : ℕ) (p : PutItem) (pr : IsPutRecord m place datime p.name p.value) where
  abbrev bytes : List ℕ
  bytes = record_of_put m place datime p.name p.value

  abbrev key : KeyHead
  key = key_of_put m place datime p.name p.value

  abbrev old : List Link
  old = RecordAt q first ∷ links

  abbrev new : List Link
  new = RecordAt q first ∷ with_record place (record_of_put m place datime p.name p.value) links

  more : HasOneMoreIn (keyed_records old) (keyed_records new) (keyed_bytes key bytes)
  more = record_more old place bytes key pr.read

  tops : HasOneMoreIn (top_keys (keyed_records old)) (top_keys (keyed_records new)) (keyed_bytes key bytes)
  tops = filter_more (λ r. is_top_key r.head) (keyed_bytes key bytes) (keyed_records old) (keyed_records new) more pr.key.top

  one_still : begins_at (keyed_records old) place ≡ false → (places : List ℕ) → HoldStill (record_at (keyed_records old)) (record_at (keyed_records new)) places
  unfolding object_key
  one_still free = hold_with (keyed_records old) (keyed_records new) (keyed_bytes key bytes) more free

  -- no record begins after it in the space, if none began there
  one_free : (n : ℕ) → IsFreeFrom (keyed_records old) place (length bytes + n) → IsFreeFrom (keyed_records new) (place + length bytes) n
  unfolding object_key
  one_free n free k from to =
      let long = whole_long place bytes pr.whole in
      let other : (place == k) ≡ false = ne_eqb place k (omega (arith, from, long)) in
      any_more (λ s. s.head.seek == k) (keyed_bytes key bytes) (keyed_records old) (keyed_records new) more other
      ∙ free k (omega (arith, from)) (omega (arith, to))

  module _ (pending : PendingRows) where
    grows : KeepsOneMore (kept_with pending old) (kept_with pending new) key
    grows = need_grows_by pending old place bytes key (first_is q place first bytes links whole) pr.read pr.key.top pr.key.object

    one_leaves : begins_at (keyed_records old) place ≡ false → LeavesOthers pending old new 1
    one_leaves free = record {
      info = info_stays (keyed_records old) (keyed_records new) (keyed_bytes key bytes) more pr.key.other;
      headers = trees_same (top_keys (keyed_records old)) (top_keys (keyed_records new)) (keyed_bytes key bytes) tops pr.key.object;
      items = λ items. items_stay_with old place bytes key pr.read (inl (λ i. pr.key.top i && pr.key.object i)) items;
      name = (need_grows_by none_pending old place bytes key (first_is q place first bytes links whole) pr.read pr.key.top pr.key.object).name;
      count = grows.count;
      still = one_still free;
    }

-- ---- all of them

leaves_none : (pending : PendingRows) (links : List Link) → LeavesOthers pending links links 0
leaves_none pending links = record { info = refl; headers = refl; items = λ items. items; name = refl; count = omega arith; still = λ places offsets at entries i h. h }

leaves_both : (pending : PendingRows) (old mid new : List Link) (n : ℕ) → LeavesOthers pending old mid 1 → LeavesOthers pending mid new n → LeavesOthers pending old new (n + 1)
leaves_both pending old mid new n one rest = record {
  info = rest.info ∙ one.info;
  headers = rest.headers ∙ one.headers;
  items = λ items. rest.items (one.items items);
  name = rest.name ∙ one.name;
  count = omega (arith, rest.count, one.count);
  still = λ places offsets at entries i h. rest.still places offsets at entries i (one.still places offsets at entries i h);
}

all_leave : (pending : PendingRows) (q : ℕ) (first : List ℕ) → IsRecord q first → (puts : List PutItem) (links : List Link) (m : State) (place datime : ℕ) → ArePutRecords m place datime puts
    → IsFreeFrom (keyed_records (RecordAt q first ∷ links)) place (size_of_batch m place datime puts)
    → LeavesOthers pending (RecordAt q first ∷ links) (with_records place (records_of_batch m place datime puts) (RecordAt q first ∷ links)) (length puts)
all_leave pending q first whole [] links m place datime are free = leaves_none pending (RecordAt q first ∷ links)
all_leave pending q first whole (p ∷ ps) links m place datime are free =
    let bytes = record_of_put m place datime p.name p.value in
    let next = with_object m p.name p.value in
    let later = place + size_of_put m place datime p in
    let size : size_of_batch m place datime (p ∷ ps) ≡ length bytes + size_of_batch next later datime ps = sum_more (length bytes) (map length (records_of_batch next later datime ps)) in
    let long = whole_long place bytes are.0.whole in
    let space : IsFreeFrom (keyed_records (RecordAt q first ∷ links)) place (length bytes + size_of_batch next later datime ps) = λ k from to. free k from (omega (arith, to, size)) in
    let one = one_leaves q first links whole m place datime p are.0 pending (space place (omega arith) (omega (arith, long))) in
    let rest = all_leave pending q first whole ps (with_record place bytes links) next later datime are.1
    (one_free q first links whole m place datime p are.0 (size_of_batch next later datime ps) space) in
    let after = with_records later (records_of_batch next later datime ps) (RecordAt q first ∷ with_record place bytes links) in
    let both = leaves_both pending (RecordAt q first ∷ links) (RecordAt q first ∷ with_record place bytes links) after (length ps) one rest in
    subst (λ (n : ℕ). LeavesOthers pending (RecordAt q first ∷ links) after n) (let e : length ps + 1 ≡ length (p ∷ ps) = omega arith in e) both

-- in a file
pub batch_leaves : (pending : PendingRows) (file : List ℕ) (links : List Link) (m : State) (place datime : ℕ) (puts : List PutItem) → IsChain links file → ArePutRecords m place datime puts
    → IsFreeFrom (keyed_records links) place (size_of_batch m place datime puts) → LeavesOthers pending links (with_records place (records_of_batch m place datime puts) links) (length puts)
batch_leaves pending file [] m place datime puts chain are free = let late = chain.ends.later in absurd (omega (arith, late))
batch_leaves pending file (GapAt q n ∷ links) m place datime puts chain are free = let late = chain.links_are.0.1.later in absurd (omega (arith, late))
batch_leaves pending file (RecordAt q first ∷ links) m place datime puts chain are free =
    let whole : IsRecord q first = subst (λ (k : ℕ). IsRecord k first) (sym chain.links_are.0.0) chain.links_are.0.1.whole in
    all_leave pending q first whole puts links m place datime are free
