-- The records of a batch raise what a file holds by no more than the batch's cost.
use Rattle.std.proofs.Common.{◌≡◌, ◌≤◌, ℕ, ◌+◌, ◌∙◌, List, [], ◌∷◌, length, map, Option, None, sym, ap, subst, arith}
use Rattle.std.proofs.lemmas.List.Sums.{sum_by-cons}
use Rattle.std.specs.{Prelude.{if◌then◌else◌, is_some}, List.{sum_by}}
use Rattle.rio_chain.specs.{Adjoining.{AreSegments}, Batches.{AreLengths}, Changes.{with_record, with_records}, Placing.{file_end, with_segment}, Segments.{GapAt, IsRecord, Link, RecordAt, segment_of}}
use Rattle.rio_chain.proofs.{PutChain.{map_end, map_with}, PutsNoted.{HasRoomFor, noted, room_for_all}, Words.{whole_long}}
use Rattle.rio_machine.specs.{State.{State}, declared.command.Command.TheVariants.{Batch}, declared.command.PutItem.{PutItem}, declared.refusal.Refusal.{Refusal}}
use Rattle.rio_model.specs.StateClasses.{StateClasses}
use Rattle.rio_state.specs.{Closing.{held_with}, TreeLengths.{PendingRows}}
use Rattle.rio_state.proofs.MoreRecords.{first_is}
use Rattle.rio_step.specs.{Costs.{accepted_cost, cost_of, put_cost}, Step.{with_object}}
use Rattle.rio_effect.specs.{Batches.{ArePutRecords, BatchHeldGrows}, ObjectRecord.{record_of_put, records_of_batch, size_of_put}}
use Rattle.rio_effect.proofs.{BatchEffect.{CanPutAll, can_put_all, each_record, here_low, here_named, others_can}, Held.{chain_segments, held_more}}

-- the lengths of whole records
lengths_are : (puts : List PutItem) (m : State) (place datime : ℕ) → ArePutRecords m place datime puts → AreLengths (map length (records_of_batch m place datime puts))
lengths_are [] m place datime all = tt
lengths_are (p ∷ ps) m place datime all =
    let whole = all.0.whole in
    (whole_long place (record_of_put m place datime p.name p.value) whole, whole.aligned, lengths_are ps (with_object m p.name p.value) (place + size_of_put m place datime p) datime all.1)

-- one put after the other, behind a record at the start
each_held : (pending : PendingRows) (puts : List PutItem) (q : ℕ) (first : List ℕ) (links : List Link) (m : State) (place datime : ℕ) → IsRecord q first → StateClasses m.classes → CanPutAll m place datime puts
    → AreSegments (map segment_of (RecordAt q first ∷ links)) → AreLengths (map length (records_of_batch m place datime puts)) → HasRoomFor (map segment_of (RecordAt q first ∷ links)) place (map length (records_of_batch m place datime puts))
    → held_with pending (with_records place (records_of_batch m place datime puts) (RecordAt q first ∷ links)) ≤ held_with pending (RecordAt q first ∷ links) + sum_by (λ p. put_cost m p.value) puts
each_held pending [] q first links m place datime whole are c shape long room = omega arith
each_held pending (p ∷ ps) q first links m place datime whole are c shape long room =
    let bytes = record_of_put m place datime p.name p.value in
    let n = length bytes in
    let old = RecordAt q first ∷ links in
    let new = with_record place bytes links in
    let next = with_object m p.name p.value in
    let later = place + size_of_put m place datime p in
    let lengths = map length (records_of_batch next later datime ps) in
    let one = noted (map segment_of old) place n lengths shape long room in
    let segments : map segment_of (RecordAt q first ∷ new) ≡ with_segment place n (map segment_of old) = map_with place bytes old in
    let low = one.low in
    let ends = map_end 100 old in
    let after = ap file_end (sym segments) ∙ map_end 100 (RecordAt q first ∷ new) in
    let here = held_more pending old m place datime p.name p.value (here_low m place datime p ps c) c.soon (first_is q place first bytes links whole) (omega (arith, low, ends, after)) are (here_named m place datime p ps c) c.taken.0 in
    let rest : held_with pending (with_records later (records_of_batch next later datime ps) (RecordAt q first ∷ new)) ≤ held_with pending (RecordAt q first ∷ new) + sum_by (λ (r : PutItem). put_cost m r.value) ps =
    each_held pending ps q first new next later datime whole are (others_can m place datime p ps c)
    (subst (λ s. AreSegments s) (sym segments) one.shape) long.2 (subst (λ s. HasRoomFor s later lengths) (sym segments) one.room) in
    let cost = sum_by-cons (λ (r : PutItem). put_cost m r.value) p ps in
    omega (arith, here, rest, cost)

pub batch_held_grows : BatchHeldGrows
unfolding cost_of
batch_held_grows pending file [] m place datime puts chain room are b = let late = chain.ends.later in absurd (omega (arith, late))
batch_held_grows pending file (GapAt q n ∷ links) m place datime puts chain room are b = let late = chain.links_are.0.1.later in absurd (omega (arith, late))
batch_held_grows pending file (RecordAt q first ∷ links) m place datime puts chain room are b =
    let whole : IsRecord q first = subst (λ (k : ℕ). IsRecord k first) (sym chain.links_are.0.0) chain.links_are.0.1.whole in
    let c = can_put_all m place datime puts None b in
    let all = each_record puts m place datime are c in
    let shape = chain_segments file (RecordAt q first ∷ links) chain in
    let each = each_held pending puts q first links m place datime whole are c shape (lengths_are puts m place datime all) (room_for_all (map segment_of (RecordAt q first ∷ links)) place (map length (records_of_batch m place datime puts)) room) in
    let cost : cost_of m (Batch puts) ≡ accepted_cost m (Batch puts) = ap (λ (o : Option Refusal). if is_some o then 0 else accepted_cost m (Batch puts)) b.taken in
    omega (arith, each, cost)
