-- A file that reads as a state breaks no rule of its header, and only want of room stands against writing to it.
use Rattle.std.proofs.Common.{◌≡◌, inl, inr, ℕ, List, ◌++◌, Bool, true, false, cond, MatchBool, Option, None, refl, sym, ap, subst, slice_get, nat_lt, ◌+◌}
use Rattle.rio_head.specs.{Head.{head_at}, declared.reason.Reason.TheVariants.{TooMany, NoRoom}}
use Rattle.rio_chain.specs.Segments.{Link, chain_end}
use Rattle.rio_dir.specs.{Closed.{fault_of}, Unborn.{is_unborn}}
use Rattle.rio_machine.specs.{Limits.{item_limit}, State.{State, empty_state}}
use Rattle.rio_state.proofs.{NoReason.{no_state_reason}, OneReason.{reason_one}}
use Rattle.rio_state.specs.{Closing.{close_need, end_limit, kept_in}, KeyedRecords.{keyed_records, top_keys}, Laws.{IsOfRoom, ReadsMeetsNoReason}}
use Rattle.rio_state.specs.{Reads.{ReadsAsMade}, Reasons.{IsReasonOfChain, IsReasonOfMade, IsReasonOfSmall, ReasonAt, items_among, reason_if, room_reasons}}

room_first : (many full : Bool) → IsOfRoom (slice_get (reason_if many 0 TooMany ++ reason_if full 0 NoRoom) 0)
room_first true full = inl refl
room_first false true = inr refl
room_first false false = tt

room_told : (links : List Link) → IsOfRoom (slice_get (room_reasons links) 0)
unfolding room_reasons
room_told links = room_first (nat_lt item_limit (items_among (top_keys (keyed_records links)))) (nat_lt end_limit (chain_end links + close_need (kept_in links)))

-- the first reason of a file that is made and reads as a state
made_found : (file : List ℕ) (m : State) (x : ReadsAsMade file m) → IsReasonOfMade file (slice_get (room_reasons x.links) 0)
made_found file m x =
    let none = no_state_reason (keyed_records x.links) m x.records in
    let chain : IsReasonOfChain file (slice_get (room_reasons x.links) 0) = record {
      links = x.links;
      chain = x.chain;
      listed = true;
      listed_is = x.records.stand.listed;
      first = λ i. slice_get (sym none i ++ room_reasons x.links) 0;
    } in
    let reason : IsReasonOfSmall file (slice_get (room_reasons x.links) 0) = inr chain in
    record { head = x.head; head_is = x.head_is; reason = rw x.small reason }

abbrev Tells : List ℕ → Bool → Type 0
Tells file unborn =
    (cond unborn None (fault_of (head_at file)) ≡ None)
    × ((found : Option ReasonAt) × MatchBool unborn (found ≡ None) (IsReasonOfMade file found))
    × ((found : Option ReasonAt) → ((other : Option ReasonAt) → MatchBool unborn (other ≡ None) (IsReasonOfMade file other) → found ≡ other) → IsOfRoom found)

told_by : (unborn : Bool) (file : List ℕ) (m : State) → MatchBool unborn (m ≡ empty_state) (ReadsAsMade file m) → Tells file unborn
told_by true file m x = (refl, (None, refl), λ found same. subst IsOfRoom (sym (same None refl)) tt)
told_by false file m x =
    (ap fault_of x.head_is, (slice_get (room_reasons x.links) 0, made_found file m x), λ found same. subst IsOfRoom (sym (same (slice_get (room_reasons x.links) 0) (made_found file m x))) (room_told x.links))

pub meets_no_reason : ReadsMeetsNoReason
meets_no_reason file m x =
    let told = told_by (is_unborn file) file m x in
    record { fault = told.0; some = told.1; reason = λ found is. told.2 found (λ other that. reason_one file found other is that) }
