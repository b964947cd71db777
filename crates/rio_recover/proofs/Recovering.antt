-- What a walked file has, or the first reason against writing to it.
use Rattle.std.proofs.Common.{◌≡◌, ◌∙◌, ℕ, ◌+◌, ◌^◌, ◌<◌, ◌≤◌, List, [], ◌∷◌, length, Option, Result, Ok, Err, sym, ap, subst, arith, false}
use Rattle.std.proofs.lemmas.List.Elements.{All-head}
use Rattle.std.specs.{List.{All}, Result.{IfOk}}
use Rattle.rio_key.specs.declared.head.KeyHead.{KeyHead}
use Rattle.rio_chain.specs.{Chains.{HasChain}, Found.{IsShortKey}, Placing.{file_end}, Segments.{Link}}
use Rattle.rio_dir.specs.{Table.{AreOrdered}, Unborn.{is_unborn}}
use Rattle.rio_machine.specs.Limits.{item_limit}
use Rattle.rio_state.specs.{Closing.{KeptRecords, close_need, end_limit, name_in}, KeyedRecords.{info_key, keyed_records}, Reasons.{room_reasons}, Left.{info_head}}
use Rattle.rio_recover.specs.{Causes.{Judges}, Keys.{keyed_by, record_heads}}
use Rattle.rio_recover.specs.{Recovered.{AreItemsOf, AreParts, HasRoomBehind, IsAnswer, IsKeptOf, JudgesLinks, kept_by, other_count}, TreeTable.{AreInOrder}, Walked.{IsWalked}}
use Rattle.rio_recover.specs.{declared.fault.RecoverFault.{RecoverFault}, declared.recovery.ReadState.{ReadState}, declared.recovery.Recovered.{Recovered}}
use Rattle.rio_recover.specs.declared.walked.Walked.{Walked}
use Rattle.rio_recover.proofs.{Answering.{recovered, refused}, Gathering.{room_walked}, Judging.{judges_same}}
use Rattle.rio_recover.proofs.{RoomReasons.{kept_for, leaves_room, room_of}, StateJudged.{room_refused}}

-- the file's name is short enough
pub name_short : (heads : List KeyHead) → All IsShortKey heads → length (name_in (keyed_by heads)) < 2 ^ 32
name_short [] all = omega arith
name_short (h ∷ hs) all = (All-head IsShortKey h hs all).fits.name

-- ---- room

-- the reasons of room, by the numbers that were tested
pub room_tested : (count others end : ℕ) (heads : List KeyHead) (name seen : List ℕ) (close : ℕ) → end ≡ close → seen ≡ name
    → room_of (length heads) end (kept_for seen heads others) ≡ room_of (length heads) close (kept_for name heads others)
room_tested count others end heads name seen close e n = λ i. room_of (length heads) (e i) (kept_for (n i) heads others)

module _ (file : List ℕ) (links : List Link) (walked : Walked) (chain : HasChain links walked.segments file) (heads : walked.heads ≡ record_heads (keyed_records links))
    (state : ReadState) (items : AreItemsOf (keyed_records links) state.registry state.check.items.heads state.check.trees) (name : List ℕ) (named : name ≡ name_in (keyed_by walked.heads))
    (info : Option KeyHead) (counts : info ≡ info_head (info_key (keyed_by walked.heads)))
    (end : ℕ) (ends : end ≡ file_end walked.segments) (seen : List ℕ) (sees : seen ≡ name) where
  abbrev table : List KeyHead
  table = state.check.items.heads

  abbrev others : ℕ
  others = other_count info state.check.trees

  reasons_same : room_of (length table) end (kept_for seen table others) ≡ room_reasons links
  reasons_same =
      room_tested 0 others end table name seen (file_end walked.segments) ends sees
      ∙ room_walked file links walked chain heads state name info items named counts

  pub no_room : {X : Type 0} (e : RecoverFault) (P : X → Type 0) → Judges (Err e) (room_of (length table) end (kept_for seen table others)) P → JudgesLinks (Err e) links
  no_room {X = X} e P j =
      room_refused links state.registry table state.check.trees e P items
      (judges_same {X = X} (Err e) (room_of (length table) end (kept_for seen table others)) (room_reasons links) P reasons_same j)

  pub some_room : room_of (length table) end (kept_for seen table others) ≡ [] → room_reasons links ≡ []
  some_room none = sym reasons_same ∙ none

pub has_room : (walked : Walked) (name seen : List ℕ) (info : Option KeyHead) (state : ReadState) (r : Recovered) (end : ℕ) → AreParts walked name info state r → end ≡ file_end walked.segments
    → seen ≡ name → room_of (length state.check.items.heads) end (kept_for seen state.check.items.heads (other_count info state.check.trees)) ≡ [] → HasRoomBehind r
has_room walked name seen info state r end parts ends sees none =
    let others = other_count info state.check.trees in
    let room = leaves_room (length state.check.items.heads) end (kept_for seen state.check.items.heads others) none in
    let table : r.table.heads ≡ state.check.items.heads = λ i. (parts.table i).heads in
    let kept : kept_by r ≡ kept_for seen state.check.items.heads others = λ i. record {
      name = (parts.name_is ∙ sym sees) i;
      heads = table i;
      count = other_count (parts.info_is i) (parts.trees i) + length (table i);
      trees = [];
    } in
    let ended : file_end r.chain.segments ≡ end = ap file_end parts.kept.segments ∙ sym ends in
    record {
      items = subst (λ (hs : List KeyHead). length hs ≤ item_limit) (sym table) room.few;
      close = subst (λ (k : KeptRecords). file_end r.chain.segments + close_need k ≤ end_limit) (sym kept) (subst (λ (n : ℕ). n + close_need (kept_for seen state.check.items.heads others) ≤ end_limit) (sym ended) room.low);
      release = parts.release;
    }

-- ---- the answer

pub answered : (file : List ℕ) (made : is_unborn file ≡ false) (walked : Walked) (is : IsWalked file walked) (result : Result Recovered RecoverFault) → IfOk result (IsKeptOf walked) → IfOk result (λ r. AreOrdered r.table.heads) → IfOk result (λ r. AreInOrder r.trees) → JudgesLinks result is.links
    → IsAnswer result file
answered file made walked is (Ok r) kept ordered named judged = recovered file made walked is r kept ordered named judged
answered file made walked is (Err e) kept ordered named judged = refused file made walked is e judged
