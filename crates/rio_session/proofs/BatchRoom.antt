-- Where there is room for the records of a batch, they end below 2^32, and so the batch takes effect; where they would not, there is none.
use Rattle.std.proofs.Common.{◌≡◌, ◌∙◌, ℕ, ◌+◌, ◌<◌, ◌≤◌, ◌^◌, List, [], ◌∷◌, length, Bool, true, false, Option, Some, None, refl, sym, ap, subst, arith}
use Rattle.std.proofs.lemmas.{Bool.{and_parts, lt-ltb}, List.Sums.{sum_by-cons}}
use Rattle.std.specs.{Prelude.{if◌then◌else◌, nat_lt, sum}, List.{list_all, sum_by}, Option.{option_map, unwrap_or}}
use Rattle.rio_num.specs.Word.{is_item_text}
use Rattle.rio_free.proofs.Best.{best_is_gap}
use Rattle.rio_free.specs.{Gaps.{best_gap}, declared.gap.Gap.{Gap}}
use Rattle.rio_chain.specs.{Adjoining.{AreSegments}, Placing.{end_after, file_end, gaps_in, laid_at, place_of, space_of}, declared.segment.Segment.{Segment}}
use Rattle.rio_chain.proofs.{Placed.{gap_low}, PutsNoted.{sum_more}}
use Rattle.rio_model.specs.StateClasses.{StateClasses}
use Rattle.rio_machine.specs.{State.{State}, declared.command.Command.{Command, TheVariants.{Batch}}, declared.command.PutItem.{PutItem}}
use Rattle.rio_machine.specs.declared.refusal.Refusal.{Refusal, TheVariants.{Full}}
use Rattle.rio_state.specs.Closing.{end_limit, is_full, lay_all}
use Rattle.rio_step.proofs.BatchTaken.{batch_taken}
use Rattle.rio_step.specs.{Laws.{AreTaken}, Refusing.{FullMark, refusal_of}, Statable.{is_statable}, Step.{state_behind, with_object}}
use Rattle.rio_effect.specs.{Batches.{AreNamed}, Changes.{added_length, batch_lengths}, ObjectRecord.{data_of_put, records_of_puts, size_of_batch, words_of_put}}
use Rattle.rio_effect.proofs.{FileChanges.{batch_size, put_length}, Held.{chain_segments}, PutEffect.{puts_have_records}}
use Rattle.rio_session.specs.{Effects.{TakesEffect}, Kept.{place_of_batch}, Marks.{command_lengths, length_of_put, lists_after, mark_of_command, state_need, trees_after}, Session.{HoldsState, SessionState}, Sound.{IsSoundState}}
use Rattle.rio_session.proofs.{BatchEffects.{batch_takes_effect_on}, FileNeeds.{mark_by_kept}, Places.{room_is}, Refused.{refused_full}, Unmarked.{unmarked}}

-- ---- places

-- the bytes at the place of the rule end where all segments do then, or before
space_within : (segments : List Segment) (n : ℕ) → AreSegments segments → place_of segments n + n ≤ end_after (n ∷ []) (space_of segments)
space_within segments n shape = by (best_gap n (gaps_in segments)) refl
  where
    by : (r : Option Gap) → best_gap n (gaps_in segments) ≡ r
        → unwrap_or (option_map (λ g. g.place) r) (file_end segments) + n ≤ (laid_at (option_map (λ g. g.place) r) n (space_of segments)).end
    by (Some g) found = gap_low segments g.place n shape (best_is_gap n (gaps_in segments) g found)
    by None found = omega arith

pub low_space : (segments : List Segment) (n need : ℕ) → AreSegments segments → is_full segments (n ∷ []) need ≡ false → place_of segments n + n ≤ end_limit
low_space segments n need shape room = omega (arith, space_within segments n shape, room_is segments n need room)

-- where they would end behind the limit there is no room, whatever a close needs
pub full_past : (segments : List Segment) (n need : ℕ) → AreSegments segments → end_limit < place_of segments n + n → is_full segments (n ∷ []) need ≡ true
unfolding is_full lay_all
full_past segments n need shape past = let within = space_within segments n shape in lt-ltb end_limit (end_after (n ∷ []) (space_of segments) + need) (omega (arith, within, past))

-- ---- lengths

-- the records are as long together as the mark of the batch says
long_each : (puts : List PutItem) (m : State) (datime : ℕ) → datime < 2 ^ 32 → StateClasses m.classes → AreNamed puts → AreTaken m puts
    → sum (batch_lengths (records_of_puts datime m puts)) ≡ sum_by (λ p. length_of_put m p.name p.value) puts
long_each [] m datime soon are named taken = refl
long_each (p ∷ ps) m datime soon are named taken =
    let parts = and_parts (is_item_text p.name) (list_all (λ (q : PutItem). is_item_text q.name) ps) named in
    let next = with_object m p.name p.value in
    let own = puts_have_records m 0 datime p.name p.value None (omega arith) soon are parts.0 taken.0 in
    let first = put_length m 0 datime p.name p.value ∙ own.long in
    let rest : sum (batch_lengths (records_of_puts datime next ps)) ≡ sum_by (λ (q : PutItem). length_of_put m q.name q.value) ps = long_each ps next datime soon are parts.1 taken.1 in
    sum_more (added_length (words_of_put m 0 datime p.name p.value) (data_of_put m 0 datime p.name p.value)) (batch_lengths (records_of_puts datime next ps))
    ∙ (λ i. first i + rest i)
    ∙ sym (sum_by-cons (λ (q : PutItem). length_of_put m q.name q.value) p ps)

lengths_are : (s : SessionState) (m : State) (puts : List PutItem) → command_lengths s m (Batch puts) ≡ sum_by (λ p. length_of_put m p.name p.value) puts ∷ []
unfolding command_lengths
lengths_are s m puts = refl

-- ---- marks

-- a command that isn't refused has room
not_full : (s : SessionState) (m : State) (c : Command) → refusal_of m c (mark_of_command s m c) ≡ None
    → is_full s.segments (command_lengths s m c) (state_need s.name (lists_after s c) (trees_after s m c) (state_behind m c)) ≡ false
not_full s m c free = by (is_full s.segments (command_lengths s m c) (state_need s.name (lists_after s c) (trees_after s m c) (state_behind m c))) refl
  where
    by : (b : Bool) → is_full s.segments (command_lengths s m c) (state_need s.name (lists_after s c) (trees_after s m c) (state_behind m c)) ≡ b
        → is_full s.segments (command_lengths s m c) (state_need s.name (lists_after s c) (trees_after s m c) (state_behind m c)) ≡ false
    by false e = e
    by true e =
        let mark : FullMark = record { end = file_end s.segments; wanted = sum (command_lengths s m c) } in
        let full : mark_of_command s m c ≡ Some mark = mark_by_kept s m c ∙ ap (λ (b : Bool). let o : Option FullMark = if b then Some mark else None in o) e in
        let never : Some (Full mark.end mark.wanted) ≡ None = sym (ap (refusal_of m c) full ∙ refused_full m c mark (unmarked m c (mark_of_command s m c) free)) ∙ free in
        absurd cc

-- ---- the batch

module _ (s : SessionState) (m : State) (file : List ℕ) (h : HoldsState s m file) (sound : IsSoundState s) (fresh : s.failed ≡ false) (soon : s.datime < 2 ^ 32)
    (puts : List PutItem) (statable : is_statable (Batch puts) ≡ true) where
  pub batch_shape : AreSegments s.segments
  batch_shape = subst AreSegments (sym h.chain.same) (chain_segments file h.links h.chain.chain)

  classes : StateClasses m.classes
  classes = subst StateClasses (sym h.stands.classes) sound.classes

  named : AreNamed puts
  named = (and_parts (nat_lt 0 (length puts)) (list_all (λ (p : PutItem). is_item_text p.name) puts) statable).1

  -- how long the records are together, as the mark says, and for any place
  pub batch_long : refusal_of m (Batch puts) None ≡ None → sum (batch_lengths (records_of_puts s.datime m puts)) ≡ sum_by (λ p. length_of_put m p.name p.value) puts
  batch_long free = long_each puts m s.datime soon classes named (batch_taken m puts None free)

  pub batch_long_at : refusal_of m (Batch puts) None ≡ None → (place : ℕ) → size_of_batch m place s.datime puts ≡ sum_by (λ p. length_of_put m p.name p.value) puts
  batch_long_at free place = sym (batch_size m place s.datime puts) ∙ batch_long free

  -- where there is room for them they end below the limit
  pub batch_takes : refusal_of m (Batch puts) (mark_of_command s m (Batch puts)) ≡ None → TakesEffect s m (Batch puts) h.links
  batch_takes marked =
      let free = unmarked m (Batch puts) (mark_of_command s m (Batch puts)) marked in
      let n = sum_by (λ (p : PutItem). length_of_put m p.name p.value) puts in
      let need = state_need s.name (lists_after s (Batch puts)) (trees_after s m (Batch puts)) (state_behind m (Batch puts)) in
      let room : is_full s.segments (n ∷ []) need ≡ false = ap (λ (ls : List ℕ). is_full s.segments ls need) (sym (lengths_are s m puts)) ∙ not_full s m (Batch puts) marked in
      let within = low_space s.segments n need batch_shape room in
      let there : place_of_batch s m puts ≡ place_of s.segments n = ap (place_of s.segments) (batch_long_at free 0) in
      batch_takes_effect_on s m file h sound fresh soon puts statable free (omega (arith, within, there, batch_long_at free (place_of_batch s m puts)))
