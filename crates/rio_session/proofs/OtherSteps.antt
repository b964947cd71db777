-- Refused commands and those that only print are their steps.
use Rattle.std.proofs.Common.{◌≡◌, inl, inr, ◌==◌, ◌||◌, ℕ, ◌+◌, ◌-◌, List, [], ◌∷◌, sum, Option, Some, None, Result, Ok, Bool, true, false, refl, sym, ap, subst, ◌∙◌, arith}
use Rattle.std.proofs.{lemmas.Bool.{eqb-true, le-ltb}}
use Rattle.std.specs.{Prelude.{if◌then◌else◌, slice_get}, List.{Contains, list_all, list_any}}
use Rattle.rio_num.specs.Room.{Room}
use Rattle.rio_key.specs.declared.head.KeyHead.{KeyHead}
use Rattle.rio_dir.specs.Table.{head_of, is_at_cycle}
use Rattle.rio_tree_table.specs.declared.table.KeptTree.{KeptTree}
use Rattle.rio_chain.specs.{Chains.{HasRecordSegment}, Placing.{end_after, file_end, record_count, space_of}}
use Rattle.rio_chain.specs.{Segments.{HoldsLink, HoldsLinks, Link, RecordAt, link_length}, declared.segment.Segment.{Segment, TheVariants.{Record, Gap}}}
use Rattle.rio_chain.proofs.OneChain.{link_one}
use Rattle.rio_machine.specs.{RefusalText.{refusal_number}, State.{State}, declared.command.Command.{Command, TheVariants.{Ls}}}
use Rattle.rio_machine.specs.{declared.command.Outcome.TheVariants.{Accepted, Refused}, declared.refusal.Refusal.{Refusal, TheVariants.{Full}}}
use Rattle.rio_reply.specs.Told.{item_listing_of}
use Rattle.rio_reply.proofs.ItemListings.{listing_told}
use Rattle.rio_state.specs.Closing.{end_limit, is_full, lay_all}
use Rattle.rio_step.specs.{Costs.{cost_of}, KeptItems.{AreItemsOfState}, Refusing.{FullMark, refusal_of, refusals}, ReplyText.{text_of}}
use Rattle.rio_step.specs.Step.{Stepped, items_listed, items_of, outcome_of, refused, reply_to, state_behind}
use Rattle.rio_step.proofs.LowestLaws.{lowest_is_told}
use Rattle.rio_state.proofs.Members.{In, all_at, contains_in, found, in_contained}
use Rattle.rio_recover.specs.Closable.{begins_at, is_placed, list_count}
use Rattle.rio_session.specs.{Behind.{IsOfKeys}, Due.{IsClosableWith, need_with}, Kept.{LinksChange, changes_by, kept_by}}
use Rattle.rio_session.specs.Marks.{command_lengths, lists_after, mark_of_command, state_need, trees_after}
use Rattle.rio_session.specs.Session.{LacksRoomIfFull, SessionState, next_of}
use Rattle.rio_session.proofs.{Needs.{baskets_counted, need_by_keys}, Refused.{changes_done, changes_refused, cost_accepted, cost_refused, kept_done, kept_refused, refused_anyway, step_accepted, step_refused}, OnlyReplies.{IsStill}}
use Rattle.rio_session.specs.SessionState.{kept_trees}

-- ---- records by their keys

pub begins_record : (place : ℕ) (segments : List Segment) → list_any (begins_at place) segments ≡ true → HasRecordSegment segments place
begins_record place [] e = absurd cc
begins_record place (Gap p n ∷ segments) e =
    let rest = begins_record place segments e in
    (Gap p n ∷ rest.0, rest.1, rest.2, ap (λ (l : List Segment). Gap p n ∷ l) rest.3)
begins_record place (Record p n ∷ segments) e = by (p == place) refl (begins_record place segments) e
  where
    by : (b : Bool) → (p == place) ≡ b → (list_any (begins_at place) segments ≡ true → HasRecordSegment segments place) → (b || list_any (begins_at place) segments) ≡ true → HasRecordSegment (Record p n ∷ segments) place
    by true is later e = ([], n, segments, ap (λ (q : ℕ). Record q n ∷ segments) (eqb-true p place is))
    by false is later e =
        let rest = later e in
        (Record p n ∷ rest.0, rest.1, rest.2, ap (λ (l : List Segment). Record p n ∷ l) rest.3)

pub key_begins : (segments : List Segment) (heads : List KeyHead) (h : KeyHead) → list_all (is_placed segments) heads ≡ true → Contains heads h → HasRecordSegment segments h.seek
key_begins segments heads h all among = begins_record h.seek segments (all_at (is_placed segments) h heads all (in_contained h heads among))

pub found_key : (heads : List KeyHead) (name : List ℕ) (cycle : ℕ) (h : KeyHead) → head_of name (Some cycle) heads ≡ Some h → Contains heads h
found_key heads name cycle h is = contains_in h heads (found (is_at_cycle name cycle) h heads is).among

-- one record begins at a place
holds_at : (file : List ℕ) (p q : ℕ) (bytes : List ℕ) (links : List Link) → HoldsLinks file p links → In (RecordAt q bytes) links → HoldsLink file q (RecordAt q bytes)
holds_at file p q bytes [] holds i = absurd i
holds_at file p q bytes (l ∷ links) holds (inl same) =
    let there : HoldsLink file p (RecordAt q bytes) = subst (HoldsLink file p) same holds.0 in
    subst (λ (k : ℕ). HoldsLink file k (RecordAt q bytes)) (sym there.0) there
holds_at file p q bytes (l ∷ links) holds (inr i) = holds_at file (p + link_length l) q bytes links holds.1 i

same_bytes : (q : ℕ) (a b : List ℕ) → RecordAt q a ≡ RecordAt q b → a ≡ b
same_bytes q a b e = cc

pub one_record : (file : List ℕ) (q : ℕ) (a b : List ℕ) (links : List Link) → HoldsLinks file 100 links → Contains links (RecordAt q a) → Contains links (RecordAt q b) → a ≡ b
one_record file q a b links holds i j =
    same_bytes q a b (link_one file q (RecordAt q a) (RecordAt q b)
    (holds_at file 100 q a links holds (in_contained (RecordAt q a) links i)) (holds_at file 100 q b links holds (in_contained (RecordAt q b) links j)))

-- ---- refused commands

-- want of room isn't what a state refuses for
lacks_none : (s : SessionState) (m : State) (c : Command) (refusal : Refusal) → slice_get (refusals m c None) (refusal_number refusal - 1) ≡ Some (Some refusal) → LacksRoomIfFull s (Refused refusal)
lacks_none s m c (Full end wanted) told = absurd cc
lacks_none s m c other told = tt

module _ (s : SessionState) (m : State) (c : Command) (refusal : Refusal) (is : refusal_of m c None ≡ Some refusal) where
  marked : refusal_of m c (mark_of_command s m c) ≡ Some refusal
  marked = refused_anyway m c (mark_of_command s m c) refusal is

  refused_next : next_of s m c ≡ record { state = m; reply = refused refusal }
  refused_next = step_refused m c (mark_of_command s m c) refusal marked

  pub refused_still : IsStill s m c 0
  refused_still = record {
    stays = ap (λ (t : Stepped). t.state) refused_next;
    kept = kept_refused s m c refusal marked;
    changes = changes_refused s m c refusal marked;
    cost_is = sym (cost_refused m c refusal is);
  }

  pub refused_told : text_of (refused refusal) ≡ text_of (next_of s m c).reply
  refused_told = ap (λ (t : Stepped). text_of t.reply) (sym refused_next)

  pub refused_outcome : outcome_of (next_of s m c).reply ≡ Refused refusal
  refused_outcome = ap (λ (t : Stepped). outcome_of t.reply) refused_next

  pub refused_lacks : (after : SessionState) → LacksRoomIfFull after (Refused refusal)
  refused_lacks after = lacks_none after m c refusal (lowest_is_told.some m c None refusal is).told

-- ---- accepted commands without changes

module _ (s : SessionState) (m : State) (keys : IsOfKeys s m) (kept : IsClosableWith s.segments s.heads s.trees s.info s.name)
    (c : Command) (free : refusal_of m c None ≡ None) (stays : state_behind m c ≡ m) (lengthless : command_lengths s m c ≡ []) (lists : lists_after s c ≡ list_count s.info)
    (trees : trees_after s m c ≡ s.trees) where
  need_is : state_need s.name (lists_after s c) (trees_after s m c) (state_behind m c) ≡ need_with s.name s.heads (record_count s.segments) s.trees
  need_is =
      (λ i. state_need s.name (lists i) (trees i) (stays i))
      ∙ need_by_keys s.heads (kept_trees s) m keys.keys keys.trees kept.closable.sized s.name (list_count s.info) s.trees
      ∙ ap (λ (k : ℕ). need_with s.name s.heads k s.trees) (omega (arith, kept.closable.count, baskets_counted s.trees))

  abbrev mark_by : List ℕ → ℕ → Option FullMark
  mark_by lengths k = if is_full s.segments lengths k then Some (record { end = file_end s.segments; wanted = sum lengths }) else None

  not_full : is_full s.segments [] (need_with s.name s.heads (record_count s.segments) s.trees) ≡ false
  unfolding is_full lay_all
  not_full = le-ltb end_limit (end_after [] (space_of s.segments) + need_with s.name s.heads (record_count s.segments) s.trees) kept.room

  mark_none : mark_of_command s m c ≡ None
  unfolding mark_of_command
  mark_none =
      (λ i. mark_by (lengthless i) (need_is i))
      ∙ ap (λ (b : Bool). let o : Option FullMark = if b then Some (record { end = file_end s.segments; wanted = sum [] }) else None in o) not_full

  unrefused : refusal_of m c (mark_of_command s m c) ≡ None
  unrefused = ap (refusal_of m c) mark_none ∙ free

  next_is : next_of s m c ≡ record { state = state_behind m c; reply = reply_to m c }
  next_is = step_accepted m c (mark_of_command s m c) unrefused

  pub accepted_still : kept_by s m c ≡ s → ◌≡◌ {A = List LinksChange} (changes_by s m c) [] → cost_of m c ≡ 0 → IsStill s m c 0
  accepted_still same changeless costless = record {
    stays = ap (λ (t : Stepped). t.state) next_is ∙ stays;
    kept = kept_done s m c unrefused ∙ same;
    changes = changes_done s m c unrefused ∙ changeless;
    cost_is = sym costless;
  }

  pub accepted_told : (text : List ℕ) → text ≡ text_of (reply_to m c) → text ≡ text_of (next_of s m c).reply
  accepted_told text is = is ∙ ap (λ (t : Stepped). text_of t.reply) (sym next_is)

  pub accepted_outcome : outcome_of (reply_to m c) ≡ Accepted → outcome_of (next_of s m c).reply ≡ Accepted
  accepted_outcome is = ap (λ (t : Stepped). outcome_of t.reply) next_is ∙ is

-- ---- ls

listing_is : (heads : List KeyHead) (trees : List KeptTree) (m : State) → AreItemsOfState heads trees m → item_listing_of trees heads ≡ text_of (items_listed (items_of m))
listing_is heads trees m are =
    let room : Room = record { bytes = item_listing_of trees heads; spare = 0 } in
    let r : Result Room ⊥ = Ok room in
    listing_told heads trees r refl m are

module _ (s : SessionState) (m : State) (keys : IsOfKeys s m) (kept : IsClosableWith s.segments s.heads s.trees s.info s.name) (free : refusal_of m Ls None ≡ None) where
  pub ls_still : IsStill s m Ls 0
  unfolding command_lengths
  ls_still = accepted_still s m keys kept Ls free refl refl refl refl refl refl (cost_accepted m Ls free)

  pub ls_told : item_listing_of (kept_trees s) s.heads ≡ text_of (next_of s m Ls).reply
  unfolding command_lengths
  ls_told = accepted_told s m keys kept Ls free refl refl refl refl (item_listing_of (kept_trees s) s.heads) (listing_is s.heads (kept_trees s) m keys.keys)

  pub ls_outcome : outcome_of (next_of s m Ls).reply ≡ Accepted
  unfolding command_lengths
  ls_outcome = accepted_outcome s m keys kept Ls free refl refl refl refl refl
