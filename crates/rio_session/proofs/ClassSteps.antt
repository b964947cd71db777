-- A class command is the step of its command.
use Rattle.std.proofs.Common.{◌≡◌, ℕ, ◌+◌, ◌-◌, ◌*◌, ◌^◌, ◌<◌, ◌≤◌, List, [], ◌∷◌, length, min, sum, Option, Some, None, Bool, true, false, refl, sym, ap, ◌∙◌, arith}
use Rattle.std.specs.{Prelude.{if◌then◌else◌, is_some}, List.{list_all}}
use Rattle.rio_format.specs.declared.class.ClassDef.{ClassDef}
use Rattle.rio_chain.specs.{Changes.{with_record}, Placing.{file_end, place_of, record_count, with_segment}}
use Rattle.rio_machine.specs.{State.{State}, declared.command.Command.TheVariants.{Class}}
use Rattle.rio_machine.specs.{declared.command.Outcome.TheVariants.{Refused}, declared.refusal.Refusal.{Refusal, TheVariants.{Full}}}
use Rattle.rio_state.specs.{Closing.{KeptRecords, free_length, held_with, is_full, list_length, padded_length}, Sizes.{close_size}, TreeLengths.{pending_in}}
use Rattle.rio_step.specs.{Costs.{accepted_cost, cost_of, info_size, room_limit}, KeptItems.{AreItemsOfState}, Refusing.{FullMark, refusal_of, with_class}, ReplyText.{text_of}}
use Rattle.rio_step.specs.Step.{Stepped, class_declared, outcome_of, refused, state_behind}
use Rattle.rio_effect.specs.ClassRecord.{key_of_class, list_key, list_key_size, list_record, next_list_cycle, record_of_class}
use Rattle.rio_effect.proofs.FileChanges.{class_length}
use Rattle.rio_recover.specs.Closable.{is_sized}
use Rattle.rio_session.specs.{Behind.{IsOfKeys}, Effects.{IsChangeOf}, Kept.{LinksChange, changes_by, kept_by, place_of_class, released_link, released_segment}}
use Rattle.rio_session.specs.{Due.{IsClosableWith, due_of, kept_records, need_with}, Lists.{listing_at}}
use Rattle.rio_session.specs.{Marks.{command_lengths, mark_of_command, state_need}, Session.{HoldsState, next_of}, SessionState.{SessionState, baskets_of, kept_trees}}
use Rattle.rio_session.proofs.{FilledFiles.{filled_now, held_most}, FillSums.{due_baskets, need_by_due}, Lacking.{lacking}}
use Rattle.rio_session.proofs.{FileNeeds.{mark_by, mark_by_kept}, Needs.{baskets_counted, need_by_keys}, Places.{end_most, full_is, sum_one}}
use Rattle.rio_session.proofs.{Refused.{changes_refused, kept_refused, refused_full, step_refused}, OnlyReplies.{IsStill}}

-- the objects and trees stay
pub class_stands : (s : SessionState) (m : State) → IsOfKeys s m → (class : ClassDef) → AreItemsOfState s.heads (kept_trees s) (state_behind m (Class class))
class_stands s m keys class = record { ordered = keys.keys.ordered; objects = keys.keys.objects; cycles = keys.keys.cycles; kept = keys.keys.kept }

-- ---- by what is kept

-- where a class list of the session's classes and this one has so many bytes
module _ (s : SessionState) (m : State) (keys : IsOfKeys s m) (sized : list_all is_sized s.heads ≡ true) (class : ClassDef) (free : refusal_of m (Class class) None ≡ None)
    (size : ℕ) (written : size ≡ info_size (with_class s.classes class)) where
  abbrev n : ℕ
  n = padded_length (list_key_size + size)

  abbrev need : ℕ
  need = need_with s.name s.heads (2 + length s.heads + length (baskets_of s)) s.trees

  classes_same : with_class s.classes class ≡ with_class m.classes class
  classes_same = ap (λ (cs : List ClassDef). with_class cs class) (sym keys.classes)

  size_is : size ≡ info_size (with_class m.classes class)
  size_is = written ∙ ap info_size classes_same

  need_is : state_need s.name 1 s.trees (state_behind m (Class class)) ≡ need
  need_is =
      need_by_keys s.heads (kept_trees s) (state_behind m (Class class)) (class_stands s m keys class) keys.trees sized s.name 1 s.trees
      ∙ ap (λ (k : ℕ). need_with s.name s.heads (2 + length s.heads + k) s.trees) (baskets_counted s.trees)

  lengths_are : command_lengths s m (Class class) ≡ padded_length (list_key_size + size) ∷ []
  unfolding command_lengths
  lengths_are = ap (λ (k : ℕ). padded_length (list_key_size + k) ∷ []) (sym size_is)

  mark_is : mark_of_command s m (Class class) ≡ mark_by s.segments (padded_length (list_key_size + size) ∷ []) need
  mark_is = mark_by_kept s m (Class class) ∙ (λ i. mark_by s.segments (lengths_are i) (need_is i))

  abbrev told_by : Bool → Option FullMark
  told_by b = if b then Some (record { end = file_end s.segments; wanted = sum (padded_length (list_key_size + size) ∷ []) }) else None

  pub class_mark_none : is_full s.segments (padded_length (list_key_size + size) ∷ []) (need_with s.name s.heads (2 + length s.heads + length (baskets_of s)) s.trees) ≡ false → mark_of_command s m (Class class) ≡ None
  class_mark_none e = mark_is ∙ ap told_by e

  pub class_mark_full : is_full s.segments (padded_length (list_key_size + size) ∷ []) (need_with s.name s.heads (2 + length s.heads + length (baskets_of s)) s.trees) ≡ true
      → mark_of_command s m (Class class) ≡ Some (record { end = file_end s.segments; wanted = padded_length (list_key_size + size) })
  class_mark_full e = mark_is ∙ ap told_by e ∙ ap (λ (k : ℕ). let x : Option FullMark = Some (record { end = file_end s.segments; wanted = k }) in x) (sum_one n)

  class_cost : cost_of m (Class class) ≡ 100 + size
  unfolding cost_of
  class_cost = ap (λ (o : Option Refusal). if is_some o then 0 else accepted_cost m (Class class)) free ∙ ap (λ (k : ℕ). 100 + k) (sym size_is)

  -- ---- where there is room

  module _ (place : ℕ) (long : length (list_record place s.datime (next_list_cycle s.info) (with_class s.classes class)) ≡ padded_length (list_key_size + size))
      (room : is_full s.segments (padded_length (list_key_size + size) ∷ []) (need_with s.name s.heads (2 + length s.heads + length (baskets_of s)) s.trees) ≡ false)
      (at : place ≡ place_of s.segments (padded_length (list_key_size + size))) where
    abbrev own : ℕ
    own = place_of_class s m class

    -- the record is as long at each place
    long_is : padded_length (list_key_size + size) ≡ length (record_of_class s.info m 0 s.datime class)
    long_is =
        sym long ∙ ap (λ (cs : List ClassDef). length (list_record place s.datime (next_list_cycle s.info) cs)) classes_same
        ∙ sym (class_length s.info m place s.datime class) ∙ class_length s.info m 0 s.datime class

    own_place : place ≡ place_of_class s m class
    own_place = at ∙ ap (place_of s.segments) long_is

    head_is : list_key place s.datime (next_list_cycle s.info) (with_class s.classes class) ≡ key_of_class s.info m (place_of_class s m class) s.datime class
    head_is = λ i. list_key (own_place i) s.datime (next_list_cycle s.info) (classes_same i)

    bytes_are : list_record place s.datime (next_list_cycle s.info) (with_class s.classes class) ≡ record_of_class s.info m (place_of_class s m class) s.datime class
    bytes_are = λ i. list_record (own_place i) s.datime (next_list_cycle s.info) (classes_same i)

    -- the session with the class declared
    abbrev with_it : SessionState
    with_it = record s { classes = with_class s.classes class }

    changes_are : (text : List ℕ) (cost : ℕ) → ◌≡◌ {A = List LinksChange} (listing_at with_it place text cost).changes (changes_by s m (Class class))
    changes_are text cost = λ i. with_record (own_place i) (bytes_are i) ∷ released_link s.info

    kept_is : (text : List ℕ) (cost : ℕ) → (listing_at with_it place text cost).kept ≡ kept_by s m (Class class)
    kept_is text cost = λ i. record s {
      segments = released_segment s.info (with_segment (own_place i) (length (bytes_are i)) s.segments);
      classes = classes_same i;
      info = Some (head_is i);
    }

    pub class_is_change : (text : List ℕ) (cost : ℕ) → text ≡ text_of (class_declared class.name class.version) → cost ≡ 100 + size
        → IsChangeOf (listing_at (record s { classes = with_class s.classes class }) place text cost) s m (Class class)
    class_is_change text cost is costs = record {
      free = ap (refusal_of m (Class class)) (class_mark_none room) ∙ free;
      changes = changes_are text cost;
      kept = kept_is text cost;
      text = is;
      cost = costs ∙ sym class_cost;
      stands = record { classes = refl; keys = class_stands s m keys class; trees = keys.trees };
    }

  -- ---- where there is none

  module _ (full : is_full s.segments (padded_length (list_key_size + size) ∷ []) (need_with s.name s.heads (2 + length s.heads + length (baskets_of s)) s.trees) ≡ true) where
    refused_is : refusal_of m (Class class) (mark_of_command s m (Class class)) ≡ Some (Full (file_end s.segments) (padded_length (list_key_size + size)))
    refused_is = ap (refusal_of m (Class class)) (class_mark_full full) ∙ refused_full m (Class class) (record { end = file_end s.segments; wanted = padded_length (list_key_size + size) }) free

    full_next : next_of s m (Class class) ≡ record { state = m; reply = refused (Full (file_end s.segments) (padded_length (list_key_size + size))) }
    full_next = step_refused m (Class class) (mark_of_command s m (Class class)) (Full (file_end s.segments) n) refused_is

    pub class_full_still : (cost : ℕ) → cost ≡ 100 + size → IsStill s m (Class class) cost
    class_full_still cost costs = record {
      stays = ap (λ (t : Stepped). t.state) full_next;
      kept = kept_refused s m (Class class) (Full (file_end s.segments) n) refused_is;
      changes = changes_refused s m (Class class) (Full (file_end s.segments) n) refused_is;
      cost_is = costs ∙ sym class_cost;
    }

    pub class_full_told : text_of (refused (Full (file_end s.segments) (padded_length (list_key_size + size)))) ≡ text_of (next_of s m (Class class)).reply
    class_full_told = ap (λ (t : Stepped). text_of t.reply) (sym full_next)

    pub class_full_outcome : outcome_of (next_of s m (Class class)).reply ≡ Refused (Full (file_end s.segments) (padded_length (list_key_size + size)))
    class_full_outcome = ap (λ (t : Stepped). outcome_of t.reply) full_next

-- ---- on a file

module _ (s : SessionState) (m : State) (file : List ℕ) (h : HoldsState s m file) (kept : IsClosableWith s.segments s.heads s.trees s.info s.name) (size : ℕ)
    (full : is_full s.segments (padded_length (list_key_size + size) ∷ []) (need_with s.name s.heads (2 + length s.heads + length (baskets_of s)) s.trees) ≡ true) where
  abbrev mine : KeptRecords
  mine = kept_records s.name s.heads (record_count s.segments) s.trees

  need_most : need_with s.name s.heads (2 + length s.heads + length (baskets_of s)) s.trees ≤ (due_of s.trees).bytes + (list_length mine + 3 + (free_length mine + 13))
  unfolding close_size
  need_most = omega (arith, need_by_due s.name s.heads (2 + length s.heads + length (baskets_of s)) s.trees, due_baskets s.trees, kept.closable.count)

  key_long : list_key_size ≡ 64
  key_long = refl

  -- then the costs with that of the command pass what there is room for
  pub class_full_lacks : (cost : ℕ) → cost ≡ 100 + size → room_limit < 3 * s.opened + min (s.costs + cost) (2 ^ 64 - 1)
  class_full_lacks cost is = lacking (3 * s.opened) s.costs cost (held_with (pending_in m) h.links) h.held
      (omega (
        arith,
        held_most s m h.links (filled_now s m file h kept) (sym h.chain.same),
        need_most,
        full_is s.segments (padded_length (list_key_size + size)) (need_with s.name s.heads (2 + length s.heads + length (baskets_of s)) s.trees) full,
        end_most (padded_length (list_key_size + size)) s.segments,
        key_long,
        is,
      ))
