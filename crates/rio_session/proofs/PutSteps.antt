-- A put is the step of its command.
use Rattle.std.proofs.Common.{◌≡◌, ℕ, ◌+◌, ◌-◌, ◌*◌, ◌^◌, ◌<◌, ◌≤◌, List, [], ◌∷◌, length, min, sum, Option, Some, None, Bool, true, false, refl, sym, ap, subst, ◌∙◌, arith}
use Rattle.std.proofs.lemmas.Bool.{eq-eqb, eqb-true}
use Rattle.std.specs.{Prelude.{if◌then◌else◌, unwrap_or}, List.{list_all}}
use Rattle.rio_num.specs.Word.{is_item_text}
use Rattle.rio_key.specs.{declared.head.KeyHead.{KeyHead}, Written.{written_key}}
use Rattle.rio_format.specs.declared.value.Value.{Value}
use Rattle.rio_dir.specs.Table.{head_of, with_head}
use Rattle.rio_chain.specs.{Placing.{file_end, place_of, record_count}, declared.record.NewRecord.{NewRecord}}
use Rattle.rio_chain.proofs.Records.{key_long}
use Rattle.rio_model.specs.StateClasses.{StateClasses}
use Rattle.rio_machine.specs.{Limits.{head_length}, State.{State}, declared.command.Command.TheVariants.{Put}}
use Rattle.rio_machine.specs.{declared.command.Outcome.TheVariants.{Refused}, declared.refusal.Refusal.{TheVariants.{Full}}}
use Rattle.rio_state.specs.{Closing.{KeptRecords, free_length, held_with, is_full, list_length, padded_length}, Sizes.{close_size}, TreeLengths.{pending_in}}
use Rattle.rio_step.specs.{KeptItems.{AreItemsOfState}, Refusing.{FullMark, object_class, put_value, refusal_of}}
use Rattle.rio_step.specs.{Costs.{cost_of, room_limit}, ReplyText.{text_of}}
use Rattle.rio_step.specs.Step.{Stepped, object_put, outcome_of, refused, state_behind}
use Rattle.rio_effect.specs.ObjectRecord.{data_of_put, key_of_put, object_key, words_of_put}
use Rattle.rio_judge.specs.{Judging.{IsStep}, declared.work.StoredObject.{StoredObject}}
use Rattle.rio_recover.specs.Closable.{is_sized, list_count}
use Rattle.rio_session.specs.{Behind.{IsOfKeys}, Due.{IsClosableWith, due_of, kept_records, need_with}, Effects.{IsChangeOf}, Kept.{place_of_put}, Marks.{basket_total, command_lengths, mark_of_command, state_need}}
use Rattle.rio_session.specs.{Items.{AreTreeKeys}, Puts.{IsStoredRecord, putting}, Session.{HoldsState, SessionState, next_of}, SessionState.{baskets_of, kept_trees}}
use Rattle.rio_session.proofs.{Keeps.{all_with, length_with, size_with}, FilledFiles.{filled_now, held_most}, FillSums.{due_baskets, need_by_due}, Lacking.{lacking}, Needs.{baskets_counted, need_by_keys}, Places.{end_most, full_is, sum_one}}
use Rattle.rio_session.proofs.{PutFacts.{changes_are, cost_is, kept_is, own_length_is, place_is, text_is}, Refused.{changes_refused, kept_refused, refused_full, step_refused}}
use Rattle.rio_session.proofs.{PutKeys.{put_stands, put_tree_keys}, OnlyReplies.{IsStill}, States.{of_keys}}

-- ---- the put

module _ (s : SessionState) (m : State) (keys : IsOfKeys s m) (sound : StateClasses s.classes) (count : record_count s.segments ≡ 1 + list_count s.info + length s.heads + length (baskets_of s)) (sized : list_all is_sized s.heads ≡ true)
    (v : Value) (o : StoredObject) (place : ℕ) (low : place < 2 ^ 32) (soon : s.datime < 2 ^ 32) (named : is_item_text o.name ≡ true)
    (free : refusal_of m (Put o.name v) None ≡ None) (step : IsStep m v o) (new : head_of o.name (Some o.cycle) s.heads ≡ None) where
  abbrev n : ℕ
  n = padded_length (head_length o.class o.name + o.length)

  abbrev key : KeyHead
  key = key_of_put m place s.datime o.name v

  own_is : unwrap_or (object_class (put_value m v)) [] ≡ o.class
  own_is = ap (λ (w : Value). unwrap_or (object_class w) []) (sym step.value) ∙ ap (λ (x : Option (List ℕ)). unwrap_or x []) step.class

  pub key_sized : is_sized key ≡ true
  unfolding object_key
  key_sized = eq-eqb (length (written_key key)) (head_length key.class key.name) (key_long (words_of_put m place s.datime o.name v) (length (data_of_put m place s.datime o.name v)))

  -- class and name of the key
  pub key_class : key.class ≡ o.class
  unfolding object_key
  key_class = own_is

  pub key_name : key.name ≡ o.name
  unfolding object_key
  key_name = refl

  classes : StateClasses m.classes
  classes = subst StateClasses (sym keys.classes) sound

  stand_after : AreItemsOfState (with_head (key_of_put m place s.datime o.name v) s.heads) (kept_trees s) (state_behind m (Put o.name v))
  stand_after = put_stands s m keys o.name v free place classes

  tree_keys : AreTreeKeys (with_head (key_of_put m place s.datime o.name v) s.heads) (kept_trees s)
  tree_keys = put_tree_keys s m keys o.name v free place classes

  abbrev need : ℕ
  need = need_with s.name (with_head key s.heads) (record_count s.segments + 1) s.trees

  need_is : state_need s.name (list_count s.info) s.trees (state_behind m (Put o.name v)) ≡ need
  need_is =
      let more : 1 + list_count s.info + length (with_head key s.heads) + basket_total s.trees ≡ record_count s.segments + 1 = omega (arith, length_with key s.heads, count, baskets_counted s.trees) in
      need_by_keys (with_head key s.heads) (kept_trees s) (state_behind m (Put o.name v)) stand_after tree_keys (all_with is_sized key s.heads key_sized sized) s.name (list_count s.info) s.trees
      ∙ ap (λ (k : ℕ). need_with s.name (with_head key s.heads) k s.trees) more

  pub lengths_are : command_lengths s m (Put o.name v) ≡ n ∷ []
  unfolding command_lengths
  lengths_are = ap (λ (k : ℕ). k ∷ []) (sym (own_length_is s place o m v (sym keys.classes) step))

  abbrev mark_by : List ℕ → ℕ → Option FullMark
  mark_by lengths k = if is_full s.segments lengths k then Some (record { end = file_end s.segments; wanted = sum lengths }) else None

  mark_is : mark_of_command s m (Put o.name v) ≡ mark_by (n ∷ []) need
  unfolding mark_of_command
  mark_is = λ i. mark_by (lengths_are i) (need_is i)

  abbrev told_by : Bool → Option FullMark
  told_by b = if b then Some (record { end = file_end s.segments; wanted = sum (n ∷ []) }) else None

  pub mark_none : is_full s.segments (n ∷ []) need ≡ false → mark_of_command s m (Put o.name v) ≡ None
  mark_none e = mark_is ∙ ap told_by e

  pub mark_full : is_full s.segments (n ∷ []) need ≡ true → mark_of_command s m (Put o.name v) ≡ Some (record { end = file_end s.segments; wanted = n })
  mark_full e = mark_is ∙ ap told_by e ∙ ap (λ (k : ℕ). let x : Option FullMark = Some (record { end = file_end s.segments; wanted = k }) in x) (sum_one n)

  -- ---- where there is room

  module _ (made : NewRecord) (r : IsStoredRecord s place o made) (room : is_full s.segments (n ∷ []) need ≡ false) (at : place ≡ place_of s.segments n) where
    abbrev own : ℕ
    own = place_of_put s m o.name v

    own_place : place ≡ own
    own_place = place_is s place o made r m v (sym keys.classes) free step at

    pub put_is_change : (text : List ℕ) (cost : ℕ) → text ≡ text_of (object_put o.name o.cycle) → cost ≡ 500 + o.length → IsChangeOf (putting s made text cost) s m (Put o.name v)
    put_is_change text cost is costs = record {
      free = ap (refusal_of m (Put o.name v)) (mark_none room) ∙ free;
      changes = changes_are s place o made r m v (sym keys.classes) free step text cost own_place;
      kept = kept_is s place o made r m v (sym keys.classes) free step text cost own_place;
      text = text_is s place o made r m v (sym keys.classes) free step text is;
      cost = cost_is s place o made r m v (sym keys.classes) free step cost costs;
      stands = record {
        classes = keys.classes;
        keys = subst (λ (k : ℕ). AreItemsOfState (with_head (key_of_put m k s.datime o.name v) s.heads) (kept_trees s) (state_behind m (Put o.name v))) own_place stand_after;
        trees = subst (λ (k : ℕ). AreTreeKeys (with_head (key_of_put m k s.datime o.name v) s.heads) (kept_trees s)) own_place tree_keys;
      };
    }

  -- ---- where there is none

  module _ (full : is_full s.segments (n ∷ []) need ≡ true) where
    refused_is : refusal_of m (Put o.name v) (mark_of_command s m (Put o.name v)) ≡ Some (Full (file_end s.segments) n)
    refused_is = ap (refusal_of m (Put o.name v)) (mark_full full) ∙ refused_full m (Put o.name v) (record { end = file_end s.segments; wanted = n }) free

    full_next : next_of s m (Put o.name v) ≡ record { state = m; reply = refused (Full (file_end s.segments) n) }
    full_next = step_refused m (Put o.name v) (mark_of_command s m (Put o.name v)) (Full (file_end s.segments) n) refused_is

    pub full_still : (cost : ℕ) → cost ≡ cost_of m (Put o.name v) → IsStill s m (Put o.name v) cost
    full_still cost costs = record {
      stays = ap (λ (t : Stepped). t.state) full_next;
      kept = kept_refused s m (Put o.name v) (Full (file_end s.segments) n) refused_is;
      changes = changes_refused s m (Put o.name v) (Full (file_end s.segments) n) refused_is;
      cost_is = costs;
    }

    pub full_told : text_of (refused (Full (file_end s.segments) n)) ≡ text_of (next_of s m (Put o.name v)).reply
    full_told = ap (λ (t : Stepped). text_of t.reply) (sym full_next)

    pub full_outcome : outcome_of (next_of s m (Put o.name v)).reply ≡ Refused (Full (file_end s.segments) n)
    full_outcome = ap (λ (t : Stepped). outcome_of t.reply) full_next

-- ---- on a file

module _ (s : SessionState) (m : State) (file : List ℕ) (h : HoldsState s m file) (sound : StateClasses s.classes) (kept : IsClosableWith s.segments s.heads s.trees s.info s.name)
    (v : Value) (o : StoredObject) (place : ℕ) (low : place < 2 ^ 32) (soon : s.datime < 2 ^ 32) (named : is_item_text o.name ≡ true)
    (free : refusal_of m (Put o.name v) None ≡ None) (step : IsStep m v o) (new : head_of o.name (Some o.cycle) s.heads ≡ None) where
  abbrev its_key : KeyHead
  its_key = key_of_put m place s.datime o.name v

  abbrev size_of : ℕ
  size_of = padded_length (head_length o.class o.name + o.length)

  abbrev its_need : ℕ
  its_need = need_with s.name (with_head its_key s.heads) (record_count s.segments + 1) s.trees

  abbrev mine : KeptRecords
  mine = kept_records s.name s.heads (record_count s.segments) s.trees

  abbrev of : IsOfKeys s m
  of = of_keys s m file h

  -- what is held where there is no room
  module _ (full : is_full s.segments (size_of ∷ []) its_need ≡ true) where
    need_most : its_need ≤ (due_of s.trees).bytes + (list_length mine + head_length o.class o.name + 3 + (free_length mine + 13))
    unfolding close_size
    need_most =
        let long : length (written_key its_key) ≡ head_length o.class o.name = eqb-true (length (written_key its_key)) (head_length its_key.class its_key.name)
        (key_sized s m of sound kept.closable.count kept.closable.sized v o place low soon named free step new)
        ∙ ap (λ (x : List ℕ × List ℕ). head_length x.0 x.1) (λ i. (key_class s m of sound kept.closable.count kept.closable.sized v o place low soon named free step new i, key_name s m of sound kept.closable.count kept.closable.sized v o place low soon named free step new i)) in
        omega (arith, need_by_due s.name (with_head its_key s.heads) (record_count s.segments + 1) s.trees, size_with its_key s.heads, long, due_baskets s.trees)

    pub full_lacks : (cost : ℕ) → cost ≡ 500 + o.length → head_length o.class o.name ≤ 229 → room_limit < 3 * s.opened + min (s.costs + cost) (2 ^ 64 - 1)
    full_lacks cost is short = lacking (3 * s.opened) s.costs cost (held_with (pending_in m) h.links) h.held
        (omega (arith, held_most s m h.links (filled_now s m file h kept) (sym h.chain.same), need_most, full_is s.segments size_of its_need full, end_most size_of s.segments, short, is))
