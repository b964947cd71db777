-- A record that was made for a put can be put, and is the put's.
use Rattle.std.proofs.Common.{◌≡◌, ℕ, ◌+◌, ◌^◌, ◌<◌, ◌≤◌, List, [], ◌∷◌, length, Option, Some, None, true, refl, sym, ap, subst, ◌∙◌, arith}
use Rattle.std.proofs.lemmas.Bool.{and_from, eq-eqb, le-leb, lt-ltb}
use Rattle.std.specs.{Prelude.{unwrap_or}, List.{find}}
use Rattle.rio_num.proofs.TextLengths.{text_within}
use Rattle.rio_format.specs.{declared.class.ClassDef.{ClassDef}, declared.value.Value.{Value}}
use Rattle.rio_key.specs.{Written.{written_key}, declared.head.KeyHead.{KeyHead}}
use Rattle.rio_dir.specs.Table.{head_of, is_at_cycle, with_head}
use Rattle.rio_chain.specs.{Changes.{with_record}, Placing.{file_end, place_of, record_count, with_segment}, Segments.{IsRecord}, declared.segment.Segment.{Segment}}
use Rattle.rio_machine.specs.{Limits.{head_length}, State.{State, next_cycle}, declared.command.Command.TheVariants.{Put}}
use Rattle.rio_chain.specs.{Record.{new_key, record_bytes}, declared.record.NewRecord.{NewRecord}, declared.key_words.KeyWords.{KeyWords}}
use Rattle.rio_chain.proofs.Records.{key_long}
use Rattle.rio_state.specs.Closing.{end_limit, padded_length}
use Rattle.rio_step.specs.{Costs.{cost_of, put_cost, value_size}, Refusing.{object_class, put_value, refusal_of}, ReplyText.{text_of}, Step.{object_put}}
use Rattle.rio_effect.specs.ObjectRecord.{key_of_put, object_data, object_key, object_record, object_words, record_of_put}
use Rattle.rio_effect.proofs.FileChanges.{put_length}
use Rattle.rio_judge.specs.{Judging.{IsStep}, declared.work.StoredObject.{StoredObject}}
use Rattle.rio_recover.specs.Closable.{is_fit_key, is_sized}
use Rattle.rio_session.proofs.Refused.{cost_accepted}
use Rattle.rio_session.specs.{Due.{need_with}, Kept.{LinksChange, changes_by, kept_by, place_of_put}, Marks.{length_of_put}, Puts.{CanBePut, IsStoredRecord, putting, stored_key, stored_length, stored_record, stored_words}, Session.{SessionState}}

-- ---- the key and the record of an object, for a place

module _ (s : SessionState) (place : ℕ) (o : StoredObject) where
  abbrev words : KeyWords
  words = stored_words place s.datime o

  pub own_sized : is_sized (stored_key s place o) ≡ true
  own_sized = eq-eqb (length (written_key (stored_key s place o))) (head_length o.class o.name) (key_long words (length (object_data s.classes words o.value)))

  pub own_fit : place < 2 ^ 32 → head_length o.class o.name ≤ 229 → is_fit_key (stored_key s place o) ≡ true
  own_fit low short =
      let class : length o.class ≤ 65535 = omega (arith, short, text_within o.class) in
      let named : length o.name ≤ 65535 = omega (arith, short, text_within o.name) in
      and_from _ _ (and_from _ _ (and_from _ _ (and_from _ _ (lt-ltb place (2 ^ 32) low) refl) (le-leb (length o.class) 65535 class)) (le-leb (length o.name) 65535 named)) refl

  -- by the state
  module _ (m : State) (value : Value) (classes : s.classes ≡ m.classes) (step : IsStep m value o) where
    own_is : o.class ≡ unwrap_or (object_class (put_value m value)) []
    own_is = sym (ap (λ (w : Value). unwrap_or (object_class w) []) (sym step.value) ∙ ap (λ (x : Option (List ℕ)). unwrap_or x []) step.class)

    abbrev key_by : ℕ → List ℕ → Value → List ClassDef → KeyHead
    key_by k c w cs = let x = object_words place s.datime o.name k c in new_key x (length (object_data cs x w))

    abbrev bytes_by : ℕ → List ℕ → Value → List ClassDef → List ℕ
    bytes_by k c w cs = let x = object_words place s.datime o.name k c in record_bytes x (object_data cs x w)

    pub own_key_is : stored_key s place o ≡ key_of_put m place s.datime o.name value
    unfolding object_key
    own_key_is = λ i. key_by (step.cycle i) (own_is i) (step.value i) (classes i)

    pub own_record_is : stored_record s place o ≡ record_of_put m place s.datime o.name value
    unfolding object_record
    own_record_is = λ i. bytes_by (step.cycle i) (own_is i) (step.value i) (classes i)

    size_is : o.length ≡ value_size m.classes (put_value m value)
    size_is = step.written ∙ ap (λ (w : Value). value_size m.classes w) step.value

    pub own_length_is : stored_length o ≡ length_of_put m o.name value
    own_length_is = λ i. padded_length (head_length (own_is i) o.name + size_is i)

    pub own_cost_is : 500 + o.length ≡ put_cost m value
    own_cost_is = ap (λ (k : ℕ). 500 + k) size_is

-- ---- a record that was made

module _ (s : SessionState) (place : ℕ) (o : StoredObject) (made : NewRecord) (r : IsStoredRecord s place o made) where
  pub seek_is : made.head.seek ≡ place
  seek_is = ap (λ (h : KeyHead). h.seek) r.head

  pub sized_is : is_sized made.head ≡ true
  sized_is = ap is_sized r.head ∙ own_sized s place o

  pub class_is : made.head.class ≡ o.class
  class_is = ap (λ (h : KeyHead). h.class) r.head

  pub name_is : made.head.name ≡ o.name
  name_is = ap (λ (h : KeyHead). h.name) r.head

  pub can_be_put : (need : ℕ) → place < 2 ^ 32 → head_length o.class o.name ≤ 229 → place ≡ place_of s.segments (padded_length (head_length o.class o.name + o.length)) → head_of o.name (Some o.cycle) s.heads ≡ None
      → need ≡ need_with s.name (with_head made.head s.heads) (record_count s.segments + 1) s.trees
      → file_end (with_segment (place_of s.segments (padded_length (head_length o.class o.name + o.length))) (padded_length (head_length o.class o.name + o.length)) s.segments) + need ≤ end_limit → CanBePut s made
  can_be_put need low short at new is room = record {
    whole = subst (λ (k : ℕ). IsRecord k made.bytes.bytes) (sym seek_is) r.whole;
    place = seek_is ∙ at ∙ ap (place_of s.segments) (sym r.long);
    spare = r.spare;
    new = ap (λ (h : KeyHead). find (is_at_cycle h.name h.cycle) s.heads) r.head ∙ new;
    sized = sized_is;
    fit = ap is_fit_key r.head ∙ own_fit s place o low short;
    room = subst (λ (x : ℕ × (ℕ × ℕ)). file_end (with_segment x.0 x.1.0 s.segments) + x.1.1 ≤ end_limit) (λ i. ((sym at ∙ sym seek_is) i, (sym r.long i, is i))) room;
  }

  -- by the state
  module _ (m : State) (value : Value) (classes : s.classes ≡ m.classes) (free : refusal_of m (Put o.name value) None ≡ None) (step : IsStep m value o) where
    pub key_is : made.head ≡ key_of_put m place s.datime o.name value
    key_is = r.head ∙ own_key_is s place o m value classes step

    bytes_are : made.bytes.bytes ≡ record_of_put m place s.datime o.name value
    bytes_are = r.bytes ∙ own_record_is s place o m value classes step

    -- the reply, and the cost
    pub text_is : (text : List ℕ) → text ≡ text_of (object_put o.name o.cycle) → text ≡ text_of (object_put o.name (next_cycle m o.name))
    text_is text is = is ∙ ap (λ (k : ℕ). text_of (object_put o.name k)) step.cycle

    pub cost_is : (cost : ℕ) → cost ≡ 500 + o.length → cost ≡ cost_of m (Put o.name value)
    cost_is cost is = is ∙ own_cost_is s place o m value classes step ∙ sym (cost_accepted m (Put o.name value) free)

    -- the place is the command's
    pub place_is : place ≡ place_of s.segments (padded_length (head_length o.class o.name + o.length)) → place ≡ place_of_put s m o.name value
    place_is at =
        let long : length (record_of_put m place s.datime o.name value) ≡ length (record_of_put m 0 s.datime o.name value) = sym (put_length m place s.datime o.name value) ∙ put_length m 0 s.datime o.name value in
        at ∙ ap (place_of s.segments) (sym r.long ∙ ap length bytes_are ∙ long)

    -- and so are the changes, and what is kept then
    abbrev changes_at : ℕ → List LinksChange
    changes_at k = with_record k (record_of_put m k s.datime o.name value) ∷ []

    abbrev kept_at : ℕ → SessionState
    kept_at k = record s {
      segments = with_segment k (length (record_of_put m k s.datime o.name value)) s.segments;
      heads = with_head (key_of_put m k s.datime o.name value) s.heads;
    }

    pub changes_are : (text : List ℕ) (cost : ℕ) → place ≡ place_of_put s m o.name value → (putting s made text cost).changes ≡ changes_by s m (Put o.name value)
    changes_are text cost at =
        let one : (putting s made text cost).changes ≡ changes_at place = λ i. with_record (seek_is i) (bytes_are i) ∷ [] in
        one ∙ ap changes_at at

    pub kept_is : (text : List ℕ) (cost : ℕ) → place ≡ place_of_put s m o.name value → (putting s made text cost).kept ≡ kept_by s m (Put o.name value)
    kept_is text cost at =
        let one : (putting s made text cost).kept ≡ kept_at place = λ i. record s { segments = with_segment (seek_is i) (length (bytes_are i)) s.segments; heads = with_head (key_is i) s.heads } in
        one ∙ ap kept_at at

-- what a session keeps with one record more
pub stored_is : (before v : SessionState) (segments : List Segment) (heads : List KeyHead) (place n : ℕ) (h : KeyHead) → v ≡ before → segments ≡ with_segment place n v.segments → heads ≡ with_head h v.heads
    → ◌≡◌ {A = SessionState} (record v { segments = segments; heads = heads }) (record before { segments = with_segment place n before.segments; heads = with_head h before.heads })
stored_is before v segments heads place n h is a b =
    let one : ◌≡◌ {A = SessionState} (record v { segments = segments; heads = heads }) (record v { segments = with_segment place n v.segments; heads = with_head h v.heads }) = λ i. record v { segments = a i; heads = b i } in
    one ∙ ap (λ (s : SessionState). let t : SessionState = record s { segments = with_segment place n s.segments; heads = with_head h s.heads } in t) is
