-- Records that were made for a batch can be put, and are the batch's.
use Rattle.std.proofs.Common.{◌≡◌, ℕ, ◌+◌, ◌^◌, ◌<◌, ◌≤◌, List, [], ◌∷◌, ◌++◌, length, map, take, None, refl, sym, ap, subst, ◌∙◌, arith}
use Rattle.std.proofs.{Math.Seq.{drop-append_seam, take-append_seam}, lemmas.List.{Elements.{All-head, All-tail}, Sums.{sum_by-cons}}}
use Rattle.std.specs.{Prelude.{sum}, List.{All, concat, sum_by}}
use Rattle.rio_key.specs.declared.head.KeyHead.{KeyHead}
use Rattle.rio_dir.specs.Table.{with_head, with_heads}
use Rattle.rio_chain.specs.{Adjoining.{AreSegments}, Batches.{AreLengths, AreRecords, cut_by}, Changes.{with_records}, Placing.{file_end, place_of, record_count, with_segment, with_segments}}
use Rattle.rio_chain.proofs.PutsNoted.{lengths_of, sum_more}
use Rattle.rio_machine.specs.State.{NameAndCycle, State, next_cycle}
use Rattle.rio_machine.specs.declared.command.{Command.TheVariants.{Batch}, PutItem.{PutItem}}
use Rattle.rio_state.specs.Closing.{end_limit}
use Rattle.rio_step.specs.{Costs.{cost_of, put_cost}, Laws.{items_along}, Refusing.{items_put, refusal_of}, ReplyText.{text_of}, Step.{objects_put, with_object}}
use Rattle.rio_step.proofs.BatchLaws.{cycles_count_up}
use Rattle.rio_effect.specs.ObjectRecord.{key_of_put, keys_of_batch, record_of_put, records_of_batch, size_of_batch, size_of_put}
use Rattle.rio_judge.specs.{Judging.{AreSteps, IsStep}, declared.work.StoredObject.{StoredObject}}
use Rattle.rio_session.specs.declared.batch.NewBatch.{NewBatch}
use Rattle.rio_session.specs.{Due.{need_with}, Kept.{LinksChange, changes_by, kept_by, place_of_batch}, Marks.{length_of_put}}
use Rattle.rio_session.specs.Puts.{AreKeysFor, AreNewKeys, AreStored, CanPutAll, IsStored, IsStoredBatch, places_from, putting_all, stored_key, stored_keys, stored_length, stored_record, stored_records}
use Rattle.rio_session.specs.Session.{SessionState}
use Rattle.rio_session.proofs.{BatchCounts.{several_fit}, PutFacts.{own_cost_is, own_fit, own_key_is, own_length_is, own_record_is, own_sized}, Refused.{cost_accepted}, StoredRecords.{record_long}}

-- ---- records one after the other

-- they are cut out of their bytes by their lengths
pub cut_apart : (records : List (List ℕ)) → cut_by (map length records) (concat records) ≡ records
cut_apart [] = refl
cut_apart (bytes ∷ records) =
    let first : take (length bytes) (bytes ++ concat records) ≡ bytes = take-append_seam bytes (concat records) in
    let rest = ap (cut_by (map length records)) (drop-append_seam bytes (concat records)) ∙ cut_apart records in
    λ i. first i ∷ rest i

-- ---- objects that are stored

module _ (s : SessionState) where
  -- how long their records are
  pub sizes_stored : (os : List StoredObject) (place : ℕ) → All (IsStored s.classes) os → map length (stored_records s place os) ≡ map stored_length os
  sizes_stored [] place all = refl
  sizes_stored (o ∷ os) place all =
      let first : length (stored_record s place o) ≡ stored_length o = record_long s.classes place s.datime o (All-head (IsStored s.classes) o os all) in
      let rest = sizes_stored os (place + stored_length o) (All-tail (IsStored s.classes) o os all) in
      λ i. first i ∷ rest i

  pub cut_stored : (os : List StoredObject) (place : ℕ) → All (IsStored s.classes) os → cut_by (map stored_length os) (concat (stored_records s place os)) ≡ stored_records s place os
  cut_stored os place all =
      let records = stored_records s place os in
      ap (λ (lengths : List ℕ). cut_by lengths (concat records)) (sym (sizes_stored os place all)) ∙ cut_apart records

  -- their keys
  pub seeks_stored : (os : List StoredObject) (place : ℕ) → map (λ (h : KeyHead). h.seek) (stored_keys s place os) ≡ places_from place (map stored_length os)
  seeks_stored [] place = refl
  seeks_stored (o ∷ os) place = ap (λ (places : List ℕ). place ∷ places) (seeks_stored os (place + stored_length o))

  pub keys_for : (os : List StoredObject) (place : ℕ) → AreKeysFor os (stored_keys s place os)
  keys_for [] place = tt
  keys_for (o ∷ os) place = (own_sized s place o, refl, refl, keys_for os (place + stored_length o))

  pub new_keys : (os : List StoredObject) (heads : List KeyHead) (place : ℕ) → AreStored s.classes heads os → place + sum (map stored_length os) < 2 ^ 32 → AreNewKeys heads (stored_keys s place os)
  new_keys [] heads place are low = tt
  new_keys (o ∷ os) heads place are low =
      let key = stored_key s place o in
      let more : sum (map stored_length (o ∷ os)) ≡ stored_length o + sum (map stored_length os) = sum_more (stored_length o) (map stored_length os) in
      (are.1, own_sized s place o, own_fit s place o (omega (arith, low)) are.0.key_short, new_keys os (with_head key heads) (place + stored_length o) (are.2 key refl refl) (omega (arith, low, more)))

-- ---- a batch that was made

module _ (s : SessionState) (place : ℕ) (os : List StoredObject) (made : NewBatch) (r : IsStoredBatch s place os made) where
  long_is : length made.records.bytes ≡ sum (map stored_length os)
  long_is = ap length r.bytes ∙ r.whole.long

  pub can_put_all : (n need : ℕ) → n ≡ sum (map stored_length os) → AreStored s.classes s.heads os → AreSegments s.segments → place + n < 2 ^ 32 → place ≡ place_of s.segments n
      → need ≡ need_with s.name (with_heads made.heads.items s.heads) (record_count s.segments + length made.lengths) s.trees
      → file_end (with_segment (place_of s.segments n) n s.segments) + need ≤ end_limit → CanPutAll s made
  can_put_all n need n_is are shape low at is room =
      let lengths : List ℕ = map stored_length os in
      let each : AreLengths lengths = lengths_of place lengths (concat (stored_records s place os)) r.whole in
      let fits : file_end (with_segments place lengths s.segments) + need ≤ end_limit = several_fit s.segments place n need lengths shape each r.whole.some n_is at room in
      record {
        whole = subst (λ (x : ℕ × (List ℕ × List ℕ)). AreRecords x.0 x.1.0 x.1.1) (λ i. (sym r.place_is i, (sym r.lengths i, sym r.bytes i))) r.whole;
        place = r.place_is ∙ at ∙ ap (place_of s.segments) (n_is ∙ sym long_is);
        spare = r.spare;
        places = ap (map (λ (h : KeyHead). h.seek)) r.heads ∙ seeks_stored s os place ∙ (λ i. places_from (sym r.place_is i) (sym r.lengths i));
        new = subst (AreNewKeys s.heads) (sym r.heads) (new_keys s os s.heads place are (omega (arith, low, n_is)));
        room = subst (λ (x : ℕ × (List ℕ × ℕ)). file_end (with_segments x.0 x.1.0 s.segments) + x.1.1 ≤ end_limit) (λ i. (sym r.place_is i, (sym r.lengths i, is i))) fits;
      }

-- ---- by the state

-- one object, under the name of its put
module _ (s : SessionState) (m : State) (place : ℕ) (p : PutItem) (o : StoredObject) (classes : s.classes ≡ m.classes) (named : o.name ≡ p.name) (step : IsStep m p.value o) where
  put_key_is : stored_key s place o ≡ key_of_put m place s.datime p.name p.value
  put_key_is = own_key_is s place o m p.value classes step ∙ ap (λ (name : List ℕ). key_of_put m place s.datime name p.value) named

  put_record_is : stored_record s place o ≡ record_of_put m place s.datime p.name p.value
  put_record_is = own_record_is s place o m p.value classes step ∙ ap (λ (name : List ℕ). record_of_put m place s.datime name p.value) named

  put_length_is : stored_length o ≡ length_of_put m p.name p.value
  put_length_is = own_length_is s place o m p.value classes step ∙ ap (λ (name : List ℕ). length_of_put m name p.value) named

  put_size_is : IsStored s.classes o → stored_length o ≡ size_of_put m place s.datime p
  put_size_is stored = sym (record_long s.classes place s.datime o stored) ∙ ap length put_record_is

  put_item_is : ◌≡◌ {A = NameAndCycle} (o.name, o.cycle) (p.name, next_cycle m p.name)
  put_item_is = λ i. (named i, (step.cycle ∙ ap (next_cycle m) named) i)

-- all of them, one after the other
module _ (s : SessionState) where
  keys_alike : (puts : List PutItem) (os : List StoredObject) (m : State) (place : ℕ) → s.classes ≡ m.classes → All (IsStored s.classes) os → AreSteps m puts os → stored_keys s place os ≡ keys_of_batch m place s.datime puts
  keys_alike [] [] m place classes all steps = refl
  keys_alike [] (o ∷ os) m place classes all steps = absurd steps
  keys_alike (p ∷ ps) [] m place classes all steps = absurd steps
  keys_alike (p ∷ ps) (o ∷ os) m place classes all steps =
      let next = with_object m p.name p.value in
      let first = put_key_is s m place p o classes steps.0 steps.1 in
      let size = put_size_is s m place p o classes steps.0 steps.1 (All-head (IsStored s.classes) o os all) in
      let rest = keys_alike ps os next (place + stored_length o) classes (All-tail (IsStored s.classes) o os all) steps.2 ∙ ap (λ (n : ℕ). keys_of_batch next (place + n) s.datime ps) size in
      λ i. first i ∷ rest i

  records_alike : (puts : List PutItem) (os : List StoredObject) (m : State) (place : ℕ) → s.classes ≡ m.classes → All (IsStored s.classes) os → AreSteps m puts os → stored_records s place os ≡ records_of_batch m place s.datime puts
  records_alike [] [] m place classes all steps = refl
  records_alike [] (o ∷ os) m place classes all steps = absurd steps
  records_alike (p ∷ ps) [] m place classes all steps = absurd steps
  records_alike (p ∷ ps) (o ∷ os) m place classes all steps =
      let next = with_object m p.name p.value in
      let first = put_record_is s m place p o classes steps.0 steps.1 in
      let size = put_size_is s m place p o classes steps.0 steps.1 (All-head (IsStored s.classes) o os all) in
      let rest = records_alike ps os next (place + stored_length o) classes (All-tail (IsStored s.classes) o os all) steps.2 ∙ ap (λ (n : ℕ). records_of_batch next (place + n) s.datime ps) size in
      λ i. first i ∷ rest i

  pub lengths_alike : (puts : List PutItem) (os : List StoredObject) (m : State) → s.classes ≡ m.classes → AreSteps m puts os → sum (map stored_length os) ≡ sum_by (λ p. length_of_put m p.name p.value) puts
  lengths_alike [] [] m classes steps = refl
  lengths_alike [] (o ∷ os) m classes steps = absurd steps
  lengths_alike (p ∷ ps) [] m classes steps = absurd steps
  lengths_alike (p ∷ ps) (o ∷ os) m classes steps =
      let first = put_length_is s m 0 p o classes steps.0 steps.1 in
      let rest : sum (map stored_length os) ≡ sum_by (λ (q : PutItem). length_of_put m q.name q.value) ps = lengths_alike ps os (with_object m p.name p.value) classes steps.2 in
      let more : sum (map stored_length (o ∷ os)) ≡ stored_length o + sum (map stored_length os) = sum_more (stored_length o) (map stored_length os) in
      omega (arith, first, rest, more, sum_by-cons (λ (q : PutItem). length_of_put m q.name q.value) p ps)

  costs_alike : (puts : List PutItem) (os : List StoredObject) (m : State) → s.classes ≡ m.classes → AreSteps m puts os → sum (map (λ o. 500 + o.length) os) ≡ sum_by (λ p. put_cost m p.value) puts
  costs_alike [] [] m classes steps = refl
  costs_alike [] (o ∷ os) m classes steps = absurd steps
  costs_alike (p ∷ ps) [] m classes steps = absurd steps
  costs_alike (p ∷ ps) (o ∷ os) m classes steps =
      let first = own_cost_is s 0 o m p.value classes steps.1 in
      let rest : sum (map (λ (x : StoredObject). 500 + x.length) os) ≡ sum_by (λ (q : PutItem). put_cost m q.value) ps = costs_alike ps os (with_object m p.name p.value) classes steps.2 in
      let more : sum (map (λ (x : StoredObject). 500 + x.length) (o ∷ os)) ≡ 500 + o.length + sum (map (λ (x : StoredObject). 500 + x.length) os) =
      sum_more (500 + o.length) (map (λ (x : StoredObject). 500 + x.length) os) in
      omega (arith, first, rest, more, sum_by-cons (λ (q : PutItem). put_cost m q.value) p ps)

  items_alike : (puts : List PutItem) (os : List StoredObject) (m : State) → s.classes ≡ m.classes → AreSteps m puts os → map (λ o. (o.name, o.cycle)) os ≡ items_along m puts
  items_alike [] [] m classes steps = refl
  items_alike [] (o ∷ os) m classes steps = absurd steps
  items_alike (p ∷ ps) [] m classes steps = absurd steps
  items_alike (p ∷ ps) (o ∷ os) m classes steps =
      let first = put_item_is s m 0 p o classes steps.0 steps.1 in
      let rest = items_alike ps os (with_object m p.name p.value) classes steps.2 in
      λ i. first i ∷ rest i

module _ (s : SessionState) (m : State) (puts : List PutItem) (os : List StoredObject) (classes : s.classes ≡ m.classes) (all : All (IsStored s.classes) os) (free : refusal_of m (Batch puts) None ≡ None) (steps : AreSteps m puts os) where
  -- the keys of the command, the reply, and the cost
  pub command_keys : (place : ℕ) → AreKeysFor os (keys_of_batch m place s.datime puts)
  command_keys place = subst (AreKeysFor os) (keys_alike s puts os m place classes all steps) (keys_for s os place)

  pub text_is : (text : List ℕ) → text ≡ text_of (objects_put (map (λ o. (o.name, o.cycle)) os)) → text ≡ text_of (objects_put (items_put m [] puts))
  text_is text is = is ∙ ap (λ (items : List NameAndCycle). text_of (objects_put items)) (items_alike s puts os m classes steps ∙ sym (cycles_count_up m puts))

  pub cost_is : (cost : ℕ) → cost ≡ sum (map (λ o. 500 + o.length) os) → cost ≡ cost_of m (Batch puts)
  cost_is cost is = is ∙ costs_alike s puts os m classes steps ∙ sym (cost_accepted m (Batch puts) free)

  -- the place is the command's
  pub place_is : (place n : ℕ) → n ≡ sum (map stored_length os) → place ≡ place_of s.segments n → place ≡ place_of_batch s m puts
  place_is place n n_is at =
      let long : map stored_length os ≡ map length (records_of_batch m 0 s.datime puts) = sym (sizes_stored s os 0 all) ∙ ap (map length) (records_alike s puts os m 0 classes all steps) in
      let size : n ≡ size_of_batch m 0 s.datime puts = n_is ∙ ap (λ (lengths : List ℕ). sum lengths) long in
      at ∙ ap (place_of s.segments) size

  -- and so are the changes, and what is kept then
  abbrev changes_at : ℕ → List LinksChange
  changes_at k = with_records k (records_of_batch m k s.datime puts) ∷ []

  abbrev kept_at : ℕ → SessionState
  kept_at k = record s {
    segments = with_segments k (map length (records_of_batch m k s.datime puts)) s.segments;
    heads = with_heads (keys_of_batch m k s.datime puts) s.heads;
  }

  module _ (place : ℕ) (made : NewBatch) (r : IsStoredBatch s place os made) (own : place ≡ place_of_batch s m puts) where
    cut_is : cut_by made.lengths made.records.bytes ≡ records_of_batch m place s.datime puts
    cut_is = (λ i. cut_by (r.lengths i) (r.bytes i)) ∙ cut_stored s os place all ∙ records_alike s puts os m place classes all steps

    lengths_are : made.lengths ≡ map length (records_of_batch m place s.datime puts)
    lengths_are = r.lengths ∙ sym (sizes_stored s os place all) ∙ ap (map length) (records_alike s puts os m place classes all steps)

    heads_are : made.heads.items ≡ keys_of_batch m place s.datime puts
    heads_are = r.heads ∙ keys_alike s puts os m place classes all steps

    pub changes_are : (text : List ℕ) (cost : ℕ) → (putting_all s made text cost).changes ≡ changes_by s m (Batch puts)
    changes_are text cost =
        let one : (putting_all s made text cost).changes ≡ changes_at place = λ i. with_records (r.place_is i) (cut_is i) ∷ [] in
        one ∙ ap changes_at own

    pub kept_is : (text : List ℕ) (cost : ℕ) → (putting_all s made text cost).kept ≡ kept_by s m (Batch puts)
    kept_is text cost =
        let one : (putting_all s made text cost).kept ≡ kept_at place = λ i. record s { segments = with_segments (r.place_is i) (lengths_are i) s.segments; heads = with_heads (heads_are i) s.heads } in
        one ∙ ap kept_at own
