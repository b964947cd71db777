-- The records of a batch, made one after the other.
use Rattle.std.proofs.Common.{◌≡◌, ◌∙◌, ℕ, ◌+◌, ◌%◌, ◌*◌, ◌^◌, ◌<◌, ◌≤◌, List, [], ◌∷◌, ◌++◌, append_assoc, drop, get_or, length, length-append, map, refl, sym, ap, subst, arith}
use Rattle.std.proofs.lemmas.List.{append-nil, drop_all, drop_more, length-map}
use Rattle.std.proofs.lemmas.{List.Elements.{All-cons, All-head, All-nil, All-tail, All-weaker}, List.Sums.{sum-map, sum_by-cons, sum_by-le}}
use Rattle.std.specs.{Prelude.{sum}, List.{All, concat, sum_by}}
use Rattle.rio_num.specs.Room.{Room}
use Rattle.rio_key.specs.declared.head.KeyHead.{KeyHead}
use Rattle.rio_format.specs.declared.class.ClassDef.{ClassDef}
use Rattle.rio_dir.specs.Table.{with_head}
use Rattle.rio_chain.specs.{Batches.{AreRecords, AreRecordsFrom}, NewRecords.{IsNewRecord}, Record.{new_key}}
use Rattle.rio_chain.specs.{declared.key_words.KeyWords.{KeyWords}, declared.record.NewRecord.{NewRecord}}
use Rattle.rio_chain.proofs.Records.{are_new_records}
use Rattle.rio_machine.specs.{Limits.{head_length}, State.{NameAndCycle}}
use Rattle.rio_step.specs.KeptItems.{item_of_key}
use Rattle.rio_judge.specs.declared.work.StoredObject.{StoredObject}
use Rattle.rio_session.specs.declared.batch.NewBatch.{NewBatch}
use Rattle.rio_session.specs.MadeBatches.{HasOneMore, HasShortWords, IsBegun}
use Rattle.rio_session.specs.Puts.{AreStored, IsStored, IsStoredBatch, IsStoredRecord, stored_data, stored_key, stored_keys, stored_length, stored_record, stored_records, stored_words}
use Rattle.rio_session.specs.Session.{SessionState}
use Rattle.rio_session.proofs.{BatchFacts.{cut_stored}, StoredRecords.{record_long, words_fit}}

-- ---- objects that pass the limits

-- some key of an object
abbrev some_key : StoredObject → KeyHead
some_key o = new_key (stored_words 0 0 o) 0

pub each_stored : (classes : List ClassDef) (heads : List KeyHead) (os : List StoredObject) → AreStored classes heads os → All (IsStored classes) os
each_stored classes heads [] are = All-nil (IsStored classes)
each_stored classes heads (o ∷ os) are =
    All-cons (IsStored classes) o os are.0 (each_stored classes (with_head (some_key o) heads) os (are.2 (some_key o) refl refl))

-- a record has a key, and so no fewer bytes than one
long_enough : (o : StoredObject) → 4 ≤ stored_length o
long_enough o = omega arith

aligned_one : (o : StoredObject) → stored_length o % 4 ≡ 0
aligned_one o = omega arith

pub records_some : (os : List StoredObject) → 0 < length os → 4 ≤ sum_by stored_length os
records_some [] some = absurd (omega (arith, some))
records_some (o ∷ os) some = omega (arith, sum_by-cons stored_length o os, long_enough o)

pub records_aligned : (os : List StoredObject) → sum_by stored_length os % 4 ≡ 0
records_aligned [] = refl
records_aligned (o ∷ os) = omega (arith, sum_by-cons stored_length o os, aligned_one o, records_aligned os)

module _ (classes : List ClassDef) (os : List StoredObject) (all : All (IsStored classes) os) where
  pub short_words : All HasShortWords os
  short_words = All-weaker (IsStored classes) HasShortWords (λ o is. (is.class_short, is.name_short)) os all

  pub records_low : sum_by stored_length os ≤ length os * 16777448
  records_low = sum_by-le stored_length 16777448 os (All-weaker (IsStored classes) (λ o. stored_length o ≤ 16777448) (λ o is. omega (arith, is.key_short, is.size_short)) os all)

  pub keys_low : sum_by (λ (o : StoredObject). head_length o.class o.name) os ≤ length os * 229
  keys_low = sum_by-le (λ (o : StoredObject). head_length o.class o.name) 229 os (All-weaker (IsStored classes) (λ o. head_length o.class o.name ≤ 229) (λ o is. is.key_short) os all)

  pub cost_low : sum_by (λ (o : StoredObject). 500 + o.length) os ≤ length os * 16777716
  cost_low = sum_by-le (λ (o : StoredObject). 500 + o.length) 16777716 os (All-weaker (IsStored classes) (λ o. 500 + o.length ≤ 16777716) (λ o is. omega (arith, is.size_short)) os all)

-- ---- what is printed of them

pub items_stored : (s : SessionState) (place : ℕ) (os : List StoredObject) → map item_of_key (stored_keys s place os) ≡ map (λ o. (o.name, o.cycle)) os
items_stored s place [] = refl
items_stored s place (o ∷ os) = ap (λ (l : List NameAndCycle). (o.name, o.cycle) ∷ l) (items_stored s (place + stored_length o) os)

-- ---- their records

-- how long they are together
pub all_long : (s : SessionState) (place : ℕ) (os : List StoredObject) → All (IsStored s.classes) os → length (concat (stored_records s place os)) ≡ sum_by stored_length os
all_long s place [] all = refl
all_long s place (o ∷ os) all =
    let one : length (stored_record s place o) ≡ stored_length o = record_long s.classes place s.datime o (All-head (IsStored s.classes) o os all) in
    let rest = all_long s (place + stored_length o) os (All-tail (IsStored s.classes) o os all) in
    omega (arith, one, rest, length-append (stored_record s place o) (concat (stored_records s (place + stored_length o) os)), sum_by-cons stored_length o os)

module _ (s : SessionState) (soon : s.datime < 2 ^ 32) where
  here_low : (place : ℕ) (o : StoredObject) (os : List StoredObject) → place + sum_by stored_length (o ∷ os) < 2 ^ 32 → place < 2 ^ 32
  here_low place o os low = omega (arith, low)

  later_low : (place : ℕ) (o : StoredObject) (os : List StoredObject) → place + sum_by stored_length (o ∷ os) < 2 ^ 32 → place + stored_length o + sum_by stored_length os < 2 ^ 32
  later_low place o os low = omega (arith, low, sum_by-cons stored_length o os)

  each_whole : (place : ℕ) (os : List StoredObject) → All (IsStored s.classes) os → place + sum_by stored_length os < 2 ^ 32 → AreRecordsFrom place (stored_records s place os)
  each_whole place [] all low = tt
  each_whole place (o ∷ os) all low =
      let words : KeyWords = stored_words place s.datime o in
      let fit = words_fit s.classes place s.datime o (All-head (IsStored s.classes) o os all) (here_low place o os low) soon in
      let new : IsNewRecord words (stored_data s.classes place s.datime o) = are_new_records words (stored_data s.classes place s.datime o) fit in
      let one : length (stored_record s place o) ≡ stored_length o = record_long s.classes place s.datime o (All-head (IsStored s.classes) o os all) in
      let rest = each_whole (place + stored_length o) os (All-tail (IsStored s.classes) o os all) (later_low place o os low) in
      (new.whole, subst (λ (n : ℕ). AreRecordsFrom (place + n) (stored_records s (place + stored_length o) os)) (sym one) rest)

  pub records_whole : (place : ℕ) (os : List StoredObject) → 0 < length os → All (IsStored s.classes) os → place + sum_by stored_length os < 2 ^ 32 → AreRecords place (map stored_length os) (concat (stored_records s place os))
  records_whole place os some all low = record {
    some = omega (arith, some, length-map os stored_length);
    long = all_long s place os all ∙ sym (sum-map stored_length os);
    whole = subst (λ (rs : List (List ℕ)). AreRecordsFrom place rs) (sym (cut_stored s os place all)) (each_whole place os all low);
  }

-- ---- a batch that is made

-- The first k objects are in the batch, and for the others there is memory.
pub record IsMadeTo (s : SessionState) (place : ℕ) (os : List StoredObject) (k at : ℕ) (batch : NewBatch) : Type 0 where
  pub place_is : batch.place ≡ place
  pub lengths : batch.lengths ++ map stored_length (drop k os) ≡ map stored_length os
  pub heads : batch.heads.items ++ stored_keys s at (drop k os) ≡ stored_keys s place os
  pub bytes : batch.records.bytes ++ concat (stored_records s at (drop k os)) ≡ concat (stored_records s place os)
  pub ends : at + sum_by stored_length (drop k os) ≡ place + sum_by stored_length os
  pub spare : sum_by stored_length (drop k os) + 4 ≤ batch.records.spare

-- one more in front of those that are left
one_left : {X : Type 0} (old new : List X) (x y : X) (left rest all : List X) → new ≡ old ++ x ∷ [] → x ≡ y → rest ≡ y ∷ left → old ++ rest ≡ all → new ++ left ≡ all
one_left {X} old new x y left rest all is same cons was =
    ap (λ (l : List X). l ++ left) is
    ∙ append_assoc old (x ∷ []) left
    ∙ ap (λ (z : X). old ++ z ∷ left) same
    ∙ ap (λ (l : List X). old ++ l) (sym cons)
    ∙ was

bytes_left : (old new x y left rest all : List ℕ) → new ≡ old ++ x → x ≡ y → rest ≡ y ++ left → old ++ rest ≡ all → new ++ left ≡ all
bytes_left old new x y left rest all is same cons was =
    ap (λ (l : List ℕ). l ++ left) is
    ∙ append_assoc old x left
    ∙ ap (λ (z : List ℕ). old ++ (z ++ left)) same
    ∙ ap (λ (l : List ℕ). old ++ l) (sym cons)
    ∙ was

module _ (s : SessionState) (place : ℕ) (os : List StoredObject) where
  pub made_begins : (room : ℕ) (batch : NewBatch) → room ≡ sum_by stored_length os + 4 → IsBegun place room batch → IsMadeTo s place os 0 place batch
  made_begins room batch is b = record {
    place_is = b.place_is;
    lengths = ap (λ (l : List ℕ). l ++ map stored_length os) b.lengths;
    heads = ap (λ (l : List KeyHead). l ++ stored_keys s place os) b.heads;
    bytes = ap (λ (l : List ℕ). l ++ concat (stored_records s place os)) b.bytes;
    ends = refl;
    spare = omega (arith, is, b.spare);
  }

  next_one : (k : ℕ) (o : StoredObject) → k < length os → o ≡ get_or os k o → drop k os ≡ o ∷ drop (k + 1) os
  next_one k o lt is = drop_more os k o lt ∙ ap (λ (x : StoredObject). x ∷ drop (k + 1) os) (sym is)

  -- what the rest takes
  pub rest_long : (k : ℕ) (o : StoredObject) → k < length os → o ≡ get_or os k o → sum_by stored_length (drop k os) ≡ stored_length o + sum_by stored_length (drop (k + 1) os)
  rest_long k o lt is = ap (sum_by stored_length) (next_one k o lt is) ∙ sum_by-cons stored_length o (drop (k + 1) os)

  pub made_more : (k at at' : ℕ) (o : StoredObject) (batch batch' : NewBatch) (made : NewRecord) → k < length os → o ≡ get_or os k o → IsMadeTo s place os k at batch → IsStoredRecord s at o made → HasOneMore batch batch' made
      → at' ≡ at + length made.bytes.bytes → IsMadeTo s place os (k + 1) at' batch'
  made_more k at at' o batch batch' made lt is was r more next =
      let others = drop (k + 1) os in
      let rest = next_one k o lt is in
      let here : at + stored_length o ≡ at' = omega (arith, next, r.long) in
      let sum = rest_long k o lt is in
      record {
        place_is = more.place ∙ was.place_is;
        lengths = one_left batch.lengths batch'.lengths (length made.bytes.bytes) (stored_length o) (map stored_length others) (map stored_length (drop k os)) (map stored_length os) more.lengths r.long (ap (map stored_length) rest) was.lengths;
        heads = one_left batch.heads.items batch'.heads.items made.head (stored_key s at o) (stored_keys s at' others) (stored_keys s at (drop k os)) (stored_keys s place os) more.heads r.head
            (ap (stored_keys s at) rest ∙ ap (λ (n : ℕ). stored_key s at o ∷ stored_keys s n others) here) was.heads;
        bytes = bytes_left batch.records.bytes batch'.records.bytes made.bytes.bytes (stored_record s at o) (concat (stored_records s at' others)) (concat (stored_records s at (drop k os))) (concat (stored_records s place os))
            (ap (λ (x : Room). x.bytes) more.records) r.bytes
            (ap (λ (l : List StoredObject). concat (stored_records s at l)) rest ∙ ap (λ (n : ℕ). stored_record s at o ++ concat (stored_records s n others)) here) was.bytes;
        ends = omega (arith, here, sum, was.ends);
        spare = omega (arith, ap (λ (x : Room). x.spare) more.records, r.long, sum, was.spare);
      }

  pub made_ends : (k at : ℕ) (batch : NewBatch) → length os ≤ k → s.datime < 2 ^ 32 → 0 < length os → All (IsStored s.classes) os → place + sum_by stored_length os < 2 ^ 32 → IsMadeTo s place os k at batch → IsStoredBatch s place os batch
  made_ends k at batch all_done soon some all low was =
      let none = drop_all k os all_done in
      record {
        place_is = was.place_is;
        lengths = sym (append-nil batch.lengths) ∙ ap (λ (l : List StoredObject). batch.lengths ++ map stored_length l) (sym none) ∙ was.lengths;
        heads = sym (append-nil batch.heads.items) ∙ ap (λ (l : List StoredObject). batch.heads.items ++ stored_keys s at l) (sym none) ∙ was.heads;
        bytes = sym (append-nil batch.records.bytes) ∙ ap (λ (l : List StoredObject). batch.records.bytes ++ concat (stored_records s at l)) (sym none) ∙ was.bytes;
        spare = omega (arith, was.spare);
        whole = records_whole s soon place os some all low;
      }
