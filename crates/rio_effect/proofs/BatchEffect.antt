-- With the records of a batch the records stand for the state behind the batch: one put after the other.
use Rattle.std.proofs.Common.{◌≡◌, ◌≤◌, ◌<◌, ◌∙◌, ℕ, ◌+◌, ◌^◌, List, [], ◌∷◌, ◌++◌, length, map, true, false, ◌==◌, ◌||◌, Option, None, refl, ap, subst, arith}
use Rattle.std.proofs.lemmas.{Bool.{and_parts, ne_eqb}, List.Sums.{sum_by-cons}}
use Rattle.std.specs.{Prelude.{sum}, List.{list_all, list_any}}
use Rattle.rio_num.specs.Word.{is_item_text}
use Rattle.rio_key.specs.declared.head.KeyHead.{KeyHead}
use Rattle.rio_dir.specs.Table.{with_head, with_heads}
use Rattle.rio_chain.specs.{Batches.{AreRecordsFrom}, Changes.{with_record, with_records}, Segments.{Link}}
use Rattle.rio_chain.proofs.Words.{whole_long}
use Rattle.rio_machine.specs.{State.{NameAndCycle, State, names_tree}, declared.command.Command.TheVariants.{Batch}, declared.command.PutItem.{PutItem}}
use Rattle.rio_model.specs.StateClasses.{StateClasses}
use Rattle.rio_state.specs.{DirectoryKeys.{AreKeysOf}, KeyedRecords.{KeyedRecord, begins_at, keyed_records}, Reads.{AreRecordsOf}}
use Rattle.rio_state.proofs.Insertion.{any_more}
use Rattle.rio_step.proofs.BatchTaken.{batch_taken}
use Rattle.rio_step.specs.{Laws.{AreTaken}, Refusing.{FullMark, item_put, items_put, refusal_of}, Runs.{saved_of}, Step.{with_object, with_objects}}
use Rattle.rio_effect.specs.Batches.{AreNamed, ArePutRecords, BatchKeysFollow, BatchTakesEffect, BatchesHaveRecords, BatchesIgnorePending, IsBatch, IsFreeFrom, SavedBatchKeysFollow, SavedBatchTakesEffect}
use Rattle.rio_effect.specs.ObjectRecord.{key_of_put, keys_of_batch, record_of_put, records_of_batch, size_of_batch, size_of_put}
use Rattle.rio_effect.proofs.{PutEffect.{classes_of_records, put_more, put_takes_effect, puts_have_records}, PutKeys.{put_key_follows}, PutObject.{accepted, put_record}}
use Rattle.rio_effect.proofs.SavedPuts.{as_many, trees_named}

-- ---- sizes

size_more : (m : State) (place datime : ℕ) (p : PutItem) (ps : List PutItem)
    → size_of_batch m place datime (p ∷ ps) ≡ size_of_put m place datime p + size_of_batch (with_object m p.name p.value) (place + size_of_put m place datime p) datime ps
size_more m place datime p ps =
    sum_by-cons (λ (n : ℕ). n) (size_of_put m place datime p) (map length (records_of_batch (with_object m p.name p.value) (place + size_of_put m place datime p) datime ps))

-- ---- puts that aren't refused, one after the other

-- what a batch that isn't refused has, as its puts have it in turn
pub record CanPutAll (m : State) (place datime : ℕ) (puts : List PutItem) : Type 0 where
  pub low : place + size_of_batch m place datime puts < 2 ^ 32
  pub soon : datime < 2 ^ 32
  pub named : AreNamed puts
  pub taken : AreTaken m puts

pub can_put_all : (m : State) (place datime : ℕ) (puts : List PutItem) (mark : Option FullMark) → IsBatch m place datime puts mark → CanPutAll m place datime puts
can_put_all m place datime puts mark b = record { low = b.low; soon = b.soon; named = b.named; taken = batch_taken m puts mark b.taken }

module _ (m : State) (place datime : ℕ) (p : PutItem) (ps : List PutItem) (c : CanPutAll m place datime (p ∷ ps)) where
  abbrev pub next : State
  next = with_object m p.name p.value

  abbrev pub later : ℕ
  later = place + size_of_put m place datime p

  pub here_low : place < 2 ^ 32
  here_low = let low = c.low in omega (arith, low)

  pub here_named : is_item_text p.name ≡ true
  here_named = (and_parts (is_item_text p.name) (list_all (λ q. is_item_text q.name) ps) c.named).0

  pub later_ends : later + size_of_batch next later datime ps ≡ place + size_of_batch m place datime (p ∷ ps)
  later_ends = omega (arith, size_more m place datime p ps)

  pub others_can : CanPutAll next later datime ps
  others_can = record {
    low = (let low = c.low in omega (arith, low, later_ends));
    soon = c.soon;
    named = (and_parts (is_item_text p.name) (list_all (λ q. is_item_text q.name) ps) c.named).1;
    taken = c.taken.1;
  }

  pub here_long : StateClasses m.classes → 4 ≤ size_of_put m place datime p
  here_long are = whole_long place (record_of_put m place datime p.name p.value) (puts_have_records m place datime p.name p.value None here_low c.soon are here_named c.taken.0).whole

  module _ (links : List Link) (is : AreRecordsOf (keyed_records links) m) (free : IsFreeFrom (keyed_records links) place (size_of_batch m place datime (p ∷ ps))) where
    abbrev pub links_then : List Link
    links_then = with_record place (record_of_put m place datime p.name p.value) links

    here_free : begins_at (keyed_records links) place ≡ false
    here_free = free place (omega arith) (let long = here_long (classes_of_records (keyed_records links) m is) in omega (arith, long, size_more m place datime p ps))

    pub stands_then : AreRecordsOf (keyed_records links_then) next
    stands_then = put_takes_effect links m place datime p.name p.value None here_low c.soon here_free is here_named c.taken.0

    -- no record begins behind the one that was put, but what began there before
    pub free_then : IsFreeFrom (keyed_records links_then) later (size_of_batch next later datime ps)
    free_then q from to =
        let ok = accepted m p.name p.value None c.taken.0 in
        let are = classes_of_records (keyed_records links) m is in
        let r = put_record m place datime p.name p.value ok are here_named here_low c.soon in
        let more = put_more links m place datime p.name p.value here_low c.soon is here_named ok in
        let long = here_long are in
        let other = ne_eqb place q (omega (arith, from, long)) in
        any_more (λ s. s.head.seek == q) r (keyed_records links) (keyed_records links_then) more other
        ∙ free q (omega (arith, from)) (omega (arith, to, later_ends))

    pub keys_then : (heads : List KeyHead) → AreKeysOf (keyed_records links) heads → AreKeysOf (keyed_records links_then) (with_head (key_of_put m place datime p.name p.value) heads)
    keys_then heads are = put_key_follows links m heads place datime p.name p.value None here_low c.soon is here_named c.taken.0 are

-- ---- the records of a batch

each_stands : (puts : List PutItem) (links : List Link) (m : State) (place datime : ℕ) → CanPutAll m place datime puts → IsFreeFrom (keyed_records links) place (size_of_batch m place datime puts)
    → AreRecordsOf (keyed_records links) m → AreRecordsOf (keyed_records (with_records place (records_of_batch m place datime puts) links)) (with_objects m puts)
each_stands [] links m place datime c free is = is
each_stands (p ∷ ps) links m place datime c free is =
    each_stands ps (links_then m place datime p ps c links is free) (next m place datime p ps c) (later m place datime p ps c) datime (others_can m place datime p ps c)
    (free_then m place datime p ps c links is free) (stands_then m place datime p ps c links is free)

each_key : (puts : List PutItem) (links : List Link) (m : State) (heads : List KeyHead) (place datime : ℕ) → CanPutAll m place datime puts → IsFreeFrom (keyed_records links) place (size_of_batch m place datime puts)
    → AreRecordsOf (keyed_records links) m → AreKeysOf (keyed_records links) heads
    → AreKeysOf (keyed_records (with_records place (records_of_batch m place datime puts) links)) (with_heads (keys_of_batch m place datime puts) heads)
each_key [] links m heads place datime c free is are = are
each_key (p ∷ ps) links m heads place datime c free is are =
    each_key ps (links_then m place datime p ps c links is free) (next m place datime p ps c) (with_head (key_of_put m place datime p.name p.value) heads) (later m place datime p ps c) datime (others_can m place datime p ps c)
    (free_then m place datime p ps c links is free) (stands_then m place datime p ps c links is free) (keys_then m place datime p ps c links is free heads are)

pub each_record : (puts : List PutItem) (m : State) (place datime : ℕ) → StateClasses m.classes → CanPutAll m place datime puts → ArePutRecords m place datime puts
each_record [] m place datime are c = tt
each_record (p ∷ ps) m place datime are c =
    let first = puts_have_records m place datime p.name p.value None (here_low m place datime p ps c) c.soon are (here_named m place datime p ps c) c.taken.0 in
    (first, each_record ps (with_object m p.name p.value) (place + size_of_put m place datime p) datime are (others_can m place datime p ps c))

pub all_whole : (puts : List PutItem) (m : State) (place datime : ℕ) → ArePutRecords m place datime puts → AreRecordsFrom place (records_of_batch m place datime puts)
all_whole [] m place datime all = tt
all_whole (p ∷ ps) m place datime all = (all.0.whole, all_whole ps (with_object m p.name p.value) (place + size_of_put m place datime p) datime all.1)

pub batches_have_records : BatchesHaveRecords
batches_have_records m place datime puts mark are b =
    let each = each_record puts m place datime are (can_put_all m place datime puts mark b) in
    record { each = each; whole = all_whole puts m place datime each }

pub batch_takes_effect : BatchTakesEffect
batch_takes_effect links m place datime puts mark b free is = each_stands puts links m place datime (can_put_all m place datime puts mark b) free is

pub batch_keys_follow : BatchKeysFollow
batch_keys_follow links m heads place datime puts mark b free is are = each_key puts links m heads place datime (can_put_all m place datime puts mark b) free is are

-- ---- pending rows

trees_alike : (m : State) (puts : List PutItem) → list_any (λ p. names_tree (saved_of m) p.name) puts ≡ list_any (λ p. names_tree m p.name) puts
trees_alike m [] = refl
trees_alike m (p ∷ ps) =
    let here = trees_named m p.name in
    let rest = trees_alike m ps in
    λ i. here i || rest i

items_alike : (m : State) (before puts : List PutItem) → items_put (saved_of m) before puts ≡ items_put m before puts
unfolding saved_of
items_alike m before [] = refl
items_alike m before (p ∷ ps) = ap (λ (items : List NameAndCycle). item_put m before p ∷ items) (items_alike m (before ++ p ∷ []) ps)

refused_alike : (m : State) (puts : List PutItem) (mark : Option FullMark) → refusal_of (saved_of m) (Batch puts) mark ≡ refusal_of m (Batch puts) mark
unfolding refusal_of saved_of
refused_alike m puts mark = rw (trees_alike m puts, items_alike m [] puts, as_many m) refl

-- the state without pending rows is that of the objects
behind_alike : (puts : List PutItem) (m : State) → with_objects (saved_of m) puts ≡ saved_of (with_objects m puts)
unfolding saved_of
behind_alike [] m = refl
behind_alike (p ∷ ps) m = behind_alike ps (with_object m p.name p.value)

records_alike : (puts : List PutItem) (m : State) (place datime : ℕ) → records_of_batch (saved_of m) place datime puts ≡ records_of_batch m place datime puts
unfolding saved_of
records_alike [] m place datime = refl
records_alike (p ∷ ps) m place datime =
    ap (λ (rs : List (List ℕ)). record_of_put m place datime p.name p.value ∷ rs) (records_alike ps (with_object m p.name p.value) (place + size_of_put m place datime p) datime)

keys_alike : (puts : List PutItem) (m : State) (place datime : ℕ) → keys_of_batch (saved_of m) place datime puts ≡ keys_of_batch m place datime puts
unfolding saved_of
keys_alike [] m place datime = refl
keys_alike (p ∷ ps) m place datime =
    ap (λ (ks : List KeyHead). key_of_put m place datime p.name p.value ∷ ks) (keys_alike ps (with_object m p.name p.value) (place + size_of_put m place datime p) datime)

pub batches_ignore_pending : BatchesIgnorePending
batches_ignore_pending m puts = record { refused = refused_alike m puts; behind = behind_alike puts m; records = records_alike puts m; keys = keys_alike puts m }

module _ (m : State) (place datime : ℕ) (puts : List PutItem) where
  size_alike : size_of_batch (saved_of m) place datime puts ≡ size_of_batch m place datime puts
  size_alike = ap (λ (rs : List (List ℕ)). sum (map length rs)) (records_alike puts m place datime)

  -- so the batch is one of the state without them
  batch_alike : (mark : Option FullMark) → IsBatch m place datime puts mark → IsBatch (saved_of m) place datime puts mark
  batch_alike mark b = record { low = (let low = b.low in omega (arith, low, size_alike)); soon = b.soon; named = b.named; taken = refused_alike m puts mark ∙ b.taken }

  free_alike : (records : List KeyedRecord) → IsFreeFrom records place (size_of_batch m place datime puts) → IsFreeFrom records place (size_of_batch (saved_of m) place datime puts)
  free_alike records free p from to = free p from (omega (arith, to, size_alike))

pub saved_batch_takes_effect : SavedBatchTakesEffect
saved_batch_takes_effect links m place datime puts mark b free is =
    let all = batch_takes_effect links (saved_of m) place datime puts mark (batch_alike m place datime puts mark b) (free_alike m place datime puts (keyed_records links) free) is in
    subst (λ (n : State). AreRecordsOf (keyed_records (with_records place (records_of_batch m place datime puts) links)) n) (behind_alike puts m)
    (subst (λ (rs : List (List ℕ)). AreRecordsOf (keyed_records (with_records place rs links)) (with_objects (saved_of m) puts)) (records_alike puts m place datime) all)

pub saved_batch_keys_follow : SavedBatchKeysFollow
saved_batch_keys_follow links m heads place datime puts mark b free is are =
    let all = batch_keys_follow links (saved_of m) heads place datime puts mark (batch_alike m place datime puts mark b) (free_alike m place datime puts (keyed_records links) free) is are in
    subst (λ (x : List (List ℕ) × List KeyHead). AreKeysOf (keyed_records (with_records place x.0 links)) (with_heads x.1 heads))
    (λ i. (records_alike puts m place datime i, keys_alike puts m place datime i)) all
