-- Keys and records, one after the other.
use Rattle.std.proofs.Common.{◌≡◌, ◌∙◌, ℕ, zero, suc, ◌+◌, ◌<◌, add-one, List, [], ◌∷◌, ◌++◌, length, take, drop, get_or, Bool, true, false, cond, refl, sym, ap, arith}
use Rattle.std.proofs.lemmas.List.{append-nil, Elements.{All-head, All-tail, filter-append}}
use Rattle.std.specs.List.{All}
use Rattle.rio_key.specs.declared.head.KeyHead.{KeyHead}
use Rattle.rio_state.specs.KeyedRecords.{KeyedRecord, is_top_key, top_keys}
use Rattle.rio_recover.specs.Keys.{StandsIn, record_heads}

-- the record of the key at an index, with those before and behind it
pub record RecordAtIndex (file : List ℕ) (records : List KeyedRecord) (k : ℕ) (head : KeyHead) : Type 0 where
  pub item : KeyedRecord
  pub head_is : item.head ≡ head
  pub before : take (k + 1) records ≡ take k records ++ item ∷ []
  pub behind : drop k records ≡ item ∷ drop (k + 1) records
  pub stands : All (StandsIn file) records → StandsIn file item

later_index : (file : List ℕ) (s : KeyedRecord) (records : List KeyedRecord) (k : ℕ) (head : KeyHead) → RecordAtIndex file records k head → RecordAtIndex file (s ∷ records) (suc k) head
later_index file s records k head r = record {
  item = r.item;
  head_is = r.head_is;
  before =
      ap (λ (j : ℕ). take j (s ∷ records)) (add-one (suc k))
      ∙ ap (λ (j : ℕ). s ∷ take j records) (sym (add-one k))
      ∙ ap (λ (xs : List KeyedRecord). s ∷ xs) r.before;
  behind = r.behind ∙ ap (λ (j : ℕ). r.item ∷ drop j records) (add-one k) ∙ sym (ap (λ (j : ℕ). r.item ∷ drop j (s ∷ records)) (add-one (suc k)));
  stands = λ a. r.stands (All-tail (StandsIn file) s records a);
}

pub record_at : (file : List ℕ) (records : List KeyedRecord) (k : ℕ) (head : KeyHead) → k < length (record_heads records) → head ≡ get_or (record_heads records) k head → RecordAtIndex file records k head
record_at file [] k head lt is = absurd (omega (arith, lt))
record_at file (r ∷ records) zero head lt is = record { item = r; head_is = sym is; before = refl; behind = refl; stands = λ a. All-head (StandsIn file) r records a }
record_at file (r ∷ records) (suc k) head lt is = later_index file r records k head (record_at file records k head (omega (arith, lt)) is)

-- ---- the keys of objects and trees

module _ (file : List ℕ) (records : List KeyedRecord) (k : ℕ) (head : KeyHead) (r : RecordAtIndex file records k head) where
  pub behind_top : is_top_key head ≡ true → top_keys (drop k records) ≡ r.item ∷ top_keys (drop (k + 1) records)
  behind_top top = ap top_keys r.behind ∙ ap (λ (b : Bool). cond b (r.item ∷ top_keys (drop (k + 1) records)) (top_keys (drop (k + 1) records))) (ap is_top_key r.head_is ∙ top)

  pub behind_other : is_top_key head ≡ false → top_keys (drop k records) ≡ top_keys (drop (k + 1) records)
  behind_other top = ap top_keys r.behind ∙ ap (λ (b : Bool). cond b (r.item ∷ top_keys (drop (k + 1) records)) (top_keys (drop (k + 1) records))) (ap is_top_key r.head_is ∙ top)

  pub before_top : is_top_key head ≡ true → top_keys (take (k + 1) records) ≡ top_keys (take k records) ++ r.item ∷ []
  before_top top =
      ap top_keys r.before ∙ filter-append (λ s. is_top_key s.head) (take k records) (r.item ∷ [])
      ∙ ap (λ (b : Bool). top_keys (take k records) ++ cond b (r.item ∷ []) []) (ap is_top_key r.head_is ∙ top)

  pub before_other : is_top_key head ≡ false → top_keys (take (k + 1) records) ≡ top_keys (take k records)
  before_other top =
      ap top_keys r.before ∙ filter-append (λ s. is_top_key s.head) (take k records) (r.item ∷ [])
      ∙ ap (λ (b : Bool). top_keys (take k records) ++ cond b (r.item ∷ []) []) (ap is_top_key r.head_is ∙ top)
      ∙ append-nil (top_keys (take k records))
