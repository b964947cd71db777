-- Records of a chain: where they stand, and that they stay there.
use Rattle.std.proofs.Common.{◌≡◌, ◌⊎◌, inl, inr, ℕ, ◌+◌, ◌-◌, ◌≤◌, ◌==◌, List, [], ◌∷◌, length, Bool, true, false, cond, Option, Some, None, refl, sym, ap, subst, ◌∙◌, arith}
use Rattle.std.specs.List.{cons_option}
use Rattle.rio_host.specs.Image.{Has}
use Rattle.rio_chain.specs.{Changes.{with_record, with_rest}, Segments.{GapAt, HoldsLinks, IsRecord, Link, RecordAt}}
use Rattle.rio_state.specs.{KeyedRecords.{KeyedRecord, keyed_records, record_in_link}, OneMore.{keyed_bytes}}
use Rattle.rio_state.proofs.{Members.{In}, MoreRecords.{keyed_link, own_key}}

-- ---- what a record put leaves

in_rest : (place n p : ℕ) (bytes : List ℕ) (links : List Link) → In (RecordAt p bytes) links → In (RecordAt p bytes) (with_rest place n links)
in_rest place n p bytes links i = by (n == 0)
  where
    by : (b : Bool) → In (RecordAt p bytes) (cond b links (GapAt place n ∷ links))
    by true = i
    by false = inr i

-- the record itself
pub in_put : (place : ℕ) (bytes : List ℕ) (links : List Link) → In (RecordAt place bytes) (with_record place bytes links)
in_put place bytes [] = inl refl
in_put place bytes (RecordAt p others ∷ links) = inr (in_put place bytes links)
in_put place bytes (GapAt p n ∷ links) = by (p == place) (in_put place bytes links)
  where
    by : (b : Bool) → In (RecordAt place bytes) (with_record place bytes links)
        → In (RecordAt place bytes) (cond b (RecordAt place bytes ∷ with_rest (place + length bytes) (n - length bytes) links) (GapAt p n ∷ with_record place bytes links))
    by true rest = inl refl
    by false rest = inr rest

-- and the other records
pub in_with : (place : ℕ) (bytes : List ℕ) (links : List Link) (q : ℕ) (others : List ℕ) → In (RecordAt q others) links → In (RecordAt q others) (with_record place bytes links)
in_with place bytes [] q others i = absurd i
in_with place bytes (RecordAt p own ∷ links) q others (inl same) = inl same
in_with place bytes (RecordAt p own ∷ links) q others (inr i) = inr (in_with place bytes links q others i)
in_with place bytes (GapAt p n ∷ links) q others (inl same) = absurd cc
in_with place bytes (GapAt p n ∷ links) q others (inr i) = by (p == place) (in_with place bytes links q others i)
  where
    by : (b : Bool) → In (RecordAt q others) (with_record place bytes links)
        → In (RecordAt q others) (cond b (RecordAt place bytes ∷ with_rest (place + length bytes) (n - length bytes) links) (GapAt p n ∷ with_record place bytes links))
    by true rest = inr (in_rest (place + length bytes) (n - length bytes) q others links i)
    by false rest = inr rest

-- ---- where records stand

-- a record's bytes stand in the file, at its place
pub record Standing (file : List ℕ) (from p : ℕ) (bytes : List ℕ) : Type 0 where
  pub behind : from ≤ p
  pub there : Has file p bytes

record_is : (q p : ℕ) (b bytes : List ℕ) → RecordAt q b ≡ RecordAt p bytes → (q ≡ p) × (b ≡ bytes)
record_is q p b bytes same = (let e : q ≡ p = cc in e, let e : b ≡ bytes = cc in e)

later : (file : List ℕ) (from n p : ℕ) (bytes : List ℕ) → Standing file (from + n) p bytes → Standing file from p bytes
later file from n p bytes s = record { behind = omega (arith, s.behind); there = s.there }

pub stands_there : (file : List ℕ) (from : ℕ) (links : List Link) (p : ℕ) (bytes : List ℕ) → HoldsLinks file from links → In (RecordAt p bytes) links → Standing file from p bytes
stands_there file from [] p bytes holds i = absurd i
stands_there file from (RecordAt q b ∷ links) p bytes holds (inl same) =
    let is = record_is q p b bytes same in
    let at : from ≡ p = sym holds.0.0 ∙ is.0 in
    record { behind = omega (arith, at); there = subst (λ (k : ℕ). Has file k bytes) at (subst (Has file from) is.1 holds.0.1.there) }
stands_there file from (RecordAt q b ∷ links) p bytes holds (inr i) = later file from (length b) p bytes (stands_there file (from + length b) links p bytes holds.1 i)
stands_there file from (GapAt q n ∷ links) p bytes holds (inl same) = absurd cc
stands_there file from (GapAt q n ∷ links) p bytes holds (inr i) = later file from n p bytes (stands_there file (from + n) links p bytes holds.1 i)

-- ---- with their keys

-- a record with its key is one of the file
pub in_keyed : (links : List Link) (p : ℕ) (bytes : List ℕ) (r : KeyedRecord) → record_in_link (RecordAt p bytes) ≡ Some r → In (RecordAt p bytes) links → In r (keyed_records links)
in_keyed [] p bytes r is i = absurd i
in_keyed (l ∷ links) p bytes r is (inl same) =
    let e : record_in_link l ≡ Some r = ap record_in_link same ∙ is in
    subst (λ (o : Option KeyedRecord). In r (cons_option o (keyed_records links))) (sym e) (inl refl)
in_keyed (l ∷ links) p bytes r is (inr i) = by (record_in_link l) (in_keyed links p bytes r is i)
  where
    by : (o : Option KeyedRecord) → In r (keyed_records links) → In r (cons_option o (keyed_records links))
    by None rest = rest
    by (Some s) rest = inr rest

-- a record of the file is whole, and its key its own
pub record IsWhole (r : KeyedRecord) : Type 0 where
  pub place : ℕ
  pub whole : IsRecord place r.bytes
  pub key : whole.head ≡ r.head

pub whole_records : (file : List ℕ) (place : ℕ) (links : List Link) → HoldsLinks file place links → (r : KeyedRecord) → In r (keyed_records links) → IsWhole r
whole_records file place [] holds r i = absurd i
whole_records file place (RecordAt q bytes ∷ links) holds r i =
    let w : IsRecord q bytes = subst (λ (k : ℕ). IsRecord k bytes) (sym holds.0.0) holds.0.1.whole in
    by w (whole_records file (place + length bytes) links holds.1 r) (subst (λ (o : Option KeyedRecord). In r (cons_option o (keyed_records links))) (keyed_link q bytes w.head (own_key q bytes w)) i)
  where
    by : (w : IsRecord q bytes) → (In r (keyed_records links) → IsWhole r) → (keyed_bytes w.head bytes ≡ r) ⊎ In r (keyed_records links) → IsWhole r
    by w rest (inl same) = subst IsWhole same (record { place = q; whole = w; key = refl })
    by w rest (inr j) = rest j
whole_records file place (GapAt q n ∷ links) holds r i = whole_records file (place + n) links holds.1 r i
