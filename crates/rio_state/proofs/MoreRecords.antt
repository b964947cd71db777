-- A record that is put is one more among the records of a file.
use Rattle.std.proofs.Common.{◌≡◌, ℕ, ◌+◌, ◌-◌, ◌∙◌, List, [], ◌∷◌, length, map, Bool, true, false, ◌==◌, Option, Some, None, refl, sym, ap, subst, arith}
use Rattle.std.specs.{Prelude.{if◌then◌else◌}, List.{cons_option}}
use Rattle.rio_num.specs.Plain.{IsSpelledIn, value_of}
use Rattle.rio_key.specs.{Key.{SpellsKey, key_at}, declared.head.KeyHead.{KeyHead}}
use Rattle.rio_num.proofs.Plain.{standing}
use Rattle.rio_key.proofs.KeyAgain.{key_again}
use Rattle.rio_chain.specs.{Changes.{with_record, with_rest}, Placing.{record_count}, Segments.{GapAt, IsRecord, Link, RecordAt, segment_of}}
use Rattle.rio_state.specs.{Closing.{name_in}, KeyedRecords.{KeyedRecord, keyed_records, record_in_link, record_with_head}}
use Rattle.rio_state.specs.OneMore.{CountGrows, FirstStays, KeyIsRead, RecordMore, keyed_bytes, HasOneMoreIn}
use Rattle.rio_state.proofs.Insertion.{behind}

-- the record of a segment has the key that is read there
pub keyed_link : (place : ℕ) (bytes : List ℕ) (head : KeyHead) → KeyIsRead place bytes head → record_in_link (RecordAt place bytes) ≡ Some (keyed_bytes head bytes)
keyed_link place bytes head e = ap (record_with_head bytes) e

-- where a key is spelled it is read
pub key_is_read : (place : ℕ) (bytes : List ℕ) (head : KeyHead) → IsSpelledIn (SpellsKey head) bytes → KeyIsRead place bytes head
key_is_read place bytes head s =
    ap (λ (b : List ℕ). key_at (standing place b)) s.2 ∙ ap value_of (key_again head s.0 place s.1 s.3)

-- a whole record has its own key
pub own_key : (place : ℕ) (bytes : List ℕ) (r : IsRecord place bytes) → KeyIsRead place bytes r.head
own_key place bytes r = key_is_read place bytes r.head r.key

-- what is left of a gap has no record
rest_records : (place n : ℕ) (links : List Link) → keyed_records (with_rest place n links) ≡ keyed_records links
rest_records place n links = by (n == 0)
  where
    by : (b : Bool) → keyed_records (if b then links else GapAt place n ∷ links) ≡ keyed_records links
    by true = refl
    by false = refl

module _ (place : ℕ) (bytes : List ℕ) (r : KeyedRecord) (is : record_in_link (RecordAt place bytes) ≡ Some r) where
  one_record : (links : List Link) → keyed_records (RecordAt place bytes ∷ links) ≡ r ∷ keyed_records links
  one_record links = ap (λ (o : Option KeyedRecord). cons_option o (keyed_records links)) is

  behind_link : (o : Option KeyedRecord) (old new : List KeyedRecord) → HasOneMoreIn old new r → HasOneMoreIn (cons_option o old) (cons_option o new) r
  behind_link None old new h = h
  behind_link (Some s) old new h = behind r s old new h

  pub records_more : (links : List Link) → HasOneMoreIn (keyed_records links) (keyed_records (with_record place bytes links)) r
  records_more [] = record { front = []; back = []; before = refl; after = one_record [] }
  records_more (RecordAt p others ∷ links) =
      behind_link (record_in_link (RecordAt p others)) (keyed_records links) (keyed_records (with_record place bytes links)) (records_more links)
  records_more (GapAt p n ∷ links) = by (p == place) (records_more links)
    where
      by : (b : Bool) → HasOneMoreIn (keyed_records links) (keyed_records (with_record place bytes links)) r
          → HasOneMoreIn (keyed_records links) (keyed_records (if b then RecordAt place bytes ∷ with_rest (place + length bytes) (n - length bytes) links else GapAt p n ∷ with_record place bytes links)) r
      by true rest = record {
        front = [];
        back = keyed_records links;
        before = refl;
        after = one_record (with_rest (place + length bytes) (n - length bytes) links) ∙ ap (λ (rs : List KeyedRecord). r ∷ rs) (rest_records (place + length bytes) (n - length bytes) links);
      }
      by false rest = rest

pub record_more : RecordMore
record_more links place bytes head e = records_more place bytes (keyed_bytes head bytes) (keyed_link place bytes head e) links

-- one segment more is a record
pub count_grows : CountGrows
count_grows [] place bytes = refl
count_grows (RecordAt p others ∷ links) place bytes = ap (λ (n : ℕ). n + 1) (count_grows links place bytes)
count_grows (GapAt p n ∷ links) place bytes = by (p == place) (count_grows links place bytes)
  where
    left : (b : Bool) (k : ℕ) → record_count (map segment_of (if b then links else GapAt (place + length bytes) k ∷ links)) ≡ record_count (map segment_of links)
    left true k = refl
    left false k = refl

    by : (b : Bool) → record_count (map segment_of (with_record place bytes links)) ≡ record_count (map segment_of links) + 1
        → record_count (map segment_of (if b then RecordAt place bytes ∷ with_rest (place + length bytes) (n - length bytes) links else GapAt p n ∷ with_record place bytes links)) ≡ record_count (map segment_of links) + 1
    by true rest = ap (λ (k : ℕ). k + 1) (left (n - length bytes == 0) (n - length bytes))
    by false rest = rest

same_first : (o : Option KeyedRecord) (r : KeyedRecord) (xs ys : List KeyedRecord) → o ≡ Some r → name_in (cons_option o xs) ≡ name_in (cons_option o ys)
same_first o r xs ys e = ap (λ (x : Option KeyedRecord). name_in (cons_option x xs)) e ∙ sym (ap (λ (x : Option KeyedRecord). name_in (cons_option x ys)) e)

-- whatever is put behind a record at the start
pub first_is : (p place : ℕ) (others bytes : List ℕ) (links : List Link) → IsRecord p others
    → name_in (keyed_records (with_record place bytes (RecordAt p others ∷ links))) ≡ name_in (keyed_records (RecordAt p others ∷ links))
first_is p place others bytes links first =
    same_first (record_in_link (RecordAt p others)) (keyed_bytes first.head others) (keyed_records (with_record place bytes links)) (keyed_records links) (keyed_link p others first.head (own_key p others first))

pub first_stays : FirstStays
first_stays file [] place bytes chain = let late = chain.ends.later in absurd (omega (arith, late))
first_stays file (RecordAt p others ∷ links) place bytes chain =
    first_is p place others bytes links (subst (λ (k : ℕ). IsRecord k others) (sym chain.links_are.0.0) chain.links_are.0.1.whole)
first_stays file (GapAt p n ∷ links) place bytes chain = let late = chain.links_are.0.1.later in absurd (omega (arith, late))
