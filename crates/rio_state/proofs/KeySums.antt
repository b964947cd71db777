-- What is written of the keys of records is about as long as the records are.
use Rattle.std.proofs.Common.{◌≡◌, ◌⊎◌, inl, inr, ℕ, ◌+◌, ◌*◌, ◌≤◌, ◌∙◌, List, [], ◌∷◌, ◌++◌, length, map, Bool, true, false, cond, refl, sym, ap, subst, arith}
use Rattle.std.proofs.lemmas.List.{length-append, length-drop, Sums.{sum_by-cons}}
use Rattle.std.specs.{Prelude.{if◌then◌else◌, nat_lt}, Int.{w32, cast_unsigned}, List.{filter, sum_by}}
use Rattle.byteorder.specs.{Endian.{big_bytes}, Numbers.{length-bytes_high_first}}
use Rattle.rio_num.specs.{At.{place_len_of}, Plain.{IsSpelledIn}, Text.{text_bytes}}
use Rattle.rio_num.proofs.TextLengths.{shortest_text}
use Rattle.rio_key.specs.{Key.{SpellsKey}, Written.{number_bytes, written_key}, declared.head.KeyHead.{KeyHead}}
use Rattle.rio_key.proofs.KeyParts.{parts_of_key}
use Rattle.rio_chain.specs.Segments.{GapAt, HoldsLinks, Link, RecordAt, end_from}
use Rattle.rio_state.specs.KeyedRecords.{KeyedRecord, keyed_records, record_data}
use Rattle.rio_state.proofs.{LessRecords.{OwnRecord, own_record, with_own}, Members.{In}}

-- ---- a key within its record

-- what is written of the key is no longer than the record
pub record KeyFits (r : KeyedRecord) : Type 0 where
  pub written : length (written_key r.head) ≤ length r.bytes
  pub name : 26 + length (text_bytes r.head.name) ≤ length r.bytes
  -- the key stands in front of its data
  pub apart : length (written_key r.head) + length (record_data r) ≤ length r.bytes

number_length : (n x : ℕ) → length (big_bytes n x) ≡ n
number_length n x = length-bytes_high_first n x

pub numbers_length : (h : KeyHead) (nbytes : ℕ) → length (number_bytes h nbytes) ≡ 18 + 2 * place_len_of h.version
numbers_length h nbytes = simp (length-append, number_length) (omega arith)

pub place_some : (version : ℕ) → 4 ≤ place_len_of version
place_some version = by (nat_lt 1000 version)
  where
    by : (b : Bool) → 4 ≤ (if b then 8 else 4)
    by true = omega arith
    by false = omega arith

parts_length : (a b c d : List ℕ) → length (a ++ (b ++ (c ++ d))) ≡ length a + (length b + (length c + length d))
parts_length a b c d = omega (arith, length-append a (b ++ (c ++ d)), length-append b (c ++ d), length-append c d)

pub key_fits : (h : KeyHead) (bytes : List ℕ) → IsSpelledIn (SpellsKey h) bytes → h.keylen ≤ length bytes → KeyFits (record { head = h; bytes = bytes })
key_fits h bytes is held =
    let key = parts_of_key h is.0 is.3 in
    let s = key.fields in
    let whole : length bytes ≡ length is.0 + length is.1 = ap length is.2 ∙ length-append is.0 is.1 in
    let front : length is.0 ≡ length (number_bytes h s.nbytes) + (length s.class_bytes + (length s.name_bytes + length s.title_bytes)) =
    ap length s.parts ∙ parts_length (number_bytes h s.nbytes) s.class_bytes s.name_bytes s.title_bytes in
    let written = parts_length (number_bytes h (cast_unsigned w32 h.nbytes)) (text_bytes h.class) (text_bytes h.name) (text_bytes h.title) in
    let n1 = numbers_length h s.nbytes in
    let n2 = numbers_length h (cast_unsigned w32 h.nbytes) in
    let name = shortest_text h.name s.name_bytes s.name_spelled in
    record {
      written = omega (arith, whole, front, written, n1, n2, shortest_text h.class s.class_bytes s.class_spelled, name, shortest_text h.title s.title_bytes s.title_spelled);
      name = omega (arith, whole, front, n1, place_some h.version, name);
      apart = omega (arith, held, key.title_held, length-drop h.keylen bytes, front, written, n1, n2, shortest_text h.class s.class_bytes s.class_spelled, name, shortest_text h.title s.title_bytes s.title_spelled);
    }

-- ---- sums

module _ {A : Type 0} (f : A → ℕ) where
  -- those that pass one test, and those that pass another, which none of the first passes
  pub two_parts : (p q : A → Bool) → ((x : A) → p x ≡ true → q x ≡ false) → (xs : List A) → sum_by f (filter p xs) + sum_by f (filter q xs) ≤ sum_by f xs
  two_parts p q apart [] = omega arith
  two_parts p q apart (x ∷ xs) = by (p x) (q x) (apart x) (two_parts p q apart xs)
    where
      by : (a b : Bool) → (a ≡ true → b ≡ false) → sum_by f (filter p xs) + sum_by f (filter q xs) ≤ sum_by f xs
          → sum_by f (cond a (x ∷ filter p xs) (filter p xs)) + sum_by f (cond b (x ∷ filter q xs) (filter q xs)) ≤ sum_by f (x ∷ xs)
      by true true none le = let e = none refl in absurd cc
      by true false none le = omega (arith, le, sum_by-cons f x (filter p xs), sum_by-cons f x xs)
      by false true none le = omega (arith, le, sum_by-cons f x (filter q xs), sum_by-cons f x xs)
      by false false none le = omega (arith, le, sum_by-cons f x xs)

  pub one_part : (p : A → Bool) (xs : List A) → sum_by f (filter p xs) ≤ sum_by f xs
  one_part p xs = omega (arith, two_parts p (λ x. false) (λ x e. refl) xs)

abbrev pub bytes_length : List KeyedRecord → ℕ
bytes_length records = sum_by (λ r. length r.bytes) records

abbrev pub heads_length : List KeyHead → ℕ
heads_length heads = sum_by (λ h. length (written_key h)) heads

-- what a close writes of some records is at most twice as long as they are
pub written_of : (records : List KeyedRecord) → ((r : KeyedRecord) → In r records → KeyFits r) → heads_length (map (λ r. r.head) records) + 10 * length records ≤ 2 * bytes_length records
written_of [] fits = omega arith
written_of (r ∷ records) fits =
    let here = fits r (inl refl) in
    let rest = written_of records (λ s i. fits s (inr i)) in
    let one = sum_by-cons (λ (h : KeyHead). length (written_key h)) r.head (map (λ (s : KeyedRecord). s.head) records) in
    let two = sum_by-cons (λ (s : KeyedRecord). length s.bytes) r records in
    omega (arith, here.written, here.name, rest, one, two)

-- ---- the records of a file

-- each record of links has a key that it holds
pub all_fit : (file : List ℕ) (p : ℕ) (links : List Link) → HoldsLinks file p links → (r : KeyedRecord) → In r (keyed_records links) → KeyFits r
all_fit file p [] holds r i = absurd i
all_fit file p (RecordAt q bytes ∷ links) holds r i =
    let o = own_record file p q bytes holds.0.0 holds.0.1 in
    by o (all_fit file (p + length bytes) links holds.1 r) (subst (λ (rs : List KeyedRecord). In r rs) (with_own q bytes o links) i)
  where
    by : (o : OwnRecord q bytes) → (In r (keyed_records links) → KeyFits r) → (o.r ≡ r) ⊎ In r (keyed_records links) → KeyFits r
    by o later (inl same) = subst KeyFits same (subst (λ (b : List ℕ). KeyFits (record { head = o.r.head; bytes = b })) (sym o.bytes_are) (key_fits o.r.head bytes o.spelled (omega (arith, o.parts))))
    by o later (inr j) = later j
all_fit file p (GapAt q n ∷ links) holds r i = all_fit file (p + n) links holds.1 r i

-- END is behind all of them
pub end_behind : (file : List ℕ) (p : ℕ) (links : List Link) → HoldsLinks file p links → p + bytes_length (keyed_records links) ≤ end_from p links
end_behind file p [] holds = omega arith
end_behind file p (RecordAt q bytes ∷ links) holds =
    let o = own_record file p q bytes holds.0.0 holds.0.1 in
    let rest = end_behind file (p + length bytes) links holds.1 in
    let sum = ap bytes_length (with_own q bytes o links) ∙ sum_by-cons (λ (s : KeyedRecord). length s.bytes) o.r (keyed_records links) in
    omega (arith, rest, sum, ap length o.bytes_are)
end_behind file p (GapAt q n ∷ links) holds = omega (arith, end_behind file (p + n) links holds.1)
