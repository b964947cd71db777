-- Words and records at places: there is one.
use Rattle.std.proofs.Common.{◌≡◌, ℕ, ◌+◌, ◌^◌, ◌<◌, ◌≤◌, List, [], ◌++◌, length, take, drop, get_or, Some, refl, sym, ap, subst, ◌∙◌, append_assoc, length-append, length-take, length-drop, arith}
use Rattle.std.proofs.{lemmas.List.{ext_get_or}, lemmas.Option.{slice_get-get_or, slice_get_within, same_Some}}
use Rattle.std.specs.List.{slice_get}
use Rattle.byteorder.specs.{Endian.{big_bytes, big_number}, Numbers.{big_number-reads_back, length-bytes_high_first}}
use Rattle.rio_num.proofs.Cases.{pos_same}
use Rattle.rio_num.specs.At.{place_len_of}
use Rattle.rio_host.specs.{Image.{Has}, ImageLaws.{slice_get-take, slice_get-drop}}
use Rattle.rio_host.proofs.Images.{has_keeps, has_length, has_front}
use Rattle.rio_key.proofs.KeyParts.{parts_of_key}
use Rattle.rio_chain.specs.Segments.{HasWord, HoldsRecord, IsPositive, IsRecord}

-- as many bytes at one place are the same bytes
pub has_same : (file : List ℕ) (place : ℕ) (xs ys : List ℕ) → length xs ≡ length ys → Has file place xs → Has file place ys → xs ≡ ys
has_same file place xs ys long x y = ext_get_or 0 xs ys long (λ i lt.
    same_Some (get_or xs i 0) (get_or ys i 0)
    (sym (x i (get_or xs i 0) (slice_get-get_or xs i 0 lt)) ∙ y i (get_or ys i 0) (slice_get-get_or ys i 0 (omega (arith, lt, long)))))

-- the file has its own bytes
pub has_own : (file : List ℕ) (place n : ℕ) → Has file place (take n (drop place file))
has_own file place n i x at =
    let low : i < n = omega (arith, slice_get_within (take n (drop place file)) i x at, length-take n (drop place file)) in
    sym (slice_get-drop place i (place + i) file refl) ∙ sym (slice_get-take n i (drop place file) low) ∙ at

-- ---- words

pub word_one : (file : List ℕ) (place m n : ℕ) → HasWord file place m → HasWord file place n → m ≡ n
word_one file place m n a b =
    sym a.number ∙ ap (big_number 4) (has_same file place a.bytes b.bytes (a.four ∙ sym b.four) a.there b.there) ∙ b.number

pub word_within : (file : List ℕ) (place n : ℕ) → HasWord file place n → place + 4 ≤ length file
word_within file place n a = omega (arith, a.four, has_length file place a.bytes 3 a.four a.there)

-- four bytes give some number
pub word_some : (file : List ℕ) (place : ℕ) → place + 4 ≤ length file → HasWord file place (big_number 4 (take 4 (drop place file)))
word_some file place le = record {
  bytes = take 4 (drop place file);
  four = omega (arith, length-take 4 (drop place file), length-drop place file);
  there = has_own file place 4;
  number = refl;
}

pub word_keeps : (old new : List ℕ) (place n : ℕ) → ((i x : ℕ) → place ≤ i → i < place + 4 → slice_get old i ≡ Some x → slice_get new i ≡ Some x) → HasWord old place n → HasWord new place n
word_keeps old new place n keeps a = record {
  bytes = a.bytes;
  four = a.four;
  there = has_keeps old new place a.bytes (λ i x low high was. keeps i x low (omega (arith, high, a.four)) was) a.there;
  number = a.number;
}

-- the bytes of a number are a word
pub word_of_bytes : (file : List ℕ) (place n : ℕ) → n < 2 ^ 32 → Has file place (big_bytes 4 n) → HasWord file place n
word_of_bytes file place n lt has = record { bytes = big_bytes 4 n; four = length-bytes_high_first 4 n; there = has; number = big_number-reads_back 4 n [] lt }

-- ---- a record's word is its length

pub record Word (bytes : List ℕ) : Type 0 where
  pub others : List ℕ
  pub spelled : bytes ≡ big_bytes 4 (length bytes) ++ others
  pub small : length bytes < 2 ^ 31

pub record_word : (place : ℕ) (bytes : List ℕ) → IsRecord place bytes → Word bytes
record_word place bytes r =
    let front = r.key.0 in
    let key = parts_of_key r.head r.key.0 r.key.3 in
    let spells = key.fields in
    let same : spells.nbytes ≡ length bytes = pos_same spells.nbytes (length bytes) (sym key.length_is ∙ r.nbytes) in
    let h = r.head in
    let rest = spells.class_bytes ++ (spells.name_bytes ++ spells.title_bytes) in
    let numbers = big_bytes 2 h.version ++ (big_bytes 4 h.objlen ++ (big_bytes 4 h.datime ++ (big_bytes 2 h.keylen ++ (big_bytes 2 h.cycle ++ (big_bytes (place_len_of h.version) h.seek ++ big_bytes (place_len_of h.version) h.pdir))))) in
    record {
      others = (numbers ++ rest) ++ r.key.1;
      spelled = r.key.2 ∙ ap (λ (b : List ℕ). b ++ r.key.1) spells.parts
          ∙ ap (λ (n : ℕ). ((big_bytes 4 n ++ numbers) ++ rest) ++ r.key.1) same
          ∙ ap (λ (b : List ℕ). b ++ r.key.1) (append_assoc (big_bytes 4 (length bytes)) numbers rest)
          ∙ append_assoc (big_bytes 4 (length bytes)) (numbers ++ rest) r.key.1;
      small = omega (arith, same, key.length_fits);
    }

pub record_long : (bytes : List ℕ) → Word bytes → 4 ≤ length bytes
record_long bytes w = omega (arith, ap length w.spelled, length-append (big_bytes 4 (length bytes)) w.others, length-bytes_high_first 4 (length bytes))

-- a whole record has at least four bytes, and fewer than 2 ^ 31
pub whole_long : (place : ℕ) (bytes : List ℕ) → IsRecord place bytes → 4 ≤ length bytes
whole_long place bytes r = record_long bytes (record_word place bytes r)

pub whole_small : (place : ℕ) (bytes : List ℕ) → IsRecord place bytes → length bytes < 2 ^ 31
whole_small place bytes r = (record_word place bytes r).small

pub held_word : (file : List ℕ) (place : ℕ) (bytes : List ℕ) → HoldsRecord file place bytes → HasWord file place (length bytes)
held_word file place bytes r =
    let w = record_word place bytes r.whole in
    word_of_bytes file place (length bytes) (omega (arith, w.small)) (has_front file place (big_bytes 4 (length bytes)) w.others (subst (Has file place) w.spelled r.there))

pub held_positive : (file : List ℕ) (place : ℕ) (bytes : List ℕ) → HoldsRecord file place bytes → IsPositive (length bytes)
held_positive file place bytes r = let w = record_word place bytes r.whole in let long = record_long bytes w in (omega (arith, long), w.small)

-- the length of a record is at least four
pub held_long : (file : List ℕ) (place : ℕ) (bytes : List ℕ) → HoldsRecord file place bytes → 4 ≤ length bytes
held_long file place bytes r = record_long bytes (record_word place bytes r.whole)
