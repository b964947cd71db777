-- Numbers at places of a file, and that they are read there.
use Rattle.std.proofs.Common.{◌≡◌, ℕ, suc, ◌+◌, ◌<◌, ◌≤◌, ◌^◌, Bool, true, false, cond, ltb, List, length, length-take, length-drop, take, drop, Ok, Err, Some, refl, sym, ap, subst, ◌∙◌, arith}
use Rattle.std.proofs.{lemmas.Bool.{ltb-false, le-ltb}, lemmas.List.{drop-drop}, lemmas.Option.{slice_get_within}}
use Rattle.std.specs.List.{slice_get}
use Rattle.byteorder.specs.{Endian.{big_bytes, big_number}, Numbers.{big_from-take}}
use Rattle.rio_num.specs.{At.{At}, Reading.{bytes_at, number_at, short, skip}, declared.cursor.Short.{Short}}
use Rattle.rio_num.proofs.{ReadLaws.{ok_is}, Plain.{standing}}
use Rattle.rio_host.specs.{Image.{Has}, ImageLaws.{slice_get-drop, slice_get-take}}
use Rattle.rio_host.proofs.Images.{has_keeps, has_length}
use Rattle.rio_chain.specs.Segments.{HasWord}
use Rattle.rio_chain.proofs.{Words.{has_own, has_same, word_of_bytes, word_within}, Chains.{KeepsIn}}

-- the n bytes at a place give this number
pub record HasNumber (n : ℕ) (file : List ℕ) (place w : ℕ) : Type 0 where
  pub within : place + n ≤ length file
  pub number : big_number n (drop place file) ≡ w

own_long : (n place : ℕ) (file : List ℕ) → place + n ≤ length file → length (take n (drop place file)) ≡ n
own_long n place file le = omega (arith, le, length-take n (drop place file), length-drop place file)

taken_number : (n place : ℕ) (file : List ℕ) → big_number n (take n (drop place file)) ≡ big_number n (drop place file)
taken_number n place file = big_from-take 0 n n (drop place file) (omega arith)

-- ---- words

pub number_of_word : (file : List ℕ) (place w : ℕ) → HasWord file place w → HasNumber 4 file place w
number_of_word file place w a =
    let le = word_within file place w a in
    let same : take 4 (drop place file) ≡ a.bytes = has_same file place (take 4 (drop place file)) a.bytes (own_long 4 place file le ∙ sym a.four) (has_own file place 4) a.there in
    record { within = le; number = sym (taken_number 4 place file) ∙ ap (big_number 4) same ∙ a.number }

pub word_of_number : (file : List ℕ) (place w : ℕ) → HasNumber 4 file place w → HasWord file place w
word_of_number file place w a = record {
  bytes = take 4 (drop place file);
  four = own_long 4 place file a.within;
  there = has_own file place 4;
  number = taken_number 4 place file ∙ a.number;
}

pub number_of_bytes : (file : List ℕ) (place w : ℕ) → w < 2 ^ 32 → Has file place (big_bytes 4 w) → HasNumber 4 file place w
number_of_bytes file place w lt has = number_of_word file place w (word_of_bytes file place w lt has)

-- ---- other images

-- there is some number
pub any_number : (n : ℕ) (file : List ℕ) (place : ℕ) → place + n ≤ length file → HasNumber n file place (big_number n (drop place file))
any_number n file place le = record { within = le; number = refl }

-- the bytes at a place of a file that are kept are those of the other
pub bytes_keep : (k : ℕ) (old new : List ℕ) (place : ℕ) → place + suc k ≤ length old → KeepsIn place (place + suc k) old new → take (suc k) (drop place new) ≡ take (suc k) (drop place old)
bytes_keep k old new place le keeps =
    let n = suc k in
    let was : length (take n (drop place old)) ≡ n = own_long n place old le in
    let has : Has new place (take n (drop place old)) = has_keeps old new place (take n (drop place old)) (λ i x low high at. keeps i x low (omega (arith, high, was)) at) (has_own old place n) in
    let long = has_length new place (take n (drop place old)) k (omega (arith, was)) has in
    has_same new place (take n (drop place new)) (take n (drop place old)) (own_long n place new (omega (arith, long, was)) ∙ sym was) (has_own new place n) has

pub within_keeps : (k : ℕ) (old new : List ℕ) (place : ℕ) → place + suc k ≤ length old → KeepsIn place (place + suc k) old new → place + suc k ≤ length new
within_keeps k old new place le keeps =
    let n = suc k in
    let was : length (take n (drop place old)) ≡ n = own_long n place old le in
    let has : Has new place (take n (drop place old)) = has_keeps old new place (take n (drop place old)) (λ i x low high at. keeps i x low (omega (arith, high, was)) at) (has_own old place n) in
    omega (arith, was, has_length new place (take n (drop place old)) k (omega (arith, was)) has)

pub number_keeps : (k : ℕ) (old new : List ℕ) (place w : ℕ) → KeepsIn place (place + suc k) old new → HasNumber (suc k) old place w → HasNumber (suc k) new place w
number_keeps k old new place w keeps a = record {
  within = within_keeps k old new place a.within keeps;
  number = sym (taken_number (suc k) place new) ∙ ap (big_number (suc k)) (bytes_keep k old new place a.within keeps) ∙ taken_number (suc k) place old ∙ a.number;
}

-- ---- reading

-- a number that is there is read
pub number_read : (n m k k' p p' w : ℕ) (file : List ℕ) → n ≡ m → k' ≡ k + m → p' ≡ p + m → HasNumber m file k w → number_at n (standing p (drop k file)) ≡ Ok (w, standing p' (drop k' file))
number_read n m k k' p p' w file is next later a =
    let enough : ltb (length (drop k file)) m ≡ false = le-ltb _ _ (omega (arith, a.within, length-drop k file)) in
    let behind : drop m (drop k file) ≡ drop k' file = drop-drop m k file ∙ ap (λ (i : ℕ). drop i file) (sym next) in
    ap (λ (i : ℕ). number_at i (standing p (drop k file))) is
    ∙ rw (enough, a.number, behind, later) refl

-- what was read is there
pub record WasRead (n p k : ℕ) (file : List ℕ) (x : ℕ) (t : At) : Type 0 where
  pub there : HasNumber n file k x
  pub goes_on : t ≡ standing (p + n) (drop (k + n) file)

abbrev taken : ℕ → ℕ → ℕ → List ℕ → ℕ × At
taken n p k file = (big_number n (drop k file), skip n (standing p (drop k file)))

pub number_was_read : (m p k : ℕ) (file : List ℕ) (x : ℕ) (t : At) → number_at (suc m) (standing p (drop k file)) ≡ Ok (x, t) → WasRead (suc m) p k file x t
number_was_read m p k file x t e = by (ltb (length (drop k file)) (suc m)) refl e
  where
    by : (b : Bool) → ltb (length (drop k file)) (suc m) ≡ b → cond b (Err (short p (suc m))) (Ok (taken (suc m) p k file)) ≡ Ok (x, t) → WasRead (suc m) p k file x t
    by true is e = absurd cc
    by false is e =
        let long : suc m ≤ length (drop k file) = ltb-false _ _ is in
        let same = ok_is {E = Short} (taken (suc m) p k file) (x, t) e in
        record {
          there = record { within = omega (arith, long, length-drop k file); number = ap (λ (q : ℕ × At). q.0) same };
          goes_on = ap (λ (q : ℕ × At). q.1) (sym same) ∙ ap (λ (l : List ℕ). standing (p + suc m) l) (drop-drop (suc m) k file);
        }

-- so many bytes
pub bytes_read : (n k p : ℕ) (file : List ℕ) → k + n ≤ length file → bytes_at n (standing p (drop k file)) ≡ Ok (take n (drop k file), skip n (standing p (drop k file)))
bytes_read n k p file le =
    let enough : ltb (length (drop k file)) n ≡ false = le-ltb _ _ (omega (arith, le, length-drop k file)) in
    rw enough refl

-- a number within bytes that the file has
pub number_within : (file : List ℕ) (place : ℕ) (bytes : List ℕ) (k i w : ℕ) → Has file place bytes → HasNumber (suc k) bytes i w → HasNumber (suc k) file (place + i) w
number_within file place bytes k i w has a =
    let n = suc k in
    let own : length (take n (drop i bytes)) ≡ n = own_long n i bytes a.within in
    let there : Has file (place + i) (take n (drop i bytes)) = λ j x at.
    let low : j < n = omega (arith, own, slice_get_within (take n (drop i bytes)) j x at) in
    subst (λ (q : ℕ). slice_get file q ≡ Some x) (let e : place + (i + j) ≡ place + i + j = omega arith in e) (has (i + j) x (sym (slice_get-drop i j (i + j) bytes refl) ∙ sym (slice_get-take n j (drop i bytes) low) ∙ at)) in
    let long = has_length file (place + i) (take n (drop i bytes)) k (omega (arith, own)) there in
    let le : place + i + n ≤ length file = omega (arith, long, own) in
    let same : take n (drop (place + i) file) ≡ take n (drop i bytes) = has_same file (place + i) (take n (drop (place + i) file)) (take n (drop i bytes)) (own_long n (place + i) file le ∙ sym own) (has_own file (place + i) n) there in
    record { within = le; number = sym (taken_number n (place + i) file) ∙ ap (big_number n) same ∙ taken_number n i bytes ∙ a.number }
