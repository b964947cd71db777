-- Records and first records, as they are found.
use Rattle.std.proofs.Common.{◌≡◌, ◌↔◌, ℕ, ◌%◌, Bool, true, false, pos, List, length, Option, Some, None, refl, sym, ap, subst, ◌∙◌, arith}
use Rattle.std.proofs.{lemmas.Bool.{cases_from_iff}, lemmas.Option.{none-some, same_Some}}
use Rattle.std.specs.Prelude.{IsTrue, MatchBool}
use Rattle.rio_key.specs.declared.head.KeyHead.{KeyHead}
use Rattle.rio_host.specs.Reading.{FindsWord, HasWord}
use Rattle.rio_chain.specs.{Segments.{HoldsRecord, IsRecord, IsFirst}, Found.{FindsKey, FindsKeyAt, FindsRecord, IsKeyOf, IsFirstBy}, Keyed.{HasKeyAt}}
use Rattle.rio_chain.proofs.Words.{word_one, word_within}

-- ---- a whole record

record_of_key : (place n : ℕ) (head : KeyHead) (bytes : List ℕ) → n % 4 ≡ 0 → length bytes ≡ n → FindsKey bytes (Some head) → IsKeyOf place n head → IsRecord place bytes
record_of_key place n head bytes aligned long f is = record {
  head = head;
  key = f.found_is;
  small = is.0;
  seek = is.1;
  nbytes = is.2 ∙ ap (λ (k : ℕ). pos k) (sym long);
  parts = is.3 ∙ sym long;
  aligned = ap (λ (k : ℕ). k % 4) long ∙ aligned;
}

key_of_record : (place n : ℕ) (head : KeyHead) (bytes : List ℕ) → length bytes ≡ n → FindsKey bytes (Some head) → IsRecord place bytes → IsKeyOf place n head
key_of_record place n head bytes long f r =
    let same : head ≡ r.head = same_Some head r.head (f.only r.head r.key) in
    subst (IsKeyOf place n) (sym same) (r.small, r.seek, r.nbytes ∙ ap (λ (k : ℕ). pos k) long, r.parts ∙ long)

pub finds_record : (file : List ℕ) (place n : ℕ) (head : KeyHead) (b : Bool) → n % 4 ≡ 0 → FindsKeyAt place n (Some head) file → IsTrue b ↔ IsKeyOf place n head → FindsRecord place n b file
finds_record file place n head b aligned finds iff bytes long has = matched b (cases_from_iff iff)
  where
    f : FindsKey bytes (Some head)
    f = finds bytes long has

    matched : (b : Bool) → MatchBool b (IsKeyOf place n head) (IsKeyOf place n head → ⊥) → MatchBool b (IsRecord place bytes) (¬ IsRecord place bytes)
    matched true is = record_of_key place n head bytes aligned long f is
    matched false never = λ r. never (key_of_record place n head bytes long f r)

pub finds_no_record : (file : List ℕ) (place n : ℕ) → FindsKeyAt place n None file → FindsRecord place n false file
finds_no_record file place n finds bytes long has r = none-some r.head ((finds bytes long has).only r.head r.key)

-- ---- a first record

pub first_by : (file bytes : List ℕ) (word : Option ℕ) (head : KeyHead) → FindsWord 28 word file → FindsKey bytes (Some head) → IsFirstBy word head bytes → IsFirst file bytes
first_by file bytes word head w f is = record {
  head = head;
  key = f.found_is;
  class = is.0;
  directory = is.1.0;
  texts = is.1.1;
  room = is.1.2.0;
  small = is.1.2.1;
  nbytes_name = subst (λ (o : Option ℕ). FindsWord 28 o file) is.1.2.2 w;
}

word_is : (file : List ℕ) (word : Option ℕ) (n : ℕ) → FindsWord 28 word file → HasWord file 28 n → word ≡ Some n
word_is file (Some m) n w is = ap some (word_one file 28 m n w is)
  where
    some : ℕ → Option ℕ
    some k = Some k
word_is file None n w is = absurd (let le = word_within file 28 n is in omega (arith, le, w))

pub by_first : (file bytes : List ℕ) (word : Option ℕ) (head : KeyHead) → FindsWord 28 word file → FindsKey bytes (Some head) → IsFirst file bytes → IsFirstBy word head bytes
by_first file bytes word head w f r =
    let same : head ≡ r.head = same_Some head r.head (f.only r.head r.key) in
    subst (λ (h : KeyHead). IsFirstBy word h bytes) (sym same) (r.class, (r.directory, r.texts, (r.room, r.small, word_is file word r.directory.place w r.nbytes_name)))

-- the n bytes at place 100 as a whole first record, by their key
pub finds_whole_first : (file bytes : List ℕ) (n : ℕ) (word : Option ℕ) (head : KeyHead) (b : Bool) → n % 4 ≡ 0 → length bytes ≡ n → FindsWord 28 word file → FindsKey bytes (Some head)
    → IsTrue b ↔ (IsKeyOf 100 n head × IsFirstBy word head bytes) → MatchBool b (IsRecord 100 bytes × ((◌≡◌ {A = ℕ} 100 100) → IsFirst file bytes)) (¬ HoldsRecord file 100 bytes)
finds_whole_first file bytes n word head b aligned long w f iff = matched b (cases_from_iff iff)
  where
    Both : Type 0
    Both = IsKeyOf 100 n head × IsFirstBy word head bytes

    matched : (b : Bool) → MatchBool b Both (Both → ⊥) → MatchBool b (IsRecord 100 bytes × ((◌≡◌ {A = ℕ} 100 100) → IsFirst file bytes)) (¬ HoldsRecord file 100 bytes)
    matched true is = (record_of_key 100 n head bytes aligned long f is.0, λ e. first_by file bytes word head w f is.1)
    matched false never = λ h. never (key_of_record 100 n head bytes long f h.whole, by_first file bytes word head w f (h.first refl))

pub finds_no_whole : (file bytes : List ℕ) (place : ℕ) → FindsKey bytes None → ¬ HoldsRecord file place bytes
finds_no_whole file bytes place f h = none-some h.whole.head (f.only h.whole.head h.whole.key)

-- the key that was found stands there
pub key_stands : (file : List ℕ) (place n : ℕ) (head : KeyHead) → FindsKeyAt place n (Some head) file → HasKeyAt head place n file
key_stands file place n head finds bytes long has = (finds bytes long has).found_is
