-- What a stop leaves while a file is made.
use Rattle.std.proofs.Common.{◌≡◌, inl, inr, ⊎_elim, true, ℕ, ◌-◌, ◌^◌, ◌<◌, ◌≤◌, List, ◌++◌, length, take, drop, codes, Some, sym, subst, ◌∙◌, arith}
use Rattle.byteorder.specs.Endian.{big_bytes}
use Rattle.rio_host.specs.{Host.{Elapses, View}, Image.{Has, Put, PutOrNot, Torn}}
use Rattle.rio_host.proofs.{Images.{has_keeps}, Moments.{elapses_as, elapses_join}}
use Rattle.rio_head.specs.Head.{root_number}
use Rattle.rio_chain.proofs.Puts.{has_join}
use Rattle.rio_chain.specs.Stops.{BodyThenWord, IsBodyBehind, IsWordOrNot}
use Rattle.rio_dir.specs.Unborn.{is_unborn}
use Rattle.rio_create.specs.{Creation.{IsLeftEmpty, IsMadeOrNot}, NewFile.{IsNewFile, new_file}}
use Rattle.rio_create.proofs.{Born.{unborn_left, zero_unborn}, Drafts.{rooted}, Read.{new_files}}

abbrev pub zero_word : List ℕ
zero_word = big_bytes 4 0

-- the zero word or not
word_unborn : (file image : List ℕ) → is_unborn file ≡ true → PutOrNot 0 zero_word file image → is_unborn image ≡ true
word_unborn file image unborn makes = ⊎_elim (λ same. subst (λ (f : List ℕ). is_unborn f ≡ true) (sym same) unborn) (λ put. zero_unborn image put.written) makes

-- bytes behind the zero word, written anyhow
torn_unborn : (file image : List ℕ) (n : ℕ) → Has file 0 zero_word → Torn 4 n file image → is_unborn image ≡ true
torn_unborn file image n has torn = zero_unborn image (has_keeps file image 0 zero_word (λ i x low high was. torn.outside i x (inl (omega (arith, high))) was) has)

-- all of them, and the word root in front
made_has : (file tail image : List ℕ) → BodyThenWord file 0 tail (big_bytes 4 root_number) image → Has image 0 (codes "root" ++ tail)
made_has file tail image made =
    let behind = has_keeps made.0 image 4 tail (λ i x low high was. made.2.outside i x (inr (omega (arith, low))) was) made.1.written in
    has_join image 0 (codes "root") tail made.2.written behind

module _ (v0 : View) (file tail : List ℕ) (unborn : is_unborn file ≡ true) where
  abbrev pub MadeOrNot : List ℕ → List ℕ → Type 0
  MadeOrNot = IsMadeOrNot v0 (codes "root" ++ tail)

  pub word_time : (v1 : View) → Elapses v0 v1 (IsWordOrNot v0 file 0 zero_word) → Elapses v0 v1 (IsMadeOrNot v0 (codes "root" ++ tail))
  word_time v1 time = elapses_as MadeOrNot (IsWordOrNot v0 file 0 zero_word) time (λ i s w. record { image_is = inl (word_unborn file i unborn w.image_is); text = w.text })

  pub both_time : (v1 v2 : View) (new : List ℕ) → Elapses v0 v1 (IsWordOrNot v0 file 0 zero_word) → v1.said ≡ v0.said → Put 0 zero_word file new
      → Elapses v1 v2 (IsBodyBehind v1 new 0 tail (big_bytes 4 root_number)) → Elapses v0 v2 (IsMadeOrNot v0 (codes "root" ++ tail))
  both_time v1 v2 new one same put two = elapses_join (IsBodyBehind v1 new 0 tail (big_bytes 4 root_number)) (word_time v1 one) two (λ i s b. record {
    image_is = ⊎_elim (λ torn. inl (torn_unborn new i (length tail) put.written torn)) (λ made. inr (made_has new tail i made)) b.image_is;
    text = λ all told. b.text all (same ∙ told);
  })

-- the file as it is then
pub made_file : (v2 : View) (new tail : List ℕ) → (made : List ℕ) × (v2.holds ≡ Some made) × BodyThenWord new 0 tail (big_bytes 4 root_number) made
    → (made : List ℕ) × (v2.holds ≡ Some made) × Has made 0 (codes "root" ++ tail)
made_file v2 new tail made = (made.0, made.1, made_has new tail made.0 made.2)

-- ---- what the image reads as

module _ (name : List ℕ) (datime : ℕ) (short : length name ≤ 200) (low : datime < 2 ^ 32) (bytes : List ℕ) (is : bytes ≡ new_file name datime) where
  -- the bytes that are written, with the word root in front
  abbrev written : List ℕ
  written = codes "root" ++ take (length bytes - 4) (drop 4 bytes)

  pub written_is_read : (file : List ℕ) → Has file 0 (codes "root" ++ take (length bytes - 4) (drop 4 bytes)) → IsNewFile name datime file
  written_is_read file has = new_files name datime file short low (subst (Has file 0) (rooted name datime bytes is) has)

  -- a file that isn't made yet, or that begins with the bytes of a new one, reads as the empty state
  left_empty : (v : View) (image said : List ℕ) → IsMadeOrNot v written image said → IsLeftEmpty v image said
  left_empty v image said x = record {
    left = ⊎_elim (λ unborn. unborn_left image unborn) (λ has. (written_is_read image has).left) x.image_is;
    unclosed = ⊎_elim (λ unborn. inl unborn) (λ has. inr (written_is_read image has).marked) x.image_is;
    text = x.text;
  }

  pub made_time : (v0 v1 : View) → Elapses v0 v1 (IsMadeOrNot v0 (codes "root" ++ take (length bytes - 4) (drop 4 bytes))) → Elapses v0 v1 (IsLeftEmpty v0)
  made_time v0 v1 time = elapses_as (IsLeftEmpty v0) (IsMadeOrNot v0 written) time (left_empty v0)

  pub made_is : (v1 : View) → (new : List ℕ) × (v1.holds ≡ Some new) × Has new 0 (codes "root" ++ take (length bytes - 4) (drop 4 bytes)) → (new : List ℕ) × (v1.holds ≡ Some new) × IsNewFile name datime new
  made_is v1 new = (new.0, new.1, written_is_read new.0 new.2)
