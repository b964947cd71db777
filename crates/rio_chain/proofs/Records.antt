-- What a new record is.
use Rattle.std.proofs.Common.{◌≡◌, ℕ, ◌+◌, ◌-◌, ◌%◌, pos, List, ◌++◌, length, drop, refl, sym, ap, ◌∙◌, append_assoc, length-append, arith}
use Rattle.std.proofs.{lemmas.List.{length-replicate}, Math.Seq.{drop-append_seam}}
use Rattle.std.specs.Int.{w32, cast_unsigned}
use Rattle.rio_num.specs.{Room.{padding}, Text.{text_bytes}, Plain.{IsSpelledIn, value_of}}
use Rattle.rio_key.specs.{Key.{SpellsKey, key_head_at}, Written.{FitsKey, HoldsItself, number_bytes, padded_size, written_key}, declared.head.KeyHead.{KeyHead}}
use Rattle.rio_num.proofs.{Plain.{standing}, TextLengths.{text_within}}
use Rattle.rio_key.proofs.{KeyAgain.{key_again}, KeyWritten.{key_spelled}}
use Rattle.rio_chain.specs.{NewRecords.{AreNewRecords, IsNewRecord}, Record.{FitsWords, key_size, new_key, record_bytes, unpadded}}
use Rattle.rio_chain.specs.declared.key_words.KeyWords.{KeyWords}

pub key_long : (words : KeyWords) (n : ℕ) → length (written_key (new_key words n)) ≡ key_size words
key_long words n =
    let h = new_key words n in
    let texts = text_bytes words.class ++ (text_bytes words.name ++ text_bytes words.title) in
    omega (arith, length-append (number_bytes h (cast_unsigned w32 h.nbytes)) texts, length-append (text_bytes words.class) (text_bytes words.name ++ text_bytes words.title), length-append (text_bytes words.name) (text_bytes words.title))

-- with its zero bytes a record has a multiple of four
padded_aligned : (k n : ℕ) → (k + padded_size k n) % 4 ≡ 0
padded_aligned k n = omega arith

padded_is : (k n : ℕ) → k + n + (4 - (k + n) % 4) % 4 ≡ k + padded_size k n
padded_is k n = omega arith

module _ (words : KeyWords) (n : ℕ) (fits : FitsWords words n) where
  pub key_fits : FitsKey (new_key words n)
  key_fits = record {
    seek = omega (arith, fits.place);
    pdir = omega (arith, fits.directory);
    class = omega (arith, fits.key, text_within words.class);
    name = omega (arith, fits.key, text_within words.name);
    title = omega (arith, fits.key, text_within words.title);
  }

  key_holds : HoldsItself (new_key words n)
  key_holds = record {
    numbers = record {
      version = omega arith;
      objlen = omega (arith, fits.whole);
      datime = fits.datime;
      keylen = fits.key;
      cycle = fits.cycle;
      seek = omega (arith, fits.place);
      pdir = omega (arith, fits.directory);
    };
    nbytes = key_size words + padded_size (key_size words) n;
    length_is = refl;
    length_fits = fits.whole;
    key_held = omega arith;
    title_held = omega (arith, key_long words n);
  }

  pub new_key_spelled : SpellsKey (new_key words n) (written_key (new_key words n))
  new_key_spelled = key_spelled (new_key words n) key_fits key_holds

module _ (words : KeyWords) (contents : List ℕ) (fits : FitsWords words (length contents)) where
  abbrev key : KeyHead
  key = new_key words (length contents)

  abbrev front : List ℕ
  front = unpadded words contents

  front_long : length front ≡ key_size words + length contents
  front_long = length-append (written_key key) contents ∙ ap (λ (k : ℕ). k + length contents) (key_long words (length contents))

  parts : record_bytes words contents ≡ written_key key ++ (contents ++ padding front)
  unfolding record_bytes
  parts = append_assoc (written_key key) contents (padding front)

  size : length (record_bytes words contents) ≡ key_size words + padded_size (key_size words) (length contents)
  unfolding record_bytes
  size = length-append front (padding front)
      ∙ ap (λ (k : ℕ). length front + k) (length-replicate ((4 - length front % 4) % 4) 0)
      ∙ ap (λ (k : ℕ). k + (4 - k % 4) % 4) front_long
      ∙ padded_is (key_size words) (length contents)

  aligned : length (record_bytes words contents) % 4 ≡ 0
  aligned = ap (λ (k : ℕ). k % 4) size ∙ padded_aligned (key_size words) (length contents)

  spelled : IsSpelledIn (SpellsKey key) (record_bytes words contents)
  spelled = (written_key key, contents ++ padding front, parts, new_key_spelled words (length contents) fits)

  data_are : drop (key_size words) (record_bytes words contents) ≡ contents ++ padding front
  data_are = ap (λ (k : ℕ). drop k (record_bytes words contents)) (sym (key_long words (length contents)))
      ∙ ap (drop (length (written_key key))) parts ∙ drop-append_seam (written_key key) (contents ++ padding front)

  pub is_new_record : IsNewRecord words contents
  is_new_record = record {
    size = size;
    aligned = aligned;
    key = spelled;
    key_read = λ place. ap value_of (ap (λ (b : List ℕ). key_head_at (standing place b)) parts ∙ key_again key (written_key key) place (contents ++ padding front) (new_key_spelled words (length contents) fits));
    zeros = (4 - length front % 4) % 4;
    few = omega arith;
    contents_are = data_are;
    whole = record {
      head = key;
      key = spelled;
      small = omega arith;
      seek = refl;
      nbytes = ap pos (sym size);
      parts = sym size;
      aligned = aligned;
    };
  }

pub are_new_records : AreNewRecords
are_new_records words contents fits = is_new_record words contents fits
