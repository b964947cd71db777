-- The fields of the header and of the directory record may be anything: a file still has its chain.
use Rattle.std.proofs.Common.{◌≡◌, inl, inr, ℕ, suc, ◌+◌, ◌-◌, ◌%◌, ◌<◌, ◌≤◌, pos, List, [], ◌∷◌, ◌++◌, length, length-append, length-take, length-drop, take, drop, Some, refl, sym, ap, subst, ◌∙◌, arith}
use Rattle.std.proofs.{lemmas.List.{drop-append-le, drop-drop, drop-take, take-append-drop, take-take, take_at}, Math.Seq.{drop-append_seam, take-append-add}}
use Rattle.std.proofs.lemmas.Option.{slice_get_within}
use Rattle.std.specs.List.{slice_get}
use Rattle.byteorder.specs.Endian.{big_number}
use Rattle.rio_host.specs.ImageLaws.{slice_get-drop, slice_get-take}
use Rattle.rio_num.specs.Plain.{IsSpelledIn}
use Rattle.rio_num.proofs.Plain.{standing}
use Rattle.rio_key.specs.{Key.{SpellsKey}, declared.head.KeyHead.{KeyHead}}
use Rattle.rio_key.proofs.KeyParts.{parts_of_key}
use Rattle.rio_chain.specs.Segments.{GapAt, HasWord, HoldsEnd, HoldsRecord, IsChain, IsFirst, IsRecord, Link, RecordAt, chain_end, end_from}
use Rattle.rio_chain.proofs.{Chains.{KeepsIn, Parts, PlainLinks, chain_of, end-le, end_keeps, parts_of, plain_held}, Keys.{spelled_in_whole, spelled_one}}
use Rattle.rio_chain.proofs.Words.{has_own, word_keeps, word_one, word_within}
use Rattle.rio_close.specs.Fields.{IsOutsideFields}
use Rattle.rio_close.proofs.{FirstTexts.{HasTexts, has_texts}, Numbers.{HasNumber, any_number, bytes_keep, number_keeps, number_within}}

-- ---- the first link

pub record FirstLink (links : List Link) (file : List ℕ) : Type 0 where
  pub bytes : List ℕ
  pub others : List Link
  pub links_are : links ≡ RecordAt 100 bytes ∷ others
  pub whole : IsRecord 100 bytes
  pub first : IsFirst file bytes

pub first_link : (links : List Link) (file : List ℕ) → IsChain links file → FirstLink links file
first_link [] file chain = let late = chain.ends.later in absurd (omega (arith, late))
first_link (RecordAt p bytes ∷ others) file chain = record {
  bytes = bytes;
  others = others;
  links_are = ap (λ (q : ℕ). RecordAt q bytes ∷ others) chain.links_are.0.0;
  whole = chain.links_are.0.1.whole;
  first = chain.links_are.0.1.first refl;
}
first_link (GapAt p n ∷ others) file chain = let late = chain.links_are.0.1.later in absurd (omega (arith, late))

-- ---- the links behind

pub plain_behind : (old new : List ℕ) (place : ℕ) (links : List Link) → 100 < place → KeepsIn place (end_from place links) old new → PlainLinks old place links → PlainLinks new place links
plain_behind old new place links later = plain_held old new place links (λ bytes low. absurd (omega (arith, later, low)))

-- a key that is held by a front is spelled in it
spelled_front : (h : KeyHead) (bytes : List ℕ) (k : ℕ) → h.keylen ≤ k → IsSpelledIn (SpellsKey h) bytes → IsSpelledIn (SpellsKey h) (take k bytes)
spelled_front h bytes k le s =
    let m = k - length s.0 in
    let count : k ≡ length s.0 + m = omega (arith, le, (parts_of_key h s.0 s.3).title_held) in
    (s.0, take m s.1, ap (take k) s.2 ∙ ap (λ (c : ℕ). take c (s.0 ++ s.1)) count ∙ take-append-add s.0 s.1 m, s.3)

-- ---- the first record

-- bytes behind the header's first fields stay, but for the fields
abbrev pub KeepsChain : ℕ → List ℕ → List ℕ → Type 0
KeepsChain place old new = (i x : ℕ) → 28 ≤ i → IsOutsideFields place i → slice_get old i ≡ Some x → slice_get new i ≡ Some x

-- a chain with other bytes in the directory record
pub record OtherFields (file image bytes : List ℕ) (others : List Link) (head : KeyHead) (n : ℕ) : Type 0 where
  pub new : List ℕ
  pub long : length new ≡ length bytes
  pub chain : IsChain (RecordAt 100 new ∷ others) image
  pub whole : IsRecord 100 new
  pub head_is : whole.head ≡ head
  -- its bytes are as before, but for the fields of the directory record
  pub front : KeepsIn 0 (n + 6) bytes new
  pub back : KeepsIn (n + 30) (length bytes) bytes new
  -- the directory record stands in the first record, and has the version of before, a small one
  pub room : n + 60 ≤ length bytes
  pub version : ℕ
  pub version_there : HasNumber 2 image (100 + n) version
  pub small : version ≤ 1000
  pub end_within : chain_end (RecordAt 100 bytes ∷ others) + 4 ≤ length image

module _ (file image bytes : List ℕ) (others : List Link) (chain : IsChain (RecordAt 100 bytes ∷ others) file) (n place : ℕ) (word : HasWord file 28 n) (at : place ≡ n + 106) (keeps : KeepsChain place file image) where
  abbrev held : HoldsRecord file 100 bytes
  held = chain.links_are.0.1

  abbrev first : IsFirst file bytes
  first = held.first refl

  texts : HasTexts first.head.keylen bytes first.directory
  texts = has_texts first.head.keylen bytes first.directory first.texts

  place_is : first.directory.place ≡ n
  place_is = word_one file 28 first.directory.place n first.nbytes_name word

  size : length bytes - first.head.keylen ≡ length texts.texts + length first.directory.rest
  size = sym (length-drop first.head.keylen bytes) ∙ ap length texts.parts ∙ length-append texts.texts first.directory.rest

  n_is : n ≡ first.head.keylen + length texts.texts
  n_is = sym place_is ∙ texts.place

  room : n + 60 ≤ length bytes
  room = omega (arith, size, n_is, first.room)

  abbrev end : ℕ
  end = chain_end (RecordAt 100 bytes ∷ others)

  end_low : 100 + length bytes ≤ end
  end_low = end-le (100 + length bytes) others

  -- what stands in the first record in front of the fields, and all behind it, stays
  front_keeps : KeepsIn 45 (n + 106) file image
  front_keeps i x low high was = keeps i x (omega (arith, low)) (inr (omega (arith, low)), inr low, inl (omega (arith, high, at))) was

  behind_keeps : (to : ℕ) → KeepsIn (100 + length bytes) to file image
  behind_keeps to i x low high was = keeps i x (omega (arith, low)) (inr (omega (arith, low)), inr (omega (arith, low)), inr (omega (arith, low, room, at))) was

  ends : HoldsEnd image end
  ends = end_keeps file image end (λ i x low high was. behind_keeps (end + 4) i x (omega (arith, low, end_low)) high was) chain.ends

  within : end + 4 ≤ length image
  within = word_within image end 0 ends.zero_word

  abbrev new : List ℕ
  new = take (length bytes) (drop 100 image)

  new_long : length new ≡ length bytes
  new_long = omega (arith, length-take (length bytes) (drop 100 image), length-drop 100 image, within, end_low)

  -- a byte in front of the fields
  new_front : KeepsIn 0 (n + 6) bytes new
  new_front i x low high was =
      let lt : i < length bytes = slice_get_within bytes i x was in
      slice_get-take (length bytes) i (drop 100 image) lt ∙ slice_get-drop 100 i (100 + i) image refl
      ∙ front_keeps (100 + i) x (omega arith) (omega (arith, high)) (held.there i x was)

  -- and one behind them
  new_back : KeepsIn (n + 30) (length bytes) bytes new
  new_back i x low high was =
      slice_get-take (length bytes) i (drop 100 image) high ∙ slice_get-drop 100 i (100 + i) image refl
      ∙ keeps (100 + i) x (omega arith) (inr (omega arith), inr (omega arith), inr (omega (arith, low, at))) (held.there i x was)

  same_front : take (n + 6) new ≡ take (n + 6) bytes
  same_front =
      let count : suc (n + 5) ≡ n + 6 = omega arith in
      subst (λ (k : ℕ). take k new ≡ take k bytes) count (bytes_keep (n + 5) bytes new 0 (omega (arith, room)) (λ i x low high was. new_front i x low (omega (arith, high)) was))

  same_head : first.head ≡ held.whole.head
  same_head = spelled_one first.head held.whole.head bytes first.key held.whole.key

  spelled_new : (h : KeyHead) → h.keylen ≤ n → IsSpelledIn (SpellsKey h) bytes → IsSpelledIn (SpellsKey h) new
  spelled_new h le s =
      spelled_in_whole h (take (n + 6) new) (drop (n + 6) new) new (sym (take-append-drop (n + 6) new)) (subst (IsSpelledIn (SpellsKey h)) (sym same_front) (spelled_front h bytes (n + 6) (omega (arith, le)) s))

  abbrev whole : IsRecord 100 new
  whole = record {
    head = held.whole.head;
    key = spelled_new held.whole.head (omega (arith, n_is, ap (λ (h : KeyHead). h.keylen) same_head)) held.whole.key;
    small = held.whole.small;
    seek = held.whole.seek;
    nbytes = held.whole.nbytes ∙ ap pos (sym new_long);
    parts = held.whole.parts ∙ sym new_long;
    aligned = subst (λ (k : ℕ). k % 4 ≡ 0) (sym new_long) held.whole.aligned;
  }

  -- the texts
  short_front : take n new ≡ take n bytes
  short_front =
      let le : n ≤ n + 6 = omega arith in
      sym (take-take n (n + 6) new le) ∙ ap (take n) same_front ∙ take-take n (n + 6) bytes le

  texts_front : drop first.head.keylen (take n bytes) ≡ texts.texts
  texts_front =
      ap (λ (c : ℕ). drop first.head.keylen (take c bytes)) n_is ∙ drop-take first.head.keylen (length texts.texts) bytes
      ∙ ap (take (length texts.texts)) texts.parts ∙ take_at texts.texts first.directory.rest (length texts.texts) refl

  texts_new : drop first.head.keylen new ≡ texts.texts ++ drop n new
  texts_new =
      let long : first.head.keylen ≤ length (take n new) = omega (arith, length-take n new, new_long, room, n_is) in
      ap (drop first.head.keylen) (sym (take-append-drop n new)) ∙ drop-append-le first.head.keylen (take n new) (drop n new) long
      ∙ ap (λ (l : List ℕ). drop first.head.keylen l ++ drop n new) short_front ∙ ap (λ (l : List ℕ). l ++ drop n new) texts_front

  -- the version
  rest_is : drop n bytes ≡ first.directory.rest
  rest_is =
      ap (λ (c : ℕ). drop c bytes) n_is ∙ sym (drop-drop (length texts.texts) first.head.keylen bytes)
      ∙ ap (drop (length texts.texts)) texts.parts ∙ drop-append_seam texts.texts first.directory.rest

  old_version : HasNumber 2 bytes n (big_number 2 (drop n bytes))
  old_version = any_number 2 bytes n (omega (arith, room))

  new_version : HasNumber 2 new n (big_number 2 (drop n bytes))
  new_version = number_keeps 1 bytes new n (big_number 2 (drop n bytes)) (λ i x low high was. new_front i x (omega arith) (omega (arith, high)) was) old_version

  small_version : big_number 2 (drop n bytes) ≤ 1000
  small_version = subst (λ (l : List ℕ). big_number 2 l ≤ 1000) (sym rest_is) first.small

  first_new : IsFirst image new
  first_new = record {
    head = first.head;
    key = spelled_new first.head (omega (arith, n_is)) first.key;
    class = first.class;
    directory = standing first.directory.place (drop n new);
    texts = texts.again new (drop n new) texts_new;
    room = omega (arith, room, new_long, length-drop n new);
    small = subst (λ (k : ℕ). k ≤ 1000) (sym new_version.number) small_version;
    nbytes_name = word_keeps file image 28 first.directory.place (λ i x low high was. keeps i x low (inr low, inl (omega (arith, high)), inl (omega (arith, high, at))) was) first.nbytes_name;
  }

  parts : Parts (RecordAt 100 bytes ∷ others) file
  parts = parts_of (RecordAt 100 bytes ∷ others) file chain

  chain_new : IsChain (RecordAt 100 new ∷ others) image
  chain_new =
      let next : 100 + length bytes ≡ 100 + length new = ap (λ (k : ℕ). 100 + k) (sym new_long) in
      chain_of (RecordAt 100 new ∷ others) image (record {
        plain = (
          (refl, record { there = has_own image 100 (length bytes); whole = whole; first = λ is. first_new }),
          subst (λ (k : ℕ). PlainLinks image k others) next (plain_behind file image (100 + length bytes) others (omega (arith, room)) (λ i x low high was. behind_keeps end i x low high was) parts.plain.1),
        );
        spaced = parts.spaced;
        ends = subst (λ (k : ℕ). HoldsEnd image (end_from k others)) next ends;
      })

  pub other_fields : OtherFields file image bytes others held.whole.head n
  other_fields = record {
    new = new;
    long = new_long;
    chain = chain_new;
    whole = whole;
    head_is = refl;
    front = new_front;
    back = new_back;
    room = room;
    version = big_number 2 (drop n bytes);
    version_there = number_within image 100 new 1 n (big_number 2 (drop n bytes)) (has_own image 100 (length bytes)) new_version;
    small = small_version;
    end_within = within;
  }
