-- A key list that stands in a file is read.
use Rattle.std.proofs.Common.{◌≡◌, ◌≢◌, inl, inr, append_assoc, ℕ, ◌-◌, ◌^◌, ◌<◌, ◌≤◌, List, [], ◌∷◌, ◌++◌, length, length-append, length-take, length-drop, take, drop, Ok, refl, sym, ap, ◌∙◌, arith}
use Rattle.std.proofs.lemmas.List.{take-append-drop}
use Rattle.std.specs.Int.{w32, cast_unsigned}
use Rattle.rio_num.specs.{Text.{SpellsText, text_bytes}, Plain.{IsSpelledIn}}
use Rattle.rio_num.proofs.TextLengths.{shortest_text}
use Rattle.rio_key.specs.{Key.{SpellsKey}, Written.{FitsKey, HoldsItself, number_bytes}, declared.head.KeyHead.{KeyHead}}
use Rattle.rio_key.proofs.KeyParts.{parts_of_key}
use Rattle.rio_host.specs.Image.{Has}
use Rattle.rio_host.proofs.Images.{has_length}
use Rattle.rio_chain.specs.Segments.{IsRecord}
use Rattle.rio_chain.proofs.Words.{has_own, has_same}
use Rattle.rio_dir.specs.{Closed.{closed_keys}, Table.{AreWritable, key_list_bytes}}
use Rattle.rio_dir.proofs.{ClosedLaws.{keys_again}, TableLaws.{list_spelled}}
use Rattle.rio_state.proofs.Members.{In}

-- ---- bytes that a file has

pub taken_there : (file : List ℕ) (place : ℕ) (bytes : List ℕ) → 1 ≤ length bytes → Has file place bytes → take (length bytes) (drop place file) ≡ bytes
taken_there file place bytes some has =
    let le = has_length file place bytes (length bytes - 1) (omega (arith, some)) has in
    has_same file place (take (length bytes) (drop place file)) bytes (omega (arith, le, length-take (length bytes) (drop place file), length-drop place file)) (has_own file place (length bytes)) has

pub parts_there : (file : List ℕ) (place : ℕ) (bytes : List ℕ) → 1 ≤ length bytes → Has file place bytes → drop place file ≡ bytes ++ drop (length bytes) (drop place file)
parts_there file place bytes some has =
    sym (take-append-drop (length bytes) (drop place file)) ∙ ap (λ (l : List ℕ). l ++ drop (length bytes) (drop place file)) (taken_there file place bytes some has)

-- ---- keys of whole records can be written

text_fits : (text bytes : List ℕ) → SpellsText text bytes → length text < 2 ^ 32
text_fits text bytes (inl x) = omega (arith, x.0)
text_fits text bytes (inr x) = x.0

pub record Writable (h : KeyHead) : Type 0 where
  pub fits : FitsKey h
  pub holds : HoldsItself h

pub writable : (place : ℕ) (bytes : List ℕ) (w : IsRecord place bytes) → Writable w.head
writable place bytes w =
    let h = w.head in
    let k = parts_of_key h w.key.0 w.key.3 in
    let s = k.fields in
    let n = cast_unsigned w32 h.nbytes in
    let numbers : length (number_bytes h n) ≡ length (number_bytes h s.nbytes) = refl in
    let long = ap length s.parts ∙ length-append (number_bytes h s.nbytes) (s.class_bytes ++ (s.name_bytes ++ s.title_bytes)) in
    let own = length-append (number_bytes h n) (text_bytes h.class ++ (text_bytes h.name ++ text_bytes h.title)) in
    record {
      fits = record {
        seek = s.numbers.seek;
        pdir = s.numbers.pdir;
        class = text_fits h.class s.class_bytes s.class_spelled;
        name = text_fits h.name s.name_bytes s.name_spelled;
        title = text_fits h.title s.title_bytes s.title_spelled;
      };
      holds = record {
        numbers = s.numbers;
        nbytes = s.nbytes;
        length_is = k.length_is;
        length_fits = k.length_fits;
        key_held = k.key_held;
        title_held = omega (
          arith,
          k.title_held,
          numbers,
          long,
          own,
          length-append s.class_bytes (s.name_bytes ++ s.title_bytes),
          length-append s.name_bytes s.title_bytes,
          length-append (text_bytes h.class) (text_bytes h.name ++ text_bytes h.title),
          length-append (text_bytes h.name) (text_bytes h.title),
          shortest_text h.class s.class_bytes s.class_spelled,
          shortest_text h.name s.name_bytes s.name_spelled,
          shortest_text h.title s.title_bytes s.title_spelled,
        );
      };
    }

pub all_writable : (heads : List KeyHead) → ((h : KeyHead) → In h heads → Writable h) → AreWritable heads
all_writable [] all = tt
all_writable (h ∷ hs) all = let w = all h (inl refl) in ((w.fits, w.holds), all_writable hs (λ k i. all k (inr i)))

-- ---- the list

-- a key list's record, of this key and with these heads, is read at its place
pub list_read : (file : List ℕ) (place : ℕ) (bytes : List ℕ) (key : KeyHead) (heads : List KeyHead) (zeros : List ℕ) → place ≢ 0 → 1 ≤ length bytes → Has file place bytes → IsSpelledIn (SpellsKey key) bytes
    → cast_unsigned w32 key.nbytes ≡ length bytes → drop key.keylen bytes ≡ key_list_bytes heads ++ zeros → length heads < 2 ^ 32 → AreWritable heads → closed_keys file place ≡ Ok heads
list_read file place bytes key heads zeros somewhere some has spelled size contents few are =
    let more = drop (length bytes) (drop place file) in
    let taken : drop key.keylen (take (cast_unsigned w32 key.nbytes) (drop place file)) ≡ key_list_bytes heads ++ zeros =
    ap (λ (n : ℕ). drop key.keylen (take n (drop place file))) size ∙ ap (drop key.keylen) (taken_there file place bytes some has) ∙ contents in
    keys_again file place heads (inr (record {
      somewhere = somewhere;
      key = key;
      key_spelled = (spelled.0, spelled.1 ++ more, parts_there file place bytes some has ∙ ap (λ (l : List ℕ). l ++ more) spelled.2 ∙ append_assoc spelled.0 spelled.1 more, spelled.3);
      list_spelled = (key_list_bytes heads, zeros, taken, list_spelled heads few are);
    }))
