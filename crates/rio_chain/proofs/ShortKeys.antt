-- A key that is spelled is short where it is written.
use Rattle.std.proofs.Common.{◌≡◌, ⊎_elim, ℕ, ◌+◌, ◌^◌, ◌<◌, ◌≤◌, Bool, true, false, cond, List, ◌++◌, length, length-append, ap, ◌∙◌, arith}
use Rattle.std.specs.Int.{w32, cast_unsigned}
use Rattle.byteorder.specs.{Endian.{big_bytes}, Numbers.{length-bytes_high_first}}
use Rattle.rio_num.specs.{Text.{SpellsText, long_form, short_form, text_bytes}, Plain.{IsSpelledIn}, At.{place_len_of}}
use Rattle.rio_num.proofs.TextLengths.{shortest_text}
use Rattle.rio_key.specs.{Key.{SpellsKey}, Written.{number_bytes}, declared.head.KeyHead.{KeyHead}}
use Rattle.rio_key.proofs.KeyParts.{parts_of_key}
use Rattle.rio_chain.specs.Found.{IsShortKey}

long_length : (text : List ℕ) → length (long_form text) ≡ length text + 5
long_length text = omega (arith, length-append (big_bytes 4 (length text)) text, length-bytes_high_first 4 (length text))

-- what is written of a text is no longer than what spells it
written_by : (text : List ℕ) (b : Bool) → length (cond b (short_form text) (long_form text)) ≤ length text + 5
written_by text true = omega arith
written_by text false = omega (arith, long_length text)

-- its numbers are as long whatever length they say
numbers_long : (h : KeyHead) (n : ℕ) → length (number_bytes h n) ≡ 18 + (place_len_of h.version + place_len_of h.version)
numbers_long h n =
    let a1 = big_bytes 4 n in
    let a2 = big_bytes 2 h.version in
    let a3 = big_bytes 4 h.objlen in
    let a4 = big_bytes 4 h.datime in
    let a5 = big_bytes 2 h.keylen in
    let a6 = big_bytes 2 h.cycle in
    let a7 = big_bytes (place_len_of h.version) h.seek in
    let a8 = big_bytes (place_len_of h.version) h.pdir in
    omega (
      arith,
      length-append a1 (a2 ++ (a3 ++ (a4 ++ (a5 ++ (a6 ++ (a7 ++ a8)))))),
      length-append a2 (a3 ++ (a4 ++ (a5 ++ (a6 ++ (a7 ++ a8))))),
      length-append a3 (a4 ++ (a5 ++ (a6 ++ (a7 ++ a8)))),
      length-append a4 (a5 ++ (a6 ++ (a7 ++ a8))),
      length-append a5 (a6 ++ (a7 ++ a8)),
      length-append a6 (a7 ++ a8),
      length-append a7 a8,
      length-bytes_high_first 4 n,
      length-bytes_high_first 2 h.version,
      length-bytes_high_first 4 h.objlen,
      length-bytes_high_first 4 h.datime,
      length-bytes_high_first 2 h.keylen,
      length-bytes_high_first 2 h.cycle,
      length-bytes_high_first (place_len_of h.version) h.seek,
      length-bytes_high_first (place_len_of h.version) h.pdir,
    )

three_long : (a b c d : List ℕ) → length (a ++ (b ++ (c ++ d))) ≡ length a + (length b + (length c + length d))
three_long a b c d = omega (arith, length-append a (b ++ (c ++ d)), length-append b (c ++ d), length-append c d)

text_within : (text bytes : List ℕ) (n : ℕ) → SpellsText text bytes → length bytes < n → length text < n
text_within text bytes n s lt = ⊎_elim
    (λ short. omega (arith, lt, ap length short.1))
    (λ long. omega (arith, lt, ap length long.1, long_length text))
    s

pub short_key : (h : KeyHead) (bytes : List ℕ) → IsSpelledIn (SpellsKey h) bytes → IsShortKey h
short_key h bytes is =
    let k = parts_of_key h is.0 is.3 in
    let s = k.fields in
    let whole : length is.0 ≡ length (number_bytes h s.nbytes) + (length s.class_bytes + (length s.name_bytes + length s.title_bytes)) =
    ap length s.parts ∙ three_long (number_bytes h s.nbytes) s.class_bytes s.name_bytes s.title_bytes in
    let written = three_long (number_bytes h (cast_unsigned w32 h.nbytes)) (text_bytes h.class) (text_bytes h.name) (text_bytes h.title) in
    let n1 = numbers_long h s.nbytes in
    let n2 = numbers_long h (cast_unsigned w32 h.nbytes) in
    let held = k.title_held in
    let small = s.numbers.keylen in
    record {
      fits = record {
        seek = s.numbers.seek;
        pdir = s.numbers.pdir;
        class = text_within h.class s.class_bytes (2 ^ 32) s.class_spelled (omega (arith, whole, held, small));
        name = text_within h.name s.name_bytes (2 ^ 32) s.name_spelled (omega (arith, whole, held, small));
        title = text_within h.title s.title_bytes (2 ^ 32) s.title_spelled (omega (arith, whole, held, small));
      };
      size = omega (arith, whole, written, n1, n2, held, small, shortest_text h.class s.class_bytes s.class_spelled, shortest_text h.name s.name_bytes s.name_spelled, shortest_text h.title s.title_bytes s.title_spelled);
    }
