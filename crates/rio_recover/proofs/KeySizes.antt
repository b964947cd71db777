-- How long a key of the small form is, as it is written.
use Rattle.std.proofs.Common.{◌≡◌, ◌∙◌, ℕ, ◌+◌, ◌≤◌, Bool, true, false, cond, ltb, List, [], ◌++◌, codes, length, length-append, refl, ap, arith}
use Rattle.std.proofs.lemmas.{Bool.{and_from, eq-eqb, eqb-true, le-leb, le-ltb, lt-ltb, ltb-false, ltb-true}, List.{nil_from_length}}
use Rattle.std.specs.Int.{w32, cast_unsigned}
use Rattle.byteorder.specs.Endian.{big_bytes}
use Rattle.rio_num.specs.{At.{place_len_of}, Text.{long_form, short_form, text_bytes}}
use Rattle.rio_num.proofs.TextLengths.{text_within}
use Rattle.rio_key.specs.{Written.{number_bytes, written_key}, declared.head.KeyHead.{KeyHead}}
use Rattle.rio_chain.specs.Found.{IsShortKey}
use Rattle.rio_machine.specs.Limits.{head_length}
use Rattle.rio_recover.specs.{Checks.{is_untitled}, Closable.{is_fit_key, is_sized, name_limit}}

four : (version : ℕ) → version ≤ 1000 → place_len_of version ≡ 4
four version le = ap (λ (b : Bool). cond b 8 4) (le-ltb 1000 version (omega (arith, le)))

numbers_long : (h : KeyHead) (nbytes : ℕ) → h.version ≤ 1000 → length (number_bytes h nbytes) ≡ 26
numbers_long h nbytes small = ap long (four h.version small) ∙ omega arith
  where
    long : ℕ → ℕ
    long n =
        length (big_bytes 4 nbytes ++ (big_bytes 2 h.version ++ (big_bytes 4 h.objlen ++ (big_bytes 4 h.datime ++ (big_bytes 2 h.keylen ++ (big_bytes 2 h.cycle ++ (big_bytes n h.seek ++ big_bytes n h.pdir)))))))

pub written_long : (h : KeyHead) → h.version ≤ 1000 → length (written_key h) ≡ 26 + length (text_bytes h.class) + length (text_bytes h.name) + length (text_bytes h.title)
written_long h small =
    let numbers = number_bytes h (cast_unsigned w32 h.nbytes) in
    omega (
      arith,
      numbers_long h (cast_unsigned w32 h.nbytes) small,
      length-append numbers (text_bytes h.class ++ (text_bytes h.name ++ text_bytes h.title)),
      length-append (text_bytes h.class) (text_bytes h.name ++ text_bytes h.title),
      length-append (text_bytes h.name) (text_bytes h.title),
    )

pub sized_key : (h : KeyHead) → h.version ≤ 1000 → is_untitled h ≡ true → is_sized h ≡ true
sized_key h small untitled =
    let none : h.title ≡ [] = nil_from_length h.title (eqb-true (length h.title) 0 untitled) in
    let title : length (text_bytes h.title) ≡ length (text_bytes []) = ap (λ (t : List ℕ). length (text_bytes t)) none in
    eq-eqb (length (written_key h)) (head_length h.class h.name) (omega (arith, written_long h small, title))

pub fit_key : (h : KeyHead) → h.version ≤ 1000 → IsShortKey h → is_untitled h ≡ true → is_fit_key h ≡ true
fit_key h small short untitled =
    let long = written_long h small in
    let class : length h.class ≤ 65535 = omega (arith, long, short.size, text_within h.class) in
    let name : length h.name ≤ 65535 = omega (arith, long, short.size, text_within h.name) in
    and_from _ _ (and_from _ _ (and_from _ _ (and_from _ _ (lt-ltb _ _ short.fits.seek) (lt-ltb _ _ short.fits.pdir)) (le-leb _ _ class)) (le-leb _ _ name)) untitled

-- ---- the first key

some_text : (text : List ℕ) → 1 ≤ length (text_bytes text)
some_text text = by (ltb (length text) 255)
  where
    by : (b : Bool) → 1 ≤ length (cond b (short_form text) (long_form text))
    by true = omega arith
    by false = omega (arith, length-append (big_bytes 4 (length text)) text)

long_text : (text : List ℕ) → 255 ≤ length text → 5 + length text ≤ length (text_bytes text)
long_text text long = by (ltb (length text) 255) refl
  where
    by : (b : Bool) → ltb (length text) 255 ≡ b → 5 + length text ≤ length (cond b (short_form text) (long_form text))
    by true e = absurd (omega (arith, ltb-true (length text) 255 e, long))
    by false e = omega (arith, length-append (big_bytes 4 (length text)) text)

pub file_name : (h : KeyHead) → h.version ≤ 1000 → IsShortKey h → h.class ≡ codes "TFile" → length h.name ≤ name_limit
file_name h small short class = by (ltb (length h.name) 255) refl
  where
    own : length (text_bytes h.class) ≡ 6
    own = ap (λ (c : List ℕ). length (text_bytes c)) class

    by : (b : Bool) → ltb (length h.name) 255 ≡ b → length h.name ≤ name_limit
    by true e = omega (arith, ltb-true (length h.name) 255 e)
    by false e = omega (arith, written_long h small, short.size, own, some_text h.title, long_text h.name (ltb-false (length h.name) 255 e))
