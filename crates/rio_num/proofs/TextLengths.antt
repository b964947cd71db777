-- How long the bytes of a text are.
use Rattle.std.proofs.Common.{◌≡◌, ℕ, ◌≤◌, Bool, true, false, cond, ltb, List, length, refl, ap, inl, inr, arith}
use Rattle.std.proofs.lemmas.{Bool.{ltb-false}, List.{length-append}}
use Rattle.byteorder.specs.Endian.{big_bytes}
use Rattle.rio_num.specs.Text.{SpellsText, long_form, short_form, text_bytes}

-- a text is no longer than its bytes
pub text_within : (text : List ℕ) → length text ≤ length (text_bytes text)
text_within text = by (ltb (length text) 255)
  where
    by : (b : Bool) → length text ≤ length (cond b (short_form text) (long_form text))
    by true = omega arith
    by false = omega (arith, length-append (big_bytes 4 (length text)) text)

-- what is written is the shortest spelling
pub shortest_text : (text bytes : List ℕ) → SpellsText text bytes → length (text_bytes text) ≤ length bytes
shortest_text text bytes s = by (ltb (length text) 255) refl s
  where
    by : (b : Bool) → ltb (length text) 255 ≡ b → SpellsText text bytes → length (cond b (short_form text) (long_form text)) ≤ length bytes
    by true e (inl x) = omega (arith, ap length x.1)
    by true e (inr x) = omega (arith, ap length x.1)
    by false e (inl x) = absurd (omega (arith, ltb-false _ _ e, x.0))
    by false e (inr x) = omega (arith, ap length x.1)

pub short_text_bytes : (text : List ℕ) → length text ≤ 100 → length (text_bytes text) ≤ 101
short_text_bytes text le = by (ltb (length text) 255) refl
  where
    by : (b : Bool) → ltb (length text) 255 ≡ b → length (cond b (short_form text) (long_form text)) ≤ 101
    by true e = omega (arith, le)
    by false e = absurd (omega (arith, le, ltb-false (length text) 255 e))
