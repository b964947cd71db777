-- Lists of numbers: as many are read as the bytes have.
use Rattle.std.proofs.Common.{◌≡◌, ◌⊎◌, inl, inr, ℕ, zero, suc, ◌+◌, ◌<◌, ◌≤◌, min, List, length, Bool, true, false, ltb, Ok, Err, refl, sym, ap, ◌∙◌, arith}
use Rattle.std.proofs.{lemmas.Bool.{cases_lt, ltb-false}, lemmas.List.{length-drop}}
use Rattle.byteorder.specs.Endian.{big_number}
use Rattle.rio_num.specs.{Layout.{each, number, times}, Meanings.{read}, Reading.{skip}}
use Rattle.rio_num.proofs.ReadLaws.{bind_ok, ok_is}
use Rattle.rio_format.specs.{Frames.{Step}, ReaderState.{ReaderState}, declared.fault.ObjFault.{ObjFault, TheVariants.{Short}}, Objects.{number_value, numbers}, Prims.{value_of_prim, width_of}}
use Rattle.rio_format.specs.{declared.kind.Primitive.{Primitive}, declared.value.Value.{Value, List as Items}}
use Rattle.rio_format.proofs.ComposedLengths.{width_some}
use Rattle.rio_entry.specs.Bounds.{most_values}

-- what reading a number leaves
number_left : (n : ℕ) (s : ReaderState) (x : ℕ) (s1 : ReaderState) → 0 < n → read (number Short n) s ≡ Ok (x, s1) → length s1.at.rest < length s.at.rest
number_left n s x s1 some e = by (ltb (length s.at.rest) n) refl e
  where
    by : (b : Bool) → ltb (length s.at.rest) n ≡ b → read (number Short n) s ≡ Ok (x, s1) → length s1.at.rest < length s.at.rest
    by true few h = absurd (cc (rw few at h))
    by false few h =
        let le : n ≤ length s.at.rest = ltb-false _ _ few in
        let is = ok_is {E = ObjFault} (big_number n s.at.rest, record s { at = skip n s.at }) (x, s1) (rw few at h) in
        omega (arith, ap (λ (q : ℕ × ReaderState). length q.1.at.rest) is, length-drop n s.at.rest, le, some)

value_left : (of : Primitive) (s : ReaderState) (v : Value) (s1 : ReaderState) → read (number_value of) s ≡ Ok (v, s1) → length s1.at.rest < length s.at.rest
unfolding number_value
value_left of s v s1 e =
    let first = bind_ok (read (number Short (width_of of)) s) (λ (x : ℕ × ReaderState). let r : Step Value = Ok (value_of_prim of x.0, x.1) in r) (v, s1) e in
    let left = number_left (width_of of) s first.0.0 first.0.1 (width_some of) first.1 in
    let same = ok_is {E = ObjFault} (value_of_prim of first.0.0, first.0.1) (v, s1) first.2 in
    omega (arith, left, ap (λ (q : Value × ReaderState). length q.1.at.rest) same)

-- more than there are bytes for
abbrev AreAlike : Primitive → ℕ → ℕ → ReaderState → Type 0
AreAlike of n m s = length s.at.rest < n → length s.at.rest < m → read (times n (number_value of)) s ≡ read (times m (number_value of)) s

one_read : (of : Primitive) (n m : ℕ) (s : ReaderState) → ((u : ReaderState) → AreAlike of n m u) → (r : Step Value) → read (number_value of) s ≡ r → AreAlike of (suc n) (suc m) s
unfolding each
one_read of n m s rest (Err d) e lt low = rw e refl
one_read of n m s rest (Ok x) e lt low =
    let left = value_left of s x.0 x.1 e in
    let same = rest x.1 (omega (arith, left, lt)) (omega (arith, left, low)) in
    rw (e, same) refl

pub few_bytes : (of : Primitive) (n m : ℕ) (s : ReaderState) → length s.at.rest < n → length s.at.rest < m → read (times n (number_value of)) s ≡ read (times m (number_value of)) s
few_bytes of zero m s lt low = absurd (omega (arith, lt))
few_bytes of (suc n) zero s lt low = absurd (omega (arith, low))
few_bytes of (suc n) (suc m) s lt low = one_read of n m s (few_bytes of n m) (read (number_value of) s) refl lt low

-- as many as the count says, or more than there are bytes for
pub as_many : (of : Primitive) (count n m : ℕ) (s : ReaderState) → n ≡ min count most_values → m ≡ min n (length s.at.rest + 1) → length s.at.rest < most_values → read (times m (number_value of)) s ≡ read (times count (number_value of)) s
as_many of count n m s e f few = by (cases_lt (length s.at.rest) count)
  where
    by : (length s.at.rest < count) ⊎ (count ≤ length s.at.rest) → read (times m (number_value of)) s ≡ read (times count (number_value of)) s
    by (inl lt) = few_bytes of m count s (omega (arith, e, f, few, lt)) lt
    by (inr le) = let same : m ≡ count = omega (arith, e, f, few, le) in ap (λ (j : ℕ). read (times j (number_value of)) s) same

-- the list of them
module _ (of : Primitive) (count n m : ℕ) (s : ReaderState) (e : n ≡ min count most_values) (f : m ≡ min n (length s.at.rest + 1)) (few : length s.at.rest < most_values) where
  pub list_is_read : (vs : List Value) (s1 : ReaderState) → read (times m (number_value of)) s ≡ Ok (vs, s1) → read (numbers of count) s ≡ Ok (Items vs, s1)
  unfolding numbers
  list_is_read vs s1 h =
      let whole : read (times count (number_value of)) s ≡ Ok (vs, s1) = sym (as_many of count n m s e f few) ∙ h in
      rw whole refl

  pub list_fails : (d : ObjFault) → read (times m (number_value of)) s ≡ Err d → read (numbers of count) s ≡ Err d
  unfolding numbers
  list_fails d h =
      let whole : read (times count (number_value of)) s ≡ Err d = sym (as_many of count n m s e f few) ∙ h in
      rw whole refl
