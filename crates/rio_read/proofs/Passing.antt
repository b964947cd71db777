-- Numbers that are passed over.
use Rattle.std.proofs.Common.{◌≡◌, inl, inr, ℕ, zero, suc, ◌/◌, Bool, true, false, ltb, ◌+◌, ◌-◌, ◌*◌, ◌<◌, ◌≤◌, List, ◌∷◌, length, drop, Result, Ok, Err, refl, sym, ap, subst, ◌∙◌, arith}
use Rattle.std.proofs.{Math.Nat.{div-mul-le_self, le-div_iff_mul-le, suc-mul}, lemmas.Bool.{lt-ltb, le-ltb, cases_lt}, lemmas.List.{length-drop, drop-drop}}
use Rattle.rio_num.specs.{Reading.{skip}, Meanings.{read}, Layout.{any, each, times}}
use Rattle.rio_format.specs.{declared.kind.Primitive.{Primitive}, declared.value.Value.{Value}, Frames.{ReadsAs, Step}, Reader.{TakesStep}, ReaderState.{ReaderState}, declared.fault.ObjFault.{ObjFault, TheVariants.{Short}}}
use Rattle.rio_format.specs.{Objects.{number_value}, Prims.{value_of_prim, width_of}}
use Rattle.byteorder.specs.Endian.{big_number}
use Rattle.rio_read.specs.Passing.{pass_of}
use Rattle.rio_read.proofs.Steps.{step_as-twice}

abbrev pub fault : ObjFault → Step (Unit {0})
fault e = Err e

abbrev pub at_end : ReaderState → Step (Unit {0})
at_end s = Ok (tt, s)

-- so many bytes further
abbrev pub past : ℕ → ReaderState → ReaderState
past n s = record s { at = skip n s.at }

past_none : (s : ReaderState) → s ≡ past 0 s
past_none s =
    let place : s.at.place ≡ s.at.place + 0 = omega arith in
    ap (λ (p : ℕ). let t : ReaderState = record s { at = record { place = p; rest = s.at.rest } } in t) place

past_past : (a b : ℕ) (s : ReaderState) → past a (past b s) ≡ past (b + a) s
past_past a b s =
    let place : (s.at.place + b) + a ≡ s.at.place + (b + a) = omega arith in
    ap (λ (p : ℕ). let t : ReaderState = record s { at = record { place = p; rest = drop a (drop b s.at.rest) } } in t) place
    ∙ ap (λ (r : List ℕ). let t : ReaderState = record s { at = record { place = s.at.place + (b + a); rest = r } } in t) (drop-drop a b s.at.rest)

abbrev end_or : ReaderState → Step (Unit {0}) → ReaderState
end_or s (Ok x) = x.1
end_or s (Err e) = s

same_end : (s t : ReaderState) → at_end s ≡ at_end t → s ≡ t
same_end s t e = ap (end_or s) e

any_ok : (n : ℕ) (s : ReaderState) → n ≤ length s.at.rest → read (any Short n) s ≡ at_end (past n s)
any_ok n s le = rw (le-ltb (length s.at.rest) n le) refl

any_cut : (n : ℕ) (s : ReaderState) → length s.at.rest < n → read (any Short n) s ≡ fault (Short s.at.place n)
any_cut n s lt = rw (lt-ltb (length s.at.rest) n lt) refl

module _ (of : Primitive) where
  number_ok : (s : ReaderState) → width_of of ≤ length s.at.rest → (v : Value) × (read (number_value of) s ≡ Ok (v, past (width_of of) s))
  unfolding number_value
  number_ok s le = (value_of_prim of (big_number (width_of of) s.at.rest), rw (le-ltb (length s.at.rest) (width_of of) le) refl)

  number_cut : (s : ReaderState) → length s.at.rest < width_of of → read (number_value of) s ≡ Err (Short s.at.place (width_of of))
  unfolding number_value
  number_cut s lt = rw (lt-ltb (length s.at.rest) (width_of of) lt) refl

  one_more : (n : ℕ) (s : ReaderState) → width_of of ≤ length s.at.rest → read (pass_of (times (suc n) (number_value of))) s ≡ read (pass_of (times n (number_value of))) (past (width_of of) s)
  unfolding each
  one_more n s le =
      let one = number_ok s le in
      rw one.1 (step_as-twice (λ (ys : List Value). one.0 ∷ ys) (λ ys. tt) (read (times n (number_value of)) (past (width_of of) s)))

  none_more : (n : ℕ) (s : ReaderState) → length s.at.rest < width_of of → read (pass_of (times (suc n) (number_value of))) s ≡ fault (Short s.at.place (width_of of))
  unfolding each
  none_more n s lt = rw (number_cut s lt) refl

  -- so many numbers that are there, which are q bytes
  so_many : (k n q : ℕ) (s : ReaderState) → q ≡ k * width_of of → q ≤ length s.at.rest → read (pass_of (times (k + n) (number_value of))) s ≡ read (pass_of (times n (number_value of))) (past q s)
  so_many zero n q s is le =
      let none : 0 ≡ q = omega (arith, is) in
      let start : zero + n ≡ n = omega arith in
      ap (λ (m : ℕ). read (pass_of (times m (number_value of))) s) start
      ∙ subst (λ (p : ℕ). read (pass_of (times n (number_value of))) s ≡ read (pass_of (times n (number_value of))) (past p s)) none (ap (λ (t : ReaderState). read (pass_of (times n (number_value of))) t) (past_none s))
  so_many (suc k) n q s is le =
      let w = width_of of in
      let whole : q ≡ k * w + w = is ∙ suc-mul k w in
      let one : w ≤ length s.at.rest = omega (arith, whole) in
      let more : q - w ≡ k * w = omega (arith, whole) in
      let left : q - w ≤ length (past w s).at.rest = omega (arith, length-drop w s.at.rest, le) in
      let end : w + (q - w) ≡ q = omega (arith, whole) in
      let split : suc k + n ≡ suc (k + n) = omega arith in
      ap (λ (m : ℕ). read (pass_of (times m (number_value of))) s) split
      ∙ one_more (k + n) s one
      ∙ so_many k n (q - w) (past w s) more left
      ∙ ap (λ (t : ReaderState). read (pass_of (times n (number_value of))) t) (past_past (q - w) w s ∙ ap (λ (m : ℕ). past m s) end)

  enough_there : (n : ℕ) (s : ReaderState) → n * width_of of ≤ length s.at.rest → read (pass_of (times n (number_value of))) s ≡ read (any Short (n * width_of of)) s
  unfolding each
  enough_there n s le =
      let all : n ≡ n + 0 = omega arith in
      ap (λ (m : ℕ). read (pass_of (times m (number_value of))) s) all
      ∙ so_many n 0 (n * width_of of) s refl le
      ∙ sym (any_ok (n * width_of of) s le)

  too_few_there : (n k : ℕ) (s s1 : ReaderState) → k < n → k * width_of of ≤ length s.at.rest → length s.at.rest < k * width_of of + width_of of → read (any Short (k * width_of of)) s ≡ at_end s1
      → read (pass_of (times n (number_value of))) s ≡ read (any Short (width_of of)) s1
  too_few_there n k s s1 lt le few e =
      let q = k * width_of of in
      let there : past q s ≡ s1 = same_end (past q s) s1 (sym (any_ok q s le) ∙ e) in
      let cut : length (past q s).at.rest < width_of of = omega (arith, length-drop (k * width_of of) s.at.rest, few) in
      let split : n ≡ k + suc (n - (k + 1)) = omega (arith, lt) in
      ap (λ (m : ℕ). read (pass_of (times m (number_value of))) s) split
      ∙ so_many k (suc (n - (k + 1))) q s refl le
      ∙ none_more (n - (k + 1)) (past q s) cut
      ∙ sym (any_cut (width_of of) (past q s) cut)
      ∙ ap (λ (t : ReaderState). read (any Short (width_of of)) t) there

few_left : (l w : ℕ) → 0 < w → l < l / w * w + w
few_left l w some =
    elim (cases_lt l (l / w * w + w)) [
      | inl lt ↦ lt
      | inr le ↦
          let more : suc (l / w) * w ≤ l = omega (arith, suc-mul (l / w) w, le) in
          let no : suc (l / w) ≤ l / w = (le-div_iff_mul-le some).1 more in
          absurd (omega (arith, no))
    ]

module _ (of : Primitive) (n w l : ℕ) (s : ReaderState) where
  pub enough : w ≡ width_of of → l ≡ length s.at.rest → 0 < w → n ≤ l / w → read (pass_of (times n (number_value of))) s ≡ read (any Short (n * w)) s
  enough is left some le =
      let fits : n * w ≤ l = (le-div_iff_mul-le some).0 le in
      let there : n * width_of of ≤ length s.at.rest = subst (λ (v : ℕ). n * v ≤ length s.at.rest) is (subst (λ (k : ℕ). n * w ≤ k) left fits) in
      subst (λ (v : ℕ). read (pass_of (times n (number_value of))) s ≡ read (any Short (n * v)) s) (sym is) (enough_there of n s there)

  pub too_few : (s1 : ReaderState) → w ≡ width_of of → l ≡ length s.at.rest → 0 < w → l / w < n → read (any Short (l / w * w)) s ≡ at_end s1 → read (pass_of (times n (number_value of))) s ≡ read (any Short w) s1
  too_few s1 is left some lt e =
      let whole : l / w * w ≤ length s.at.rest = subst (λ (k : ℕ). l / w * w ≤ k) left (div-mul-le_self l w) in
      let few : length s.at.rest < l / w * w + w = subst (λ (k : ℕ). k < l / w * w + w) left (few_left l w some) in
      let there : read (pass_of (times n (number_value of))) s ≡ read (any Short (width_of of)) s1 =
      too_few_there of n (l / w) s s1 lt (subst (λ (v : ℕ). l / w * v ≤ length s.at.rest) is whole) (subst (λ (v : ℕ). length s.at.rest < l / w * v + v) is few) (subst (λ (v : ℕ). read (any Short (l / w * v)) s ≡ at_end s1) is e) in
      subst (λ (v : ℕ). read (pass_of (times n (number_value of))) s ≡ read (any Short v) s1) (sym is) there

pub never_cut : (w l : ℕ) (s : ReaderState) (d : ObjFault) → l ≡ length s.at.rest → read (any Short (l / w * w)) s ≡ fault d → ⊥
never_cut w l s d left e =
    let whole : l / w * w ≤ length s.at.rest = subst (λ (k : ℕ). l / w * w ≤ k) left (div-mul-le_self l w) in
    let there : at_end (past (l / w * w) s) ≡ fault d = sym (any_ok (l / w * w) s whole) ∙ e in
    absurd cc

-- what was taken is read
pub taken : (result : Result (Unit {0}) ObjFault) (step : Step (Unit {0})) (old new : ReaderState) → TakesStep (λ (x : Unit {0}). tt) result step old new → ReadsAs (λ (x : Unit {0}). x) result step new
taken (Ok x) step old new e = e
taken (Err d) step old new e = λ ne. e.0

pub one_number : (of : Primitive) (s : ReaderState) → read (pass_of (number_value of)) s ≡ read (any Short (width_of of)) s
unfolding number_value
one_number of s = by (ltb (length s.at.rest) (width_of of)) refl
  where
    by : (b : Bool) → ltb (length s.at.rest) (width_of of) ≡ b → read (pass_of (number_value of)) s ≡ read (any Short (width_of of)) s
    by true e = rw e refl
    by false e = rw e refl
