-- The gap that a byte lies in.
use Rattle.std.proofs.Common.{◌≡◌, ℕ, zero, suc, ◌+◌, ◌-◌, ◌<◌, ◌≤◌, Bool, true, false, cond, ltb, leb, List, [], ◌∷◌, length, get_or, Option, Some, None, refl, sym, ap, subst, ◌∙◌, arith}
use Rattle.std.proofs.{lemmas.Bool.Decides.{nat_tests}, Math.Numerals.{one-add}}
use Rattle.std.specs.List.{prefix_len}
use Rattle.rio_free.specs.{Gaps.{AreGapsFrom, gap_end, gap_over, lies_in}, declared.gap.Gap.{Gap}}

-- no byte lies in gaps that begin behind it
pub over_none : (from byte : ℕ) (gaps : List Gap) → AreGapsFrom from gaps → byte < from → gap_over byte gaps ≡ None
over_none from byte [] are lt = refl
over_none from byte (g ∷ gaps) are lt =
    let no : lies_in byte g ≡ false = grind (arith, nat_tests, are.0.behind) in
    rw no (over_none (gap_end g + 1) byte gaps are.1 (omega (arith, lt, are.0.behind)))

-- the test of the search
abbrev pub begins_by : ℕ → Gap → Bool
begins_by byte g = leb g.place byte

-- What the code finds before the index where the gaps begin behind the byte.
pub record Over (byte : ℕ) (gaps : List Gap) (at : ℕ) : Type 0 where
  pub none : at ≡ 0 → gap_over byte gaps ≡ None
  pub inside : 0 < at → at - 1 < length gaps
  pub last : 0 < at → (g : Gap) → g ≡ get_or gaps (at - 1) g → gap_over byte gaps ≡ cond (ltb byte (gap_end g)) (Some g) None

-- where some begin by the byte, the first of them does
first_by : (from byte k : ℕ) (gaps : List Gap) → AreGapsFrom from gaps → prefix_len (begins_by byte) gaps ≡ suc k → from ≤ byte
first_by from byte k [] are is = absurd (omega (arith, is))
first_by from byte k (g ∷ gaps) are is = by (leb g.place byte) refl is
  where
    by : (b : Bool) → leb g.place byte ≡ b → cond b (1 + prefix_len (begins_by byte) gaps) 0 ≡ suc k → from ≤ byte
    by true e is = grind (arith, nat_tests, are.0.behind)
    by false e is = absurd (omega (arith, is))

module _ (byte : ℕ) (g : Gap) (gaps : List Gap) (from : ℕ) (are : AreGapsFrom from (g ∷ gaps)) (e : leb g.place byte ≡ true) where
  -- it is the last that begins by the byte
  here : (h : Gap) → h ≡ g → gap_over byte gaps ≡ None → gap_over byte (g ∷ gaps) ≡ cond (ltb byte (gap_end h)) (Some h) None
  here h is none = rw (is, e, none) refl

  -- others do
  later : (r : Option Gap) → gap_end g < byte → gap_over byte gaps ≡ r → gap_over byte (g ∷ gaps) ≡ r
  later r lt is =
      let no : ltb byte (gap_end g) ≡ false = grind (arith, nat_tests) in
      rw (e, no) is

  next : (at : ℕ) → prefix_len (begins_by byte) gaps ≡ at → Over byte gaps at → Over byte (g ∷ gaps) (suc at)
  next zero is ih = record { none = λ zero. absurd (omega (arith, zero)); inside = λ some. omega arith; last = λ some h read. here h read (ih.none refl) }
  next (suc k) is ih =
      let lt = first_by (gap_end g + 1) byte k gaps are.1 is in
      record {
        none = λ zero. absurd (omega (arith, zero));
        inside = λ some. omega (arith, ih.inside (omega arith));
        last = λ some h read.
            let whole : suc (suc k) - 1 ≡ suc k = omega arith in
            let less : k ≡ suc k - 1 = omega arith in
            let read' : h ≡ get_or gaps (suc k - 1) h = read ∙ ap (λ (n : ℕ). get_or (g ∷ gaps) n h) whole ∙ ap (λ (n : ℕ). get_or gaps n h) less in
            later (cond (ltb byte (gap_end h)) (Some h) None) (omega (arith, lt)) (ih.last (omega arith) h read');
      }

pub over_from : (from byte : ℕ) (gaps : List Gap) → AreGapsFrom from gaps → Over byte gaps (prefix_len (begins_by byte) gaps)
over_from from byte [] are = record { none = λ zero. refl; inside = λ some. absurd (omega (arith, some)); last = λ some. absurd (omega (arith, some)) }
over_from from byte (g ∷ gaps) are = by (over_from (gap_end g + 1) byte gaps are.1) (leb g.place byte) refl
  where
    by : Over byte gaps (prefix_len (begins_by byte) gaps) → (b : Bool) → leb g.place byte ≡ b → Over byte (g ∷ gaps) (cond b (1 + prefix_len (begins_by byte) gaps) 0)
    by ih true e = rw one-add (next byte g gaps from are e (prefix_len (begins_by byte) gaps) refl ih)
    by ih false e = record {
      none = λ zero. (let no : lies_in byte g ≡ false = rw e refl in rw no (over_none (gap_end g + 1) byte gaps are.1 (grind (arith, nat_tests))));
      inside = λ some. absurd (omega (arith, some));
      last = λ some. absurd (omega (arith, some));
    }

-- the same by what the code tests
pub record Looked (byte : ℕ) (gaps : List Gap) (at : ℕ) : Type 0 where
  pub none : at ≡ 0 → gap_over byte gaps ≡ None
  pub found : 0 < at → (g : Gap) → g ≡ get_or gaps (at - 1) g → byte < gap_end g → gap_over byte gaps ≡ Some g
  pub missed : 0 < at → (g : Gap) → g ≡ get_or gaps (at - 1) g → gap_end g ≤ byte → gap_over byte gaps ≡ None

looked : (byte : ℕ) (gaps : List Gap) (at : ℕ) → Over byte gaps at → Looked byte gaps at
looked byte gaps at o = record {
  none = o.none;
  found = λ some g read lt. (let yes : ltb byte (gap_end g) ≡ true = grind (arith, nat_tests) in o.last some g read ∙ rw yes refl);
  missed = λ some g read le. (let no : ltb byte (gap_end g) ≡ false = grind (arith, nat_tests) in o.last some g read ∙ rw no refl);
}

pub over : (byte : ℕ) (gaps items slice : List Gap) (at : ℕ) → items ≡ gaps → slice ≡ items → AreGapsFrom 0 items → at ≡ prefix_len (begins_by byte) slice → Looked byte gaps at
over byte gaps items slice at same sliced are is =
    looked byte gaps at (subst (λ (k : ℕ). Over byte gaps k) (sym (is ∙ ap (prefix_len (begins_by byte)) (sliced ∙ same))) (over_from 0 byte gaps (subst (AreGapsFrom 0) same are)))
