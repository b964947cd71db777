-- Strings that are printed are read again.
use Rattle.std.proofs.Common.{◌≡◌, ℕ, suc, ◌+◌, ◌*◌, ◌/◌, ◌%◌, ◌<◌, List, [], ◌∷◌, ◌++◌, length, Bool, true, false, ◌==◌, ◌&&◌, nat_le, if◌then◌else◌, Some, refl, sym, ◌∙◌, ap, arith, append_assoc, length-append, subst}
use Rattle.std.proofs.lemmas.Bool.{eqb-true, Decides.{nat_tests}}
use Rattle.std.specs.List.{flat_map}
use Rattle.rio_num.specs.{Printed.{escaped, hex_digit, string_text}, At.{AreBytes}}
use Rattle.rio_token.specs.{declared.quoted.Ending.{Ending, TheVariants.{Closed, Broken, Unended}}, declared.quoted.Within.TheVariants.{Between}}
use Rattle.rio_token.specs.{Laws.{StringsAreRead}, Quoted.{Quoted, hex_value, later, quoted}, Tokens.{scan_of}}

later_later : (m n : ℕ) (e : Ending) → later m (later n e) ≡ later (m + n) e
later_later m n (Closed k) = ap (λ (i : ℕ). let e : Ending = Closed i in e) (omega arith)
later_later m n Broken = refl
later_later m n Unended = refl

-- a string that spells one byte more, in so many bytes
abbrev longer : ℕ → ℕ → Quoted → Quoted
longer b n q = record { text = b ∷ q.text; ending = later n q.ending }

hex_back : (n : ℕ) → n < 16 → hex_value (hex_digit n) ≡ Some n
hex_back n h = grind (arith, nat_tests)

-- one printed byte
abbrev IsEscaped : ℕ → List ℕ → Type 0
IsEscaped b rest = quoted Between (escaped b ++ rest) ≡ longer b (length (escaped b)) (quoted Between rest)

in_hex : (b : ℕ) (rest : List ℕ) → b < 256 → quoted Between (92 ∷ 120 ∷ hex_digit (b / 16) ∷ hex_digit (b % 16) ∷ rest) ≡ longer b 4 (quoted Between rest)
in_hex b rest h =
    let high : hex_value (hex_digit (b / 16)) ≡ Some (b / 16) = hex_back (b / 16) (omega arith) in
    let low : hex_value (hex_digit (b % 16)) ≡ Some (b % 16) = hex_back (b % 16) (omega arith) in
    let whole : 16 * (b / 16) + b % 16 ≡ b = omega arith in
    let q = quoted Between rest in
    let four : later 1 (later 1 (later 1 (later 1 q.ending))) ≡ later 4 q.ending = ap (λ (e : Ending). later 1 (later 1 e)) (later_later 1 1 q.ending) ∙ ap (later 1) (later_later 1 2 q.ending) ∙ later_later 1 3 q.ending in
    rw (high, low, high, whole, four) refl

as_it_is : (b : ℕ) (rest : List ℕ) (plain : Bool) → (b == 34) ≡ false → (b == 92) ≡ false → (nat_le 32 b && nat_le b 126) ≡ plain → b < 256 →
    quoted Between ((if plain then b ∷ [] else 92 ∷ 120 ∷ hex_digit (b / 16) ∷ hex_digit (b % 16) ∷ []) ++ rest) ≡ longer b (length (if plain then b ∷ [] else 92 ∷ 120 ∷ hex_digit (b / 16) ∷ hex_digit (b % 16) ∷ [])) (quoted Between rest)
as_it_is b rest true q s p h = rw (q, s, p) refl
as_it_is b rest false q s p h = in_hex b rest h

escaped_known : (b k : ℕ) (rest : List ℕ) → b ≡ k → IsEscaped k rest → IsEscaped b rest
escaped_known b k rest e = subst (λ (i : ℕ). IsEscaped i rest) (sym e)

two_bytes : (c : ℕ) (rest : List ℕ) → (let q = quoted Between rest in longer c 1 (record { text = q.text; ending = later 1 q.ending }) ≡ longer c 2 q)
two_bytes c rest = ap (λ (e : Ending). let z : Quoted = record { text = c ∷ (quoted Between rest).text; ending = e } in z) (later_later 1 1 (quoted Between rest).ending)

module _ (b : ℕ) (rest : List ℕ) (h : b < 256) where
  tab_case : (t : Bool) → (b == 34) ≡ false → (b == 92) ≡ false → (b == 10) ≡ false → (b == 9) ≡ t → IsEscaped b rest
  tab_case true q s n t = escaped_known b 9 rest (eqb-true b 9 t) (two_bytes 9 rest)
  tab_case false q s n t = rw (q, s, n, t) (as_it_is b rest (nat_le 32 b && nat_le b 126) q s refl h)

  line_case : (n : Bool) → (b == 34) ≡ false → (b == 92) ≡ false → (b == 10) ≡ n → IsEscaped b rest
  line_case true q s n = escaped_known b 10 rest (eqb-true b 10 n) (two_bytes 10 rest)
  line_case false q s n = tab_case (b == 9) q s n refl

  slash_case : (s : Bool) → (b == 34) ≡ false → (b == 92) ≡ s → IsEscaped b rest
  slash_case true q s = escaped_known b 92 rest (eqb-true b 92 s) (two_bytes 92 rest)
  slash_case false q s = line_case (b == 10) q s refl

  quote_case : (q : Bool) → (b == 34) ≡ q → IsEscaped b rest
  quote_case true q = escaped_known b 34 rest (eqb-true b 34 q) (two_bytes 34 rest)
  quote_case false q = slash_case (b == 92) q refl

  pub escaped_is : IsEscaped b rest
  escaped_is = quote_case (b == 34) refl

-- all printed bytes, and the closing quote
closed_text : (text rest : List ℕ) → AreBytes text → quoted Between (flat_map escaped text ++ 34 ∷ rest) ≡ record { text = text; ending = Closed (length (flat_map escaped text) + 1) }
closed_text [] rest h = refl
closed_text (b ∷ bs) rest h =
    let one = escaped_is b (flat_map escaped bs ++ 34 ∷ rest) (h 0) in
    let more = closed_text bs rest (λ i. h (suc i)) in
    let split : (escaped b ++ flat_map escaped bs) ++ 34 ∷ rest ≡ escaped b ++ (flat_map escaped bs ++ 34 ∷ rest) = append_assoc (escaped b) (flat_map escaped bs) (34 ∷ rest) in
    let count : length (escaped b) + (length (flat_map escaped bs) + 1) ≡ length (escaped b ++ flat_map escaped bs) + 1 = omega (arith, length-append {A = ℕ}) in
    let joined : longer b (length (escaped b)) (quoted Between (flat_map escaped bs ++ 34 ∷ rest)) ≡ record { text = b ∷ bs; ending = Closed (length (escaped b ++ flat_map escaped bs) + 1) } = rw (more, count) refl in
    ap (quoted Between) split ∙ one ∙ joined

pub strings_are_read : StringsAreRead
unfolding scan_of string_text
strings_are_read text rest h =
    let split : (flat_map escaped text ++ 34 ∷ []) ++ rest ≡ flat_map escaped text ++ 34 ∷ rest = append_assoc (flat_map escaped text) (34 ∷ []) rest in
    let closed = closed_text text rest h in
    let count : 1 + (length (flat_map escaped text) + 1) ≡ suc (length (flat_map escaped text ++ 34 ∷ [])) = omega (arith, length-append {A = ℕ}) in
    rw (split, closed, count) refl
