-- Of fewer than 2^33 names there is always one more.
use Rattle.std.proofs.Common.{◌≡◌, inl, inr, ℕ, zero, suc, ◌+◌, ◌*◌, ◌^◌, ◌<◌, ◌≤◌, List, [], ◌∷◌, length, Bool, true, false, ◌==◌, if◌then◌else◌, refl, arith}
use Rattle.std.proofs.lemmas.Bool.{cases_lt, eqb-true, or_parts}
use Rattle.std.specs.{List.{list_all, list_any}, Str.{bytes_eq}}
use Rattle.rio_num.specs.Word.{goes_on_name, is_name_text}

-- one of the names is this one
abbrev pub is_one_of : List (List ℕ) → List ℕ → Bool
is_one_of names name = list_any (λ n. bytes_eq n name) names

-- what stands behind this byte, in the names that begin with it
abbrev behind : ℕ → List (List ℕ) → List (List ℕ)
behind b [] = []
behind b ([] ∷ names) = behind b names
behind b ((c ∷ cs) ∷ names) = if c == b then cs ∷ behind b names else behind b names

few_by : (c : ℕ) (cs : List ℕ) (names : List (List ℕ)) (t u : Bool) → (c == 97) ≡ t → (c == 98) ≡ u
    → length (behind 97 names) + length (behind 98 names) ≤ length names
    → length (behind 97 ((c ∷ cs) ∷ names)) + length (behind 98 ((c ∷ cs) ∷ names)) ≤ length ((c ∷ cs) ∷ names)
few_by c cs names true true t u ih = absurd (let one = eqb-true c 97 t in let two = eqb-true c 98 u in omega arith)
few_by c cs names true false t u ih = rw (t, u) (omega (arith, ih))
few_by c cs names false true t u ih = rw (t, u) (omega (arith, ih))
few_by c cs names false false t u ih = rw (t, u) (omega (arith, ih))

-- no name begins with both
few : (names : List (List ℕ)) → length (behind 97 names) + length (behind 98 names) ≤ length names
few [] = omega arith
few ([] ∷ names) = omega (arith, few names)
few ((c ∷ cs) ∷ names) = few_by c cs names (c == 97) (c == 98) refl refl (few names)

new_by : (b c : ℕ) (cs name : List ℕ) (names : List (List ℕ)) (t : Bool) → (c == b) ≡ t
    → is_one_of (if t then cs ∷ behind b names else behind b names) name ≡ false
    → (is_one_of (behind b names) name ≡ false → is_one_of names (b ∷ name) ≡ false)
    → is_one_of ((c ∷ cs) ∷ names) (b ∷ name) ≡ false
new_by b c cs name names true t h ih =
    let parts = or_parts (bytes_eq cs name) (is_one_of (behind b names) name) h in
    rw (t, parts.0, ih parts.1) refl
new_by b c cs name names false t h ih = rw (t, ih h) refl

-- a name is new if what stands behind its first byte is
new_behind : (b : ℕ) (name : List ℕ) (names : List (List ℕ)) → is_one_of (behind b names) name ≡ false → is_one_of names (b ∷ name) ≡ false
new_behind b name [] h = refl
new_behind b name ([] ∷ names) h = new_behind b name names h
new_behind b name ((c ∷ cs) ∷ names) h = new_by b c cs name names (c == b) refl h (new_behind b name names)

record New (k : ℕ) (names : List (List ℕ)) : Type 0 where
  name : List ℕ
  long : length name ≡ k
  named : list_all goes_on_name name ≡ true
  new : is_one_of names name ≡ false

-- so many names of k letters a and b there are
abbrev room : ℕ → ℕ
room zero = 1
room (suc k) = 2 * room k

with_byte : (b k : ℕ) (names : List (List ℕ)) → goes_on_name b ≡ true → New k (behind b names) → New (suc k) names
with_byte b k names goes n = record {
  name = b ∷ n.name;
  long = omega (arith, n.long);
  named = rw (goes, n.named) refl;
  new = new_behind b n.name names n.new;
}

none_new : (names : List (List ℕ)) → length names < 1 → New 0 names
none_new [] lt = record { name = []; long = refl; named = refl; new = refl }
none_new (n ∷ names) lt = absurd (omega arith)

letters_new : (k : ℕ) (names : List (List ℕ)) → length names < room k → New k names
letters_new zero names lt = none_new names lt
letters_new (suc k) names lt = elim (cases_lt (length (behind 97 names)) (room k)) [
  | inl less ↦ with_byte 97 k names refl (letters_new k (behind 97 names) less)
  | inr more ↦ with_byte 98 k names refl (letters_new k (behind 98 names) (omega (arith, few names, more, lt)))
]

-- a name that is none of these
pub record NewName (names : List (List ℕ)) : Type 0 where
  pub name : List ℕ
  pub named : is_name_text name ≡ true
  pub new : is_one_of names name ≡ false

pub new_name : (names : List (List ℕ)) → length names < 2 ^ 33 → NewName names
new_name names lt =
    let fits : length (behind 97 names) < 2 ^ 33 = omega (arith, few names, lt) in
    let n = letters_new 33 (behind 97 names) fits in
    let long : length (97 ∷ n.name) ≡ 34 = omega (arith, n.long) in
    record { name = 97 ∷ n.name; named = rw (n.named, long) refl; new = new_behind 97 n.name names n.new }
