-- How spellings are put together from those of their parts.
use Rattle.std.proofs.Common.{◌≡◌, ℕ, ◌+◌, ◌^◌, ◌<◌, ◌≤◌, Bool, true, false, List, [], ◌++◌, length, Option, Some, None, refl, sym, subst, arith}
use Rattle.std.proofs.lemmas.List.{append-nil}
use Rattle.byteorder.specs.{Endian.{big_bytes}, Numbers.{length-bytes_high_first}}
use Rattle.rio_num.specs.{Layout.{Layout, done, number, bytes, text, here, reaches, met, note, choice, behind, known, must, any}, Meanings.{Spells}}
use Rattle.rio_num.specs.Text.{SpellsText}

abbrev nothing : List ℕ
nothing = []

-- `Spells`, as a type that tells its description
pub record IsSo {W F A : Type 0} (l : Layout W F A) (end p : ℕ) (t : W) (y : A) (b : List ℕ) (t' : W) : Type 0 where
  pub so : Spells l end p t y b t'

module _ {W F A : Type 0} {end p : ℕ} {t : W} {y : A} {b : List ℕ} {t' : W} where
  -- the same, of what equals its parts
  pub so_by : {l : Layout W F A} {z : A} {d : List ℕ} {u : W} → IsSo l end p t y b t' → z ≡ y → d ≡ b → u ≡ t' → IsSo l end p t z d u
  so_by {l = l} {z = z} {d = d} c e f g =
      let first = subst (λ (q : A). IsSo l end p t q b t') (sym e) c in
      let second = subst (λ (q : List ℕ). IsSo l end p t z q t') (sym f) first in
      subst (λ (q : W). IsSo l end p t z d q) (sym g) second

  stays : (l : Layout W F A) → IsSo l end p t y b t' → Spells l end (p + length nothing) t y b t'
  stays l c = let same : p ≡ p + length nothing = omega arith in subst (λ (q : ℕ). Spells l end q t y b t') same c.so

  pub first_is : {l m : Layout W F A} (c : Bool) → c ≡ true → IsSo l end p t y b t' → IsSo (choice c l m) end p t y b t'
  first_is true e s = record { so = s.so }
  first_is false e s = absurd cc

  pub second_is : {l m : Layout W F A} (c : Bool) → c ≡ false → IsSo m end p t y b t' → IsSo (choice c l m) end p t y b t'
  second_is true e s = absurd cc
  second_is false e s = record { so = s.so }

  pub here_then : {k : ℕ → Layout W F A} → IsSo (k p) end p t y b t' → IsSo (behind here k) end p t y b t'
  here_then {k = k} c = record { so = (p, [], b, t, refl, (refl, refl, refl), stays (k p) c) }

  pub reaches_then : {e : ℕ} {f : F} {k : Unit {0} → Layout W F A} → e ≤ end → IsSo (k tt) end p t y b t' → IsSo (behind (reaches e f) k) end p t y b t'
  reaches_then {k = k} le c = record { so = (tt, [], b, t, refl, (le, refl, refl), stays (k tt) c) }

  pub met_then : {k : W → Layout W F A} → IsSo (k t) end p t y b t' → IsSo (behind met k) end p t y b t'
  met_then {k = k} c = record { so = (t, [], b, t, refl, (refl, refl, refl), stays (k t) c) }

  pub number_then : {f : ℕ → ℕ → F} {n : ℕ} {k : ℕ → Layout W F A} (x : ℕ) → x < 256 ^ n → IsSo (k x) end (p + n) t y b t' → IsSo (behind (number f n) k) end p t y (big_bytes n x ++ b) t'
  number_then {n = n} {k = k} x lt c =
      let same : p + n ≡ p + length (big_bytes n x) = omega (arith, length-bytes_high_first n x) in
      record { so = (x, big_bytes n x, b, t, refl, (lt, refl, refl), subst (λ (q : ℕ). Spells (k x) end q t y b t') same c.so) }

  pub bytes_then : {f : ℕ → ℕ → F} {n : ℕ} {k : List ℕ → Layout W F A} (x : List ℕ) → length x ≡ n → IsSo (k x) end (p + n) t y b t' → IsSo (behind (bytes f n) k) end p t y (x ++ b) t'
  bytes_then {n = n} {k = k} x long c =
      let same : p + n ≡ p + length x = omega (arith, long) in
      record { so = (x, x, b, t, refl, (long, refl, refl), subst (λ (q : ℕ). Spells (k x) end q t y b t') same c.so) }

  pub text_then : {f : ℕ → ℕ → F} {k : List ℕ → Layout W F A} (x own : List ℕ) → SpellsText x own → IsSo (k x) end (p + length own) t y b t' → IsSo (behind (text f) k) end p t y (own ++ b) t'
  text_then x own spelled c = record { so = (x, own, b, t, refl, (spelled, refl), c.so) }

  pub must_then : {f : F} {k : Unit {0} → Layout W F A} (c : Bool) → c ≡ true → IsSo (k tt) end p t y b t' → IsSo (behind (must c f) k) end p t y b t'
  must_then {k = k} true e d = record { so = (tt, [], b, t, refl, (refl, refl, refl), stays (k tt) d) }
  must_then false e d = absurd cc

  -- what takes no bytes, and what follows it
  pub still_then : {B : Type 0} {l : Layout W F B} {k : B → Layout W F A} (x : B) → IsSo l end p t x [] t → IsSo (k x) end p t y b t' → IsSo (behind l k) end p t y b t'
  still_then {k = k} x d c = record { so = (x, [], b, t, refl, d.so, stays (k x) c) }

pub note_then : {W F A : Type 0} {end p : ℕ} {t : W} {y : A} {b : List ℕ} {t' u : W} {k : Unit {0} → Layout W F A} → IsSo (k tt) end p u y b t' → IsSo (behind (note u) k) end p t y b t'
note_then {b = b} {u = u} {k = k} c = record { so = (tt, [], b, u, refl, (refl, refl), stays (k tt) c) }

pub done_is : {W F A : Type 0} {end p : ℕ} {t : W} {a : A} → IsSo {F = F} (done a) end p t a [] t
done_is = record { so = (refl, refl, refl) }

pub known_is : {W F A : Type 0} {end p : ℕ} {t : W} (f : F) (o : Option A) (a : A) → o ≡ Some a → IsSo (known f o) end p t a [] t
known_is f None a e = absurd cc
known_is f (Some x) a e = let same : a ≡ x = cc in record { so = (same, refl, refl) }

-- nothing stands behind the first
pub ends_with : {W F A B : Type 0} {end p : ℕ} {t : W} {y : A} {b : List ℕ} {t' : W} {l : Layout W F B} {k : B → Layout W F A} (x : B) (u : W) → IsSo l end p t x b u → IsSo (k x) end (p + length b) u y [] t' → IsSo (behind l k) end p t y b t'
ends_with {b = b} x u c d = record { so = (x, b, [], u, sym (append-nil b), c.so, d.so) }

pub both_are : {W F A B : Type 0} {end p : ℕ} {t : W} {y : A} {a b : List ℕ} {t' : W} {l : Layout W F B} {k : B → Layout W F A} (x : B) (u : W) → IsSo l end p t x a u → IsSo (k x) end (p + length a) u y b t' → IsSo (behind l k) end p t y (a ++ b) t'
both_are {a = a} {b = b} x u c d = record { so = (x, a, b, u, refl, c.so, d.so) }

pub any_is : {W F : Type 0} {f : ℕ → ℕ → F} {end p : ℕ} {t : W} (n : ℕ) (b : List ℕ) → length b ≡ n → IsSo (any f n) end p t tt b t
any_is n b e = let own : IsSo (bytes _ n) _ _ _ b b _ = record { so = (e, refl, refl) } in ends_with b _ own done_is
