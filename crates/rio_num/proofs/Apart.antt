-- How a spelling is taken apart into those of its parts.
use Rattle.std.proofs.Common.{◌≡◌, ℕ, ◌+◌, ◌^◌, ◌<◌, Bool, true, false, List, ◌++◌, length, refl, sym, ap, subst, ◌∙◌, arith}
use Rattle.byteorder.specs.{Endian.{big_bytes}, Numbers.{length-bytes_high_first}}
use Rattle.rio_num.specs.{Text.{SpellsText}, Layout.{Layout, broken, number, bytes, text, here, choice, behind, must}, Meanings.{Spells}}
use Rattle.rio_num.proofs.Intro.{IsSo}

module _ {W F A : Type 0} {end p : ℕ} {t : W} {y : A} {b : List ℕ} {t' : W} where
  -- what follows from one and the next follows from both
  pub both_of : {B : Type 0} {l : Layout W F B} {k : B → Layout W F A} {P : Type 0} → IsSo (behind l k) end p t y b t'
      → ((x : B) (front rest : List ℕ) (u : W) → b ≡ front ++ rest → IsSo l end p t x front u → IsSo (k x) end (p + length front) u y rest t' → P) → P
  both_of c next = let d = c.so in next d.0 d.1 d.2 d.3 d.4 (record { so = d.5 }) (record { so = d.6 })

  pub number_of : {f : ℕ → ℕ → F} {n : ℕ} {k : ℕ → Layout W F A} {P : Type 0} → IsSo (behind (number f n) k) end p t y b t'
      → ((x : ℕ) (rest : List ℕ) → x < 256 ^ n → b ≡ big_bytes n x ++ rest → IsSo (k x) end (p + n) t y rest t' → P) → P
  number_of {n = n} {k = k} c next =
      let d = c.so in
      let same : p + length d.1 ≡ p + n = omega (arith, ap length d.5.1, length-bytes_high_first n d.0) in
      next d.0 d.2 d.5.0 (d.4 ∙ ap (λ (z : List ℕ). z ++ d.2) d.5.1) (record { so = subst (λ (q : ℕ × W). Spells (k d.0) end q.0 q.1 y d.2 t') (λ i. (same i, d.5.2 i)) d.6 })

  pub bytes_of : {f : ℕ → ℕ → F} {n : ℕ} {k : List ℕ → Layout W F A} {P : Type 0} → IsSo (behind (bytes f n) k) end p t y b t'
      → ((x rest : List ℕ) → length x ≡ n → b ≡ x ++ rest → IsSo (k x) end (p + n) t y rest t' → P) → P
  bytes_of {n = n} {k = k} c next =
      let d = c.so in
      let same : p + length d.1 ≡ p + n = omega (arith, ap length d.5.1, d.5.0) in
      next d.0 d.2 d.5.0 (d.4 ∙ ap (λ (z : List ℕ). z ++ d.2) d.5.1) (record { so = subst (λ (q : ℕ × W). Spells (k d.0) end q.0 q.1 y d.2 t') (λ i. (same i, d.5.2 i)) d.6 })

  pub text_of : {f : ℕ → ℕ → F} {k : List ℕ → Layout W F A} {P : Type 0} → IsSo (behind (text f) k) end p t y b t'
      → ((x own rest : List ℕ) → SpellsText x own → b ≡ own ++ rest → IsSo (k x) end (p + length own) t y rest t' → P) → P
  text_of {k = k} c next =
      let d = c.so in
      next d.0 d.1 d.2 d.5.0 d.4 (record { so = subst (λ (u : W). Spells (k d.0) end (p + length d.1) u y d.2 t') d.5.1 d.6 })

  pub here_of : {k : ℕ → Layout W F A} → IsSo (behind here k) end p t y b t' → IsSo (k p) end p t y b t'
  here_of {k = k} c =
      let d = c.so in
      let place : p + length d.1 ≡ p = omega (arith, ap length d.5.1) in
      let all : d.2 ≡ b = sym (d.4 ∙ ap (λ (z : List ℕ). z ++ d.2) d.5.1) in
      record { so = subst (λ (q : ℕ × ℕ × W × List ℕ). Spells (k q.0) end q.1 q.2 y q.3 t') (λ i. (d.5.0 i, place i, d.5.2 i, all i)) d.6 }

  -- a rule that isn't broken
  pub unbroken : {f : F} {m : Layout W F A} (c : Bool) → IsSo (choice c (broken f) m) end p t y b t' → (c ≡ false) × IsSo m end p t y b t'
  unbroken true s = absurd s.so
  unbroken false s = (refl, record { so = s.so })

  pub must_of : {f : F} {k : Unit {0} → Layout W F A} {P : Type 0} (c : Bool) → IsSo (behind (must c f) k) end p t y b t' → (c ≡ true → IsSo (k tt) end p t y b t' → P) → P
  must_of {k = k} true s next =
      let d = s.so in
      let place : p + length d.1 ≡ p = omega (arith, ap length d.5.1) in
      let all : d.2 ≡ b = sym (d.4 ∙ ap (λ (z : List ℕ). z ++ d.2) d.5.1) in
      next refl (record { so = subst (λ (q : Unit {0} × ℕ × W × List ℕ). Spells (k q.0) end q.1 q.2 y q.3 t') (λ i. (d.5.0 i, place i, d.5.2 i, all i)) d.6 })
  must_of false s next = let d = s.so in absurd d.5
