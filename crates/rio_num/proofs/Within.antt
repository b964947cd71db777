-- How far the data have to go for a description.
use Rattle.std.proofs.Common.{◌≡◌, ℕ, ◌+◌, ◌*◌, ◌≤◌, Bool, true, false, List, [], ◌∷◌, length, replicate, Option, Some, None, ap, subst, arith}
use Rattle.std.proofs.{lemmas.List.{length-append, length-replicate}, Math.Nat.{suc-mul}}
use Rattle.byteorder.specs.Numbers.{length-bytes_high_first}
use Rattle.rio_num.specs.Layout.{Layout, done, broken, number, bytes, text, name, any, here, reaches, met, note, choice, behind, known, must, each, times}
use Rattle.rio_num.specs.Meanings.{Spells}

-- what is spelled within some data is spelled within longer ones
pub widen : {W F A : Type 0} (l : Layout W F A) (end end' p : ℕ) (t : W) (y : A) (b : List ℕ) (t' : W) → end ≤ end' → Spells l end p t y b t' → Spells l end' p t y b t'
widen (done a) end end' p t y b t' le c = c
widen (broken f) end end' p t y b t' le c = c
widen (number f n) end end' p t y b t' le c = c
widen (text f) end end' p t y b t' le c = c
widen (name f) end end' p t y b t' le c = c
widen (bytes f n) end end' p t y b t' le c = c
widen here end end' p t y b t' le c = c
widen (reaches e f) end end' p t y b t' le c = (omega (arith, c.0, le), c.1, c.2)
widen met end end' p t y b t' le c = c
widen (note u) end end' p t y b t' le c = c
widen (choice true l m) end end' p t y b t' le c = widen l end end' p t y b t' le c
widen (choice false l m) end end' p t y b t' le c = widen m end end' p t y b t' le c
widen (behind l k) end end' p t y b t' le c = (c.0, c.1, c.2, c.3, c.4, widen l end end' p t c.0 c.1 c.3 le c.5, widen (k c.0) end end' (p + length c.1) c.3 y c.2 t' le c.6)

-- it is spelled within data that go as far as its value says
pub record Within {W F A : Type 0} (l : Layout W F A) (far : A → ℕ) : Type 0 where
  pub within : (end end' p : ℕ) (t : W) (y : A) (b : List ℕ) (t' : W) → Spells l end p t y b t' → far y ≤ end' → Spells l end' p t y b t'

-- it is spelled within its own bytes
pub record Closed {W F A : Type 0} (l : Layout W F A) : Type 0 where
  pub closed : (end p : ℕ) (t : W) (y : A) (b : List ℕ) (t' : W) → Spells l end p t y b t' → Spells l (p + length b) p t y b t'

-- what spells it has so many bytes
pub record IsLong {W F A : Type 0} (n : ℕ) (l : Layout W F A) : Type 0 where
  pub long : (end p : ℕ) (t : W) (y : A) (b : List ℕ) (t' : W) → Spells l end p t y b t' → n ≤ length b

-- what spells it goes as far as this place
pub record GoesTo {W F A : Type 0} (e : ℕ) (l : Layout W F A) : Type 0 where
  pub goes : (end p : ℕ) (t : W) (y : A) (b : List ℕ) (t' : W) → Spells l end p t y b t' → e ≤ p + length b

-- ---- one behind the other

module _ {W F A B : Type 0} {l : Layout W F B} {k : B → Layout W F A} where
  pub closed_behind : Closed l → ((x : B) → Closed (k x)) → Closed (behind l k)
  closed_behind first next = record {
    closed = λ end p t y b t' c.
        let same : p + length c.1 + length c.2 ≡ p + length b = omega (arith, ap length c.4, length-append c.1 c.2) in (
          c.0,
          c.1,
          c.2,
          c.3,
          c.4,
          widen l (p + length c.1) (p + length b) p t c.0 c.1 c.3 (omega (arith, same)) (first.closed end p t c.0 c.1 c.3 c.5),
          subst (λ (q : ℕ). Spells (k c.0) q (p + length c.1) c.3 y c.2 t') same ((next c.0).closed end (p + length c.1) c.3 y c.2 t' c.6),
        );
  }

  -- the data go as far as the first says, since what follows it does
  pub closed_over : (far : B → ℕ) → Within l far → ((x : B) → GoesTo (far x) (k x)) → ((x : B) → Closed (k x)) → Closed (behind l k)
  closed_over far first goes next = record {
    closed = λ end p t y b t' c.
        let same : p + length c.1 + length c.2 ≡ p + length b = omega (arith, ap length c.4, length-append c.1 c.2) in
        let to : far c.0 ≤ p + length c.1 + length c.2 = (goes c.0).goes end (p + length c.1) c.3 y c.2 t' c.6 in (
          c.0,
          c.1,
          c.2,
          c.3,
          c.4,
          first.within end (p + length b) p t c.0 c.1 c.3 c.5 (omega (arith, same, to)),
          subst (λ (q : ℕ). Spells (k c.0) q (p + length c.1) c.3 y c.2 t') same ((next c.0).closed end (p + length c.1) c.3 y c.2 t' c.6),
        );
  }

  pub within_behind : (near : B → ℕ) (far : A → ℕ) → Within l near → ((x : B) → Within (k x) far) → ((x : B) (end p : ℕ) (t : W) (y : A) (b : List ℕ) (t' : W) → Spells (k x) end p t y b t' → near x ≤ far y) → Within (behind l k) far
  within_behind near far first next as_far = record {
    within = λ end end' p t y b t' c le.
        let nearer : near c.0 ≤ far y = as_far c.0 end (p + length c.1) c.3 y c.2 t' c.6 in (
          c.0,
          c.1,
          c.2,
          c.3,
          c.4,
          first.within end end' p t c.0 c.1 c.3 c.5 (omega (arith, nearer, le)),
          (next c.0).within end end' (p + length c.1) c.3 y c.2 t' c.6 le,
        );
  }

  pub long_first : (n : ℕ) → IsLong n l → IsLong n (behind l k)
  long_first n first = record { long = λ end p t y b t' c. omega (arith, first.long end p t c.0 c.1 c.3 c.5, ap length c.4, length-append c.1 c.2) }

  pub long_next : (n : ℕ) → ((x : B) → IsLong n (k x)) → IsLong n (behind l k)
  long_next n next = record { long = λ end p t y b t' c. omega (arith, (next c.0).long end (p + length c.1) c.3 y c.2 t' c.6, ap length c.4, length-append c.1 c.2) }

  pub goes_first : (e : ℕ) → GoesTo e l → GoesTo e (behind l k)
  goes_first e first = record { goes = λ end p t y b t' c. omega (arith, first.goes end p t c.0 c.1 c.3 c.5, ap length c.4, length-append c.1 c.2) }

  pub goes_next : (e : ℕ) → ((x : B) → GoesTo e (k x)) → GoesTo e (behind l k)
  goes_next e next = record { goes = λ end p t y b t' c. omega (arith, (next c.0).goes end (p + length c.1) c.3 y c.2 t' c.6, ap length c.4, length-append c.1 c.2) }

-- ---- what stands alone

module _ {W F : Type 0} where
  pub closed_done : {A : Type 0} (a : A) → Closed {W = W} {F = F} (done a)
  closed_done a = record { closed = λ end p t y b t' c. c }

  pub closed_broken : {A : Type 0} (f : F) → Closed {W = W} {A = A} (broken f)
  closed_broken f = record { closed = λ end p t y b t' c. absurd c }

  pub closed_number : (f : ℕ → ℕ → F) (n : ℕ) → Closed {W = W} (number f n)
  closed_number f n = record { closed = λ end p t y b t' c. c }

  pub closed_bytes : (f : ℕ → ℕ → F) (n : ℕ) → Closed {W = W} (bytes f n)
  closed_bytes f n = record { closed = λ end p t y b t' c. c }

  pub closed_text : (f : ℕ → ℕ → F) → Closed {W = W} (text f)
  closed_text f = record { closed = λ end p t y b t' c. c }

  pub closed_name : (f : ℕ → ℕ → F) → Closed {W = W} (name f)
  closed_name f = record { closed = λ end p t y b t' c. c }

  pub closed_here : Closed {W = W} {F = F} here
  closed_here = record { closed = λ end p t y b t' c. c }

  pub closed_met : Closed {W = W} {F = F} met
  closed_met = record { closed = λ end p t y b t' c. c }

  pub closed_note : (u : W) → Closed {W = W} {F = F} (note u)
  closed_note u = record { closed = λ end p t y b t' c. c }

  pub closed_choice : {A : Type 0} (b : Bool) (l m : Layout W F A) → Closed l → Closed m → Closed (choice b l m)
  closed_choice true l m x y = record { closed = λ end p t z b t' c. x.closed end p t z b t' c }
  closed_choice false l m x y = record { closed = λ end p t z b t' c. y.closed end p t z b t' c }

  pub closed_must : (b : Bool) (f : F) → Closed {W = W} (must b f)
  closed_must b f = closed_choice b (done tt) (broken f) (closed_done tt) (closed_broken f)

  pub closed_known : {A : Type 0} (f : F) (o : Option A) → Closed {W = W} (known f o)
  closed_known f None = closed_broken f
  closed_known f (Some a) = closed_done a

  pub closed_any : (f : ℕ → ℕ → F) (n : ℕ) → Closed {W = W} (any f n)
  closed_any f n = closed_behind (closed_bytes f n) (λ b. closed_done tt)

  pub closed_each : {X Y : Type 0} (l : X → Layout W F Y) → ((x : X) → Closed (l x)) → (xs : List X) → Closed (each l xs)
  unfolding each
  closed_each l one [] = closed_done []
  closed_each l one (x ∷ xs) = closed_behind (one x) (λ y. closed_behind (closed_each l one xs) (λ ys. closed_done (y ∷ ys)))

  pub closed_times : {Y : Type 0} (n : ℕ) (l : Layout W F Y) → Closed l → Closed (times n l)
  closed_times n l one = closed_each (λ (x : Unit {0}). l) (λ x. one) (replicate n tt)

-- what asks for nothing of the data's end
pub record IsFree {W F A : Type 0} (l : Layout W F A) : Type 0 where
  pub free : (end end' p : ℕ) (t : W) (y : A) (b : List ℕ) (t' : W) → Spells l end p t y b t' → Spells l end' p t y b t'

module _ {W F A : Type 0} (far : A → ℕ) where
  pub within_free : (l : Layout W F A) → IsFree l → Within l far
  within_free l f = record { within = λ end end' p t y b t' c le. f.free end end' p t y b t' c }

  pub within_choice : (b : Bool) (l m : Layout W F A) → Within l far → Within m far → Within (choice b l m) far
  within_choice true l m x y = record { within = λ end end' p t z b t' c le. x.within end end' p t z b t' c le }
  within_choice false l m x y = record { within = λ end end' p t z b t' c le. y.within end end' p t z b t' c le }

module _ {W F : Type 0} where
  pub free_number : (f : ℕ → ℕ → F) (n : ℕ) → IsFree {W = W} (number f n)
  free_number f n = record { free = λ end end' p t y b t' c. c }

  pub free_here : IsFree {W = W} {F = F} here
  free_here = record { free = λ end end' p t y b t' c. c }

  pub free_name : (f : ℕ → ℕ → F) → IsFree {W = W} (name f)
  free_name f = record { free = λ end end' p t y b t' c. c }

  pub free_met : IsFree {W = W} {F = F} met
  free_met = record { free = λ end end' p t y b t' c. c }

  pub free_note : (u : W) → IsFree {W = W} {F = F} (note u)
  free_note u = record { free = λ end end' p t y b t' c. c }

  pub free_done : {A : Type 0} (a : A) → IsFree {W = W} {F = F} (done a)
  free_done a = record { free = λ end end' p t y b t' c. c }

  pub free_broken : {A : Type 0} (f : F) → IsFree {W = W} {A = A} (broken f)
  free_broken f = record { free = λ end end' p t y b t' c. absurd c }

  pub free_known : {A : Type 0} (f : F) (o : Option A) → IsFree {W = W} (known f o)
  free_known f None = free_broken f
  free_known f (Some a) = free_done a

  pub free_choice : {A : Type 0} (b : Bool) (l m : Layout W F A) → IsFree l → IsFree m → IsFree (choice b l m)
  free_choice true l m x y = record { free = λ end end' p t z b t' c. x.free end end' p t z b t' c }
  free_choice false l m x y = record { free = λ end end' p t z b t' c. y.free end end' p t z b t' c }

  pub free_must : (b : Bool) (f : F) → IsFree {W = W} (must b f)
  free_must b f = free_choice b (done tt) (broken f) (free_done tt) (free_broken f)

  pub free_behind : {A B : Type 0} {l : Layout W F B} {k : B → Layout W F A} → IsFree l → ((x : B) → IsFree (k x)) → IsFree (behind l k)
  free_behind first next = record { free = λ end end' p t y b t' c. (c.0, c.1, c.2, c.3, c.4, first.free end end' p t c.0 c.1 c.3 c.5, (next c.0).free end end' (p + length c.1) c.3 y c.2 t' c.6) }

  pub closed_free : {A : Type 0} (l : Layout W F A) → IsFree l → Closed l
  closed_free l f = record { closed = λ end p t y b t' c. f.free end (p + length b) p t y b t' c }

  -- ---- so many bytes

  pub long_number : (f : ℕ → ℕ → F) (n : ℕ) → IsLong {W = W} n (number f n)
  long_number f n = record { long = λ end p t y b t' c. omega (arith, ap length c.1, length-bytes_high_first n y) }

  pub long_each : {X Y : Type 0} (n : ℕ) (l : X → Layout W F Y) → ((x : X) → IsLong n (l x)) → (xs : List X) → IsLong (length xs * n) (each l xs)
  unfolding each
  long_each n l one [] = record { long = λ end p t y b t' c. omega arith }
  long_each n l one (x ∷ xs) = record {
    long = λ end p t y b t' c.
        let first : n ≤ length c.1 = (one x).long end p t c.0 c.1 c.3 c.5 in
        let d = c.6 in
        let others : length xs * n ≤ length d.1 = (long_each n l one xs).long end (p + length c.1) c.3 d.0 d.1 d.3 d.5 in
        rw suc-mul (omega (arith, first, others, ap length c.4, length-append c.1 c.2, ap length d.4, length-append d.1 d.2));
  }

  pub long_times : {Y : Type 0} (n w : ℕ) (l : Layout W F Y) → IsLong w l → IsLong (n * w) (times n l)
  long_times n w l one = let same : length (replicate n (tt {0})) ≡ n = length-replicate n (tt {0}) in subst (λ (m : ℕ). IsLong (m * w) (times n l)) same (long_each w (λ (x : Unit {0}). l) (λ x. one) (replicate n tt))
