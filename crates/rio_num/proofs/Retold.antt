-- A description whose faults are told in other words is read, spelled and broken as before, but for the words.
use Rattle.std.proofs.Common.{◌≡◌, ◌↔◌, ℕ, ◌+◌, Bool, true, false, ltb, List, length, Result, Ok, Err, Option, Some, None, refl}
use Rattle.rio_num.specs.{At.{At, end_place}, Reading.{◌>>=◌, bytes_at, number_at, text_at}, declared.cursor.Short.{Short}}
use Rattle.rio_num.specs.Layout.{Layout, done, broken, number, bytes, text, name, here, reaches, met, note, choice, behind, retold}
use Rattle.rio_num.specs.Meanings.{Standing, Reading, ended_name, of_bytes, read, Spells}
use Rattle.rio_num.proofs.Agree.{reach_or}

-- the same, or the same fault in other words
abbrev pub with_fault : {F G X : Type 0} → (G → F) → Result X G → Result X F
with_fault h (Ok x) = Ok x
with_fault h (Err e) = Err (h e)

module _ {W F G : Type 0} (h : G → F) where
  bytes_same : {A : Type 0} (f : ℕ → ℕ → G) (s : Standing W) (r : Result (A × At) Short) → of_bytes (λ place wanted. h (f place wanted)) s r ≡ with_fault h (of_bytes f s r)
  bytes_same f s (Ok x) = refl
  bytes_same f s (Err e) = refl

  ended_same : (f : ℕ → ℕ → G) (s : Standing W) (o : Option ℕ) → ended_name (λ place wanted. h (f place wanted)) s o ≡ with_fault h (ended_name f s o)
  ended_same f s None = refl
  ended_same f s (Some k) = refl

  reach_same : (f : G) (s : Standing W) (b : Bool) → reach_or (h f) s b ≡ with_fault h (reach_or f s b)
  reach_same f s true = refl
  reach_same f s false = refl

  next_same : {A B : Type 0} (r : Reading W G B) (q : Reading W F B) (f : B × Standing W → Reading W G A) (g : B × Standing W → Reading W F A) → q ≡ with_fault h r → ((x : B × Standing W) → g x ≡ with_fault h (f x)) → (q >>= g) ≡ with_fault h (r >>= f)
  next_same (Ok x) q f g e each = rw e (each x)
  next_same (Err d) q f g e each = rw e refl

pub retold_same : {W F G A : Type 0} (h : G → F) (l : Layout W G A) (s : Standing W) → read (retold h l) s ≡ with_fault h (read l s)
unfolding retold
retold_same h (done a) s = refl
retold_same h (broken f) s = refl
retold_same h (number f n) s = bytes_same h f s (number_at n s.at)
retold_same h (bytes f n) s = bytes_same h f s (bytes_at n s.at)
retold_same h (text f) s = bytes_same h f s (text_at s.at)
retold_same h (name f) s = ended_same h f s _
retold_same h here s = refl
retold_same h (reaches e f) s = reach_same h f s (ltb (end_place s.at) e)
retold_same h met s = refl
retold_same h (note t) s = refl
retold_same h (choice true l m) s = retold_same h l s
retold_same h (choice false l m) s = retold_same h m s
retold_same h (behind l k) s = next_same h (read l s) _ _ _ (retold_same h l s) (λ x. retold_same h (k x.0) x.1)

-- what spells a description spells it with other faults, and the other way round
retold_spells : {W F G A : Type 0} (h : G → F) (l : Layout W G A) (end p : ℕ) (t : W) (y : A) (b : List ℕ) (t' : W) → Spells l end p t y b t' ↔ Spells (retold h l) end p t y b t'
unfolding retold
retold_spells h (done a) end p t y b t' = (λ c. c, λ c. c)
retold_spells h (broken f) end p t y b t' = (λ c. c, λ c. c)
retold_spells h (number f n) end p t y b t' = (λ c. c, λ c. c)
retold_spells h (bytes f n) end p t y b t' = (λ c. c, λ c. c)
retold_spells h (text f) end p t y b t' = (λ c. c, λ c. c)
retold_spells h (name f) end p t y b t' = (λ c. c, λ c. c)
retold_spells h here end p t y b t' = (λ c. c, λ c. c)
retold_spells h (reaches e f) end p t y b t' = (λ c. c, λ c. c)
retold_spells h met end p t y b t' = (λ c. c, λ c. c)
retold_spells h (note u) end p t y b t' = (λ c. c, λ c. c)
retold_spells h (choice true l m) end p t y b t' = retold_spells h l end p t y b t'
retold_spells h (choice false l m) end p t y b t' = retold_spells h m end p t y b t'
retold_spells h (behind l k) end p t y b t' = (
  λ c. (c.0, c.1, c.2, c.3, c.4, (retold_spells h l end p t c.0 c.1 c.3).0 c.5, (retold_spells h (k c.0) end (p + length c.1) c.3 y c.2 t').0 c.6),
  λ c. (c.0, c.1, c.2, c.3, c.4, (retold_spells h l end p t c.0 c.1 c.3).1 c.5, (retold_spells h (k c.0) end (p + length c.1) c.3 y c.2 t').1 c.6),
)

pub retold_spelled : {W F G A : Type 0} (h : G → F) (l : Layout W G A) (end p : ℕ) (t : W) (y : A) (b : List ℕ) (t' : W) → Spells l end p t y b t' → Spells (retold h l) end p t y b t'
retold_spelled h l end p t y b t' = (retold_spells h l end p t y b t').0

pub told_before : {W F G A : Type 0} (h : G → F) (l : Layout W G A) (end p : ℕ) (t : W) (y : A) (b : List ℕ) (t' : W) → Spells (retold h l) end p t y b t' → Spells l end p t y b t'
told_before h l end p t y b t' = (retold_spells h l end p t y b t').1
