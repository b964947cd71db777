-- What a description means: for reading, for spelling, and for the first fault.
use Rattle.std.specs.Prelude.{◌≡◌, ◌==◌, ◌⊎◌, ℕ, true, false, ◌+◌, ◌^◌, ◌<◌, ◌≤◌, List, [], ◌∷◌, ◌++◌, length, take, Option, Some, None, Result, Ok, Err, nat_lt, if◌then◌else◌, position}
use Rattle.byteorder.specs.Endian.{big_bytes}
use Rattle.rio_num.specs.{At.{At, end_place}, Reading.{◌>>=◌, bytes_at, number_at, skip, text_at}, Text.{SpellsText}, declared.cursor.Short.{Short}}
use Rattle.rio_num.specs.Layout.{Layout, done, broken, number, bytes, text, name, here, reaches, met, note, choice, behind}

-- ---- reading

-- where reading stands, and what was met before
pub record Standing (W : Type 0) : Type 0 where
  pub at : At
  pub words : W

-- reading stands at a place, before the bytes, and this was met before
abbrev pub stand : {W : Type 0} → ℕ → List ℕ → W → Standing W
stand place rest t = record { at = record { place = place; rest = rest }; words = t }

-- what is read, and where reading stands behind it, or the first fault
abbrev pub Reading : Type 0 → Type 0 → Type 0 → Type 0
Reading W F A = Result (A × Standing W) F

-- what is read of the bytes alone, or the fault where they are too few
abbrev pub of_bytes : {W F A : Type 0} → (ℕ → ℕ → F) → Standing W → Result (A × At) Short
    → Reading W F A
of_bytes f s (Ok x) = Ok (x.0, record s { at = x.1 })
of_bytes f s (Err e) = Err (f e.place e.wanted)

-- a name as long as the place of the first zero byte says; without one, one byte more is wanted behind the data
abbrev pub ended_name : {W F : Type 0} → (ℕ → ℕ → F) → Standing W → Option ℕ → Reading W F (List ℕ)
ended_name f s None = Err (f (end_place s.at) 1)
ended_name f s (Some k) = Ok (take k s.at.rest, record s { at = skip (k + 1) s.at })

-- what reading gives from where it stands; of one description behind another the second is read where the first one didn't fail
abbrev pub read : {W F A : Type 0} → Layout W F A → Standing W → Reading W F A
read (done a) s = Ok (a, s)
read (broken f) s = Err f
read (number f n) s = of_bytes f s (number_at n s.at)
read (bytes f n) s = of_bytes f s (bytes_at n s.at)
read (text f) s = of_bytes f s (text_at s.at)
read (name f) s = ended_name f s (position (λ b. b == 0) s.at.rest)
read here s = Ok (s.at.place, s)
read (reaches e f) s = if nat_lt (end_place s.at) e then Err f else Ok (tt, s)
read met s = Ok (s.words, s)
read (note t) s = Ok (tt, record s { words = t })
read (choice b l m) s = if b then read l s else read m s
read (behind l k) s = read l s >>= λ x. read (k x.0) x.1

-- ---- spelling

-- no byte is 0
abbrev pub HasNoZero : List ℕ → Type 0
HasNoZero [] = Unit {0}
HasNoZero (b ∷ bs) = ((b == 0) ≡ false) × HasNoZero bs

-- The bytes b, the first of which has the place p, spell y within data that go as far as the end, where t was met before b
-- and t' is what was met behind it. Two descriptions are spelled by two pieces: there is (`×`) the value of the first one, its
-- bytes, the bytes behind it, and what was met between.
abbrev pub Spells : {W F A : Type 0} → Layout W F A → ℕ → ℕ → W → A → List ℕ → W → Type 0
Spells (done a) end p t y b t' = (y ≡ a) × (b ≡ []) × (t' ≡ t)
Spells (broken f) end p t y b t' = ⊥
Spells (number f n) end p t y b t' = (y < 256 ^ n) × (b ≡ big_bytes n y) × (t' ≡ t)
Spells (bytes f n) end p t y b t' = (length y ≡ n) × (b ≡ y) × (t' ≡ t)
Spells (text f) end p t y b t' = SpellsText y b × (t' ≡ t)
Spells (name f) end p t y b t' = HasNoZero y × (b ≡ y ++ 0 ∷ []) × (t' ≡ t)
Spells here end p t y b t' = (y ≡ p) × (b ≡ []) × (t' ≡ t)
Spells (reaches e f) end p t y b t' = (e ≤ end) × (b ≡ []) × (t' ≡ t)
Spells met end p t y b t' = (y ≡ t) × (b ≡ []) × (t' ≡ t)
Spells (note u) end p t y b t' = (b ≡ []) × (t' ≡ u)
Spells (choice true l m) end p t y b t' = Spells l end p t y b t'
Spells (choice false l m) end p t y b t' = Spells m end p t y b t'
Spells {W = W} (behind {B = B} l k) end p t y b t' =
    (x : B)
    × (front : List ℕ)
    × (back : List ℕ)
    × (u : W)
    × (b ≡ front ++ back)
    × Spells l end p t x front u
    × Spells (k x) end (p + length front) u y back t'

-- ---- the first fault

-- The bytes are the beginning of a text that isn't whole, of which n bytes are wanted: 1 where there is no byte of length;
-- all of it behind a byte of length below 255; behind the byte 255 five, where its four bytes of length aren't whole, and
-- else all of it.
abbrev pub IsCutText : List ℕ → ℕ → Type 0
IsCutText [] n = n ≡ 1
IsCutText (b ∷ bs) n =
    ((b < 255) × (length bs < b) × (n ≡ 1 + b))
    ⊎ ((b ≡ 255) × (length bs < 4) × (n ≡ 5))
    ⊎ ((b ≡ 255)
    × (k : ℕ)
    × (own : List ℕ)
    × (k < 2 ^ 32)
    × (bs ≡ big_bytes 4 k ++ own)
    × (length own < k)
    × (n ≡ 5 + k))

-- The bytes b, from the place p to the end of the data, break it with the fault g, where t was met before: what stands before
-- one part is spelled, and this part breaks its rule.
abbrev pub Breaks : {W F A : Type 0} → Layout W F A → ℕ → W → List ℕ → F → Type 0
Breaks (done a) p t b g = ⊥
Breaks (broken f) p t b g = g ≡ f
Breaks (number f n) p t b g = (length b < n) × (g ≡ f p n)
Breaks (bytes f n) p t b g = (length b < n) × (g ≡ f p n)
Breaks (text f) p t b g = (n : ℕ) × IsCutText b n × (g ≡ f p n)
Breaks (name f) p t b g = HasNoZero b × (g ≡ f (p + length b) 1)
Breaks here p t b g = ⊥
Breaks (reaches e f) p t b g = (p + length b < e) × (g ≡ f)
Breaks met p t b g = ⊥
Breaks (note u) p t b g = ⊥
Breaks (choice true l m) p t b g = Breaks l p t b g
Breaks (choice false l m) p t b g = Breaks m p t b g
Breaks {W = W} (behind {B = B} l k) p t b g =
    Breaks l p t b g
    ⊎ ((x : B)
    × (front : List ℕ)
    × (rest : List ℕ)
    × (u : W)
    × (b ≡ front ++ rest)
    × Spells l (p + length b) p t x front u
    × Breaks (k x) (p + length front) u rest g)

-- ---- what reading took

-- what reading took from the front spells what it read
pub record HasTaken {W F A : Type 0} (l : Layout W F A) (old : Standing W) (y : A) (new : Standing W) : Type 0 where
  pub front : List ℕ
  pub parts : old.at.rest ≡ front ++ new.at.rest
  pub place : new.at.place ≡ old.at.place + length front
  pub spelled : Spells l (end_place old.at) old.at.place old.words y front new.words
