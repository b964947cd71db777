-- A description of what stands in bytes, from left to right: the rules of a format, each once.
use Rattle.std.specs.Prelude.{ℕ, Bool, List, [], ◌∷◌, replicate, Option, Some, None}

-- What is read is an A. W is what was met before, to which later parts may refer, as labels and names of classes; F are the
-- faults. Where bytes are too few, the fault is made of the place and of how many bytes are wanted there.
pub data Layout (W F : Type 0) : Type 0 → Type 1 where
  -- nothing more: this is read
  done : {A : Type 0} → A → Layout W F A
  -- a rule is broken here
  broken : {A : Type 0} → F → Layout W F A
  -- a number of so many bytes, the highest first
  number : (ℕ → ℕ → F) → ℕ → Layout W F ℕ
  -- so many bytes, whatever they are
  bytes : (ℕ → ℕ → F) → ℕ → Layout W F (List ℕ)
  -- a text with its length before it
  text : (ℕ → ℕ → F) → Layout W F (List ℕ)
  -- a name with a zero byte behind it
  name : (ℕ → ℕ → F) → Layout W F (List ℕ)
  -- nothing: the place where it stands
  here : Layout W F ℕ
  -- nothing: the data go as far as this place, or else this fault
  reaches : ℕ → F → Layout W F (Unit {0})
  -- nothing: what was met before
  met : Layout W F W
  -- nothing: from here on this is what was met before
  note : W → Layout W F (Unit {0})
  -- the one or the other
  choice : {A : Type 0} → Bool → Layout W F A → Layout W F A → Layout W F A
  -- one description, and behind it another, which depends on what the first one reads
  behind : {A B : Type 0} → Layout W F B → (B → Layout W F A) → Layout W F A

-- `x ← l` in a do-block: what l reads is x in the lines below
infixl 10 ◌>>=◌
abbrev pub ◌>>=◌ : {W F A B : Type 0} → Layout W F B → (B → Layout W F A) → Layout W F A
l >>= k = behind l k

-- a choice by a test
infix 5 when◌then◌else◌
abbrev pub when◌then◌else◌ : {W F A : Type 0} → Bool → Layout W F A → Layout W F A → Layout W F A
when b then l else m = choice b l m

-- ---- words for rules

-- this holds, or else the fault
abbrev pub must : {W F : Type 0} → Bool → F → Layout W F (Unit {0})
must b f = choice b (done tt) (broken f)

-- what was looked up, or else the fault
abbrev pub known : {W F A : Type 0} → F → Option A → Layout W F A
known f None = broken f
known f (Some a) = done a

-- so many bytes, which are passed over
abbrev pub any : {W F : Type 0} → (ℕ → ℕ → F) → ℕ → Layout W F (Unit {0})
any f n = behind (bytes f n) (λ b. done tt)

-- what l says for each of a list, in order
unfoldable pub each : {W F X Y : Type 0} → (X → Layout W F Y) → List X → Layout W F (List Y)
each l [] = done []
each l (x ∷ xs) = do
  y ← l x
  ys ← each l xs
  done (y ∷ ys)

-- the same thing so many times
abbrev pub times : {W F Y : Type 0} → ℕ → Layout W F Y → Layout W F (List Y)
times n l = each (λ (x : Unit {0}). l) (replicate n tt)

-- the same description, with another fault for each of its faults
unfoldable pub retold : {W F G A : Type 0} → (G → F) → Layout W G A → Layout W F A
retold h (done a) = done a
retold h (broken f) = broken (h f)
retold h (number f n) = number (λ place wanted. h (f place wanted)) n
retold h (bytes f n) = bytes (λ place wanted. h (f place wanted)) n
retold h (text f) = text (λ place wanted. h (f place wanted))
retold h (name f) = name (λ place wanted. h (f place wanted))
retold h here = here
retold h (reaches e f) = reaches e (h f)
retold h met = met
retold h (note t) = note t
retold h (choice b l m) = choice b (retold h l) (retold h m)
retold h (behind l k) = behind (retold h l) (λ x. retold h (k x))
