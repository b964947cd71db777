-- What is written of objects.
use Rattle.std.specs.{Prelude.{◌≡◌, ℕ, ◌+◌, ◌-◌, ◌^◌, List, [], ◌∷◌, ◌++◌, length, map, take, drop, Option, Some, None, Result, Ok, Err, find}, Str.{bytes_eq}}
use Rattle.std.specs.declared.vec.Vec.{Vec}
use Rattle.byteorder.specs.Endian.{big_bytes}
use Rattle.indexmap.specs.IndexMap.{IndexMap}
use Rattle.rio_num.specs.{Room.{Room}, declared.no_memory.NoMemory.{NoMemory}}
use Rattle.rio_format.specs.ReaderState.{WordsMet, no_words, with_label, with_name}

pub record WriterState : Type 0 where
  -- the place of the first byte
  pub start : ℕ
  -- the bytes so far, with zeros for the count words that are open
  pub bytes : List ℕ
  -- where the open count words stand among these bytes, the innermost first
  pub opened : List ℕ
  -- the labels and class names so far
  pub words : WordsMet

-- the names that have a place, each with the place of the class word that spells it out
abbrev pub spelled : {A S : Type 0} → IndexMap (Vec ℕ A) ℕ S → List (ℕ × List ℕ)
spelled names = map (λ e. (e.1, e.0.items)) names.entries

abbrev pub nothing_written : ℕ → WriterState
nothing_written start = record { start = start; bytes = []; opened = []; words = no_words }

-- the place of the next byte
abbrev pub next_place : WriterState → ℕ
next_place s = s.start + length s.bytes

abbrev pub with_bytes : List ℕ → WriterState → WriterState
with_bytes more s = record s { bytes = s.bytes ++ more }

-- These bytes were put at the end, or memory ran out and nothing changed.
abbrev pub Puts : List ℕ → Result (Unit {0}) NoMemory → WriterState → WriterState → Type 0
Puts more (Ok x) old new = new ≡ with_bytes more old
Puts more (Err e) old new = new ≡ old

-- ---- class words

-- what is written at a place behind the words that were met, and the words met then
abbrev pub Writer : Type 0
Writer = ℕ → WordsMet → List ℕ × WordsMet

-- the name, where it stands for the first time, and else a reference to where it stood
abbrev pub class_by : List ℕ → Option (ℕ × List ℕ) → Writer
class_by class None p t = (big_bytes 4 (2 ^ 32 - 1) ++ (class ++ 0 ∷ []), with_name t p class)
class_by class (Some e) p t = (big_bytes 4 (e.0 + (2 ^ 31 + 2)), t)

abbrev pub class_bytes : List ℕ → Writer
class_bytes class p t = class_by class (find (λ e. bytes_eq e.1 class) t.names) p t

-- ---- objects

-- a count word, which is open, and these bytes
abbrev pub begun : List ℕ → WriterState → WriterState
begun more s = record s { bytes = s.bytes ++ (big_bytes 4 0 ++ more); opened = length s.bytes ∷ s.opened }

-- a count word, which is open, and the class word of a new object, which has the next label
abbrev pub begun_pointer : List ℕ → WriterState → WriterState
begun_pointer class s =
    let word = class_bytes class (next_place s + 4) s.words in
    record (begun word.0 s) { words = with_label word.1 (next_place s) }

-- An object was begun by the state that is given, or memory ran out and nothing changed.
abbrev pub Begins : (WriterState → WriterState) → Result ℕ NoMemory → WriterState → WriterState → Type 0
Begins begin (Ok place) old new = (place ≡ length old.bytes) × (new ≡ begin old)
Begins begin (Err e) old new = new ≡ old

-- A count word, which is open, and these bytes were put at the end, or memory ran out and nothing changed. Nothing is spare
-- behind them where nothing was.
abbrev pub OpensCount : List ℕ → Result ℕ NoMemory → Room → Room → List ℕ → List ℕ → Type 0
OpensCount more (Ok place) old new opened opened' =
    (place ≡ length old.bytes) × (new.bytes ≡ old.bytes ++ (big_bytes 4 0 ++ more)) × (opened' ≡ length old.bytes ∷ opened) × (old.spare ≡ 0 → new.spare ≡ 0)
OpensCount more (Err e) old new opened opened' = (new ≡ old) × (opened' ≡ opened)

abbrev pub innermost : List ℕ → Option ℕ
innermost [] = None
innermost (place ∷ others) = Some place

-- how many bytes stand behind the count word at the place
abbrev pub counted_from : ℕ → List ℕ → ℕ
counted_from place bytes = length bytes - (place + 4)

-- the count word at the place counts the bytes behind it
abbrev pub with_count : ℕ → List ℕ → List ℕ
with_count place bytes = take place bytes ++ (big_bytes 4 (counted_from place bytes + 2 ^ 30) ++ drop (place + 4) bytes)

-- the innermost object, whose count word stands at the place, is closed
abbrev pub ended : ℕ → WriterState → WriterState
ended place s = record s { bytes = with_count place s.bytes; opened = drop 1 s.opened }
