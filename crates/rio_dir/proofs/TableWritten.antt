-- How long what is written of heads is, and what is left of it.
use Rattle.std.proofs.Common.{◌≡◌, ◌∙◌, ℕ, zero, suc, ◌+◌, ◌<◌, ◌≤◌, List, [], ◌∷◌, ◌++◌, length, get_or, drop, Result, Ok, Err, OnOk, OnErr, add-one, rules, refl, ap, sym, append_assoc, arith}
use Rattle.std.proofs.lemmas.List.{append-nil, drop_all, length-append, Sums.{sum_by-cons}}
use Rattle.std.specs.List.{flat_map, sum_by}
use Rattle.rio_num.specs.{Room.{Room, Appends, with_more}, declared.no_memory.NoMemory.{NoMemory}}
use Rattle.rio_key.specs.declared.head.KeyHead.{KeyHead}

module _ (f : KeyHead → List ℕ) where
  abbrev pub size : List KeyHead → ℕ
  size heads = sum_by (λ h. length (f h)) heads

  pub length-flat : (heads : List KeyHead) → length (flat_map f heads) ≡ size heads
  length-flat [] = refl
  length-flat (h ∷ hs) = omega (arith, length-append (f h) (flat_map f hs), length-flat hs, sum_by-cons (λ (k : KeyHead). length (f k)) h hs)

  size_after : (heads : List KeyHead) (i : ℕ) (h : KeyHead) → i < length heads → h ≡ get_or heads i h → size (drop i heads) ≡ length (f h) + size (drop (suc i) heads)
  size_after [] i h lt is = absurd (omega (arith, lt))
  size_after (k ∷ ks) zero h lt is = sum_by-cons (λ (x : KeyHead). length (f x)) k ks ∙ ap (λ (x : KeyHead). length (f x) + size ks) (sym is)
  size_after (k ∷ ks) (suc i) h lt is = size_after ks i h (omega (arith, lt)) is

  written_after : (heads : List KeyHead) (i : ℕ) (h : KeyHead) → i < length heads → h ≡ get_or heads i h → flat_map f (drop i heads) ≡ f h ++ flat_map f (drop (suc i) heads)
  written_after [] i h lt is = absurd (omega (arith, lt))
  written_after (k ∷ ks) zero h lt is = ap (λ (x : KeyHead). f x ++ flat_map f ks) (sym is)
  written_after (k ∷ ks) (suc i) h lt is = written_after ks i h (omega (arith, lt)) is

  pub size_left : (heads : List KeyHead) (i : ℕ) (h : KeyHead) → i < length heads → h ≡ get_or heads i h → size (drop i heads) ≡ length (f h) + size (drop (i + 1) heads)
  size_left heads i h lt is = rw (add-one i) (size_after heads i h lt is)

  pub written_left : (heads : List KeyHead) (i : ℕ) (h : KeyHead) → i < length heads → h ≡ get_or heads i h → flat_map f (drop i heads) ≡ f h ++ flat_map f (drop (i + 1) heads)
  written_left heads i h lt is = rw (add-one i) (written_after heads i h lt is)

  pub one_written : (heads : List KeyHead) (i : ℕ) (h : KeyHead) (now new was : List ℕ) → i < length heads → h ≡ get_or heads i h → new ≡ now ++ f h → now ++ flat_map f (drop i heads) ≡ was → new ++ flat_map f (drop (i + 1) heads) ≡ was
  one_written heads i h now new was lt is e all =
      ap (λ (l : List ℕ). l ++ flat_map f (drop (i + 1) heads)) e ∙ append_assoc now (f h) (flat_map f (drop (i + 1) heads)) ∙ ap (λ (l : List ℕ). now ++ l) (sym (written_left heads i h lt is)) ∙ all

  pub all_written : (heads : List KeyHead) (i : ℕ) (now was : List ℕ) → length heads ≤ i → now ++ flat_map f (drop i heads) ≡ was ++ flat_map f heads → now ≡ was ++ flat_map f heads
  all_written heads i now was le e = rw (drop_all i heads le, append-nil) at e

  pub none_left : (heads : List KeyHead) (i : ℕ) → length heads ≤ i → size (drop i heads) ≡ 0
  none_left heads i le = ap size (drop_all i heads le)

pub appends_ok : (old new : Room) (more : List ℕ) (result : Result (Unit {0}) NoMemory) → Appends old new more result → OnOk result (new ≡ with_more old more)
appends_ok old new more (Ok x) is = is
appends_ok old new more (Err e) is = search rules

pub appends_err : (old new : Room) (more : List ℕ) (result : Result (Unit {0}) NoMemory) → Appends old new more result → OnErr result (new ≡ old)
appends_err old new more (Ok x) is = search rules
appends_err old new more (Err e) is = is.0
