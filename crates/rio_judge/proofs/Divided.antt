-- Keys that a test divides: what is found among those that it keeps.
use Rattle.std.proofs.Common.{◌≡◌, ℕ, ◌∙◌, List, [], ◌∷◌, map, Bool, true, false, cond, ltb, max, Option, Some, None, refl, sym, ap}
use Rattle.std.specs.List.{filter, find}
use Rattle.std.specs.Str.{bytes_eq}
use Rattle.rio_key.specs.declared.head.KeyHead.{KeyHead}
use Rattle.rio_dir.specs.Table.{AreBehind, AreOrdered, greatest_cycle, is_of_name}

module _ (keep : KeyHead → Bool) where
  -- all that a search may find is kept
  pub find_kept : (q : KeyHead → Bool) → ((h : KeyHead) → q h ≡ true → keep h ≡ true) → (hs : List KeyHead) → find q (filter keep hs) ≡ find q hs
  find_kept q kept [] = refl
  find_kept q kept (h ∷ hs) = by (q h) (keep h) refl refl (find_kept q kept hs)
    where
      by : (b c : Bool) → q h ≡ b → keep h ≡ c → find q (filter keep hs) ≡ find q hs
          → find q (cond c (h ∷ filter keep hs) (filter keep hs)) ≡ cond b (Some h) (find q hs)
      by true true e f ih = ap (λ x. cond x (Some h) (find q (filter keep hs))) e
      by true false e f ih = let is = kept h e in absurd cc
      by false true e f ih = ap (λ x. cond x (Some h) (find q (filter keep hs))) e ∙ ih
      by false false e f ih = ih

  -- nothing that a search may find is kept
  pub find_dropped : (q : KeyHead → Bool) → ((h : KeyHead) → q h ≡ true → keep h ≡ false) → (hs : List KeyHead) → find q (filter keep hs) ≡ None
  find_dropped q dropped [] = refl
  find_dropped q dropped (h ∷ hs) = by (q h) (keep h) refl refl (find_dropped q dropped hs)
    where
      by : (b c : Bool) → q h ≡ b → keep h ≡ c → find q (filter keep hs) ≡ None → find q (cond c (h ∷ filter keep hs) (filter keep hs)) ≡ None
      by true true e f ih = let is = dropped h e in absurd cc
      by true false e f ih = ih
      by false true e f ih = ap (λ x. cond x (Some h) (find q (filter keep hs))) e ∙ ih
      by false false e f ih = ih

  pub greatest_kept : (name : List ℕ) → ((h : KeyHead) → is_of_name name h ≡ true → keep h ≡ true) → (hs : List KeyHead) → greatest_cycle name (filter keep hs) ≡ greatest_cycle name hs
  greatest_kept name kept [] = refl
  greatest_kept name kept (h ∷ hs) = by (is_of_name name h) (keep h) refl refl (greatest_kept name kept hs)
    where
      by : (b c : Bool) → is_of_name name h ≡ b → keep h ≡ c → greatest_cycle name (filter keep hs) ≡ greatest_cycle name hs
          → greatest_cycle name (cond c (h ∷ filter keep hs) (filter keep hs)) ≡ cond b (max h.cycle (greatest_cycle name hs)) (greatest_cycle name hs)
      by true true e f ih = ap (λ x. cond x (max h.cycle (greatest_cycle name (filter keep hs))) (greatest_cycle name (filter keep hs))) e ∙ ap (max h.cycle) ih
      by true false e f ih = let is = kept h e in absurd cc
      by false true e f ih = ap (λ x. cond x (max h.cycle (greatest_cycle name (filter keep hs))) (greatest_cycle name (filter keep hs))) e ∙ ih
      by false false e f ih = ih

  behind_kept : (name : List ℕ) (cycle : ℕ) (hs : List KeyHead) → AreBehind name cycle hs → AreBehind name cycle (filter keep hs)
  behind_kept name cycle [] are = tt
  behind_kept name cycle (h ∷ hs) are = by (keep h) (behind_kept name cycle hs are.1)
    where
      by : (c : Bool) → AreBehind name cycle (filter keep hs) → AreBehind name cycle (cond c (h ∷ filter keep hs) (filter keep hs))
      by true later = (are.0, later)
      by false later = later

  pub ordered_kept : (hs : List KeyHead) → AreOrdered hs → AreOrdered (filter keep hs)
  ordered_kept [] are = tt
  ordered_kept (h ∷ hs) are = by (keep h) (ordered_kept hs are.1)
    where
      by : (c : Bool) → AreOrdered (filter keep hs) → AreOrdered (cond c (h ∷ filter keep hs) (filter keep hs))
      by true later = (behind_kept h.name h.cycle hs are.0, later)
      by false later = later
