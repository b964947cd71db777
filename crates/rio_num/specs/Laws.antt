-- How the meanings of a description belong together.
use Rattle.std.specs.Prelude.{◌≡◌, ◌≤◌, ℕ, ◌+◌, List, ◌++◌, length, Ok, Err}
use Rattle.rio_num.specs.{At.{AreBytes}, Layout.{Layout}, Meanings.{Standing, read, stand, Spells, Breaks, HasTaken}}

-- The four laws of one description. They are proved for every description.
pub record Agrees {W F A : Type 0} (l : Layout W F A) : Type 0 where
  -- what is spelled is read, whatever follows, and reading stands behind it
  pub spelled_is_read : (end p : ℕ) (t : W) (y : A) (b more : List ℕ) (t' : W)
      → end ≤ p + length (b ++ more) → Spells l end p t y b t'
      → read l (stand p (b ++ more) t) ≡ Ok (y, stand (p + length b) more t')
  -- where bytes break with a fault, reading gives it
  pub broken_is_fault : (p : ℕ) (t : W) (b : List ℕ) (g : F)
      → Breaks l p t b g → read l (stand p b t) ≡ Err g
  -- what is read is spelled by the bytes before the place where reading stands
  pub read_is_spelled : (s : Standing W) (y : A) (s' : Standing W)
      → AreBytes s.at.rest → read l s ≡ Ok (y, s') → HasTaken l s y s'
  -- where reading gives a fault, the bytes break with it
  pub fault_is_broken : (s : Standing W) (g : F)
      → AreBytes s.at.rest → read l s ≡ Err g → Breaks l s.at.place s.words s.at.rest g
