-- Names that are reached through bases and members by value.
use Rattle.std.specs.{Prelude.{◌≡◌, ℕ, List, ◌++◌, Bool, ◌||◌, ◌⊎◌, IsTrue}, List.{IsDistinct}, Str.{bytes_eq}}
use Rattle.rio_num.specs.Word.{is_among}
use Rattle.rio_format.specs.declared.class.ClassDef.{ClassDef}
use Rattle.rio_model.specs.Declaring.{Reaches}

-- the names are still there, and behind them the added ones; no name is there twice if none was
pub record IsGrown (old new : List (List ℕ)) (adds : List ℕ → Bool) : Type 0 where
  pub kept : (more : List (List ℕ)) × (new ≡ old ++ more)
  pub names : (name : List ℕ) → is_among new name ≡ (is_among old name || adds name)
  pub distinct : IsDistinct bytes_eq old → IsDistinct bytes_eq new

-- the last name is one of these, or one of these reaches it
abbrev pub ComesTo : List ClassDef → List (List ℕ) → List ℕ → Type 0
ComesTo classes names last = (name : List ℕ) × IsTrue (is_among names name) × ((name ≡ last) ⊎ Reaches classes name last)
