-- How a call tells which values fit, and which numbers their leaves say.
use Rattle.std.specs.Prelude.{◌≡◌, List, Bool, true}
use Rattle.rio_format.specs.{Bodies.{Counters}, Counts.{SaysAsFirst}, declared.class.ClassDef.{ClassDef}, declared.value.Value.{Value}}
use Rattle.rio_machine.specs.Rows.{Column, columns_fit, leaf_numbers_after}
use Rattle.std.specs.{BTreeMap.{BTreeMap}, Borrow.{Bor}}
use Rattle.std.specs.Prelude.{ℕ, ℤ}

-- Values fit these columns, behind leaves that say such numbers; and where they do, the numbers of their leaves stand before those.
pub record TellsFit (classes : List ClassDef) (columns : List Column) (values : List Value) (before : Counters) (fit : Bool) (numbers : BTreeMap (Bor (List ℕ)) ℤ) : Type 0 where
  pub fits : fit ≡ columns_fit classes columns values before
  pub says : fit ≡ true → SaysAsFirst numbers (leaf_numbers_after columns values before)
