-- What is known of the classes that are declared one behind the other.
use Rattle.std.specs.Prelude.{ℕ, List, take}
use Rattle.rio_format.specs.declared.class.ClassDef.{ClassDef}
use Rattle.rio_model.specs.Declaring.{IsClosed}

-- at each front of the list what the classes hold is declared there
abbrev pub AreClosed : List ClassDef → Type 0
AreClosed classes = (k : ℕ) → IsClosed (take k classes)
