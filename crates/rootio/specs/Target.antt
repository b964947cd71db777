-- A file that is written to, as the words name it.
use Rattle.std.specs.Prelude.{ℕ, List}

-- its name, and the datime of what is written to it
pub record TargetFile : Type 0 where
  pub name : List ℕ
  pub datime : ℕ
