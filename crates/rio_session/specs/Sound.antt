-- What holds of all that a session keeps, whatever its host tells.
use Rattle.std.specs.Prelude.{◌≡◌, false}
use Rattle.rio_model.specs.StateClasses.{StateClasses}
use Rattle.rio_session.specs.{Due.{IsClosableWith}, SessionState.{SessionState}}

-- The classes are such as commands declare, and a session that hasn't failed can be closed.
pub record IsSoundState (s : SessionState) : Type 0 where
  pub classes : StateClasses s.classes
  pub kept : s.failed ≡ false → IsClosableWith s.segments s.heads s.trees s.info s.name
