-- What it is to print the rows of a tree.
use Rattle.std.specs.Prelude.{◌≡◌, ℕ, List, length, map, take, Option, Ok, Result, IfOk}
use Rattle.rio_host.specs.Host.{View}
use Rattle.rio_chain.specs.{Chains.{HasChain}, Segments.{Link}, Walks.{Told}}
use Rattle.rio_fill.specs.Fill.{entry_count}
use Rattle.rio_machine.specs.{State.{Row}, declared.command.Outcome.{Outcome}}
use Rattle.rio_reply.specs.Scanned.{scan_start}
use Rattle.rio_format.specs.declared.class.Base.{Base}
use Rattle.rio_session.specs.{Causes.{IsSaid}, Fills.{FilledTree}, Gets.{PrintsTold}, Replying.{Replies}, Scans.{AreRowsOf, FoundRow, lines_behind}}
use Rattle.rio_session.specs.{SessionState.{SessionState}, declared.fault.SessionFault.{SessionFault}}

-- The name of a tree and how many rows it has are printed, and then a line of each row, whatever the host tells: a row that isn't read has a line
-- that says why. Where the host tells the rows, they are these. With a class the objects of it are printed as they are in the version, or it is
-- printed why the first row can't be had so, and no row.
pub record TellsRows (replies : Replies) (name : List ℕ) (class : Option Base) (t : FilledTree) (old new : View) (before after : SessionState) (answer : Result Outcome SessionFault) : Type 0 where
  pub rows : List FoundRow
  pub count : IsSaid answer → IfOk (lines_behind before.classes class 0 (scan_start name (entry_count t.fill)) rows) (λ text. length rows ≡ entry_count t.fill)
  pub told : Told old (λ file. (links : List Link) (all : List Row) → HasChain links before.segments file → AreRowsOf before.classes links t.fill all
      → rows ≡ map (λ row. Ok row) (take (length rows) all))
  pub prints : PrintsTold replies (lines_behind before.classes class 0 (scan_start name (entry_count t.fill)) rows) old new before after answer
