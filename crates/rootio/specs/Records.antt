-- What commands do to the records of a file that has no pending rows.
use Rattle.std.specs.Prelude.{ℕ, List}
use Rattle.rio_chain.specs.Segments.{Link}
use Rattle.rio_effect.specs.FileRuns.{FileRecords, FileRun, file_run, none_put, saved_records}
use Rattle.rio_machine.specs.{State.{State}, declared.command.Command.{Command}}
use Rattle.rio_step.specs.Runs.{state_after}

-- these records, none of which is a basket of pending rows
abbrev pub without_pending : List Link → FileRecords
without_pending links = record { links = links; put = none_put }

-- what commands do at this time to a file that has just these records
abbrev pub file_run_from : ℕ → List Link → State → List Command → FileRun
file_run_from datime links m commands = file_run datime (without_pending links) m commands

-- the records behind commands and the saves of the close
abbrev pub closed_records : ℕ → FileRecords → State → List Command → List Link
closed_records datime now m commands =
    let run = file_run datime now m commands in (saved_records datime run.records (state_after m commands run.marks)).links
