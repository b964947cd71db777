-- The line that is said of a generated file, once it is closed.
use Rattle.std.specs.Prelude.{ℕ, List}
use Rattle.rio_chain.specs.Segments.{Link}
use Rattle.rio_gen.specs.{Generated.{gen_script, tree_name}, Summary.{summary_text}}
use Rattle.rio_machine.specs.State.{empty_state}
use Rattle.rio_state.specs.KeyedRecords.{keyed_records}
use Rattle.rootio.specs.{Records.{closed_records, without_pending}, Summaries.{summary_among}, Target.{TargetFile}}

-- the records of a generated file that began with these
abbrev pub generated_records : TargetFile → ℕ → List Link → List Link
generated_records target entries links = closed_records target.datime (without_pending links) empty_state (gen_script entries)

-- gen N entries 20 branches B baskets sum S, where the file has these records before its close: N as it was asked for, the baskets of the
-- tree, and the sum of its rows
abbrev pub line_of_records : ℕ → List Link → List ℕ
line_of_records entries links = summary_text (summary_among entries (keyed_records links) tree_name)

-- that of a file which began with these
abbrev pub generated_line : TargetFile → ℕ → List Link → List ℕ
generated_line target entries links = line_of_records entries (generated_records target entries links)
