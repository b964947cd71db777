-- Runs on files, command by command.
use Rattle.std.proofs.Common.{◌≡◌, ℕ, List, refl}
use Rattle.rio_effect.specs.FileRuns.{FileRecords, RunsHaveParts, file_run}

pub runs_have_parts : RunsHaveParts
unfolding file_run
runs_have_parts datime now m c commands = refl

-- records of a file are the same where their links are, and the baskets of each name
pub same_records : (a b : FileRecords) → a.links ≡ b.links → ((name : List ℕ) → a.put name ≡ b.put name) → a ≡ b
same_records a b links put = λ i. record { links = links i; put = λ name. put name i }
