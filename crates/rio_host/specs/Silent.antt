-- A host that tells nothing of its contents.
use Rattle.std.specs.Prelude.{ℕ, None}
use Rattle.std.proofs.lemmas.Option.{none-some}
use Rattle.rio_host.specs.Host.{View, IsLawful}

-- a stop may leave anything
abbrev pub silent_view : ℕ → ℕ → ℕ → View
silent_view disk_faults say_faults reads = record {
  holds = None;
  said = None;
  now = 0;
  left_since = λ t image said. Unit {0};
  disk_faults = disk_faults;
  say_faults = say_faults;
  reads = reads;
}

pub silent_lawful : (disk_faults say_faults reads : ℕ) → IsLawful (silent_view disk_faults say_faults reads)
silent_lawful d s r = record {
  earlier = λ t u image said le left. tt;
  text = λ image said all left told. absurd (none-some all told);
  as_read = λ image told. absurd (none-some image told);
}
