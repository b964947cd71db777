-- What a session's commands do to its file, by the definition of runs on files.
use Rattle.std.specs.Prelude.{◌≡◌, ◌<◌, ℕ, ◌^◌, List, map, true, false, Some}
use Rattle.rio_host.specs.Host.{View}
use Rattle.rio_chain.specs.{Chains.{HasChain}, Segments.{Link, segment_of}, Stops.{KeepsFront}}
use Rattle.rio_machine.specs.{State.{State}, declared.command.Command.{Command}}
use Rattle.rio_step.specs.{Statable.{IsStatable}, Step.{step}}
use Rattle.rio_effect.specs.FileRuns.{FileRecords, FileStep, file_step}
use Rattle.rio_session.specs.{Kept.{all_done, changes_after, kept_after}, Fills.{put_in}, Session.{HoldsState, SessionState, file_records, next_of}, Sound.{IsSoundState}}

-- the baskets of pending rows that were put are those that what is kept says
abbrev pub PutsAre : FileRecords → SessionState → Type 0
PutsAre records s = (name : List ℕ) → records.put name ≡ put_in s.trees name

-- The step by the records of the file is the step by what the session keeps: with the same state and reply, the same records after it,
-- and their segments.
pub record FollowsFile (s : SessionState) (m : State) (c : Command) (links : List Link) (t : FileStep) : Type 0 where
  pub next : step m c t.mark ≡ next_of s m c
  pub links_are : t.records.links ≡ all_done (changes_after s m c) links
  pub puts_are : PutsAre t.records (kept_after s m c)
  pub segments : map segment_of t.records.links ≡ (kept_after s m c).segments

-- Where a session stands for a state on a file, the file's records tell each step of a command that is judged.
abbrev pub StepsFollowFiles : Type 0
StepsFollowFiles = (s : SessionState) (m : State) (file : List ℕ) (c : Command) (h : HoldsState s m file) → IsSoundState s → s.failed ≡ false → s.datime < 2 ^ 32 → IsStatable c
    → FollowsFile s m c h.links (file_step s.datime (file_records s h.links) m c)

-- The records of the file tell the command's step: with their mark it is the one of the session.
abbrev pub IsStepTold : SessionState → State → Command → List Link → Type 0
IsStepTold s m c links = step m c (file_step s.datime (file_records s links) m c).mark ≡ next_of s m c

-- The file has after a command the records that the definition of runs tells, each at its place and with its bytes.
pub record HasRecords (old new : View) (after : SessionState) (file : List ℕ) (t : FileStep) : Type 0 where
  pub now : List ℕ
  pub holds : new.holds ≡ Some now
  pub chain : HasChain t.records.links after.segments now
  pub front : KeepsFront file now
  pub puts_are : PutsAre t.records after

abbrev pub RecordsBecome : View → View → SessionState → SessionState → State → Command → Type 0
RecordsBecome old new before after m c = (file : List ℕ) (links : List Link) → old.holds ≡ Some file → HasChain links before.segments file
    → HasRecords old new after file (file_step before.datime (file_records before links) m c)
