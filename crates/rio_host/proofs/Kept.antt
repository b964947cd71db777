-- One call more joins those that are recorded, and what is kept is again that of the disk.
use Rattle.std.proofs.Common.{◌≡◌, ℕ, List, [], ◌∷◌, ◌++◌, refl, sym, ◌∙◌, ap}
use Rattle.rio_host.specs.{declared.call.Call.{Call, TheVariants.{Write, FailedWrite, Sync, Saying, Said}}, declared.change.Change.{Change}}
use Rattle.rio_host.specs.{declared.disk.Disk.{Disk}, Replay.{put_by, at_first, disk_behind, replay, Memory, and_then, disk_of}, Memory.{IsKept}}

replay_push : (d : Disk) (calls : List Call) (call : Call) → replay d (calls ++ call ∷ []) ≡ disk_behind (replay d calls) call
replay_push d [] call = refl
replay_push d (c ∷ calls) call = replay_push (disk_behind d c) calls call

pub disk_of-and_then : (m : Memory) (call : Call) → disk_of (and_then m call) ≡ disk_behind (disk_of m) call
disk_of-and_then m call = replay_push (at_first m.first) m.calls call

module _ (first : List ℕ) (calls : List Call) (held text : List ℕ) (kept : IsKept (record { first = first; calls = calls }) held text) (calls' : List Call) where
  abbrev pub before : Memory
  before = record { first = first; calls = calls }

  abbrev pub after : Memory
  after = record { first = first; calls = calls' }

  kept_call : (call : Call) (held' text' : List ℕ) → calls' ≡ calls ++ call ∷ [] → held' ≡ (disk_behind (disk_of before) call).contents → text' ≡ (disk_behind (disk_of before) call).text → IsKept after held' text'
  kept_call call held' text' is contents said =
      let now : disk_of after ≡ disk_behind (disk_of before) call = ap (λ (l : List Call). replay (at_first first) l) is ∙ disk_of-and_then before call in
      record { contents = contents ∙ ap (λ (d : Disk). d.contents) (sym now); said = said ∙ ap (λ (d : Disk). d.text) (sym now) }

  pub kept_write : (change : Change) (held' : List ℕ) → calls' ≡ calls ++ Write change ∷ [] → held' ≡ put_by change (disk_of before).contents → IsKept after held' text
  kept_write change held' is put = kept_call (Write change) held' text is put kept.said

  pub kept_failed_write : (change : Change) → calls' ≡ calls ++ FailedWrite change ∷ [] → IsKept after held text
  kept_failed_write change is = kept_call (FailedWrite change) held text is kept.contents kept.said

  pub kept_sync : calls' ≡ calls ++ Sync ∷ [] → IsKept after held text
  kept_sync is = kept_call Sync held text is kept.contents kept.said

  pub kept_say : (bytes text' : List ℕ) → calls' ≡ (calls ++ Saying bytes ∷ []) ++ Said ∷ [] → text' ≡ text ++ bytes → IsKept after held text'
  kept_say bytes text' is more =
      let saying : Memory = and_then before (Saying bytes) in
      let first_step : disk_of saying ≡ disk_behind (disk_of before) (Saying bytes) = disk_of-and_then before (Saying bytes) in
      let now : disk_of after ≡ disk_behind (disk_behind (disk_of before) (Saying bytes)) Said =
      ap (λ (l : List Call). replay (at_first first) l) is ∙ disk_of-and_then saying Said ∙ ap (λ (d : Disk). disk_behind d Said) first_step in
      record {
        contents = kept.contents ∙ ap (λ (d : Disk). d.contents) (sym now);
        said = more ∙ ap (λ (l : List ℕ). l ++ bytes) kept.said ∙ ap (λ (d : Disk). d.text) (sym now);
      }
