use Rattle.std.proofs.Common.{ℕ, List, Option, Some, inl, refl, sym, ap, subst, rules}
use Rattle.rio_host.specs.{declared.call.Call.TheVariants.{Write, FailedWrite}, Host.{Becomes}, Replay.{ChangeDone, disk_of, put_by}}
use Rattle.rio_host.specs.ReplayLaws.{makes_same, put_by_makes, put_by_puts}
use Rattle.rio_host.proofs.Calls.{change_still, change_holds, change_disk, change_flies, change_none}
use Rattle.rio_host.proofs.memory.MemHost.put.Goals as goal

abbrev some : List ℕ → Option (List ℕ)
some l = Some l

pub returns-then-is_err-clause-disk : goal.returns-then-is_err-clause-disk
returns-then-is_err-clause-disk c = c.run_short.ensures.disk c.args.change

pub returns-in-Err-clause-disk : goal.returns-in-Err-clause-disk
returns-in-Err-clause-disk c = change_none c.args.change c.args.self.now.recording c.fail_write.new.self c.args.self.now.disk_faults c.args.self.now.say_faults c.args.self.now.reads _ _ c.in-Err.ensures.err (search rules)

pub returns-in-Err-write-clause-disk : goal.returns-in-Err-write-clause-disk
returns-in-Err-write-clause-disk c = change_none c.args.change c.args.self.now.recording c.write.new.self c.args.self.now.disk_faults c.args.self.now.say_faults c.args.self.now.reads _ _ c.in-Err-write.ensures.err (search rules)

pub invariant_of-self-in-Ok : goal.invariant_of-self-in-Ok
invariant_of-self-in-Ok c =
    let m = c.args.self.now.recording in
    record { still = change_still m (FailedWrite c.args.change) c.args.change (disk_of m).contents refl c.fail_write.new.self c.in-Ok.ensures.ok c.args.self.now.still }

pub returns-in-Ok-clause-disk : goal.returns-in-Ok-clause-disk
returns-in-Ok-clause-disk c =
    let m = c.args.self.now.recording in
    change_disk m (FailedWrite c.args.change) c.args.change (disk_of m).contents refl c.fail_write.new.self c.in-Ok.ensures.ok c.args.self.now.disk_faults c.args.self.now.say_faults c.args.self.now.reads _ (search rules) (makes_same c.args.change (disk_of m).contents)

pub returns-in-Ok-clause-failed : goal.returns-in-Ok-clause-failed
returns-in-Ok-clause-failed c =
    let m = c.args.self.now.recording in
    ap (λ (l : List ℕ). some l) (change_holds m (FailedWrite c.args.change) c.args.change (disk_of m).contents refl c.fail_write.new.self c.in-Ok.ensures.ok)

pub returns-in-Ok-clause-fails : goal.returns-in-Ok-clause-fails
returns-in-Ok-clause-fails c =
    let m = c.args.self.now.recording in
    inl (search rules, search rules, change_flies m (FailedWrite c.args.change) c.args.change (disk_of m).contents refl c.fail_write.new.self c.in-Ok.ensures.ok c.args.self.now.disk_faults c.args.self.now.say_faults c.args.self.now.reads 0 0 0)

pub invariant_of-self-in-Ok-write : goal.invariant_of-self-in-Ok-write
invariant_of-self-in-Ok-write c =
    let m = c.args.self.now.recording in
    record { still = change_still m (Write c.args.change) c.args.change (put_by c.args.change (disk_of m).contents) refl c.write.new.self c.in-Ok-write.ensures.ok c.args.self.now.still }

pub returns-in-Ok-write-clause-written : goal.returns-in-Ok-write-clause-written
returns-in-Ok-write-clause-written c =
    let m = c.args.self.now.recording in
    subst (λ (l : List ℕ). Becomes (ChangeDone c.args.change) (Some (disk_of m).contents) (Some l)) (sym (change_holds m (Write c.args.change) c.args.change (put_by c.args.change (disk_of m).contents) refl c.write.new.self c.in-Ok-write.ensures.ok))
    (put_by c.args.change (disk_of m).contents, refl, put_by_puts c.args.change (disk_of m).contents (c.requires (disk_of m).contents refl))

pub returns-in-Ok-write-clause-disk : goal.returns-in-Ok-write-clause-disk
returns-in-Ok-write-clause-disk c =
    let m = c.args.self.now.recording in
    change_disk m (Write c.args.change) c.args.change (put_by c.args.change (disk_of m).contents) refl c.write.new.self c.in-Ok-write.ensures.ok c.args.self.now.disk_faults c.args.self.now.say_faults c.args.self.now.reads _ (search rules) (put_by_makes c.args.change (disk_of m).contents)

pub returns-in-Ok-write-clause-fails : goal.returns-in-Ok-write-clause-fails
returns-in-Ok-write-clause-fails c =
    let m = c.args.self.now.recording in
    (search rules, search rules, change_flies m (Write c.args.change) c.args.change (put_by c.args.change (disk_of m).contents) refl c.write.new.self c.in-Ok-write.ensures.ok c.args.self.now.disk_faults c.args.self.now.say_faults c.args.self.now.reads 0 0 0)
