use Rattle.std.proofs.Common.{rules}
use Rattle.rio_chain.proofs.BehindSteps.{wrote_time, synced_time, worded_time, ended_time}
use Rattle.rio_chain.proofs.behind.put_behind.Goals as goal

pub returns-in_err-write-clause-any_moment : goal.returns-in_err-write-clause-any_moment
returns-in_err-write-clause-any_moment g c file holds = search (rules, wrote_time, g.met.H.Host.lawful)

pub returns-in_err-sync-clause-any_moment : goal.returns-in_err-sync-clause-any_moment
returns-in_err-sync-clause-any_moment g c file holds = search (rules, synced_time, g.met.H.Host.lawful)

pub returns-in_err-write_word-clause-any_moment : goal.returns-in_err-write_word-clause-any_moment
returns-in_err-write_word-clause-any_moment g c file holds =
    let law = g.met.H.Host.lawful in
    worded_time _ _ _ _ file c.args.place c.args.tail.now _ holds c.requires.quiet (law c.args.host.now) (law c.write.new.self) (law c.sync.new.self) (law c.write_word.new.self)
    c.write.ensures.disk c.sync.ensures.disk c.sync.ensures.holds c.in_ok-sync.ensures.quiet c.in_ok-write.ensures.written c.write_word.ensures.disk

pub returns-clause-any_moment : goal.returns-clause-any_moment
returns-clause-any_moment g c file holds =
    let law = g.met.H.Host.lawful in
    ended_time _ _ _ _ _ file c.args.place c.args.tail.now _ holds c.requires.quiet (law c.args.host.now) (law c.write.new.self) (law c.sync.new.self) (law c.write_word.new.self) (law c.sync-2.new.self)
    c.write.ensures.disk c.sync.ensures.disk c.sync.ensures.holds c.in_ok-sync.ensures.quiet c.in_ok-write.ensures.written c.write_word.ensures.disk c.sync-2.ensures.disk
