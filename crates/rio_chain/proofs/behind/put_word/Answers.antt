use Rattle.std.proofs.Common.{rules}
use Rattle.rio_chain.proofs.BehindSteps.{one_word_time, word_synced_time}
use Rattle.rio_chain.proofs.behind.put_word.Goals as goal

pub returns-in_err-write_word-clause-any_moment : goal.returns-in_err-write_word-clause-any_moment
returns-in_err-write_word-clause-any_moment g c file holds = search (rules, one_word_time, g.met.H.Host.lawful)

pub returns-clause-any_moment : goal.returns-clause-any_moment
returns-clause-any_moment g c file holds =
    let law = g.met.H.Host.lawful in
    word_synced_time _ _ _ file c.args.place _ holds c.requires.quiet (law c.args.host.now) (law c.write_word.new.self) (law c.sync.new.self) c.write_word.ensures.disk c.sync.ensures.disk
