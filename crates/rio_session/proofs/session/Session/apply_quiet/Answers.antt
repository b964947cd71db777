use Rattle.rio_session.specs.declared.replies.Replies.TheVariants.{Omitted}
use Rattle.rio_session.proofs.FileRecords.{records_follow, step_is_told}
use Rattle.rio_session.proofs.session.Session.apply_quiet.Goals as goal

pub returns-clause-records : goal.returns-clause-records
returns-clause-records g c =
    let e = c.judge_and_do.ensures in
    records_follow Omitted c.headers_have_records.ensures (g.H.Host.view c.args.host.now) (g.H.Host.view c.judge_and_do.new.host) c.args.self.now c.judge_and_do.new.self c.args.command.now c.judge_and_do.result e.does
    e.sound c.requires.fresh e.soon c.requires.statable

pub returns-clause-marks : goal.returns-clause-marks
returns-clause-marks g c =
    let e = c.judge_and_do.ensures in
    step_is_told c.headers_have_records.ensures (g.H.Host.view c.args.host.now) c.args.self.now c.args.command.now e.sound c.requires.fresh e.soon c.requires.statable

pub returns-clause-said : goal.returns-clause-said
returns-clause-said g c = c.judge_and_do.ensures.does.omits.said

pub returns-clause-no_say_fault : goal.returns-clause-no_say_fault
returns-clause-no_say_fault g c = c.judge_and_do.ensures.does.omits.no_fault
