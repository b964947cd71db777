use Rattle.std.proofs.Common.{OnOk, sym, subst}
use Rattle.rio_chain.specs.Becoming.{ChainBecomes}
use Rattle.rio_session.specs.{Steps.{change_of}, declared.steps.Step.{Step}}
use Rattle.rio_session.proofs.steps.make_change.Goals as goal

pub returns-in-Put-clause-holds : goal.returns-in-Put-clause-holds
returns-in-Put-clause-holds g c =
    subst (λ (s : Step). OnOk c.put_record.result (ChainBecomes (g.H.Host.view c.args.host.now) (g.H.Host.view c.put_record.new.host) c.args.chain.now.segments c.put_record.new.self.segments (change_of s)))
    (sym c.in-Put.is) c.put_record.ensures.holds
