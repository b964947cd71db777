use Rattle.std.proofs.Common.{subst}
use Rattle.rio_machine.specs.declared.command.Outcome.{Outcome}
use Rattle.rio_session.specs.Changing.{Changing, ChangesFile}
use Rattle.rio_session.proofs.ListCalls.{can_replace, same_listing}
use Rattle.rio_session.proofs.session.Session.write_list.Goals as goal

pub replace_list-requires-clause-can : goal.replace_list-requires-clause-can
replace_list-requires-clause-can g c = can_replace c.args.self.now c.args.place c.in_ok-made.made c.in_ok-made.ensures c.requires.at

pub returns-clause-changes : goal.returns-clause-changes
returns-clause-changes g c =
    let s = c.args.self.now in
    let same = same_listing s c.args.place c.in_ok-made.made c.in_ok-made.ensures c.args.text.now c.args.cost in
    subst (λ (p : Changing). ChangesFile {X = Outcome} p (g.H.Host.view c.args.host.now) (g.H.Host.view c.replace_list.new.host) s c.replace_list.new.self c.replace_list.result) same c.replace_list.ensures.changes
