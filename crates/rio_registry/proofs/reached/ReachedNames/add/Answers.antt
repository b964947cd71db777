use Rattle.rio_registry.proofs.Growth.{grown_insert}
use Rattle.rio_registry.proofs.reached.ReachedNames.add.Goals as goal

pub returns : goal.returns
returns c =
    grown_insert c.args.self.now c.self.inside.names.keys c.insert.new.self.keys c.args.name c.self.view_is c.in_ok-insert.ensures.keys
