use Rattle.std.proofs.Common.{sym, ap}
use Rattle.rio_report.proofs.Gather.{says_as}
use Rattle.rio_report.specs.{Dump.{item_line, stored_line}, Item.{found_item}}
use Rattle.rio_report.proofs.dump.say_item.Goals as goal

pub returns-in-Ok-clause-says : goal.returns-in-Ok-clause-says
returns-in-Ok-clause-says g c =
    says_as (g.H.Host.view c.args.host.now) (g.H.Host.view c.say_key.new.host)
    (λ file. stored_line file c.args.classes.now c.in-Ok.key.now) (λ file. item_line file c.args.classes.now (found_item c.args.item.now c.args.keys.now))
    (λ file told. sym (ap (item_line file c.args.classes.now) c.in-Ok.ensures)) c.say_key.result c.say_key.ensures.says
