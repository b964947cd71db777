use Rattle.std.proofs.Common.{List, ap}
use Rattle.rio_key.specs.declared.head.KeyHead.{KeyHead}
use Rattle.rio_report.proofs.Gather.{says_as}
use Rattle.rio_report.specs.{Dump.{item_line}, Item.{found_item}}
use Rattle.rio_report.proofs.dump.say_described.Goals as goal

pub returns-in-Some-clause-says : goal.returns-in-Some-clause-says
returns-in-Some-clause-says g c =
    let classes = c.args.described.now.classes in
    rw c.in-Some.is (says_as (g.H.Host.view c.args.host.now) (g.H.Host.view c.say_item.new.host)
    (λ file. item_line file classes (found_item c.in-Some.item.now c.as_slice-keys.result.now)) (λ file. item_line file classes (found_item c.in-Some.item.now c.args.described.now.closed.keys))
    (λ file told. ap (λ (keys : List KeyHead). item_line file classes (found_item c.in-Some.item.now keys)) c.as_slice-keys.ensures) c.say_item.result c.say_item.ensures.says)
