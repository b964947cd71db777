use Rattle.std.proofs.Common.{sym, ap, ◌∙◌}
use Rattle.rio_fill.specs.Fill.{branch_put}
use Rattle.rio_fill.proofs.{Kept.{room_within}, Lists.{changed_is}}
use Rattle.rio_fill.proofs.filler.put_at.Goals as goal

pub returns : goal.returns
returns c =
    changed_is (branch_put c.args.at) c.args.branches.now c.args.k c.index-branches-k.result c.put.new.self (room_within c.args.branches.now c.args.k c.requires) c.index-branches-k.is
    (c.put.ensures ∙ ap (branch_put c.args.at) (sym c.index-branches-k.is))
