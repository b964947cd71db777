use Rattle.std.proofs.Common.{ap, ◌∙◌, arith}
use Rattle.rio_head.specs.Dir.{dir_at}
use Rattle.rio_head.proofs.DirLaws.{dir_is_broken, dir_is_found, dir_only}
use Rattle.rio_head.proofs.dir.read_dir.Goals as goal

pub returns-clause-found : goal.returns-clause-found
returns-clause-found c = dir_is_found c.args.place c.args.bytes.now c.take_dir.result (λ i. omega (arith, c.type_inv.bytes i)) (c.take_dir.ensures ∙ ap dir_at c.new.ensures)

pub returns-clause-broken : goal.returns-clause-broken
returns-clause-broken c = dir_is_broken c.args.place c.args.bytes.now c.take_dir.result (λ i. omega (arith, c.type_inv.bytes i)) (c.take_dir.ensures ∙ ap dir_at c.new.ensures)

pub returns-clause-only : goal.returns-clause-only
returns-clause-only c = λ dir begins. c.take_dir.ensures ∙ ap dir_at c.new.ensures ∙ dir_only dir c.args.place c.args.bytes.now begins
