use Rattle.std.proofs.Common.{ap, ◌∙◌, arith}
use Rattle.rio_head.specs.Head.{header_at}
use Rattle.rio_head.proofs.HeadAgain.{head_is_broken, head_is_found, head_only}
use Rattle.rio_head.proofs.head.read_head.Goals as goal

pub returns-clause-found : goal.returns-clause-found
returns-clause-found c = head_is_found c.args.bytes.now c.take_head.result (λ i. omega (arith, c.type_inv.bytes i)) (c.take_head.ensures.exact ∙ ap header_at c.new.ensures)

pub returns-clause-broken : goal.returns-clause-broken
returns-clause-broken c = head_is_broken c.args.bytes.now c.take_head.result (λ i. omega (arith, c.type_inv.bytes i)) (c.take_head.ensures.exact ∙ ap header_at c.new.ensures)

pub returns-clause-only : goal.returns-clause-only
returns-clause-only c = λ head begins. c.take_head.ensures.exact ∙ ap header_at c.new.ensures ∙ head_only head 0 c.args.bytes.now begins
