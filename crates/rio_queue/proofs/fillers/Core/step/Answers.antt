use Rattle.std.proofs.lemmas.Result.{IfOk-weaker}
use Rattle.rio_queue.specs.declared.steps.StepReply.{StepReply}
use Rattle.rio_queue.proofs.HistoryLaws.{step_keeps, step_replies}
use Rattle.rio_queue.proofs.fillers.Core.step.Goals as goal

pub returns-clause-history : goal.returns-clause-history
returns-clause-history c =
    let core = c.args.self.now in
    let new = c.do_step.new.self in
    IfOk-weaker c.do_step.result _ _
    (λ (reply : StepReply) does. λ fillers steps after. (
      step_replies fillers steps c.args.step reply core new does after,
      step_keeps fillers steps c.args.step reply core new does after,
    ))
    c.do_step.ensures.exact
