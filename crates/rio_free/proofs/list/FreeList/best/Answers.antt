use Rattle.std.proofs.Common.{◌∙◌, ap, sym}
use Rattle.rio_free.specs.Gaps.{FreeGaps, best_gap}
use Rattle.rio_free.proofs.Best.{best_is_gap}
use Rattle.rio_free.proofs.list.FreeList.best.Goals as goal

pub returns-in-Some-clause-found : goal.returns-in-Some-clause-found
returns-in-Some-clause-found c =
    best_is_gap c.args.n c.args.self.now.gaps c.in-Some.gap
    (sym (c.in-Some.ensures ∙ ap (best_gap c.args.n) (c.deref.ensures.value ∙ ap (λ (l : FreeGaps). l.gaps) c.self.view_is)))
