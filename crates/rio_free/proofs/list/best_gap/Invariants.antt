use Rattle.std.proofs.Common.{◌≡◌, ◌+◌, drop, eqb, ltb}
use Rattle.std.specs.{List.{find}, Option.{option_or}}
use Rattle.rio_free.specs.Gaps.{best_gap}
use Rattle.rio_free.proofs.list.best_gap.Given as goal

abbrev pub invariant-loop-gap : goal.invariant-loop-gap
invariant-loop-gap l = record {
  best : best_gap l.n l.gaps ≡ option_or (find (λ g. eqb g.length l.n) (drop l.gap-index l.gaps)) (option_or l.longer (find (λ g. ltb (l.n + 3) g.length) (drop l.gap-index l.gaps)));
}
