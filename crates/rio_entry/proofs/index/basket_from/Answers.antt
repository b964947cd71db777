use Rattle.std.proofs.Common.{rules, ◌+◌, ◌<◌, ℕ, length, sym, ap, subst, ◌∙◌, arith}
use Rattle.rio_entry.proofs.NumberLaws.{number_holds, number_low, number_of, number_past}
use Rattle.rio_entry.proofs.index.basket_from.Goals as goal

pub overflow_add-result : goal.overflow_add-result
overflow_add-result c =
    let low : c.args.from + c.begun.result < length c.args.baskets.now =
    subst (λ (n : ℕ). c.args.from + n < length c.args.baskets.now) (sym c.begun.ensures) (number_low c.args.entry c.args.from c.args.baskets.now c.if-from-baskets.true) in
    search (rules, low)

pub returns-then-from-baskets-clause-exact : goal.returns-then-from-baskets-clause-exact
returns-then-from-baskets-clause-exact c le = ap (λ (n : ℕ). c.args.from + n) c.begun.ensures ∙ number_of c.args.entry c.args.from c.args.baskets.now le

pub returns-then-from-baskets-clause-holds : goal.returns-then-from-baskets-clause-holds
returns-then-from-baskets-clause-holds c entries index lt le =
    number_holds c.args.baskets.now entries c.args.entry _ index lt (ap (λ (n : ℕ). c.args.from + n) c.begun.ensures ∙ number_of c.args.entry c.args.from c.args.baskets.now le)

pub returns-else-from-baskets-clause-exact : goal.returns-else-from-baskets-clause-exact
returns-else-from-baskets-clause-exact c le = number_past c.args.entry c.args.from c.args.baskets.now (omega (arith, c.if-from-baskets.false)) le

pub returns-else-from-baskets-clause-holds : goal.returns-else-from-baskets-clause-holds
returns-else-from-baskets-clause-holds c entries index lt le =
    number_holds c.args.baskets.now entries c.args.entry _ index lt (number_past c.args.entry c.args.from c.args.baskets.now (omega (arith, c.if-from-baskets.false)) le)
