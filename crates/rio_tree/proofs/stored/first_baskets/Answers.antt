use Rattle.std.proofs.Common.{◌+◌, ◌-◌, ◌∙◌, ◌++◌, List, ap}
use Rattle.std.specs.Option.{option_map}
use Rattle.rio_tree.specs.{declared.basket_at.BasketAt.{BasketAt}, Refusals.{baskets_from}, Tables.{branch_of}}
use Rattle.rio_tree.proofs.StoredLaws.{one_basket_more}
use Rattle.rio_tree.proofs.stored.first_baskets.Goals as goal

pub loop-k-preserved : goal.loop-k-preserved
loop-k-preserved c =
    let said = branch_of c.args.said.now in
    ap (λ (front : List BasketAt). option_map (λ more. front ++ more) (baskets_from said (c.loop-k.k + 1) (c.args.n - (c.loop-k.k + 1)))) c.in_ok-push-in-Some.ensures.ok
    ∙ one_basket_more said c.loop-k.k c.args.n c.loop-k.baskets c.in-Some.basket c.loop-k-test.true c.in-Some.ensures
    ∙ c.loop-k.invariant
