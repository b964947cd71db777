use Rattle.std.proofs.{Common.{List, get_or, take, sym, ap, ◌∙◌}, lemmas.Option.{get_or_from_slice_get}}
use Rattle.rio_num.proofs.Cases.{none_from}
use Rattle.rio_tree.specs.{declared.basket_at.BasketAt.{BasketAt}, declared.head.Branch.{Branch}}
use Rattle.rio_entry.specs.{StoredEntries.{baskets_refusal, refusal_of_baskets}, Sweeps.{refusal_before}}
use Rattle.rio_entry.proofs.{FirstRefusals.{refusal_by_baskets, refusal_told_by}, Left.{if_ok_more}}
use Rattle.rio_entry.proofs.refusals.first_refusal.Goals as goal

pub returns-then-is_some-clause-refusal : goal.returns-then-is_some-clause-refusal
returns-then-is_some-clause-refusal g c file told b is =
    let same = get_or_from_slice_get c.args.tree.now.branches.now c.args.k b c.index-tree-k.result is in
    refusal_told_by file c.args.tree.now.classes.now (take c.args.k c.args.tree.now.branches.now) c.args.refusals.now b c.refusal_before-told.result
    (sym c.is_some.ensures ∙ c.if-is_some.true) (c.refusal_before-told.ensures ∙ ap (λ (x : Branch). refusal_before c.args.refusals.now x x.refused) same)

pub returns-clause-refusal : goal.returns-clause-refusal
returns-clause-refusal g c =
    if_ok_more c.refusal_of_baskets.result c.refusal_of_baskets.ensures.refusal (λ refusal h file told b is.
    let same = get_or_from_slice_get c.args.tree.now.branches.now c.args.k b c.index-tree-k.result is in
    let x = get_or c.args.tree.now.branches.now c.args.k c.index-tree-k.result in
    let none = none_from c.refusal_before-told.result (sym c.is_some.ensures ∙ c.if-is_some.false) in
    let before = c.refusal_before-told.ensures ∙ ap (λ (x : Branch). refusal_before c.args.refusals.now x x.refused) same in
    h file told
    ∙ ap (λ (l : List BasketAt). refusal_of_baskets file x.offsets x.entries l) c.as_slice-baskets.ensures
    ∙ ap (baskets_refusal file) same
    ∙ refusal_by_baskets file c.args.tree.now.classes.now (take c.args.k c.args.tree.now.branches.now) c.args.refusals.now b (sym before ∙ none))
