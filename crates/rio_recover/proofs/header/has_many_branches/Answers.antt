use Rattle.std.proofs.Common.{◌∙◌, Bool, ◌||◌, length, sym, ap, arith}
use Rattle.std.proofs.lemmas.Bool.{le-ltb}
use Rattle.std.specs.List.{list_any}
use Rattle.rio_machine.specs.Limits.{has_many_leaves}
use Rattle.rio_recover.proofs.header.has_many_branches.Goals as goal

pub returns-else-len-gt-BRANCH_LIMIT : goal.returns-else-len-gt-BRANCH_LIMIT
returns-else-len-gt-BRANCH_LIMIT c =
    let branches = c.args.branches.now in
    c.has_wide_branch.ensures ∙ ap (list_any (λ b. has_many_leaves b.shape)) c.as_slice.ensures
    ∙ ap (λ (b : Bool). b || list_any (λ b. has_many_leaves b.shape) branches) (sym (le-ltb 64 (length branches) (omega arith)))
