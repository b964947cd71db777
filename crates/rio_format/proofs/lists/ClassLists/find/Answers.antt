use Rattle.std.proofs.{Common.{[], ◌∷◌, ◌++◌}, lemmas.Int.{to_z-of_z}}
use Rattle.rio_format.proofs.ListLaws.{find_in-append}
use Rattle.rio_format.proofs.lists.ClassLists.find.Goals as goal

pub returns-in-With : goal.returns-in-With
returns-in-With c =
    let both = c.in-With.first.now ++ c.in-With.second.now in
    let found = simp (to_z-of_z, c.ranges.version) at c.find_in_two-in-With.ensures in
    let behind = simp (to_z-of_z, c.ranges.version) at c.find_or.ensures in
    rw (c.in-With.is, find_in-append both (c.in-With.class.now ∷ []) c.args.name.now c.args.version, ← found) behind
