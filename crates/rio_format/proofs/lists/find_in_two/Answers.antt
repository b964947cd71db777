use Rattle.std.proofs.{Common.{refl}, lemmas.Int.{to_z-of_z}}
use Rattle.rio_format.proofs.ListLaws.{find_in-append}
use Rattle.rio_format.proofs.lists.find_in_two.Goals as goal

pub returns-in-Some : goal.returns-in-Some
returns-in-Some c =
    let found = simp (to_z-of_z, c.ranges.version) at c.in-Some.ensures in
    rw (find_in-append c.args.first.now c.args.second.now c.args.name.now c.args.version, ← found) refl

pub returns-in-None : goal.returns-in-None
returns-in-None c =
    let none = simp (to_z-of_z, c.ranges.version) at c.in-None.ensures in
    let found = simp (to_z-of_z, c.ranges.version) at c.find-in-None.ensures in
    rw (find_in-append c.args.first.now c.args.second.now c.args.name.now c.args.version, ← none) found
