use Rattle.std.proofs.Common.{[], ◌∷◌, ◌++◌}
use Rattle.rio_format.proofs.ListLaws.{newest_in-append}
use Rattle.rio_format.proofs.lists.ClassLists.newest.Goals as goal

pub returns-in-With : goal.returns-in-With
returns-in-With c =
    let both = c.in-With.first.now ++ c.in-With.second.now in
    rw (c.in-With.is, newest_in-append both (c.in-With.class.now ∷ []) c.args.name.now, ← c.newest_in_two-in-With.ensures, ← c.of_name.ensures) c.newer.ensures
