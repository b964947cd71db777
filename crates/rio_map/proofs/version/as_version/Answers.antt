use Rattle.std.proofs.Common.{◌≡◌, ◌∙◌, Some, None, rules, sym, SFits, w32}
use Rattle.std.proofs.lemmas.Int.{to_z-of_z}
use Rattle.rio_format.specs.Classes.{find_in}
use Rattle.rio_model.specs.Resolving.{built_in_version}
use Rattle.rio_map.proofs.VersionLaws.{as_described}
use Rattle.rio_map.proofs.version.as_version.Goals as goal

pub returns-in-Some-find : goal.returns-in-Some-find
returns-in-Some-find c =
    let fits : SFits w32 c.args.version = search rules in
    let found : find_in c.args.classes.now c.args.class.now c.args.version ≡ Some c.in-Some-find.asked.now = sym (simp to_z-of_z at c.in-Some-find.ensures) in
    let own : built_in_version c.args.class.now ≡ None = sym c.built_in_version.ensures ∙ c.in-None.is in
    rw (as_described c.args.classes.now c.args.class.now c.args.version c.args.value.now c.in-Some-find.asked.now own found) c.mapped.ensures
