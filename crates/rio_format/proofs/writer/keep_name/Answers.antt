use Rattle.std.proofs.Common.{◌≡◌, ℕ, List, Vec, Global, map, ap, ◌∙◌, rules}
use Rattle.std.specs.Str.{bytes_eq}
use Rattle.indexmap.specs.IndexMap.{insert_entry}
use Rattle.rio_format.proofs.Spelled.{name_added, swapped}
use Rattle.rio_format.proofs.writer.keep_name.Goals as goal

pub returns : goal.returns
returns c =
    let entries : c.insert.new.self.entries ≡ insert_entry (λ x y. bytes_eq x.items y.items) c.args.names.now.entries c.args.name c.args.place = search rules in
    ap (λ (es : List (Vec ℕ Global × ℕ)). map swapped es) entries ∙ name_added c.args.names.now.entries c.args.name c.args.place c.requires.new c.requires.later
