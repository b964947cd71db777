use Rattle.std.proofs.Common.{ℕ, List, ap, sym, ◌∙◌, Bor}
use Rattle.std.specs.{List.{list_any}, Str.{bytes_eq}}
use Rattle.rio_num.proofs.NameSets.{any_map}
use Rattle.rio_num.proofs.names.Names.has.Goals as goal

pub returns : goal.returns
returns c =
    c.contains.ensures ∙ sym (any_map (λ (k : Bor (List ℕ)). k.now) (bytes_eq c.args.name.now) c.self.inside.names.keys) ∙ ap (λ (names : List (List ℕ)). list_any (bytes_eq c.args.name.now) names) c.self.view_is
