use Rattle.std.proofs.Common.{ℕ, List, sym, ap, ◌∙◌}
use Rattle.std.specs.Str.{bytes_eq}
use Rattle.rio_num.specs.Word.{is_among}
use Rattle.rio_registry.proofs.Growth.{any_text}
use Rattle.rio_registry.proofs.reached.ReachedNames.contains.Goals as goal

pub returns : goal.returns
returns c =
    c.contains.ensures
    ∙ sym (any_text (bytes_eq c.args.name.now) c.self.inside.names.keys)
    ∙ ap (λ (xs : List (List ℕ)). is_among xs c.args.name.now) c.self.view_is
