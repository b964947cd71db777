use Rattle.std.proofs.Common.{◌∙◌, ℕ, List, Bor, ap, nat_eq}
use Rattle.std.specs.{Map.{lookup}, Option.{option_map}}
use Rattle.rio_format.specs.declared.value.Value.{Value}
use Rattle.rio_tree.specs.Labels.{labelled_in, or_labelled}
use Rattle.rio_tree.proofs.labels.LabelTable.of_value.Goals as goal

pub returns : goal.returns
returns c =
    c.in_ok-note_within.ensures
    ∙ ap (λ (es : List (ℕ × Bor Value)). or_labelled (λ label. option_map (λ (o : Bor Value). o.now) (lookup (nat_eq label) es)) (labelled_in c.args.value.now)) c.new.ensures.empty
