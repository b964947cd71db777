use Rattle.std.proofs.Common.{ℕ, List, ap, ◌∙◌}
use Rattle.std.specs.{List.{list_any}, Str.{bytes_eq}}
use Rattle.rio_format.proofs.members.can_read.Goals as goal

pub returns-in-Counted : goal.returns-in-Counted
returns-in-Counted c = λ names holds. rw c.in-Counted.is (c.contains.ensures ∙ holds _ ∙ ap (λ (name : List ℕ). list_any (bytes_eq name) names) c.as_slice.ensures)
