use Rattle.std.proofs.Common.{◌≡◌, ◌∙◌, List, ap, subst}
use Rattle.rio_fill.specs.Fill.{BranchFill}
use Rattle.rio_session.specs.{Fillings.{open_list}, Fills.{FilledTree}, Measures.{flags_for}}
use Rattle.rio_session.proofs.Measured.{flags_of_save}
use Rattle.rio_session.proofs.open_tree.OpenTree.open_flags.Goals as goal

pub returns : goal.returns
returns c =
    let bs = c.self.inside.filler.branches in
    subst (λ (l : List BranchFill). flags_for l c.open_flags.result ≡ open_list l) (ap (λ (t : FilledTree). t.fill.branches) c.self.view_is) (ap (flags_for bs) c.open_flags.ensures ∙ flags_of_save bs)
