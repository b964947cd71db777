use Rattle.std.proofs.Common.{◌≡◌, subst}
use Rattle.rio_state.specs.Closing.{padded_length}
use Rattle.rio_session.specs.{Due.{lengths_of_fill}, Fills.{FilledTree}}
use Rattle.rio_session.proofs.Measured.{next_header}
use Rattle.rio_session.proofs.open_tree.OpenTree.next_header_length.Goals as goal

pub returns-clause-exact : goal.returns-clause-exact
returns-clause-exact c =
    let t = c.self.inside in
    subst (λ (t : FilledTree). c.padded.result ≡ padded_length (lengths_of_fill t.name t.fill).header) c.self.view_is
    (next_header t.name t.filler c.sum_branches-sums.result t.header_bytes c.header_length.result c.padded.result _ _ c.as_slice.ensures c.as_slice-2.ensures c.sum_branches-sums.ensures.exact c.self.invariant.header c.header_length.ensures.exact c.padded.ensures)
