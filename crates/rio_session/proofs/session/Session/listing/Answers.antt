use Rattle.std.proofs.Common.{◌≡◌, ◌∙◌, List, IfOk, ap, subst, sym}
use Rattle.rio_key.specs.declared.head.KeyHead.{KeyHead}
use Rattle.rio_reply.specs.Told.{item_listing_of}
use Rattle.rio_tree_table.specs.declared.table.KeptTree.{KeptTree}
use Rattle.rio_session.specs.{SessionState.{SessionState, kept_trees}, Sound.{IsSoundState}}
use Rattle.rio_session.proofs.Bare.{all_kept}
use Rattle.rio_session.proofs.session.Session.listing.Goals as goal

pub returns-clause-sound : goal.returns-clause-sound
returns-clause-sound c = subst IsSoundState c.self.view_is (record { classes = c.self.invariant.classes; kept = c.self.invariant.kept })

pub returns-clause-text : goal.returns-clause-text
returns-clause-text c =
    let trees : c.self.inside.trees.trees ≡ kept_trees c.args.self.now = c.self.invariant.trees ∙ sym (all_kept c.self.inside.filled.trees) ∙ ap kept_trees c.self.view_is in
    let heads : c.as_slice.result.now ≡ c.args.self.now.heads = c.as_slice.ensures.all ∙ ap (λ (s : SessionState). s.heads) c.self.view_is in
    subst (λ (x : List KeptTree × List KeyHead). IfOk c.item_listing_reply.result (λ text. text.bytes ≡ item_listing_of x.0 x.1)) (λ i. (trees i, heads i)) c.item_listing_reply.ensures.text
