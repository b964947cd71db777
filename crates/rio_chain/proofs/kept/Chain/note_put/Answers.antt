use Rattle.rio_chain.proofs.Placed.{place_free}
use Rattle.rio_chain.proofs.kept.Chain.note_put.Goals as goal

pub note_at-requires-clause-free : goal.note_at-requires-clause-free
note_at-requires-clause-free c = place_free c.args.self.now.segments c.args.n c.args.place c.requires.place
