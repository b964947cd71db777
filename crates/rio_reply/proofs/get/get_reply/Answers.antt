use Rattle.rio_reply.proofs.Listings.{record_told}
use Rattle.rio_reply.proofs.get.get_reply.Goals as goal

pub returns-clause-told : goal.returns-clause-told
returns-clause-told c = record_told c.args.head.now _ _ c.told_reply.ensures
