use Rattle.rio_reply.proofs.Listings.{listing_told}
use Rattle.rio_reply.proofs.reply.listing_reply.Goals as goal

pub returns-clause-listed : goal.returns-clause-listed
returns-clause-listed c = listing_told c.args.heads.now _ c.listed_reply.ensures
