use Rattle.rio_reply.proofs.ItemListings.{listing_told}
use Rattle.rio_reply.proofs.reply.item_listing_reply.Goals as goal

pub returns-clause-listed : goal.returns-clause-listed
returns-clause-listed c = listing_told c.args.heads.now c.args.trees.now.trees _ c.items_reply.ensures
