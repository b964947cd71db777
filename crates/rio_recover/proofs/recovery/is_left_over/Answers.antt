use Rattle.rio_recover.proofs.Garbage.{left_tested}
use Rattle.rio_recover.proofs.recovery.is_left_over.Goals as goal

pub returns-then-not-is_item_record : goal.returns-then-not-is_item_record
returns-then-not-is_item_record c tops baskets names named =
    left_tested tops c.args.info baskets c.args.head.now c.is_item_record.result c.has.result c.if-head-eq-FIRST_PLACE.false c.if-head-info.false (c.is_item_record.ensures tops names) c.if-not-is_item_record.true (c.has.ensures baskets named)
