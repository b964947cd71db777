use Rattle.rio_fill.proofs.RoomLaws.{row_may_be_added}
use Rattle.rio_fill.proofs.laws.prepared_rows_may_be_added.Goals as goal

pub returns : goal.returns
returns c = row_may_be_added
