use Rattle.rio_judge.proofs.RowTests.{row_judged}
use Rattle.rio_judge.proofs.row.judge_row.Goals as goal

pub returns : goal.returns
returns c m name row first does fault = row_judged c.args.row.now _ m name row first does fault c.row_refusal.result c.row_refusal.ensures
