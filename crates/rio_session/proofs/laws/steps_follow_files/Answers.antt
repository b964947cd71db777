use Rattle.rio_session.proofs.FileSteps.{steps_follow_files}
use Rattle.rio_session.proofs.laws.steps_follow_files.Goals as goal

pub returns : goal.returns
returns c = steps_follow_files c.headers_have_records.ensures
