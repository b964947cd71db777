use Rattle.rio_chain.proofs.FewerRecords.{keeps_other_records, keeps_segments, left_by_releases}
use Rattle.rio_chain.proofs.laws.one_record_less.Goals as goal

pub returns-clause-left : goal.returns-clause-left
returns-clause-left c = left_by_releases

pub returns-clause-segments : goal.returns-clause-segments
returns-clause-segments c = keeps_segments

pub returns-clause-records : goal.returns-clause-records
returns-clause-records c = keeps_other_records
