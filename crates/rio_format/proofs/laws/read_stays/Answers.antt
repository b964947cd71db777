use Rattle.rio_format.proofs.{FittingRead.{fitting_is_all_read}, GrowthLaws.{read_stays, spelled_stays}, Picks.{later_leave_picks}}
use Rattle.rio_format.proofs.laws.read_stays.Goals as goal

pub returns-clause-read : goal.returns-clause-read
returns-clause-read c = read_stays

pub returns-clause-spelled : goal.returns-clause-spelled
returns-clause-spelled c = spelled_stays

pub returns-clause-picks : goal.returns-clause-picks
returns-clause-picks c = later_leave_picks

pub returns-clause-whole : goal.returns-clause-whole
returns-clause-whole c = fitting_is_all_read
