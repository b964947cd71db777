use Rattle.rootio.proofs.Listings.{closed_files_list}
use Rattle.rootio.proofs.laws.closed_files_list.Goals as goal

pub returns : goal.returns
returns c = closed_files_list
