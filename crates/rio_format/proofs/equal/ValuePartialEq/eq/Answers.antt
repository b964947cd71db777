use Rattle.std.proofs.lemmas.Bool.Decides.{same_from_decides}
use Rattle.rio_format.specs.{CodeLaws.{coded_decides}, Codes.{is_coded_same}}
use Rattle.rio_format.specs.contracts.value.Value as values
use Rattle.rio_format.proofs.equal.ValuePartialEq.eq.Goals as goal

pub returns-clause-coded : goal.returns-clause-coded
returns-clause-coded c =
    let coded = coded_decides values.the_row.coded c.args.self.now c.args.other.now in
    same_from_decides c.is_equal.result (is_coded_same values.the_row.coded c.args.self.now c.args.other.now) c.is_equal.ensures coded
