use Rattle.std.proofs.lemmas.Bool.Decides.{same_from_decides}
use Rattle.rio_format.specs.{CodeLaws.{coded_decides}, Codes.{is_coded_same}}
use Rattle.rio_format.specs.contracts.value.Part as parts
use Rattle.rio_format.proofs.equal.PartPartialEq.eq.Goals as goal

pub returns-clause-coded : goal.returns-clause-coded
returns-clause-coded c =
    let coded = coded_decides parts.the_row.coded c.args.self.now c.args.other.now in
    same_from_decides c.is_equal_part.result (is_coded_same parts.the_row.coded c.args.self.now c.args.other.now) c.is_equal_part.ensures coded
