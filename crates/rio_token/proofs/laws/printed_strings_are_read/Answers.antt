use Rattle.rio_token.proofs.StringLaws.{strings_are_read}
use Rattle.rio_token.proofs.laws.printed_strings_are_read.Goals as goal

pub returns : goal.returns
returns c = strings_are_read
