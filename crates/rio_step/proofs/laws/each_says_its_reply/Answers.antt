use Rattle.rio_step.proofs.RunLaws.{each_says, replies_say_something, said_in_parts}
use Rattle.rio_step.proofs.laws.each_says_its_reply.Goals as goal

pub returns-clause-each : goal.returns-clause-each
returns-clause-each c = each_says

pub returns-clause-parts : goal.returns-clause-parts
returns-clause-parts c = said_in_parts

pub returns-clause-something : goal.returns-clause-something
returns-clause-something c = replies_say_something
