use Rattle.rio_num.proofs.Agree as Agree
use Rattle.rio_format.specs.Frames.{pointer_word}
use Rattle.rio_format.proofs.Told.{may_be_refused, may_be_taken}
use Rattle.rio_format.proofs.reader.ObjReader.pointer.Goals as goal

pub returns-in-Ok-clause-found : goal.returns-in-Ok-clause-found
returns-in-Ok-clause-found c = Agree.read_is_spelled pointer_word c.args.self.now c.in-Ok.word c.read_pointer.new.self c.place-place.ensures.bytes c.in-Ok.ensures.exact

pub returns-in-Ok-clause-only : goal.returns-in-Ok-clause-only
returns-in-Ok-clause-only c = may_be_taken pointer_word c.args.self.now c.in-Ok.word c.read_pointer.new.self c.in-Ok.ensures.exact

pub returns-in-Err-clause-only : goal.returns-in-Err-clause-only
returns-in-Err-clause-only c = may_be_refused pointer_word c.args.self.now c.in-Err.fault c.go_back.new.self c.in-Err.ensures.exact

pub returns-in-Err-clause-broken : goal.returns-in-Err-clause-broken
returns-in-Err-clause-broken c = λ ne. record { breaks = Agree.fault_is_broken pointer_word c.args.self.now c.in-Err.fault c.place-place.ensures.bytes (c.in-Err.ensures.exact ne) }
