use Rattle.rio_num.proofs.Agree as Agree
use Rattle.rio_format.specs.Frames.{header}
use Rattle.rio_format.proofs.Told.{is_refused, is_taken}
use Rattle.rio_format.proofs.reader.ObjReader.header.Goals as goal

pub returns-in-Ok-clause-found : goal.returns-in-Ok-clause-found
returns-in-Ok-clause-found c = Agree.read_is_spelled header c.args.self.now c.in-Ok.header c.read_header.new.self c.place-place.ensures.bytes c.in-Ok.ensures.ok

pub returns-in-Ok-clause-only : goal.returns-in-Ok-clause-only
returns-in-Ok-clause-only c = is_taken header c.args.self.now c.in-Ok.header c.read_header.new.self c.in-Ok.ensures.ok

pub returns-in-Err-clause-only : goal.returns-in-Err-clause-only
returns-in-Err-clause-only c = is_refused header c.args.self.now c.in-Err.fault c.go_back.new.self c.in-Err.ensures.err

pub returns-in-Err-clause-broken : goal.returns-in-Err-clause-broken
returns-in-Err-clause-broken c = record { breaks = Agree.fault_is_broken header c.args.self.now c.in-Err.fault c.place-place.ensures.bytes c.in-Err.ensures.err }
