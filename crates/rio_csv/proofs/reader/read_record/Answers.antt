use Rattle.csv.specs.Records.{fields_of}
use Rattle.rio_csv.proofs.UnreadLaws.{taken}
use Rattle.rio_csv.proofs.reader.read_record.Goals as goal

pub returns-in-Ok : goal.returns-in-Ok
returns-in-Ok c =
    taken c.args.reader.now c.read_byte_record.new.self c.in-Ok.found (fields_of c.read_byte_record.new.row) c.requires
    (c.in-Ok.ensures.reads c.requires.trim c.requires.ready) c.in-Ok.ensures.reads_on
