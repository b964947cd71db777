use Rattle.std.proofs.Common.{◌∙◌}
use Rattle.rio_recover.proofs.LinkRecords.{bytes_same}
use Rattle.rio_recover.proofs.object.record_bytes.Goals as goal

pub returns-clause-bytes : goal.returns-clause-bytes
returns-clause-bytes g c file r told stands same =
    bytes_same file r c.args.head.now c.in_ok-bytes_at.field-0.items stands same (c.in_ok-bytes_at.ensures.count ∙ c.cast_unsigned-length.ensures)
    (c.in_ok-bytes_at.ensures.bytes file told)
