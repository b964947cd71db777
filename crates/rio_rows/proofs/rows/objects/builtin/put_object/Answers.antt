use Rattle.std.proofs.Common.{[], ap, ◌∙◌}
use Rattle.rio_format.specs.{Writer.{WriterState, with_bytes}, Written.{written_form}}
use Rattle.rio_rows.proofs.rows.objects.builtin.put_object.Goals as goal

pub into_bytes-requires : goal.into_bytes-requires
into_bytes-requires c =
    ap (λ (s : WriterState). s.opened) (c.in_ok-write_builtin.ensures.exact ∙ ap (with_bytes (written_form [] 0 c.args.value.now)) c.new-writer.ensures)
