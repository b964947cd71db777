use Rattle.std.proofs.Common.{sym, ◌∙◌}
use Rattle.rio_key.proofs.LaidLaws.{is_laid}
use Rattle.rio_key.proofs.basket_offsets.read_sound_layout.Goals as goal

pub returns-in_ok-check_table-clause-laid : goal.returns-in_ok-check_table-clause-laid
returns-in_ok-check_table-clause-laid c =
    is_laid c.args.offsets c.args.bytes.now c.in_ok-layout.layout c.in_ok-check_table.field-0 c.in_ok-layout.ensures.exact (λ t. sym c.check_table.ensures ∙ c.in_ok-check_table.was)
