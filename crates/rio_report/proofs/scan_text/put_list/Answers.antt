use Rattle.rio_model.proofs.ValueTextLaws.{text_of-List}
use Rattle.rio_entry.specs.BranchRows.{read_values}
use Rattle.rio_report.proofs.scan_text.put_list.Goals as goal

pub returns : goal.returns
returns c = rw (text_of-List (read_values c.args.refusals.now c.args.values.now)) c.put_brackets.ensures
