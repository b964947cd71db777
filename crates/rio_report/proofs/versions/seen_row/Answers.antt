use Rattle.std.proofs.Common.{List, subst}
use Rattle.rio_num.specs.Answers.{GivesUnless}
use Rattle.rio_format.specs.declared.value.Value.{Value}
use Rattle.rio_model.specs.{Mapping.{Mapped}, declared.map_fault.MapFault.TheVariants.{NoMemory}}
use Rattle.rio_entry.specs.BranchRows.{read_values}
use Rattle.rio_report.proofs.SeenLaws.{seen_is}
use Rattle.rio_report.proofs.versions.seen_row.Goals as goal

pub returns : goal.returns
returns c =
    subst (λ (m : Mapped (List Value)). GivesUnless NoMemory (λ row. row) c.seen_values.result m)
    (seen_is c.args.classes.now c.args.form.now.class (read_values c.args.refusals.now c.args.values.now)) c.seen_values.ensures
