use Rattle.std.proofs.Common.{List, arith, subst}
use Rattle.rio_leaf.specs.declared.branch.Shape.TheVariants.{Class}
use Rattle.rio_format.specs.declared.value.Value.{Value}
use Rattle.rio_entry.specs.Entries.{entry_written}
use Rattle.rio_machine.specs.declared.entry_fault.EntryFault.TheVariants.{NoMemory}
use Rattle.rio_num.specs.Answers.{GivesUnless}
use Rattle.rio_entry.proofs.ClassBytes.{only_one}
use Rattle.rio_entry.proofs.write.write_class.Goals as goal

pub returns-in-len1 : goal.returns-in-len1
returns-in-len1 c = λ counts.
    subst (λ (r : List Value). GivesUnless NoMemory (λ room. room.bytes) c.write_value.result (entry_written c.args.classes.now (Class c.args.class.now) counts r)) (only_one c.args.row.now c.value-item.result (omega (arith, c.in-len1.len_at_least, c.in-len1.len_below)) c.value-item.is) (c.write_value.ensures counts)
