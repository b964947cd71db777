use Rattle.rio_head.specs.{declared.fault.FileFault.TheVariants.{BadInfo}, Head.{fault_at}}
use Rattle.rio_report.specs.Described.{classes_in, info_at}
use Rattle.rio_close.proofs.Records.{record_none, record_found}
use Rattle.rio_report.specs.Described.{info_in}
use Rattle.rio_report.proofs.described.open_info.Goals as goal

pub returns-in-None-clause-exact : goal.returns-in-None-clause-exact
unfolding info_at
returns-in-None-clause-exact g c file told =
    rw c.bad_info.ensures (record_none (fault_at c.args.place BadInfo) (classes_in c.args.place) file c.args.place (rw c.in-None.is at (c.in_ok-read_record.ensures.bytes file told)))

pub returns-in-Some-clause-exact : goal.returns-in-Some-clause-exact
unfolding info_at info_in
returns-in-Some-clause-exact g c file told =
    let found = rw c.in-Some.is at (c.in_ok-read_record.ensures.bytes file told) in
    record_found (fault_at c.args.place BadInfo) (classes_in c.args.place) file c.args.place c.in-Some.bytes.items c.read_classes.result found (rw c.deref.ensures.value at c.read_classes.ensures.exact)
