use Rattle.rio_head.specs.{declared.fault.FileFault.TheVariants.{BadKeyList}, Head.{fault_at}}
use Rattle.rio_dir.specs.Closed.{heads_of, listed_at}
use Rattle.rio_close.specs.Opens.{listed_in}
use Rattle.rio_close.proofs.Records.{record_none, record_found}
use Rattle.rio_close.proofs.keys.open_listed.Goals as goal

pub returns-in-None-clause-exact : goal.returns-in-None-clause-exact
unfolding listed_at
returns-in-None-clause-exact g c file told =
    rw c.bad_list.ensures (record_none (fault_at c.args.place BadKeyList) (heads_of c.args.place) file c.args.place (rw c.in-None.is at (c.in_ok-read_record.ensures.bytes file told)))

pub returns-in-Some-clause-exact : goal.returns-in-Some-clause-exact
unfolding listed_at listed_in
returns-in-Some-clause-exact g c file told =
    let found = rw c.in-Some.is at (c.in_ok-read_record.ensures.bytes file told) in
    record_found (fault_at c.args.place BadKeyList) (heads_of c.args.place) file c.args.place c.in-Some.bytes.items c.read_listed.result found (rw c.deref.ensures.value at c.read_listed.ensures.exact)
