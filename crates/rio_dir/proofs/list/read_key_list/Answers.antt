use Rattle.std.proofs.Common.{refl, ap}
use Rattle.rio_num.proofs.Plain.{standing, value_err}
use Rattle.rio_key.specs.{KeyList.{key_list_at}, declared.fault.KeyFault.{KeyFault}, declared.fault.ListFault.{ListFault}}
use Rattle.rio_dir.specs.KeyList.{heads_in}
use Rattle.rio_dir.proofs.list.read_key_list.Goals as goal

abbrev fault_in : ListFault → KeyFault
fault_in e = e.fault

pub returns-in-Err-clause-exact : goal.returns-in-Err-clause-exact
returns-in-Err-clause-exact c = λ ne.
    let list = key_list_at (standing c.args.base c.args.bytes.now) in
    ap heads_in (value_err list c.in-Err.fault (c.in-Err.ensures.exact (λ q. ne (ap fault_in q))))

pub returns-in-Err-clause-broken : goal.returns-in-Err-clause-broken
returns-in-Err-clause-broken c = λ ne. (c.in-Err.fault, refl, c.in-Err.ensures.broken (λ q. ne (ap fault_in q)))

pub returns-in-Err-clause-only : goal.returns-in-Err-clause-only
returns-in-Err-clause-only c = λ hs front rest parts spelled ne.
    let clash = c.in-Err.ensures.only hs front rest parts spelled (λ q. ne (ap fault_in q)) in absurd cc
