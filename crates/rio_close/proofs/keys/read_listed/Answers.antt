use Rattle.std.proofs.Common.{◌≡◌, ◌∙◌, sym, ap, Ok, Err, arith, drop, ◌+◌}
use Rattle.rio_num.specs.Plain.{value_of}
use Rattle.rio_num.proofs.Plain.{standing}
use Rattle.rio_key.specs.{Key.{key_at}, KeyList.{key_list_at}, declared.fault.KeyFault.{KeyFault}, declared.fault.ListFault.{ListFault}}
use Rattle.rio_close.proofs.Listed.{listed_broken, listed_past, standing_here}
use Rattle.rio_close.proofs.keys.read_listed.Goals as goal

abbrev fault_in : ListFault → KeyFault
fault_in e = e.fault

pub returns-then-from-bytes-clause-exact : goal.returns-then-from-bytes-clause-exact
returns-then-from-bytes-clause-exact c =
    let here : key_at (standing c.args.place c.args.bytes.now) ≡ Ok c.in-Ok.key = ap key_at (sym (standing_here c.args.place c.args.bytes.now)) ∙ c.in-Ok.ensures.exact in
    rw c.bad_list-then-from-bytes.ensures (listed_past c.args.place c.args.bytes.now c.in-Ok.key here (omega (arith, c.if-from-bytes.true, c.from.ensures)))

pub returns : goal.returns
returns c =
    let here : key_at (standing c.args.place c.args.bytes.now) ≡ Ok c.in-Ok.key = ap key_at (sym (standing_here c.args.place c.args.bytes.now)) ∙ c.in-Ok.ensures.exact in
    let read = c.in-Err-read_heads.ensures.exact (λ q. c.in_default.not-NoMemory (ap fault_in q)) in
    let broken : value_of (key_list_at (standing (c.args.place + c.in-Ok.key.keylen) (drop c.in-Ok.key.keylen c.args.bytes.now))) ≡ Err c.in-Err-read_heads.fault = rw (c.from-2.ensures, c.data_of.ensures) at read in
    rw (c.bad_list-in_default.ensures, c.unwrap_or.ensures) (record { exact = listed_broken c.args.place c.args.bytes.now c.in-Ok.key c.in-Err-read_heads.fault here broken; cause = tt })
