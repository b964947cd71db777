use Rattle.std.proofs.Common.{◌≡◌, ◌≢◌, ◌∙◌, sym, ap, drop, Ok, Err, rules}
use Rattle.rio_num.proofs.Plain.{standing}
use Rattle.rio_key.specs.Key.{key_at}
use Rattle.rio_head.specs.{declared.fault.FileFault.TheVariants.{BadInfo}, Head.{fault_at}}
use Rattle.rio_dir.specs.Closed.{or_fault}
use Rattle.rio_close.proofs.Listed.{standing_here}
use Rattle.rio_format.specs.{ClassList.{class_list_at}, declared.fault.ObjFault.TheVariants.{NoMemory}}
use Rattle.rio_report.proofs.Infos.{info_read, same_list}
use Rattle.rio_report.proofs.described.read_classes.Goals as goal

pub returns-in-Ok-read_info-clause-exact : goal.returns-in-Ok-read_info-clause-exact
returns-in-Ok-read_info-clause-exact c =
    let here : key_at (standing c.args.place c.args.bytes.now) ≡ Ok c.in-Ok.key = ap key_at (sym (standing_here c.args.place c.args.bytes.now)) ∙ c.in-Ok.ensures.exact in
    let found : class_list_at c.in-Ok.key.keylen (drop c.in-Ok.key.keylen c.args.bytes.now) ≡ Ok c.in-Ok-read_info.classes = same_list c.in-Ok.key.keylen c.from.result (drop c.in-Ok.key.keylen c.args.bytes.now) c.data_of.result.now c.from.ensures c.data_of.ensures ∙ c.in-Ok-read_info.ensures.exact in
    info_read c.args.place c.args.bytes.now c.in-Ok.key here (sym c.is_compressed.ensures ∙ c.if-is_compressed.false)
    ∙ ap (or_fault (fault_at c.args.place BadInfo)) found

pub returns-clause-exact : goal.returns-clause-exact
returns-clause-exact c =
    let here : key_at (standing c.args.place c.args.bytes.now) ≡ Ok c.in-Ok.key = ap key_at (sym (standing_here c.args.place c.args.bytes.now)) ∙ c.in-Ok.ensures.exact in
    let other : c.in-Err-read_info.field-0 ≢ NoMemory = search rules in
    let fails : class_list_at c.from.result c.data_of.result.now ≡ Err c.in-Err-read_info.field-0 = c.in-Err-read_info.ensures.exact other in
    let found : class_list_at c.in-Ok.key.keylen (drop c.in-Ok.key.keylen c.args.bytes.now) ≡ Err c.in-Err-read_info.field-0 = same_list c.in-Ok.key.keylen c.from.result (drop c.in-Ok.key.keylen c.args.bytes.now) c.data_of.result.now c.from.ensures c.data_of.ensures ∙ fails in
    rw c.bad_info-in-Err-read_info.ensures (info_read c.args.place c.args.bytes.now c.in-Ok.key here (sym c.is_compressed.ensures ∙ c.if-is_compressed.false)
    ∙ ap (or_fault (fault_at c.args.place BadInfo)) found)
