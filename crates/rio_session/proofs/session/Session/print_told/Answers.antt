use Rattle.std.proofs.Common.{refl}
use Rattle.rio_machine.specs.declared.refusal.Refusal.TheVariants.{KindChanged, NoVersion}
use Rattle.rio_model.specs.declared.map_fault.MapFault.TheVariants.{KindChanged as Changed, NoVersion as Missing}
use Rattle.rio_session.proofs.GetCalls.{prints_refusal, prints_text}
use Rattle.rio_session.proofs.session.Session.print_told.Goals as goal

pub returns-in-Ok-clause-prints : goal.returns-in-Ok-clause-prints
returns-in-Ok-clause-prints g c meant gives =
    let call = c.print_reply in
    prints_text c.args.replies meant (g.H.Host.view c.args.host.now) (g.H.Host.view call.new.host) c.args.self.now call.new.self call.result
    c.in-Ok.text.bytes c.as_slice.result.now (rw c.in-Ok.is at gives) c.as_slice.ensures call.ensures.says call.ensures.outcome

pub returns-in-Err-KindChanged-clause-prints : goal.returns-in-Err-KindChanged-clause-prints
returns-in-Err-KindChanged-clause-prints g c meant gives =
    let told = rw c.in-Err-KindChanged.field-0-is at (rw c.in-Err-KindChanged.is at gives) in
    prints_refusal c.args.replies meant (g.H.Host.view c.args.host.now) (g.H.Host.view c.refuse.new.host) c.args.self.now c.refuse.new.self c.refuse.result
    (Changed c.in-Err-KindChanged.member) (KindChanged c.in-Err-KindChanged.member) (told (λ e. cc)) (refl, refl) c.refuse.ensures.says c.refuse.ensures.outcome

pub returns-in-Err-NoVersion-clause-prints : goal.returns-in-Err-NoVersion-clause-prints
returns-in-Err-NoVersion-clause-prints g c meant gives =
    let told = rw c.in-Err-NoVersion.field-0-is at (rw c.in-Err-NoVersion.is at gives) in
    let call = c.refuse-in-Err-NoVersion in
    prints_refusal c.args.replies meant (g.H.Host.view c.args.host.now) (g.H.Host.view call.new.host) c.args.self.now call.new.self call.result
    Missing NoVersion (told (λ e. cc)) (refl, refl) call.ensures.says call.ensures.outcome
