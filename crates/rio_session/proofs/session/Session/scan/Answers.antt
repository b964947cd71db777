use Rattle.std.proofs.Common.{◌≡◌, ℕ, List, Some, refl, subst}
use Rattle.std.specs.List.{find}
use Rattle.rio_fill.specs.Fill.{entry_count}
use Rattle.rio_reply.specs.Scanned.{scan_start}
use Rattle.rio_session.specs.{Fills.{is_tree_of}, Scans.{Scans}}
use Rattle.rio_session.specs.declared.fault.SessionFault.TheVariants.{HostFault, NoMemory}
use Rattle.rio_session.proofs.ScanCalls.{tells_nothing, tells_scan}
use Rattle.rio_session.proofs.session.Session.scan.Goals as goal

pub returns-in-Ok-clause-tells : goal.returns-in-Ok-clause-tells
returns-in-Ok-clause-tells g c t found =
    let s = c.args.self.now in
    let old = g.H.Host.view c.args.host.now in
    let mid = g.H.Host.view c.text_of_scan.new.host in
    let class = c.args.class.now in
    let told = c.in-Ok.told in
    let scans = subst (λ (n : List ℕ). find (is_tree_of n) s.trees ≡ Some t → Scans old s.segments s.classes class t.fill (scan_start n (entry_count t.fill)) (λ text. text.bytes) told) c.as_slice.ensures (c.in-Ok.ensures.rows t) found in
    tells_scan c.args.replies c.args.head.now.name class t old s c.print_told.new.self mid (g.H.Host.view c.print_told.new.host) c.print_told.result told
    (g.met.H.Host.lawful c.text_of_scan.new.host) c.in-Ok.ensures.calls c.in-Ok.ensures.cause scans c.print_told.ensures.prints c.print_told.ensures.lacks

pub returns-in-Err-NoMemory-clause-tells : goal.returns-in-Err-NoMemory-clause-tells
returns-in-Err-NoMemory-clause-tells g c t found =
    let s = c.args.self.now in
    let calls = c.in-Err-NoMemory.ensures.calls in
    let cause = rw c.in-Err-NoMemory.field-0-is at c.in-Err-NoMemory.ensures.cause in
    tells_nothing c.args.replies c.args.head.now.name c.args.class.now t (g.H.Host.view c.args.host.now) s s (g.H.Host.view c.text_of_scan.new.host) NoMemory (λ said. said)
    (record { calls = calls; faults = (cause, calls.say_faults); kept = refl })

pub returns-in-Err-HostFault-clause-tells : goal.returns-in-Err-HostFault-clause-tells
returns-in-Err-HostFault-clause-tells g c t found =
    let s = c.args.self.now in
    let calls = c.in-Err-HostFault.ensures.calls in
    let cause = rw c.in-Err-HostFault.field-0-is at c.in-Err-HostFault.ensures.cause in
    tells_nothing c.args.replies c.args.head.now.name c.args.class.now t (g.H.Host.view c.args.host.now) s _ (g.H.Host.view c.text_of_scan.new.host) HostFault (λ said. said)
    (record { calls = calls; faults = (cause, calls.say_faults); failed = refl })
