use Rattle.std.proofs.Common.{List, sym, ap, ◌∙◌}
use Rattle.rio_key.specs.declared.head.KeyHead.{KeyHead}
use Rattle.rio_report.proofs.Gather.{says_as}
use Rattle.rio_machine.specs.RefusalText.{refusal_text}
use Rattle.rio_report.specs.Scan.{found_tree, key_scan, scan_lines, scan_text}
use Rattle.rio_report.proofs.scan.say_described_tree.Goals as goal

pub returns-in-Ok-clause-says : goal.returns-in-Ok-clause-says
returns-in-Ok-clause-says g c =
    let classes = c.args.described.now.classes in
    says_as (g.H.Host.view c.args.host.now) (g.H.Host.view c.say_tree_key.new.host) (λ file. key_scan c.args.form.now file classes c.in-Ok.key.now) (λ file. scan_text c.args.form.now file c.args.name.now c.args.described.now)
    (λ file told. sym (ap (λ (keys : List KeyHead). scan_lines c.args.form.now file classes (found_tree c.args.name.now keys)) (sym c.as_slice.ensures) ∙ ap (scan_lines c.args.form.now file classes) c.in-Ok.ensures)) c.say_tree_key.result c.say_tree_key.ensures.says

pub returns-in-Err-clause-says : goal.returns-in-Err-clause-says
returns-in-Err-clause-says g c =
    let classes = c.args.described.now.classes in
    says_as (g.H.Host.view c.args.host.now) (g.H.Host.view c.say_refusal.new.host) (λ file. refusal_text c.in-Err.refusal) (λ file. scan_text c.args.form.now file c.args.name.now c.args.described.now)
    (λ file told. sym (ap (λ (keys : List KeyHead). scan_lines c.args.form.now file classes (found_tree c.args.name.now keys)) (sym c.as_slice.ensures) ∙ ap (scan_lines c.args.form.now file classes) c.in-Err.ensures)) c.say_refusal.result c.say_refusal.ensures.says
