use Rattle.std.proofs.{Common.{List, ℕ, codes, sym, ap, ◌∙◌}, lemmas.Result.{err_from_is_err_and}}
use Rattle.rio_report.proofs.Gather.{cut_reads, reads_then_piece, says_as}
use Rattle.rio_report.specs.Scan.{key_scan, tree_lines, unread_line}
use Rattle.rio_report.proofs.Trees.{key_compressed, key_read, key_unread}
use Rattle.rio_report.proofs.scan.say_tree_key.Goals as goal

pub returns-then-is_compressed-clause-says : goal.returns-then-is_compressed-clause-says
returns-then-is_compressed-clause-says g c =
    says_as (g.H.Host.view c.args.host.now) (g.H.Host.view c.say_unread.new.host) (λ file. unread_line c.args.key.now (codes "compressed")) (λ file. key_scan c.args.form.now file c.args.classes.now c.args.key.now)
    (λ file told. sym (key_compressed c.args.form.now file c.args.classes.now c.args.key.now (sym c.is_compressed.ensures ∙ c.if-is_compressed.true))) c.say_unread.result c.say_unread.ensures.says

pub returns-in-Ok-clause-says : goal.returns-in-Ok-clause-says
returns-in-Ok-clause-says g c =
    let a = g.H.Host.view c.args.host.now in
    let b = g.H.Host.view c.read_stored_tree.new.host in
    let d = g.H.Host.view c.say_tree.new.host in
    says_as a d (λ file. tree_lines c.args.form.now file c.args.classes.now c.as_slice.result.now c.in-Ok.head) (λ file. key_scan c.args.form.now file c.args.classes.now c.args.key.now)
    (λ file told. ap (λ (name : List ℕ). tree_lines c.args.form.now file c.args.classes.now name c.in-Ok.head) c.as_slice.ensures ∙ sym (key_read c.args.form.now file c.args.classes.now c.args.key.now c.in-Ok.head (sym c.is_compressed.ensures ∙ c.if-is_compressed.false) (rw c.in-Ok.is at (c.in_ok-head.ensures.found file told)))) c.say_tree.result
    (reads_then_piece a b d (g.met.H.Host.lawful c.args.host.now) (g.met.H.Host.lawful c.read_stored_tree.new.host) (λ file. tree_lines c.args.form.now file c.args.classes.now c.as_slice.result.now c.in-Ok.head) c.read_stored_tree.ensures.calls c.say_tree.result c.say_tree.ensures.says)

pub returns-in-Err-clause-says : goal.returns-in-Err-clause-says
returns-in-Err-clause-says g c =
    let a = g.H.Host.view c.args.host.now in
    let b = g.H.Host.view c.read_stored_tree.new.host in
    let d = g.H.Host.view c.say_unread-in-Err.new.host in
    says_as a d (λ file. unread_line c.args.key.now c.as_slice-in-Err.result.now) (λ file. key_scan c.args.form.now file c.args.classes.now c.args.key.now)
    (λ file told. ap (unread_line c.args.key.now) c.as_slice-in-Err.ensures ∙ sym (key_unread c.args.form.now file c.args.classes.now c.args.key.now c.in-Err.instead.bytes (sym c.is_compressed.ensures ∙ c.if-is_compressed.false) (rw c.in-Err.is at (c.in_ok-head.ensures.found file told)))) c.say_unread-in-Err.result
    (reads_then_piece a b d (g.met.H.Host.lawful c.args.host.now) (g.met.H.Host.lawful c.read_stored_tree.new.host) (λ file. unread_line c.args.key.now c.as_slice-in-Err.result.now) c.read_stored_tree.ensures.calls c.say_unread-in-Err.result c.say_unread-in-Err.ensures.says)

pub returns-in_err-head-clause-says : goal.returns-in_err-head-clause-says
returns-in_err-head-clause-says g c =
    let p = err_from_is_err_and c.from_residual.result c.from_residual.ensures.1 in
    rw p.1 (cut_reads (λ file. key_scan c.args.form.now file c.args.classes.now c.args.key.now) c.read_stored_tree.ensures.calls)
