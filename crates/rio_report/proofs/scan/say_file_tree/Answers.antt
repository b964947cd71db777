use Rattle.std.proofs.{Common.{◌∙◌, List, ℕ}, lemmas.Result.{err_from_is_err_and}}
use Rattle.rio_host.specs.OnlyReads.{OnlyReads}
use Rattle.rio_host.proofs.ReadsLaws.{reads_join, reads_one}
use Rattle.rio_report.specs.{declared.described.Described.{Described}, Described.{described_file}}
use Rattle.rio_report.specs.Scan.{scan_text, scanned_file}
use Rattle.rio_close.specs.Causes.{AnyKind}
use Rattle.rio_report.proofs.Gather.{nothing_said, reads_then_piece}
use Rattle.rio_report.proofs.{Scans.{scanned_bad, scanned_is}, Dumps.{read_answers, read_refuses, told_calls, told_done, told_lines}}
use Rattle.rio_report.proofs.scan.say_file_tree.Goals as goal

pub returns-in_err-described-clause-refused : goal.returns-in_err-described-clause-refused
returns-in_err-described-clause-refused g c file told =
    let p = err_from_is_err_and c.from_residual-in_err-described.result c.from_residual-in_err-described.ensures.1 in
    rw (p.1, p.2) (read_refuses {X = Described} AnyKind (g.H.Host.view c.length.new.self) (g.H.Host.view c.open_described.new.host) (scanned_file c.args.form.now c.args.tree.now file) (described_file file)
    (scanned_bad c.args.form.now c.args.tree.now file) c.in_err-described.field-0.0 (c.in_err-described.ensures.exact file (c.length.ensures.holds ∙ told)) c.in_err-described.ensures.cause)

pub returns-clause-refused : goal.returns-clause-refused
returns-clause-refused g c file told =
    read_answers (g.H.Host.view c.open_described.new.host) (g.H.Host.view c.say_described_tree.new.host) (scanned_file c.args.form.now c.args.tree.now file) _
    (scanned_is c.args.form.now c.args.tree.now file c.in_ok-described.described (c.in_ok-described.ensures.exact file (c.length.ensures.holds ∙ told))) c.say_described_tree.result c.say_described_tree.ensures.cause

pub returns-clause-done : goal.returns-clause-done
returns-clause-done g c =
    let a = g.H.Host.view c.args.host.now in
    let b = g.H.Host.view c.open_described.new.host in
    let d = g.H.Host.view c.say_described_tree.new.host in
    let tree = c.args.tree.now in
    let text_of : List ℕ → List ℕ = λ file. scan_text c.args.form.now file tree c.in_ok-described.described in
    let reads : OnlyReads a b = reads_join (g.met.H.Host.lawful c.length.new.self) (reads_one c.length.ensures.disk c.length.ensures.holds c.length.ensures.reads) c.in_ok-described.ensures.calls in
    told_done (scanned_file c.args.form.now tree) text_of a d (λ file told. scanned_is c.args.form.now tree file c.in_ok-described.described (c.in_ok-described.ensures.exact file (c.length.ensures.holds ∙ told))) c.say_described_tree.result
    (reads_then_piece a b d (g.met.H.Host.lawful c.args.host.now) (g.met.H.Host.lawful c.open_described.new.host) text_of reads c.say_described_tree.result c.say_described_tree.ensures.says)

pub returns-clause-calls : goal.returns-clause-calls
returns-clause-calls g c =
    let a = g.H.Host.view c.args.host.now in
    let b = g.H.Host.view c.open_described.new.host in
    let d = g.H.Host.view c.say_described_tree.new.host in
    let tree = c.args.tree.now in
    let text_of : List ℕ → List ℕ = λ file. scan_text c.args.form.now file tree c.in_ok-described.described in
    let reads : OnlyReads a b = reads_join (g.met.H.Host.lawful c.length.new.self) (reads_one c.length.ensures.disk c.length.ensures.holds c.length.ensures.reads) c.in_ok-described.ensures.calls in
    told_calls (scanned_file c.args.form.now tree) text_of a d (λ file told. scanned_is c.args.form.now tree file c.in_ok-described.described (c.in_ok-described.ensures.exact file (c.length.ensures.holds ∙ told))) c.say_described_tree.result
    (reads_then_piece a b d (g.met.H.Host.lawful c.args.host.now) (g.met.H.Host.lawful c.open_described.new.host) text_of reads c.say_described_tree.result c.say_described_tree.ensures.says)

pub returns-clause-lines : goal.returns-clause-lines
returns-clause-lines g c =
    let a = g.H.Host.view c.args.host.now in
    let b = g.H.Host.view c.open_described.new.host in
    let d = g.H.Host.view c.say_described_tree.new.host in
    let tree = c.args.tree.now in
    let text_of : List ℕ → List ℕ = λ file. scan_text c.args.form.now file tree c.in_ok-described.described in
    let reads : OnlyReads a b = reads_join (g.met.H.Host.lawful c.length.new.self) (reads_one c.length.ensures.disk c.length.ensures.holds c.length.ensures.reads) c.in_ok-described.ensures.calls in
    told_lines (scanned_file c.args.form.now tree) text_of a d (λ file told. scanned_is c.args.form.now tree file c.in_ok-described.described (c.in_ok-described.ensures.exact file (c.length.ensures.holds ∙ told))) c.say_described_tree.result
    (reads_then_piece a b d (g.met.H.Host.lawful c.args.host.now) (g.met.H.Host.lawful c.open_described.new.host) text_of reads c.say_described_tree.result c.say_described_tree.ensures.says)

pub returns-in_err-file_length-clause-lines : goal.returns-in_err-file_length-clause-lines
returns-in_err-file_length-clause-lines g c =
    let p = err_from_is_err_and c.from_residual.result c.from_residual.ensures.1 in
    rw p.1 (nothing_said (reads_one c.length.ensures.disk c.length.ensures.holds c.length.ensures.reads))

pub returns-in_err-described-clause-lines : goal.returns-in_err-described-clause-lines
returns-in_err-described-clause-lines g c =
    let p = err_from_is_err_and c.from_residual-in_err-described.result c.from_residual-in_err-described.ensures.1 in
    rw p.1 (nothing_said (reads_join (g.met.H.Host.lawful c.length.new.self) (reads_one c.length.ensures.disk c.length.ensures.holds c.length.ensures.reads) c.in_err-described.ensures.calls))
