use Rattle.std.proofs.{Common.{◌≡◌, ◌++◌, List, Some, None, ℕ, sym, ap, ◌∙◌}, lemmas.Result.{err_from_is_err_and}}
use Rattle.rio_host.proofs.ReadsLaws.{reads_join, reads_none}
use Rattle.rio_num.specs.Room.{Room}
use Rattle.rio_machine.specs.RefusalText.{refusal_text}
use Rattle.rio_report.specs.Gathered.{ends_line}
use Rattle.rio_report.specs.Scan.{count_line, refused_lines, row_lines, tree_lines}
use Rattle.rio_report.proofs.{Gather.{cut_reads, reads_then_piece, says_as}, Trees.{lines_gathered}, WholeLines.{refusals_end}}
use Rattle.rio_report.proofs.scan.say_tree.Goals as goal

pub say_rows-requires-clause-ends : goal.say_rows-requires-clause-ends
say_rows-requires-clause-ends g c =
    ap ends_line (c.in_ok-put_refused_lines.ensures ∙ ap (λ (l : List ℕ). l ++ refused_lines c.as_slice-branches.result.now c.as_slice.result.now) (ap (λ (r : Room). r.bytes) c.new-held.ensures))
    ∙ refusals_end c.as_slice-branches.result.now c.as_slice.result.now

pub returns-clause-says : goal.returns-clause-says
returns-clause-says g c =
    let a = g.H.Host.view c.args.host.now in
    let b = g.H.Host.view c.find_refusals.new.host in
    let d = g.H.Host.view c.find_rows_refusal.new.host in
    let e = g.H.Host.view c.say_rows.new.host in
    let classes = c.args.classes.now in
    let form = c.args.form.now in
    let name = c.args.name.now in
    let head = c.args.head.now in
    let bs = c.as_slice-branches.result.now in
    let rs = c.in_ok-refusals.refusals in
    let held = c.put_refused_lines.new.text.bytes in
    let front : held ≡ refused_lines bs c.as_slice.result.now = c.in_ok-put_refused_lines.ensures ∙ ap (λ (l : List ℕ). l ++ refused_lines bs c.as_slice.result.now) (ap (λ (r : Room). r.bytes) c.new-held.ensures) in
    let text_of : List ℕ → List ℕ = λ file. held ++ (count_line form.csv name head.entries ++ row_lines form file classes bs rs head.entries) in
    let law_b = g.met.H.Host.lawful c.find_refusals.new.host in
    says_as a e text_of (λ file. tree_lines form file classes name head)
    (λ file told.
    lines_gathered form file classes name head bs rs c.as_slice.result.now None held c.as_slice-branches.ensures c.as_slice.ensures (c.in_ok-refusals.ensures.refusals file told)
    (sym c.in-None.is ∙ c.in_ok-refusal.ensures.refusal file (c.find_refusals.ensures.calls.holds ∙ told)) front) c.say_rows.result
    (reads_then_piece a d e (g.met.H.Host.lawful c.args.host.now) (g.met.H.Host.lawful c.find_rows_refusal.new.host) text_of (reads_join law_b c.find_refusals.ensures.calls c.find_rows_refusal.ensures.calls) c.say_rows.result c.say_rows.ensures.says)

pub returns-in-Some-clause-says : goal.returns-in-Some-clause-says
returns-in-Some-clause-says g c =
    let a = g.H.Host.view c.args.host.now in
    let b = g.H.Host.view c.find_refusals.new.host in
    let d = g.H.Host.view c.find_rows_refusal.new.host in
    let e = g.H.Host.view c.say_rows_refusal.new.host in
    let classes = c.args.classes.now in
    let form = c.args.form.now in
    let name = c.args.name.now in
    let head = c.args.head.now in
    let bs = c.as_slice-branches.result.now in
    let rs = c.in_ok-refusals.refusals in
    let held = c.put_refused_lines.new.text.bytes in
    let front : held ≡ refused_lines bs c.as_slice.result.now = c.in_ok-put_refused_lines.ensures ∙ ap (λ (l : List ℕ). l ++ refused_lines bs c.as_slice.result.now) (ap (λ (r : Room). r.bytes) c.new-held.ensures) in
    let text_of : List ℕ → List ℕ = λ file. held ++ refusal_text c.in-Some.refusal in
    let law_b = g.met.H.Host.lawful c.find_refusals.new.host in
    says_as a e text_of (λ file. tree_lines form file classes name head)
    (λ file told.
    lines_gathered form file classes name head bs rs c.as_slice.result.now (Some c.in-Some.refusal) held c.as_slice-branches.ensures c.as_slice.ensures (c.in_ok-refusals.ensures.refusals file told)
    (sym c.in-Some.is ∙ c.in_ok-refusal.ensures.refusal file (c.find_refusals.ensures.calls.holds ∙ told)) front) c.say_rows_refusal.result
    (reads_then_piece a d e (g.met.H.Host.lawful c.args.host.now) (g.met.H.Host.lawful c.find_rows_refusal.new.host) text_of (reads_join law_b c.find_refusals.ensures.calls c.find_rows_refusal.ensures.calls) c.say_rows_refusal.result c.say_rows_refusal.ensures.says)

pub returns-in_err-counters-clause-says : goal.returns-in_err-counters-clause-says
returns-in_err-counters-clause-says g c =
    let p = err_from_is_err_and c.from_residual.result c.from_residual.ensures.1 in
    rw p.1 (cut_reads (λ file. tree_lines c.args.form.now file c.args.classes.now c.args.name.now c.args.head.now) (reads_none (g.H.Host.view c.args.host.now)))

pub returns-in_err-refusals-clause-says : goal.returns-in_err-refusals-clause-says
returns-in_err-refusals-clause-says g c =
    let p = err_from_is_err_and c.from_residual-in_err-refusals.result c.from_residual-in_err-refusals.ensures.1 in
    rw p.1 (cut_reads (λ file. tree_lines c.args.form.now file c.args.classes.now c.args.name.now c.args.head.now) c.find_refusals.ensures.calls)

pub returns-in_err-refusal-clause-says : goal.returns-in_err-refusal-clause-says
returns-in_err-refusal-clause-says g c =
    let p = err_from_is_err_and c.from_residual-in_err-refusal.result c.from_residual-in_err-refusal.ensures.1 in
    rw p.1 (cut_reads (λ file. tree_lines c.args.form.now file c.args.classes.now c.args.name.now c.args.head.now) (reads_join (g.met.H.Host.lawful c.find_refusals.new.host) c.find_refusals.ensures.calls c.find_rows_refusal.ensures.calls))

pub returns-in_err-put_refused_lines-clause-says : goal.returns-in_err-put_refused_lines-clause-says
returns-in_err-put_refused_lines-clause-says g c =
    let p = err_from_is_err_and c.from_residual-in_err-put_refused_lines.result c.from_residual-in_err-put_refused_lines.ensures.1 in
    rw p.1 (cut_reads (λ file. tree_lines c.args.form.now file c.args.classes.now c.args.name.now c.args.head.now) (reads_join (g.met.H.Host.lawful c.find_refusals.new.host) c.find_refusals.ensures.calls c.find_rows_refusal.ensures.calls))
