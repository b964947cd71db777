use Rattle.std.proofs.{Common.{◌≡◌, ◌++◌, List, [], true, ℕ, ap, ◌∙◌, append_assoc}, lemmas.List.{append-nil}, lemmas.Result.{err_from_is_err_and}}
use Rattle.rio_host.proofs.ReadsLaws.{reads_none}
use Rattle.rio_report.specs.{Gathered.{ends_line}, Scan.{count_line, row_lines}}
use Rattle.rio_entry.specs.BranchRows.{row_at}
use Rattle.rio_report.proofs.{Gather.{cut_first, cut_reads, says_as, says_held}, SeenLaws.{rows_had}, WholeLines.{count_ends, ends_both}}
use Rattle.rio_report.proofs.scan.say_rows.Goals as goal

pub gather_rows-requires-clause-had : goal.gather_rows-requires-clause-had
gather_rows-requires-clause-had g c file told entry lt =
    rows_had c.args.tree.now.classes.now c.args.form.now.class (row_at file c.args.tree.now.classes.now c.args.tree.now.branches.now c.args.refusals.now) c.args.entries (c.requires.had file told) entry lt

pub returns-in_err-gather_rows-clause-says : goal.returns-in_err-gather_rows-clause-says
returns-in_err-gather_rows-clause-says g c =
    let p = err_from_is_err_and c.from_residual-in_err-gather_rows.result c.from_residual-in_err-gather_rows.ensures.1 in
    let held = c.args.held.now.bytes in
    let first = c.put_count.new.text.bytes in
    let count = count_line c.args.form.now.csv c.args.name.now c.args.entries in
    let rows : List ℕ → List ℕ = λ file. row_lines c.args.form.now file c.args.tree.now.classes.now c.args.tree.now.branches.now c.args.refusals.now c.args.entries in
    let ends : ends_line first ≡ true = ap ends_line c.in_ok-put_count.ensures ∙ ends_both held count c.requires.ends (count_ends c.args.form.now.csv c.args.name.now c.args.entries) in
    rw p.1 (cut_first first rows (λ file. []) (λ file. held ++ (count ++ rows file)) ends
    (λ file told. append-nil (first ++ rows file) ∙ ap (λ (l : List ℕ). l ++ rows file) c.in_ok-put_count.ensures ∙ append_assoc held count (rows file)) c.in_err-gather_rows.ensures.says)

pub returns-clause-says : goal.returns-clause-says
returns-clause-says g c =
    let a = g.H.Host.view c.args.host.now in
    let d = g.H.Host.view c.gather_rows.new.host in
    let e = g.H.Host.view c.say_held.new.host in
    let held = c.args.held.now.bytes in
    let first = c.put_count.new.text.bytes in
    let count = count_line c.args.form.now.csv c.args.name.now c.args.entries in
    let rows : List ℕ → List ℕ = λ file. row_lines c.args.form.now file c.args.tree.now.classes.now c.args.tree.now.branches.now c.args.refusals.now c.args.entries in
    says_as a e (λ file. first ++ rows file) (λ file. held ++ (count ++ rows file))
    (λ file told. ap (λ (l : List ℕ). l ++ rows file) c.in_ok-put_count.ensures ∙ append_assoc held count (rows file)) c.say_held.result
    (says_held a d e (g.met.H.Host.lawful c.args.host.now) (g.met.H.Host.lawful c.gather_rows.new.host) (λ file. first ++ rows file) c.gather_rows.new.held.bytes c.in_ok-gather_rows.ensures.says c.say_held.result c.say_held.ensures.says c.say_held.ensures.unsaid)

pub returns-in_err-lanes-clause-says : goal.returns-in_err-lanes-clause-says
returns-in_err-lanes-clause-says g c =
    let p = err_from_is_err_and c.from_residual.result c.from_residual.ensures.1 in
    rw p.1 (cut_reads (λ file. c.args.held.now.bytes ++ (count_line c.args.form.now.csv c.args.name.now c.args.entries ++ row_lines c.args.form.now file c.args.tree.now.classes.now c.args.tree.now.branches.now c.args.refusals.now c.args.entries)) (reads_none (g.H.Host.view c.args.host.now)))

pub returns-in_err-put_count-clause-says : goal.returns-in_err-put_count-clause-says
returns-in_err-put_count-clause-says g c =
    let p = err_from_is_err_and c.from_residual-in_err-put_count.result c.from_residual-in_err-put_count.ensures.1 in
    rw p.1 (cut_reads (λ file. c.args.held.now.bytes ++ (count_line c.args.form.now.csv c.args.name.now c.args.entries ++ row_lines c.args.form.now file c.args.tree.now.classes.now c.args.tree.now.branches.now c.args.refusals.now c.args.entries)) (reads_none (g.H.Host.view c.args.host.now)))
