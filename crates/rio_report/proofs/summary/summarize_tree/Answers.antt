use Rattle.std.proofs.{Common.{◌∙◌, List, ℕ}, lemmas.Result.{err_from_is_err_and}}
use Rattle.rio_host.proofs.ReadsLaws.{reads_join, reads_one}
use Rattle.rio_entry.proofs.Left.{if_ok_more}
use Rattle.rio_report.specs.{Described.{described_file}, Summary.{summarized_file}}
use Rattle.rio_report.proofs.Summaries.{opens_fault, opens_read, summarized_bad, summarized_is}
use Rattle.rio_report.proofs.summary.summarize_tree.Goals as goal

pub returns-in_err-described-clause-exact : goal.returns-in_err-described-clause-exact
returns-in_err-described-clause-exact g c file told =
    let p = err_from_is_err_and c.from_residual-in_err-described.result c.from_residual-in_err-described.ensures.1 in
    rw (p.1, p.2) (opens_fault (described_file file) (summarized_file c.args.tree.now file) (summarized_bad c.args.tree.now file) c.in_err-described.field-0.0
    (c.in_err-described.ensures.exact file (c.length.ensures.holds ∙ told)))

pub returns-clause-exact : goal.returns-clause-exact
returns-clause-exact g c file told =
    let here = c.length.ensures.holds ∙ told in
    opens_read (g.H.Host.view c.open_described.new.host) (g.H.Host.view c.found_summary.new.host) (summarized_file c.args.tree.now file) _
    (summarized_is c.args.tree.now file c.in_ok-described.described (c.in_ok-described.ensures.exact file here)) c.found_summary.result
    (if_ok_more c.found_summary.result c.found_summary.ensures.summary (λ s is. is file (c.in_ok-described.ensures.calls.holds ∙ here))) c.found_summary.ensures.cause

pub returns-clause-calls : goal.returns-clause-calls
returns-clause-calls g c =
    reads_join (g.met.H.Host.lawful c.open_described.new.host)
    (reads_join (g.met.H.Host.lawful c.length.new.self) (reads_one c.length.ensures.disk c.length.ensures.holds c.length.ensures.reads) c.in_ok-described.ensures.calls)
    c.found_summary.ensures.calls
