use Rattle.std.proofs.Common.{List, Option, sym, ap, ◌∙◌}
use Rattle.rio_entry.proofs.Left.{if_ok_more}
use Rattle.rio_key.specs.declared.head.KeyHead.{KeyHead}
use Rattle.rio_report.specs.{Scan.{tree_key}, Summary.{found_summary}}
use Rattle.rio_report.proofs.summary.found_summary.Goals as goal

pub returns-in-Some-clause-summary : goal.returns-in-Some-clause-summary
returns-in-Some-clause-summary g c =
    let classes = c.args.described.now.classes in
    let found = c.in-Some.ensures ∙ ap (tree_key c.args.tree.now) c.as_slice.ensures in
    if_ok_more c.key_summary.result c.key_summary.ensures.summary (λ s is file told. is file told ∙ ap (found_summary file classes) found)

pub returns-in-None-clause-summary : goal.returns-in-None-clause-summary
returns-in-None-clause-summary g c file told =
    let found = c.in-None.ensures ∙ ap (tree_key c.args.tree.now) c.as_slice.ensures in
    c.no_summary.ensures ∙ ap (found_summary file c.args.described.now.classes) found
