use Rattle.std.proofs.{Common.{◌++◌, ℕ, List, Bool, None, drop, get_or, ◌+◌, sym, ap, ◌∙◌, append_assoc, arith}, lemmas.List.{append-nil}}
use Rattle.rio_entry.specs.BranchRows.{read_values}
use Rattle.rio_report.specs.RowTexts.{first_after, values_behind, values_unrefused}
use Rattle.rio_report.proofs.ValueTexts.{first_is, values_end, values_more_at}
use Rattle.rio_report.proofs.scan_text.put_read_values.Goals as goal

pub loop-k-preserved : goal.loop-k-preserved
loop-k-preserved c =
    let rs = c.args.refusals.now in
    let row = c.args.values.now in
    let k = c.loop-k.k in
    let first = c.loop-k.first in
    let v = c.index-values-k.result in
    let one = values_behind first (values_unrefused (get_or rs k None) v) in
    let rest = read_values (drop (k + 1) rs) (drop (k + 1) row) in
    ap (λ (t : List ℕ). t ++ values_behind c.in_ok-first.first rest) c.in_ok-first.ensures.put
    ∙ ap (λ (b : Bool). (c.loop-k.text.bytes ++ one) ++ values_behind b rest) c.in_ok-first.ensures.behind
    ∙ append_assoc c.loop-k.text.bytes one (values_behind (first_after first (values_unrefused (get_or rs k None) v)) rest)
    ∙ ap (λ (l : List ℕ). c.loop-k.text.bytes ++ l) (sym (values_more_at rs row k None v (omega arith) (omega arith) c.index-values-k.is first))
    ∙ c.loop-k.invariant

pub returns : goal.returns
returns c =
    sym (append-nil c.loop-k.text.bytes)
    ∙ ap (λ (l : List ℕ). c.loop-k.text.bytes ++ l) (sym (values_end c.args.refusals.now c.args.values.now c.loop-k.k (omega arith) c.loop-k.first))
    ∙ c.loop-k.invariant
    ∙ ap (λ (l : List ℕ). c.args.text.now.bytes ++ l) (first_is (read_values c.args.refusals.now c.args.values.now))
