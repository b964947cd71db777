use Rattle.std.proofs.Common.{◌∙◌, sym}
use Rattle.rio_recover.proofs.ItemsChecked.{double_told, mixed_as, mixed_told, no_item_reason}
use Rattle.rio_recover.proofs.judge.KeyCheck.check_item.Goals as goal

pub returns-then-has_passed-clause-told : goal.returns-then-has_passed-clause-told
returns-then-has_passed-clause-told c beside before r same checking =
    rw c.read_only.ensures (double_told beside before r c.args.head.now same c.args.self.now checking (sym c.has_passed.ensures ∙ c.if-has_passed.true))

pub returns-then-is_mixed-clause-told : goal.returns-then-is_mixed-clause-told
returns-then-is_mixed-clause-told c beside before r same checking =
    let head = c.args.head.now in
    let apart = mixed_as beside before r head same c.as_slice.result.now c.is_mixed.result c.as_slice.ensures (c.is_mixed.ensures beside.tops checking.names) in
    rw c.read_only-then-is_mixed.ensures (mixed_told beside before r head same c.args.self.now checking (sym c.has_passed.ensures ∙ c.if-has_passed.false) (apart ∙ c.if-is_mixed.true))

pub returns-clause-told : goal.returns-clause-told
returns-clause-told c beside before r same checking =
    let head = c.args.head.now in
    let apart = mixed_as beside before r head same c.as_slice.result.now c.is_mixed.result c.as_slice.ensures (c.is_mixed.ensures beside.tops checking.names) in
    (no_item_reason beside before r head same c.args.self.now checking (sym c.has_passed.ensures ∙ c.if-has_passed.false) (apart ∙ c.if-is_mixed.false), tt)
