use Rattle.std.proofs.{Common.{◌≡◌, ◌∙◌, [], refl, ap}, lemmas.Result.{err_from_is_err_and}}
use Rattle.rio_recover.proofs.{Judging.{cause_alone_on}, KeyJudged.{item_refused, name_reasons, value_refused}, KeyStep.{none_checked, none_told, on_tree, some_checked, some_told}}
use Rattle.rio_recover.proofs.judge.check_key.Goals as goal

pub returns-in_err-check_name-clause-cause : goal.returns-in_err-check_name-clause-cause
returns-in_err-check_name-clause-cause g c =
    let p = err_from_is_err_and c.from_residual.result c.from_residual.ensures.1 in
    rw (p.1, p.2) (cause_alone_on (Unit {0}) (Unit {0}) (g.H.Host.view c.args.host.now) (g.H.Host.view c.args.host.now) c.in_err-check_name.field-0.0 refl c.in_err-check_name.ensures.alone)

pub returns-in_err-value-clause-told : goal.returns-in_err-value-clause-told
returns-in_err-value-clause-told g c file beside before r told is next same checking =
    let p = err_from_is_err_and c.from_residual-in_err-value.result c.from_residual-in_err-value.ensures.1 in
    let kinds = c.kind_of-kind.ensures beside.tops checking.keys.names in
    rw (p.1, p.2)
    (value_refused beside before r c.in_err-value.field-0.0 _ _ (ap name_reasons same ∙ c.in_ok-check_name.ensures.told.0) (c.in_err-value.ensures.told file beside before r told is next same kinds checking.named))

pub returns-in_err-check_item-clause-told : goal.returns-in_err-check_item-clause-told
returns-in_err-check_item-clause-told g c file beside before r told is next same checking =
    let p = err_from_is_err_and c.from_residual-in_err-check_item.result c.from_residual-in_err-check_item.ensures.1 in
    let kinds = c.kind_of-kind.ensures beside.tops checking.keys.names in
    let value = c.in_ok-value.ensures.told file beside before r told is next same kinds checking.named in
    rw (p.1, p.2)
    (item_refused beside before r c.in_err-check_item.field-0.0 _ _ (ap name_reasons same ∙ c.in_ok-check_name.ensures.told.0) value.0
    (c.in_err-check_item.ensures.told beside before r same (record { names = checking.keys.names; items = checking.keys.items; outdated = checking.keys.outdated })))

pub returns-in-Some-clause-told : goal.returns-in-Some-clause-told
returns-in-Some-clause-told g c file beside before r told is next same checking =
    let kinds = c.kind_of-kind.ensures beside.tops checking.keys.names in
    let value = rw c.in-Some.is at (c.in_ok-value.ensures.told file beside before r told is next same kinds checking.named) in
    let given = rw c.in-Some.is at c.in_ok-value.ensures.value in
    let item = c.in_ok-check_item.ensures.told beside before r same (record { names = checking.keys.names; items = checking.keys.items; outdated = checking.keys.outdated }) in
    some_told beside before r c.args.head.now same c.kind_of-kind.result kinds c.args.check.now c.check_item.new.self checking c.check_value.new.named c.in_ok-check_item.ensures.passed next c.in_ok-check_name.ensures.told.0 value.0 item.0
    c.args.keys.now.heads.now c.in-Some.tree value.1 given c.note_tree.new.self c.note_tree.result c.note_tree.ensures

pub returns-in-Some-clause-checked : goal.returns-in-Some-clause-checked
returns-in-Some-clause-checked g c =
    let given = rw c.in-Some.is at c.in_ok-value.ensures.value in
    on_tree c.args.head.now c.in-Some.tree c.check_item.new.self c.note_tree.new.self c.note_tree.result c.note_tree.ensures
    (λ are before so. some_checked c.args.keys.now.heads.now before c.args.head.now c.kind_of-kind.result c.args.check.now c.check_item.new.self c.check_value.new.named c.in_ok-check_item.ensures.passed so
    c.in_ok-check_name.ensures.untitled (c.kind_of-kind.ensures _ so.names) c.in-Some.tree c.note_tree.new.self given are)

pub returns-in-None-clause-told : goal.returns-in-None-clause-told
returns-in-None-clause-told g c file beside before r told is next same checking =
    let kinds = c.kind_of-kind.ensures beside.tops checking.keys.names in
    let value = rw c.in-None.is at (c.in_ok-value.ensures.told file beside before r told is next same kinds checking.named) in
    let given = rw c.in-None.is at c.in_ok-value.ensures.value in
    let item = c.in_ok-check_item.ensures.told beside before r same (record { names = checking.keys.names; items = checking.keys.items; outdated = checking.keys.outdated }) in
    none_told beside before r c.args.head.now same c.kind_of-kind.result kinds c.args.check.now c.check_item.new.self checking c.check_value.new.named c.in_ok-check_item.ensures.passed next c.in_ok-check_name.ensures.told.0 value.0 item.0
    c.args.keys.now.heads.now value.1 given

pub returns-in-None-clause-checked : goal.returns-in-None-clause-checked
returns-in-None-clause-checked g c before so =
    let given = rw c.in-None.is at c.in_ok-value.ensures.value in
    none_checked c.args.keys.now.heads.now before c.args.head.now c.kind_of-kind.result c.args.check.now c.check_item.new.self c.check_value.new.named c.in_ok-check_item.ensures.passed so
    c.in_ok-check_name.ensures.untitled (c.kind_of-kind.ensures _ so.names) given
