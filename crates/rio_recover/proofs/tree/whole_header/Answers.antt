use Rattle.std.proofs.{Common.{◌≡◌, ◌∙◌, Bool, Some, refl, sym, ap}, lemmas.Result.{err_from_is_err_and}}
use Rattle.rio_num.specs.Reading.{some_if}
use Rattle.rio_state.specs.KeyedRecords.{record_at}
use Rattle.rio_recover.specs.Classes.{classes_in}
use Rattle.rio_recover.proofs.{Headers.{read_header}, Judging.{obtains_on}, TreeRead.{keyed, no_baskets, rows_found, stands}}
use Rattle.rio_recover.proofs.tree.whole_header.Goals as goal

pub returns-in_err-tree-clause-told : goal.returns-in_err-tree-clause-told
returns-in_err-tree-clause-told g c file beside r told is among same =
    let p = err_from_is_err_and c.from_residual.result c.from_residual.ensures.1 in
    let keys = c.args.keys.now in
    rw (p.1, p.2) (obtains_on c.in_err-tree.field-0.0 _ _ (c.in_err-tree.ensures.header file r told (stands file keys.classes.now keys.heads.now beside is r among) same))

pub returns-then-not-has_baskets-clause-told : goal.returns-then-not-has_baskets-clause-told
returns-then-not-has_baskets-clause-told g c file beside r told is among same =
    let keys = c.args.keys.now in
    let there = rw c.in-Some.is at (c.in_ok-tree.ensures.header file r told (stands file keys.classes.now keys.heads.now beside is r among) same) in
    no_baskets file keys.classes.now keys.heads.now beside is r among (Some c.in-Some.tree) c.in-Some.tree there refl (sym c.has_baskets.ensures ∙ c.if-not-has_baskets.true)

pub returns-in_err-has_rows-clause-told : goal.returns-in_err-has_rows-clause-told
returns-in_err-has_rows-clause-told g c file beside r told is among same =
    let p = err_from_is_err_and c.from_residual-in_err-has_rows.result c.from_residual-in_err-has_rows.ensures.1 in
    let keys = c.args.keys.now in
    let there = rw c.in-Some.is at (c.in_ok-tree.ensures.header file r told (stands file keys.classes.now keys.heads.now beside is r among) same) in
    let read = read_header (classes_in keys.classes.now) r c.in-Some.tree there in
    rw (p.1, p.2)
    (obtains_on c.in_err-has_rows.field-0.0 _ _
    (c.in_err-has_rows.ensures.rows file (record_at beside.records) read.value (c.read_header.ensures.calls.holds ∙ told) (keyed file keys.classes.now keys.heads.now beside is r among) read.reads))

pub returns-then-branch-clause-told : goal.returns-then-branch-clause-told
returns-then-branch-clause-told g c file beside r told is among same =
    let keys = c.args.keys.now in
    let there = rw c.in-Some.is at (c.in_ok-tree.ensures.header file r told (stands file keys.classes.now keys.heads.now beside is r among) same) in
    let read = read_header (classes_in keys.classes.now) r c.in-Some.tree there in
    let rows = c.in_ok-has_rows.ensures.rows file (record_at beside.records) read.value (c.read_header.ensures.calls.holds ∙ told) (keyed file keys.classes.now keys.heads.now beside is r among) read.reads in
    ap (λ (b : Bool). some_if b c.in-Some.tree) (sym c.if-branch.true)
    ∙ rows_found file keys.classes.now keys.heads.now beside is r among (Some c.in-Some.tree) c.in-Some.tree c.in_ok-has_rows.field-0 c.classes-classes.result.now there refl c.classes-classes.ensures rows

pub returns-else-branch-clause-told : goal.returns-else-branch-clause-told
returns-else-branch-clause-told g c file beside r told is among same =
    let keys = c.args.keys.now in
    let there = rw c.in-Some.is at (c.in_ok-tree.ensures.header file r told (stands file keys.classes.now keys.heads.now beside is r among) same) in
    let read = read_header (classes_in keys.classes.now) r c.in-Some.tree there in
    let rows = c.in_ok-has_rows.ensures.rows file (record_at beside.records) read.value (c.read_header.ensures.calls.holds ∙ told) (keyed file keys.classes.now keys.heads.now beside is r among) read.reads in
    ap (λ (b : Bool). some_if b c.in-Some.tree) (sym c.if-branch.false)
    ∙ rows_found file keys.classes.now keys.heads.now beside is r among (Some c.in-Some.tree) c.in-Some.tree c.in_ok-has_rows.field-0 c.classes-classes.result.now there refl c.classes-classes.ensures rows

pub returns-then-branch-clause-whole : goal.returns-then-branch-clause-whole
returns-then-branch-clause-whole g c =
    record { read = rw c.in-Some.is at c.in_ok-tree.ensures.read; whole = c.in_ok-has_rows.ensures.whole c.if-branch.true }
