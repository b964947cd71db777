use Rattle.std.proofs.{Common.{◌∙◌, sym, ap}, lemmas.Result.{err_from_is_err_and}}
use Rattle.rio_state.specs.Contents.{FileClasses}
use Rattle.rio_recover.proofs.{KeyKinds.{object_record, tree_record}, TreeRead.{stands}, TreeTold.{among_records}, ValueTold.{header_given, header_refused, object_given, object_refused, old_given}}
use Rattle.rio_recover.proofs.judge.check_value.Goals as goal

pub returns-in_err-check_object-in-Object-clause-told : goal.returns-in_err-check_object-in-Object-clause-told
returns-in_err-check_object-in-Object-clause-told g c file beside before r told is next same kinds named =
    let p = err_from_is_err_and c.from_residual.result c.from_residual.ensures.1 in
    let keys = c.args.keys.now in
    let head = c.args.head.now in
    let kind = sym kinds ∙ c.in-Object.is in
    let there = stands file keys.classes.now keys.heads.now beside is r (among_records file keys.classes.now keys.heads.now beside r is next.top) in
    rw (p.1, p.2)
    (object_refused beside before r head same c.in_err-check_object-in-Object.field-0.0 _ _ kind
    (c.in_err-check_object-in-Object.ensures.told file r beside told there same (ap (λ (k : FileClasses). k.declared) is.classes_are ∙ sym c.classes.ensures) (object_record beside r head same kind).0))

pub returns-in_err-check_tree-in-Tree-clause-told : goal.returns-in_err-check_tree-in-Tree-clause-told
returns-in_err-check_tree-in-Tree-clause-told g c file beside before r told is next same kinds named =
    let p = err_from_is_err_and c.from_residual-in_err-check_tree-in-Tree.result c.from_residual-in_err-check_tree-in-Tree.ensures.1 in
    let head = c.args.head.now in
    let kind = sym kinds ∙ c.in-Tree.is in
    rw (p.1, p.2)
    (header_refused beside before r head same c.in_err-check_tree-in-Tree.field-0.0 _ _ kind (c.in_err-check_tree-in-Tree.ensures.told file beside before r told is next same (tree_record beside r head same kind) named))

pub returns-in_ok-check_object-in-Object-clause-told : goal.returns-in_ok-check_object-in-Object-clause-told
returns-in_ok-check_object-in-Object-clause-told g c file beside before r told is next same kinds named =
    let keys = c.args.keys.now in
    let head = c.args.head.now in
    let kind = sym kinds ∙ c.in-Object.is in
    let there = stands file keys.classes.now keys.heads.now beside is r (among_records file keys.classes.now keys.heads.now beside r is next.top) in
    let judged = c.in_ok-check_object-in-Object.ensures.told file r beside told there same (ap (λ (k : FileClasses). k.declared) is.classes_are ∙ sym c.classes.ensures) (object_record beside r head same kind).0 in
    object_given beside before r head same c.args.named.now kind judged.0 named

pub returns-in-Outdated-clause-told : goal.returns-in-Outdated-clause-told
returns-in-Outdated-clause-told g c file beside before r told is next same kinds named = old_given beside before r c.args.head.now same c.args.named.now (sym kinds ∙ c.in-Outdated.is) named

pub returns-in_ok-check_tree-in-Tree-clause-told : goal.returns-in_ok-check_tree-in-Tree-clause-told
returns-in_ok-check_tree-in-Tree-clause-told g c file beside before r told is next same kinds named =
    let head = c.args.head.now in
    let kind = sym kinds ∙ c.in-Tree.is in
    let judged = c.in_ok-check_tree-in-Tree.ensures.told file beside before r told is next same (tree_record beside r head same kind) named in
    header_given beside before r head same c.check_tree.new.named c.in_ok-check_tree-in-Tree.field-0 kind judged.0 judged.1
