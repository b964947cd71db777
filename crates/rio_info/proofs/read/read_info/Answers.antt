use Rattle.std.proofs.{Common.{◌≡◌, List, Err, codes, subst, arith}, lemmas.Result.{err_from_is_err_and}}
use Rattle.rio_format.specs.{declared.class.ClassDef.{ClassDef}, Descriptions.{description_classes}, Objects.{value_at}}
use Rattle.rio_format.proofs.ObjectLaws.{fault_is_broken}
use Rattle.rio_info.proofs.read.read_info.Goals as goal

pub returns-in_err-list-clause-broken : goal.returns-in_err-list-clause-broken
returns-in_err-list-clause-broken c =
    let p = err_from_is_err_and c.from_residual-in_err-list.result c.from_residual-in_err-list.ensures.1 in
    let told : List ClassDef → Type 0 = λ classes. value_at classes (codes "TList") c.args.start c.args.bytes.now ≡ Err c.in_err-list.field-0.0 in
    rw (p.1, p.2) (λ memory. fault_is_broken description_classes (codes "TList") c.args.start c.args.bytes.now c.in_err-list.field-0.0 (λ i. omega (arith, c.type_inv.bytes i)) (subst told c.in_ok-descriptions.ensures (c.in_err-list.ensures.exact memory)))
