use Rattle.std.proofs.Common.{◌≡◌, ℕ, List, length, min, IfOk, ap, ◌∙◌, subst}
use Rattle.rio_format.specs.{declared.class.ClassDef.{ClassDef}, declared.value.Value.{Value}, Descriptions.{description_classes}, Written.{written_form}}
use Rattle.rio_write.specs.Measuring.{too_long}
use Rattle.rio_info.proofs.length.list_length.Goals as goal

pub returns : goal.returns
returns c =
    let list = rw c.in_ok-judged.ensures at c.in_ok-list.ensures in
    let forms = ap (λ (classes : List ClassDef). λ (start : ℕ). written_form classes start c.in_ok-list.list) c.in_ok-descriptions.ensures
    ∙ ap (λ (v : Value). λ (start : ℕ). written_form description_classes start v) list in
    subst (λ (form : ℕ → List ℕ). IfOk c.written_length.result (λ (n : ℕ). (start : ℕ) → n ≡ min (length (form start)) too_long)) forms c.written_length.ensures
