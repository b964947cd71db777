use Rattle.std.proofs.Common.{◌≡◌, [], ◌∷◌, ◌++◌, ℕ, List, length, IfOk, ap, subst, ◌∙◌, append_assoc}
use Rattle.rio_format.specs.{declared.class.ClassDef.{ClassDef}, TreeClasses.{tree_classes}, WrittenBytes.{class_list_bytes, told_length}}
use Rattle.rio_info.proofs.length.info_length_with.Goals as goal

pub returns : goal.returns
returns c =
    let declared = c.args.classes.now in
    let more = c.args.class.now ∷ [] in
    let same = ap (λ (trees : List ClassDef). (trees ++ declared) ++ more) c.in_ok-trees.ensures ∙ append_assoc tree_classes declared more in
    subst (λ (classes : List ClassDef). IfOk c.list_length.result (λ (n : ℕ). (start : ℕ) → n ≡ told_length (length (class_list_bytes start classes)))) same c.list_length.ensures
