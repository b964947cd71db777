use Rattle.std.proofs.Common.{◌≡◌, ◌++◌, ℕ, List, length, IfOk, subst}
use Rattle.rio_format.specs.{declared.class.ClassDef.{ClassDef}, WrittenBytes.{class_list_bytes, told_length}}
use Rattle.rio_info.proofs.length.info_length.Goals as goal

pub returns : goal.returns
returns c =
    subst (λ (trees : List ClassDef). IfOk c.list_length.result (λ (n : ℕ). (start : ℕ) → n ≡ told_length (length (class_list_bytes start (trees ++ c.args.classes.now))))) c.in_ok-trees.ensures c.list_length.ensures
