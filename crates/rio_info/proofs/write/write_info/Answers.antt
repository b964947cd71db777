use Rattle.std.proofs.Common.{◌≡◌, ℕ, List, length, IfOk, arith, ap, ◌∙◌, subst}
use Rattle.rio_num.specs.Room.{Room, room_of}
use Rattle.rio_format.specs.{declared.class.ClassDef.{ClassDef}, declared.value.Value.{Value}, Descriptions.{description_classes}, TreeClasses.{written_classes}, Written.{written_form}, WrittenBytes.{written_list}}
use Rattle.rio_format.specs.WrittenList.{class_list_value}
use Rattle.rio_info.proofs.WrittenLists.{is_read}
use Rattle.rio_info.proofs.write.write_info.Goals as goal

module _ (start : ℕ) (declared descriptions : List ClassDef) (list : Value) (e : list ≡ class_list_value (written_classes declared)) (d : descriptions ≡ description_classes) where
  -- the value's written form is the list
  form_is : written_form descriptions start list ≡ written_list start declared
  form_is = ap (λ (classes : List ClassDef). written_form classes start list) d ∙ ap (λ (v : Value). written_form description_classes start v) e

pub write_object-requires : goal.write_object-requires
write_object-requires c =
    let list = rw (c.in_ok-judged.ensures, c.in_ok-trees.ensures) at c.in_ok-list.ensures in
    let form = form_is c.args.start c.args.classes.now _ _ list c.in_ok-descriptions.ensures in
    let same = ap (λ (bytes : List ℕ). length bytes) form in
    omega (arith, c.requires.length, c.requires.start, same)

pub returns-clause-exact : goal.returns-clause-exact
returns-clause-exact c =
    let list = rw (c.in_ok-judged.ensures, c.in_ok-trees.ensures) at c.in_ok-list.ensures in
    let form = form_is c.args.start c.args.classes.now _ _ list c.in_ok-descriptions.ensures in
    subst (λ (bytes : List ℕ). IfOk c.write_object.result (λ (b : Room). b ≡ room_of bytes)) form c.write_object.ensures.exact

pub returns-clause-read : goal.returns-clause-read
returns-clause-read c = λ described.
    let list = rw (c.in_ok-judged.ensures, c.in_ok-trees.ensures) at c.in_ok-list.ensures in
    let form = form_is c.args.start c.args.classes.now _ _ list c.in_ok-descriptions.ensures in
    is_read c.args.start c.args.classes.now c.requires.length c.requires.start described c.write_object.result
    (subst (λ (bytes : List ℕ). IfOk c.write_object.result (λ (b : Room). b ≡ room_of bytes)) form c.write_object.ensures.exact)
