use Rattle.std.proofs.{Common.{◌≡◌, ◌+◌, ℕ, List, ◌++◌, length, map, refl, arith}, lemmas.List.{length-map, map-append}}
use Rattle.rio_format.specs.{declared.class.ClassDef.{ClassDef}, declared.value.Value.{Value}, Lists.{listed}, WrittenElements.{base_element, member_element, written_elements}, WrittenList.{element_object, pointers_from}}
use Rattle.rio_model.proofs.PointerLaws.{pointers_from-append}
use Rattle.rio_info.proofs.value.element_pointers.Goals as goal

module _ (classes : List ClassDef) (class : ClassDef) (first behind : ℕ) (is : behind ≡ first + length class.bases) where
  abbrev bases : List Value
  bases = map element_object (map base_element class.bases)

  abbrev members : List Value
  members = map element_object (map (member_element classes class) class.members)

  all_pointers : pointers_from first bases ++ pointers_from behind members ≡ pointers_from first (map element_object (written_elements classes class))
  unfolding written_elements
  all_pointers =
      let len : first + length bases ≡ behind = omega (arith, is, length-map (map base_element class.bases) element_object, length-map class.bases base_element) in
      let whole = map-append element_object (map base_element class.bases) (map (member_element classes class) class.members) in
      rw (whole, pointers_from-append first bases members, len) refl

pub returns : goal.returns
returns c =
    let all = all_pointers (listed c.args.classes.now) c.args.class.now c.args.first _ (rw c.as_slice-bases.ensures at c.in_ok-behind.ensures) in
    simp (c.in_ok-put_bases.ensures, c.new-pointers.ensures, c.as_slice-bases.ensures, all) at c.in_ok-put_members.ensures
