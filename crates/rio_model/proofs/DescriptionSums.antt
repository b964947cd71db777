-- The descriptions of the objects in a class list have the checksums of their declarations.
use Rattle.std.proofs.Common.{◌≡◌, pos, codes, ℕ, ℤ, List, refl}
use Rattle.std.specs.Fmt.{digits}
use Rattle.rio_num.specs.Printed.{name_text}
use Rattle.rio_format.specs.Descriptions.{bare_element, base_element_class, counted_element_class, description_classes, element_class, info_class}
use Rattle.rio_model.specs.{ClassGrammar.{checksum_of}, ClassText.{text_of_class}, Described.{DescriptionsHaveSums}}

info_sum : checksum_of info_class ≡ 1978760737
unfolding checksum_of text_of_class name_text digits
info_sum = refl

element_sum : checksum_of element_class ≡ 1842746706
unfolding checksum_of text_of_class name_text digits
element_sum = refl

base_sum : checksum_of base_element_class ≡ 2469373253
unfolding checksum_of text_of_class name_text digits
base_sum = refl

counted_sum : checksum_of counted_element_class ≡ 1505910659
unfolding checksum_of text_of_class name_text digits
counted_sum = refl

bare_sum : List ℕ → ℤ → ℕ → Type 0
bare_sum name version sum = checksum_of (bare_element name version sum) ≡ sum

-- the elements that have nothing else
record BareSums : Type 0 where
  basic : bare_sum (codes "TStreamerBasicType") (pos 2) 3946468268
  object : bare_sum (codes "TStreamerObject") (pos 2) 333481419
  any_object : bare_sum (codes "TStreamerObjectAny") (pos 2) 1280426895
  pointer : bare_sum (codes "TStreamerObjectPointer") (pos 2) 377212202
  any_pointer : bare_sum (codes "TStreamerObjectAnyPointer") (pos 1) 1518833227
  string : bare_sum (codes "TStreamerString") (pos 2) 1968605749

bare_sums : BareSums
unfolding bare_sum checksum_of text_of_class name_text digits
bare_sums = record { basic = refl; object = refl; any_object = refl; pointer = refl; any_pointer = refl; string = refl }

pub descriptions_summed : DescriptionsHaveSums
unfolding description_classes bare_sum
descriptions_summed =
    let b = bare_sums in
    rw (info_sum, element_sum, base_sum, counted_sum, b.basic, b.object, b.any_object, b.pointer, b.any_pointer, b.string) refl
