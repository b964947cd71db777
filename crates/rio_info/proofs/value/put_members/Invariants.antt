use Rattle.std.proofs.Common.{◌≡◌, ◌++◌, drop, map}
use Rattle.rio_format.specs.{Lists.{listed}, WrittenElements.{member_element}, WrittenList.{element_object, pointers_from}}
use Rattle.rio_info.proofs.value.put_members.Given as goal

abbrev pub invariant-loop-member : goal.invariant-loop-member
invariant-loop-member l =
    l.pointers ++ pointers_from l.label (map element_object (map (member_element (listed l.classes) l.class) (drop l.member-index l.member-items)))
    ≡ l.fn.pointers ++ pointers_from l.first (map element_object (map (member_element (listed l.classes) l.class) l.member-items))
