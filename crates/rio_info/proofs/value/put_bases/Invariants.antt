use Rattle.std.proofs.Common.{◌≡◌, ◌++◌, drop, map}
use Rattle.rio_format.specs.{WrittenElements.{base_element}, WrittenList.{element_object, pointers_from}}
use Rattle.rio_info.proofs.value.put_bases.Given as goal

abbrev pub invariant-loop-base : goal.invariant-loop-base
invariant-loop-base l =
    l.pointers ++ pointers_from l.label (map element_object (map base_element (drop l.base-index l.bases)))
    ≡ l.fn.pointers ++ pointers_from l.first (map element_object (map base_element l.bases))
