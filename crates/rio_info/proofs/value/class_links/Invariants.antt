use Rattle.std.proofs.Common.{◌≡◌, ◌++◌, drop}
use Rattle.rio_format.specs.{Lists.{listed}, WrittenList.{class_links}}
use Rattle.rio_info.proofs.value.class_links.Given as goal

abbrev pub invariant-loop-k : goal.invariant-loop-k
invariant-loop-k l =
    let classes = listed l.classes in
    l.links ++ class_links classes l.label (drop l.k classes) ≡ class_links classes 0 classes
