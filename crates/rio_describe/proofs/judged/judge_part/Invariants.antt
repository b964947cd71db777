use Rattle.std.proofs.Common.{map, take}
use Rattle.rio_format.specs.Lists.{listed}
use Rattle.rio_describe.specs.Heirs.{Judged, class_base}
use Rattle.rio_describe.proofs.judged.judge_part.Given as goal

abbrev pub invariant-loop-class : goal.invariant-loop-class
invariant-loop-class l = Judged (listed l.lists) (map class_base (take l.class-index l.part)) l.fn.heirs l.heirs
