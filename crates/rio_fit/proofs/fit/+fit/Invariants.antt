use Rattle.std.proofs.Common.{◌≡◌, map, drop, []}
use Rattle.rio_format.specs.Fits.{all_fit, fields_fit, fitting_of, part_fitting}
use Rattle.rio_fit.proofs.fit.+fit.Given as goal

abbrev pub invariant-all_fit-loop-item : goal.invariant-all_fit-loop-item
invariant-all_fit-loop-item l =
    all_fit l.slot (map (fitting_of l.classes) (drop l.item-index l.items)) l.owners
    ≡ all_fit l.slot (map (fitting_of l.classes) l.items) l.fn.owners

abbrev pub invariant-parts_fit-loop-k : goal.invariant-parts_fit-loop-k
invariant-parts_fit-loop-k l =
    fields_fit (drop l.k l.fields) (map (part_fitting l.classes) (drop l.k l.parts)) l.counters l.owners
    ≡ fields_fit l.fields (map (part_fitting l.classes) l.parts) [] l.fn.owners
