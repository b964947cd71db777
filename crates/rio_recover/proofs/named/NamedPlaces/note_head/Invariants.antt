use Rattle.std.proofs.Common.{map, take, true}
use Rattle.std.specs.List.{flat_map}
use Rattle.rio_recover.specs.Baskets.{NotesPlaces}
use Rattle.rio_recover.proofs.named.NamedPlaces.note_head.Given as goal

abbrev pub invariant-loop-branch : goal.invariant-loop-branch
invariant-loop-branch l = NotesPlaces (flat_map (λ b. map (λ at. at.seek) b.baskets) (take l.branch-index l.branch-items)) l.fn.self l.self true
