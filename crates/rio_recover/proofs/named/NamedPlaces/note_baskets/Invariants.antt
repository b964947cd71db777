use Rattle.std.proofs.Common.{map, take, true}
use Rattle.rio_recover.specs.Baskets.{NotesPlaces}
use Rattle.rio_recover.proofs.named.NamedPlaces.note_baskets.Given as goal

abbrev pub invariant-loop-at : goal.invariant-loop-at
invariant-loop-at l = NotesPlaces (map (λ at. at.seek) (take l.at-index l.baskets)) l.fn.self l.self true
