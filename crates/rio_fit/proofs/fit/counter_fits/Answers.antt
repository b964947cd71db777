use Rattle.std.proofs.{Common.{rules, refl, SFits, w32}, lemmas.Int.{to_z-of_z}}
use Rattle.rio_format.specs.Fits.{fitting_of}
use Rattle.rio_fit.proofs.FitLaws.{counter_noted}
use Rattle.rio_fit.proofs.fit.counter_fits.Goals as goal

pub returns-in_ok-note-in-Some : goal.returns-in_ok-note-in-Some
returns-in_ok-note-in-Some c = λ classes owners.
    let is = c.in-Some.ensures classes in
    let range : SFits w32 c.in-Some.said = search rules in
    let noted = simp to_z-of_z at c.in_ok-note-in-Some.ensures in
    counter_noted c.args.name.now (fitting_of classes c.args.value.now) c.args.counters.now c.note.new.self owners c.in-Some.said is.0 (is.1 owners) noted

pub returns-in-None : goal.returns-in-None
returns-in-None c = λ classes owners. rw (c.in-None.ensures classes owners) refl
