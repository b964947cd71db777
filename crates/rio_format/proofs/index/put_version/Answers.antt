use Rattle.std.proofs.{Common.{◌≡◌, ℤ, ◌&&◌, eqb, if◌then◌else◌, length, Some, sym, ap, ◌∙◌, w32, w64, to_z, of_z, arith}, lemmas.Int.{to_z-of_z}}
use Rattle.std.specs.Ordering.{int_eq}
use Rattle.rio_format.specs.Index.{has_number, number_place, passing, version_of}
use Rattle.rio_format.proofs.PutLaws.{number_leads, number_met, number_stays, NumbersMoved}
use Rattle.rio_format.proofs.index.put_version.Goals as goal

pub returns-in-Some-clause-leads : goal.returns-in-Some-clause-leads
returns-in-Some-clause-leads c =
    let cs = c.args.classes.now in
    let at = number_place c.args.versions.now in
    let same : to_z w32 (of_z w32 c.args.class.now.version) ≡ c.args.class.now.version = grind (arith, to_z-of_z) in
    let met = ap (λ (z : ℤ). passing (has_number version_of c.as_slice-name.result.now z) cs (at c.args.first z)) (sym same) ∙ sym c.version_at.ensures in
    let found : passing (has_number version_of c.args.class.now.name c.args.class.now.version) cs (at c.args.first c.args.class.now.version) ≡ c.version_at.result = rw (← c.as_slice-name.ensures) met in
    number_met cs c.args.class.now version_of c.args.first c.requires.first at c.requires.lead c.in-Some.field-0 (found ∙ c.in-Some.is)

pub returns-in_ok-put_number-in-None-clause-stays : goal.returns-in_ok-put_number-in-None-clause-stays
returns-in_ok-put_number-in-None-clause-stays c =
    let cs = c.args.classes.now in
    let at = number_place c.args.versions.now in
    let same : to_z w32 (of_z w32 c.args.class.now.version) ≡ c.args.class.now.version = grind (arith, to_z-of_z) in
    let met = ap (λ (z : ℤ). passing (has_number version_of c.as_slice-name.result.now z) cs (at c.args.first z)) (sym same) ∙ sym c.version_at.ensures in
    let found : passing (has_number version_of c.args.class.now.name c.args.class.now.version) cs (at c.args.first c.args.class.now.version) ≡ c.version_at.result = rw (← c.as_slice-name.ensures) met in
    let at' = number_place c.put_number.new.numbers in
    let new : to_z w64 (of_z w64 c.from.result) ≡ c.args.class.now.version = grind (arith, to_z-of_z) in
    let moved : NumbersMoved cs c.args.class.now version_of c.args.first c.requires.first at at' = λ a z. c.in_ok-put_number-in-None.ensures.ok a z ∙ ap (λ (n : ℤ). if eqb a c.args.first && int_eq z n then Some (length cs) else at a z) new in
    number_stays cs c.args.class.now version_of c.args.first c.requires.first at c.requires.lead at' (found ∙ c.in-None.is) moved

pub returns-in_ok-put_number-in-None-clause-leads : goal.returns-in_ok-put_number-in-None-clause-leads
returns-in_ok-put_number-in-None-clause-leads c =
    let cs = c.args.classes.now in
    let at = number_place c.args.versions.now in
    let same : to_z w32 (of_z w32 c.args.class.now.version) ≡ c.args.class.now.version = grind (arith, to_z-of_z) in
    let met = ap (λ (z : ℤ). passing (has_number version_of c.as_slice-name.result.now z) cs (at c.args.first z)) (sym same) ∙ sym c.version_at.ensures in
    let found : passing (has_number version_of c.args.class.now.name c.args.class.now.version) cs (at c.args.first c.args.class.now.version) ≡ c.version_at.result = rw (← c.as_slice-name.ensures) met in
    let at' = number_place c.put_number.new.numbers in
    let new : to_z w64 (of_z w64 c.from.result) ≡ c.args.class.now.version = grind (arith, to_z-of_z) in
    let moved : NumbersMoved cs c.args.class.now version_of c.args.first c.requires.first at at' = λ a z. c.in_ok-put_number-in-None.ensures.ok a z ∙ ap (λ (n : ℤ). if eqb a c.args.first && int_eq z n then Some (length cs) else at a z) new in
    number_leads cs c.args.class.now version_of c.args.first c.requires.first at c.requires.lead at' (found ∙ c.in-None.is) moved
