use Rattle.std.proofs.{Common.{◌≡◌, ℤ, pos, ◌&&◌, eqb, if◌then◌else◌, length, Some, sym, ap, ◌∙◌, w64, to_z, of_z, arith}, lemmas.Int.{to_z-of_z}}
use Rattle.std.specs.Ordering.{int_eq}
use Rattle.rio_format.specs.Index.{has_number, number_place, passing, sum_of}
use Rattle.rio_format.proofs.PutLaws.{number_leads, number_met, number_stays, NumbersMoved}
use Rattle.rio_format.proofs.index.put_sum.Goals as goal

pub returns-in-Some-clause-leads : goal.returns-in-Some-clause-leads
returns-in-Some-clause-leads c =
    let cs = c.args.classes.now in
    let at = number_place c.args.sums.now in
    let found : passing (has_number sum_of c.args.class.now.name (pos c.args.class.now.sum)) cs (at c.args.first (pos c.args.class.now.sum)) ≡ c.sum_at.result = rw (← c.as_slice-name.ensures) (sym c.sum_at.ensures) in
    number_met cs c.args.class.now sum_of c.args.first c.requires.first at c.requires.lead c.in-Some.field-0 (found ∙ c.in-Some.is)

pub returns-in_ok-put_number-in-None-clause-stays : goal.returns-in_ok-put_number-in-None-clause-stays
returns-in_ok-put_number-in-None-clause-stays c =
    let cs = c.args.classes.now in
    let at = number_place c.args.sums.now in
    let found : passing (has_number sum_of c.args.class.now.name (pos c.args.class.now.sum)) cs (at c.args.first (pos c.args.class.now.sum)) ≡ c.sum_at.result = rw (← c.as_slice-name.ensures) (sym c.sum_at.ensures) in
    let at' = number_place c.put_number.new.numbers in
    let new : to_z w64 (of_z w64 c.from.result) ≡ (pos c.args.class.now.sum) = grind (arith, to_z-of_z) in
    let moved : NumbersMoved cs c.args.class.now sum_of c.args.first c.requires.first at at' = λ a z. c.in_ok-put_number-in-None.ensures.ok a z ∙ ap (λ (n : ℤ). if eqb a c.args.first && int_eq z n then Some (length cs) else at a z) new in
    number_stays cs c.args.class.now sum_of c.args.first c.requires.first at c.requires.lead at' (found ∙ c.in-None.is) moved

pub returns-in_ok-put_number-in-None-clause-leads : goal.returns-in_ok-put_number-in-None-clause-leads
returns-in_ok-put_number-in-None-clause-leads c =
    let cs = c.args.classes.now in
    let at = number_place c.args.sums.now in
    let found : passing (has_number sum_of c.args.class.now.name (pos c.args.class.now.sum)) cs (at c.args.first (pos c.args.class.now.sum)) ≡ c.sum_at.result = rw (← c.as_slice-name.ensures) (sym c.sum_at.ensures) in
    let at' = number_place c.put_number.new.numbers in
    let new : to_z w64 (of_z w64 c.from.result) ≡ (pos c.args.class.now.sum) = grind (arith, to_z-of_z) in
    let moved : NumbersMoved cs c.args.class.now sum_of c.args.first c.requires.first at at' = λ a z. c.in_ok-put_number-in-None.ensures.ok a z ∙ ap (λ (n : ℤ). if eqb a c.args.first && int_eq z n then Some (length cs) else at a z) new in
    number_leads cs c.args.class.now sum_of c.args.first c.requires.first at c.requires.lead at' (found ∙ c.in-None.is) moved
