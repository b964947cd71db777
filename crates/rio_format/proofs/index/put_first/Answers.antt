use Rattle.std.proofs.Common.{ℕ, List, sym, ap, ◌∙◌}
use Rattle.rio_format.specs.{Index.{name_place, passing}, Places.{is_named}}
use Rattle.rio_format.proofs.PutLaws.{met_leads, met_place, new_leads, new_place, new_stays}
use Rattle.rio_format.proofs.index.put_first.Goals as goal

pub returns-in-Some-clause-leads : goal.returns-in-Some-clause-leads
returns-in-Some-clause-leads c =
    let at = name_place c.args.names.now in
    let found = ap (λ (name : List ℕ). passing (is_named name) c.args.classes.now (at name)) (sym c.as_slice-name.ensures) ∙ sym c.first_at.ensures ∙ c.in-Some.is in
    met_leads c.args.classes.now c.args.class.now at c.requires c.in-Some.first found

pub returns-in-Some-clause-first : goal.returns-in-Some-clause-first
returns-in-Some-clause-first c =
    let at = name_place c.args.names.now in
    let found = ap (λ (name : List ℕ). passing (is_named name) c.args.classes.now (at name)) (sym c.as_slice-name.ensures) ∙ sym c.first_at.ensures ∙ c.in-Some.is in
    met_place c.args.classes.now c.args.class.now at c.requires c.in-Some.first found

pub returns-in_ok-put_name-in-None-clause-stays : goal.returns-in_ok-put_name-in-None-clause-stays
returns-in_ok-put_name-in-None-clause-stays c =
    let at = name_place c.args.names.now in
    let none = ap (λ (name : List ℕ). passing (is_named name) c.args.classes.now (at name)) (sym c.as_slice-name.ensures) ∙ sym c.first_at.ensures ∙ c.in-None.is in
    new_stays c.args.classes.now c.args.class.now at c.requires (name_place c.put_name.new.names) none (rw c.as_slice-name.ensures at c.in_ok-put_name-in-None.ensures.ok)

pub returns-in_ok-put_name-in-None-clause-leads : goal.returns-in_ok-put_name-in-None-clause-leads
returns-in_ok-put_name-in-None-clause-leads c =
    let at = name_place c.args.names.now in
    let none = ap (λ (name : List ℕ). passing (is_named name) c.args.classes.now (at name)) (sym c.as_slice-name.ensures) ∙ sym c.first_at.ensures ∙ c.in-None.is in
    new_leads c.args.classes.now c.args.class.now at c.requires (name_place c.put_name.new.names) none (rw c.as_slice-name.ensures at c.in_ok-put_name-in-None.ensures.ok)

pub returns-in_ok-put_name-in-None-clause-first : goal.returns-in_ok-put_name-in-None-clause-first
returns-in_ok-put_name-in-None-clause-first c =
    let at = name_place c.args.names.now in
    let none = ap (λ (name : List ℕ). passing (is_named name) c.args.classes.now (at name)) (sym c.as_slice-name.ensures) ∙ sym c.first_at.ensures ∙ c.in-None.is in
    new_place c.args.classes.now c.args.class.now at c.requires none
