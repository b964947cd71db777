use Rattle.std.proofs.{Common.{◌≡◌, ◌∙◌, true, false, sym}, lemmas.Int.{to_z-of_z}}
use Rattle.rio_format.specs.{Bases.{visit_bases}, Lists.{listed}, Visits.{base_of}}
use Rattle.rio_describe.specs.Heirs.{has_reaching}
use Rattle.rio_describe.proofs.HeirLaws.{judged_heir, judged_no_heir}
use Rattle.rio_describe.proofs.judged.judge.Goals as goal

pub returns-in_ok-put : goal.returns-in_ok-put
returns-in_ok-put c =
    let b = base_of c.args.class.now c.args.version in
    let reaches : has_reaching c.args.heirs.now (visit_bases (listed c.args.lists.now) b) ≡ true = simp (to_z-of_z, c.ranges.version) at (sym c.reaches_by_bases.ensures ∙ c.if-reaches_by_bases.true) in
    rw (c.in_ok-put.ensures) (simp (to_z-of_z, c.ranges.version) (judged_heir (listed c.args.lists.now) c.args.heirs.now b reaches))

pub returns-else-reaches_by_bases : goal.returns-else-reaches_by_bases
returns-else-reaches_by_bases c =
    let b = base_of c.args.class.now c.args.version in
    let not_by : has_reaching c.args.heirs.now (visit_bases (listed c.args.lists.now) b) ≡ false = simp (to_z-of_z, c.ranges.version) at (sym c.reaches_by_bases.ensures ∙ c.if-reaches_by_bases.false) in
    judged_no_heir (listed c.args.lists.now) c.args.heirs.now b not_by
