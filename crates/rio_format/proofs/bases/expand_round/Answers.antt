use Rattle.std.proofs.{Common.{arith, of_z, refl, to_z, w32, ap, ◌∙◌, Option, Some}, lemmas.Int.{to_z-of_z}}
use Rattle.rio_format.specs.{declared.class.Base.{Base}, Lists.{listed}, Visits.{base_of}}
use Rattle.rio_format.proofs.BaseLaws.{expanded_then, found_in_round, its_body}
use Rattle.rio_format.proofs.bases.expand_round.Goals as goal

pub returns-then-branch-clause-found : goal.returns-then-branch-clause-found
returns-then-branch-clause-found c =
    let classes = listed c.args.classes.now in
    let target = c.args.target.now in
    let visits = c.loop-k.visits in
    let k = c.loop-k.k in
    let v : Base = base_of c.visit.inside.name.now c.visit.inside.version in
    let got = ap (λ (b : Base). let o : Option Base = Some b in o) c.visit.view_is ∙ c.get-visit.ensures in
    let bodied = its_body classes target v v.name (to_z w32 (of_z w32 v.version)) _ c.headed_body-body.ensures refl (grind (arith, to_z-of_z)) in
    λ same. found_in_round classes target c.args.visits.now visits k v _ c.loop-k.invariant (omega arith) got bodied (c.in_ok-push_body.ensures.found c.if-branch.true)

pub loop-k-preserved : goal.loop-k-preserved
loop-k-preserved c =
    let classes = listed c.args.classes.now in
    let target = c.args.target.now in
    let visits = c.loop-k.visits in
    let k = c.loop-k.k in
    let v : Base = base_of c.visit.inside.name.now c.visit.inside.version in
    let got = ap (λ (b : Base). let o : Option Base = Some b in o) c.visit.view_is ∙ c.get-visit.ensures in
    let bodied = its_body classes target v v.name (to_z w32 (of_z w32 v.version)) _ c.headed_body-body.ensures refl (grind (arith, to_z-of_z)) in
    expanded_then classes target c.args.visits.now visits c.push_body.new.visits k v _ c.loop-k.invariant (omega arith) got bodied (c.in_ok-push_body.ensures.pushed c.if-branch.false)
