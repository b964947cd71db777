use Rattle.std.proofs.Common.{◌≡◌, ◌⊎◌, ◌-◌, ◌∙◌, ◌++◌, [], ◌∷◌, Bool, List, ℕ, Option, Some, true, length, slice_get, sym, ap, subst}
use Rattle.rio_map.specs.Lacking.{ClassNeeds, HasNoZero, IsWay, Needs}
use Rattle.rio_map.specs.declared.lacking.Need.{Need}
use Rattle.rio_map.proofs.WayLaws.{if_ok_then, on_ok_then, way_ends, way_met, way_round, way_shorter}
use Rattle.rio_map.proofs.lacking.step.Goals as goal

abbrev some_name : List ℕ → Option (List ℕ)
some_name name = Some name

pub returns-in-Class-clause-lacks : goal.returns-in-Class-clause-lacks
returns-in-Class-clause-lacks c =
    let classes = c.args.classes.now in
    let way = c.args.way.now in
    let last : slice_get way (length way - 1) ≡ Some c.as_slice.result.now = sym c.in-Some.ensures ∙ ap some_name (sym c.as_slice.ensures) in
    let needs : Needs classes c.as_slice.result.now c.in-Class.other.now = subst (λ (n : Need). ClassNeeds classes c.as_slice.result.now n) c.in-Class.is c.next_need-part.ensures in
    if_ok_then (λ (end : Option Bool). end ≡ Some true → (k : ℕ) × (slice_get way k ≡ Some c.in-Class.other.now)) (λ (end : Option Bool). end ≡ Some true → (class : List ℕ) → IsWay classes class way → HasNoZero classes class) c.meet.result
    (λ end again e class is. way_round classes class way c.as_slice.result.now c.in-Class.other.now (again e).0 last needs (again e).1 is) c.meet.ensures.again

pub returns-in-Class-clause-goes : goal.returns-in-Class-clause-goes
returns-in-Class-clause-goes c =
    let classes = c.args.classes.now in
    let way = c.args.way.now in
    let last : slice_get way (length way - 1) ≡ Some c.as_slice.result.now = sym c.in-Some.ensures ∙ ap some_name (sym c.as_slice.ensures) in
    let needs : Needs classes c.as_slice.result.now c.in-Class.other.now = subst (λ (n : Need). ClassNeeds classes c.as_slice.result.now n) c.in-Class.is c.next_need-part.ensures in
    on_ok_then ((c.meet.new.way ≡ way) ⊎ (c.meet.new.way ≡ way ++ c.in-Class.other.now ∷ [])) ((class : List ℕ) → IsWay classes class way → IsWay classes class c.meet.new.way) c.meet.result
    (λ goes class is. way_met classes class way c.meet.new.way c.as_slice.result.now c.in-Class.other.now last needs goes is) c.meet.ensures.goes

pub returns-in-Nothing-clause-goes : goal.returns-in-Nothing-clause-goes
returns-in-Nothing-clause-goes c =
    λ class is. subst (λ (w : List (List ℕ)). IsWay c.args.classes.now class w) (sym c.leave.ensures) (way_shorter c.args.classes.now (length c.args.way.now - 1) class c.args.way.now is)

pub returns-in-Impossible-clause-lacks : goal.returns-in-Impossible-clause-lacks
returns-in-Impossible-clause-lacks c =
    let classes = c.args.classes.now in
    let way = c.args.way.now in
    let last : slice_get way (length way - 1) ≡ Some c.as_slice.result.now = sym c.in-Some.ensures ∙ ap some_name (sym c.as_slice.ensures) in
    let none : HasNoZero classes c.as_slice.result.now = subst (λ (n : Need). ClassNeeds classes c.as_slice.result.now n) c.in-Impossible.is c.next_need-part.ensures in
    λ e class is. way_ends classes class way c.as_slice.result.now last none is
