use Rattle.std.proofs.{Common.{◌≡◌, ◌<◌, ℕ, List, get_or, Option, Some, length, refl, subst, sym, arith}, lemmas.Option.{slice_get_read}}
use Rattle.std.specs.List.{slice_get}
use Rattle.rio_format.specs.declared.class.ClassDef.{ClassDef}
use Rattle.rio_format.proofs.ChainLaws.{end_of}
use Rattle.rio_registry.proofs.HeldWalk.{IsAdded, add_begins, add_ends, add_falls, add_steps}
use Rattle.rio_registry.proofs.reach.add_held.Goals as goal

here : (cs : List ClassDef) (outer : List ℕ) (old names : List (List ℕ)) (k : ℕ) (x : ClassDef) → IsAdded cs outer old names (Some k) → x ≡ get_or cs k x → slice_get cs k ≡ Some x
here cs outer old names k x added is = slice_get_read cs (length cs) k x refl (omega (arith, added.within)) is

pub loop-at-init : goal.loop-at-init
loop-at-init c = add_begins c.args.classes.now c.args.outer.now c.args.names.now c.last_named-at.result c.last_named-at.ensures

pub loop-at-smaller : goal.loop-at-smaller
loop-at-smaller c =
    let cs = c.args.classes.now in
    let outer = c.args.outer.now in
    let old = c.args.names.now in
    let k = c.in-Some.k in
    let x = c.index-slice-k.result in
    let added = subst (λ (o : Option ℕ). IsAdded cs outer old c.loop-at.names o) c.in-Some.is c.loop-at.invariant in
    let at = here cs outer old c.loop-at.names k x added (rw c.as_slice-slice.ensures at c.index-slice-k.is) in
    subst (λ (o : Option ℕ). end_of c.same_name_before-at.result < end_of o) (sym c.in-Some.is)
    (add_falls cs outer old c.loop-at.names k x c.same_name_before-at.result added at (c.same_name_before-at.ensures x at))

pub loop-at-preserved : goal.loop-at-preserved
loop-at-preserved c =
    let cs = c.args.classes.now in
    let outer = c.args.outer.now in
    let old = c.args.names.now in
    let k = c.in-Some.k in
    let x = c.index-slice-k.result in
    let added = subst (λ (o : Option ℕ). IsAdded cs outer old c.loop-at.names o) c.in-Some.is c.loop-at.invariant in
    let at = here cs outer old c.loop-at.names k x added (rw c.as_slice-slice.ensures at c.index-slice-k.is) in
    add_steps cs outer old c.loop-at.names k x c.same_name_before-at.result added at (c.same_name_before-at.ensures x at) c.add_within.new.names c.in_ok-add_within.ensures

pub returns : goal.returns
returns c =
    let added = subst (λ (o : Option ℕ). IsAdded c.args.classes.now c.args.outer.now c.args.names.now c.loop-at.names o) c.in_default.is c.loop-at.invariant in
    add_ends c.args.classes.now c.args.outer.now c.args.names.now c.loop-at.names added
