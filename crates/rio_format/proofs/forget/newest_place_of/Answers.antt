use Rattle.std.proofs.{Common.{◌≡◌, ◌<◌, ℕ, List, get_or, Option, Some, None, length, refl, subst, sym, arith}, lemmas.Option.{slice_get_read}}
use Rattle.std.specs.List.{slice_get}
use Rattle.rio_format.specs.declared.class.ClassDef.{ClassDef}
use Rattle.rio_format.proofs.{ChainLaws.{IsWalked, end_of, walk_begins, walk_ends_sooner, walk_steps, walked_all}, ForgetLaws.{none_newest}}
use Rattle.rio_format.proofs.forget.newest_place_of.Goals as goal

here : (cs : List ClassDef) (name : List ℕ) (k : ℕ) (best : Option ℕ) (x : ClassDef) → IsWalked cs name (Some k) best → x ≡ get_or cs k x → slice_get cs k ≡ Some x
here cs name k best x walked is = slice_get_read cs (length cs) k x refl (omega (arith, walked.within)) is

pub loop-at-init : goal.loop-at-init
loop-at-init c =
    walk_begins c.args.classes.now c.args.class.now.name c.args.chain.now.last.items c.args.first c.last-at.result c.requires.chain.last_leads c.requires.first c.last-at.ensures

pub newer_place-requires : goal.newer_place-requires
newer_place-requires c =
    let cs = c.args.classes.now in
    let name = c.args.class.now.name in
    let walked = subst (λ (o : Option ℕ). IsWalked cs name o c.loop-at.best) c.in-Some.is c.loop-at.invariant in
    here cs name c.in-Some.k c.loop-at.best c.index-classes-k.result walked c.index-classes-k.is

pub loop-at-smaller : goal.loop-at-smaller
loop-at-smaller c =
    let cs = c.args.classes.now in
    let name = c.args.class.now.name in
    let k = c.in-Some.k in
    let x = c.index-classes-k.result in
    let walked = subst (λ (o : Option ℕ). IsWalked cs name o c.loop-at.best) c.in-Some.is c.loop-at.invariant in
    subst (λ (o : Option ℕ). end_of c.before-at.result < end_of o) (sym c.in-Some.is)
    (walk_ends_sooner cs name c.args.chain.now.before.items k x c.loop-at.best c.before-at.result c.requires.chain.before_leads walked (here cs name k c.loop-at.best x walked c.index-classes-k.is) c.before-at.ensures)

pub loop-at-preserved : goal.loop-at-preserved
loop-at-preserved c =
    let cs = c.args.classes.now in
    let name = c.args.class.now.name in
    let k = c.in-Some.k in
    let x = c.index-classes-k.result in
    let walked = subst (λ (o : Option ℕ). IsWalked cs name o c.loop-at.best) c.in-Some.is c.loop-at.invariant in
    walk_steps cs name c.args.chain.now.before.items k c.newer_place.result x c.loop-at.best c.before-at.result c.requires.chain.before_leads walked (here cs name k c.loop-at.best x walked c.index-classes-k.is) c.before-at.ensures c.newer_place.ensures

pub returns-in-None : goal.returns-in-None
returns-in-None c =
    let cs = c.args.classes.now in
    let name = c.args.class.now.name in
    let walked = subst (λ (o : Option ℕ). IsWalked cs name None o) c.in-None.is (subst (λ (o : Option ℕ). IsWalked cs name o c.loop-at.best) c.in_default.is c.loop-at.invariant) in
    absurd (none_newest cs name c.args.first c.requires.first (walked_all cs name None walked))
