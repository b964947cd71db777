use Rattle.std.proofs.{Common.{◌≡◌, ◌∙◌, Bool, List, ℕ, Some, None, refl, sym, ap, subst}, lemmas.Result.{err_from_is_err_and}}
use Rattle.rio_state.specs.Trees.{basket_places}
use Rattle.rio_recover.specs.Baskets.{AreNoted, NotesPlaces}
use Rattle.rio_recover.proofs.{Judging.{obtains_judged}, TreeRead.{stands}, TreeTold.{among_records, tree_double, tree_noted, tree_refused}}
use Rattle.rio_recover.proofs.tree.check_tree.Goals as goal

pub returns-in_err-tree-clause-told : goal.returns-in_err-tree-clause-told
returns-in_err-tree-clause-told g c file beside before r told is next same counts named =
    let p = err_from_is_err_and c.from_residual.result c.from_residual.ensures.1 in
    let keys = c.args.keys.now in
    rw (p.1, p.2) (obtains_judged c.in_err-tree.field-0.0 _ _ _ (c.in_err-tree.ensures.told file beside r told is (among_records file keys.classes.now keys.heads.now beside r is next.top) same))

pub returns-in_default-clause-told : goal.returns-in_default-clause-told
returns-in_default-clause-told g c file beside before r told is next same counts named =
    let keys = c.args.keys.now in
    let whole = rw c.in_default.is at (c.in_ok-tree.ensures.told file beside r told is (among_records file keys.classes.now keys.heads.now beside r is next.top) same) in
    rw c.bad_tree.ensures (tree_refused beside before r c.args.head.now same counts None whole refl)

pub returns-then-branch-clause-told : goal.returns-then-branch-clause-told
returns-then-branch-clause-told g c file beside before r told is next same counts named =
    let keys = c.args.keys.now in
    let whole = rw c.in-Some.is at (c.in_ok-tree.ensures.told file beside r told is (among_records file keys.classes.now keys.heads.now beside r is next.top) same) in
    let among = among_records file keys.classes.now keys.heads.now beside r is next.top in
    let plain = c.in_ok-tree.ensures.plain file r told (stands file keys.classes.now keys.heads.now beside is r among) same in
    tree_noted beside before r c.args.head.now same counts c.in-Some.tree c.args.named.now c.note_head.new.self c.in_ok-note_head.field-0 whole next named c.in_ok-note_head.ensures c.if-branch.true plain

pub returns-then-branch-clause-noted : goal.returns-then-branch-clause-noted
returns-then-branch-clause-noted g c =
    let noted = subst (NotesPlaces (basket_places c.in-Some.tree) c.args.named.now c.note_head.new.self) c.if-branch.true c.in_ok-note_head.ensures in
    record { baskets = rw c.in-Some.is at c.in_ok-tree.ensures.baskets; whole = rw c.in-Some.is at c.in_ok-tree.ensures.whole; noted = noted }

pub returns-else-branch-clause-told : goal.returns-else-branch-clause-told
returns-else-branch-clause-told g c file beside before r told is next same counts named =
    let keys = c.args.keys.now in
    let whole = rw c.in-Some.is at (c.in_ok-tree.ensures.told file beside r told is (among_records file keys.classes.now keys.heads.now beside r is next.top) same) in
    rw c.bad_tree-else-branch.ensures
    (tree_double beside before r c.args.head.now same counts c.in-Some.tree c.args.named.now c.note_head.new.self c.in_ok-note_head.field-0 whole next named c.in_ok-note_head.ensures c.if-branch.false)
