use Rattle.std.proofs.Common.{◌≡◌, ◌∙◌, ◌+◌, ◌-◌, ◌<◌, ◌≤◌, length, vec_len, vec_capacity, ap, subst, sym, arith}
use Rattle.std.proofs.lemmas.List.Sums.{prefix_len-le-length}
use Rattle.std.specs.List.{insert, prefix_len}
use Rattle.rio_num.proofs.Cases.{one_more}
use Rattle.rio_session.specs.{Fills.{AreNamesOrdered, FilledRoom, with_filled}, Noted.{is_before_name}}
use Rattle.rio_session.proofs.FilledTable.{found_room, inserted_is, ordered_with}
use Rattle.rio_session.proofs.open_trees.OpenTrees.insert.Goals as goal

pub insert-requires : goal.insert-requires
insert-requires c =
    omega (arith, c.count_before_tree-at.ensures, prefix_len-le-length (is_before_name c.args.tree.name) c.args.self.now.trees, ap length (ap (λ (t : FilledRoom). t.trees) c.self.view_is))

pub invariant_of-self : goal.invariant_of-self
invariant_of-self c =
    let t = c.args.tree in
    let same : c.self.inside.trees.items ≡ c.args.self.now.trees = ap (λ (t : FilledRoom). t.trees) c.self.view_is in
    let one = ap (λ (t : FilledRoom). t.spare) c.self.view_is in
    let room : vec_len c.self.inside.trees < vec_capacity c.self.inside.trees = omega (arith, c.self.invariant.room, one, c.requires.room) in
    let at : c.count_before_tree-at.result ≡ prefix_len (is_before_name t.name) c.args.self.now.trees = c.count_before_tree-at.ensures in
    let is : c.insert.new.self.items ≡ with_filled t c.args.self.now.trees = found_room c.insert.result _ _ _ (c.insert.ensures.succeeds room) c.insert.ensures.items ∙ (λ i. insert (same i) (at i) t) ∙ inserted_is t c.args.self.now.trees in
    let long : vec_len c.insert.new.self ≤ vec_len c.self.inside.trees + 1 = one_more _ _ _ c.insert.ensures.len in
    record { ordered = subst AreNamesOrdered (sym is) (ordered_with t c.args.self.now.trees (subst AreNamesOrdered same c.self.invariant.ordered) c.requires.unique); room = omega (arith, long, c.insert.ensures.capacity, c.self.invariant.room, one, c.requires.room) }

pub returns : goal.returns
returns c =
    let t = c.args.tree in
    let same : c.self.inside.trees.items ≡ c.args.self.now.trees = ap (λ (t : FilledRoom). t.trees) c.self.view_is in
    let one = ap (λ (t : FilledRoom). t.spare) c.self.view_is in
    let room : vec_len c.self.inside.trees < vec_capacity c.self.inside.trees = omega (arith, c.self.invariant.room, one, c.requires.room) in
    let at : c.count_before_tree-at.result ≡ prefix_len (is_before_name t.name) c.args.self.now.trees = c.count_before_tree-at.ensures in
    let is : c.insert.new.self.items ≡ with_filled t c.args.self.now.trees = found_room c.insert.result _ _ _ (c.insert.ensures.succeeds room) c.insert.ensures.items ∙ (λ i. insert (same i) (at i) t) ∙ inserted_is t c.args.self.now.trees in
    λ i. record { trees = is i; spare = one i - 1 }
