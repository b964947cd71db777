use Rattle.std.proofs.Common.{◌≡◌, ◌∙◌, ◌+◌, ◌-◌, ◌<◌, ◌≤◌, List, ℕ, length, vec_len, vec_capacity, ap, subst, sym, arith}
use Rattle.std.proofs.lemmas.List.Sums.{prefix_len-le-length}
use Rattle.std.specs.List.{insert, prefix_len}
use Rattle.rio_num.proofs.Cases.{one_more}
use Rattle.rio_tree_table.specs.Table.{AreOrdered, TableRoom, is_before, with_tree}
use Rattle.rio_tree_table.proofs.TableLaws.{found_room, inserted_is, ordered_with}
use Rattle.rio_tree_table.proofs.table.TreeTable.insert.Goals as goal

pub insert-requires : goal.insert-requires
insert-requires c =
    omega (arith, c.count_before-at.ensures, prefix_len-le-length (is_before c.as_slice.result.now) c.args.self.now.trees, ap length (ap (λ (t : TableRoom). t.trees) c.self.view_is))

pub invariant_of-self : goal.invariant_of-self
invariant_of-self c =
    let t = c.args.tree in
    let same : c.self.inside.trees.items ≡ c.args.self.now.trees = ap (λ (t : TableRoom). t.trees) c.self.view_is in
    let one = ap (λ (t : TableRoom). t.spare) c.self.view_is in
    let room : vec_len c.self.inside.trees < vec_capacity c.self.inside.trees = omega (arith, c.self.invariant.room, one, c.requires.room) in
    let at : c.count_before-at.result ≡ prefix_len (is_before t.name) c.args.self.now.trees = c.count_before-at.ensures ∙ ap (λ (n : List ℕ). prefix_len (is_before n) c.args.self.now.trees) c.as_slice.ensures in
    let is : c.insert.new.self.items ≡ with_tree t c.args.self.now.trees = found_room c.insert.result _ _ _ (c.insert.ensures.succeeds room) c.insert.ensures.items ∙ (λ i. insert (same i) (at i) t) ∙ inserted_is t c.args.self.now.trees in
    let long : vec_len c.insert.new.self ≤ vec_len c.self.inside.trees + 1 = one_more _ _ _ c.insert.ensures.len in
    record { ordered = subst AreOrdered (sym is) (ordered_with t c.args.self.now.trees (subst AreOrdered same c.self.invariant.ordered) c.requires.unique); room = omega (arith, long, c.insert.ensures.capacity, c.self.invariant.room, one, c.requires.room) }

pub returns : goal.returns
returns c =
    let t = c.args.tree in
    let same : c.self.inside.trees.items ≡ c.args.self.now.trees = ap (λ (t : TableRoom). t.trees) c.self.view_is in
    let one = ap (λ (t : TableRoom). t.spare) c.self.view_is in
    let room : vec_len c.self.inside.trees < vec_capacity c.self.inside.trees = omega (arith, c.self.invariant.room, one, c.requires.room) in
    let at : c.count_before-at.result ≡ prefix_len (is_before t.name) c.args.self.now.trees = c.count_before-at.ensures ∙ ap (λ (n : List ℕ). prefix_len (is_before n) c.args.self.now.trees) c.as_slice.ensures in
    let is : c.insert.new.self.items ≡ with_tree t c.args.self.now.trees = found_room c.insert.result _ _ _ (c.insert.ensures.succeeds room) c.insert.ensures.items ∙ (λ i. insert (same i) (at i) t) ∙ inserted_is t c.args.self.now.trees in
    λ i. record { trees = is i; spare = one i - 1 }
