use Rattle.std.proofs.Common.{◌≡◌, ◌∙◌, ◌+◌, ◌-◌, ◌<◌, ◌≤◌, List, [], ◌∷◌, ℕ, length, length-append, vec_len, vec_capacity, ap, subst, sym, arith}
use Rattle.std.proofs.lemmas.List.Sums.{prefix_len-le-length}
use Rattle.std.specs.List.{insert, prefix_len}
use Rattle.rio_num.proofs.Cases.{one_more}
use Rattle.rio_dir.specs.Table.{AreOrdered, TableRoom, is_before, with_head}
use Rattle.rio_dir.proofs.TableLists.{found_room, inserted_is, ordered_with}
use Rattle.rio_dir.proofs.table.KeyTable.insert.Goals as goal

pub insert-requires : goal.insert-requires
insert-requires c =
    omega (arith, c.count_before-at.ensures, prefix_len-le-length (is_before c.as_slice.result.now c.args.head.cycle) c.args.self.now.heads, ap length (ap (λ (t : TableRoom). t.heads) c.self.view_is))

pub invariant_of-self-2 : goal.invariant_of-self-2
invariant_of-self-2 c =
    let h = c.args.head in
    let same : c.self.inside.heads.items ≡ c.args.self.now.heads = ap (λ (t : TableRoom). t.heads) c.self.view_is in
    let one : length c.self.inside.spare.items ≡ length c.pop.new.self.items + 1 = ap length c.in-Some.ensures.items ∙ length-append c.pop.new.self.items (c.in-Some.boxed ∷ []) in
    let room : vec_len c.self.inside.heads < vec_capacity c.self.inside.heads = omega (arith, c.self.invariant.room, one) in
    let at : c.count_before-at.result ≡ prefix_len (is_before h.name h.cycle) c.args.self.now.heads = c.count_before-at.ensures ∙ ap (λ (n : List ℕ). prefix_len (is_before n h.cycle) c.args.self.now.heads) c.as_slice.ensures in
    let is : c.insert.new.self.items ≡ with_head h c.args.self.now.heads = found_room c.insert.result _ _ _ (c.insert.ensures.succeeds room) c.insert.ensures.items ∙ (λ i. insert (same i) (at i) (c.set.ensures i)) ∙ inserted_is h c.args.self.now.heads in
    let long : vec_len c.insert.new.self ≤ vec_len c.self.inside.heads + 1 = one_more _ _ _ c.insert.ensures.len in
    record { ordered = subst AreOrdered (sym is) (ordered_with h c.args.self.now.heads (subst AreOrdered same c.self.invariant.ordered) c.requires.unique); room = omega (arith, long, c.insert.ensures.capacity, c.self.invariant.room, one) }

pub returns : goal.returns
returns c =
    let h = c.args.head in
    let same : c.self.inside.heads.items ≡ c.args.self.now.heads = ap (λ (t : TableRoom). t.heads) c.self.view_is in
    let one : length c.self.inside.spare.items ≡ length c.pop.new.self.items + 1 = ap length c.in-Some.ensures.items ∙ length-append c.pop.new.self.items (c.in-Some.boxed ∷ []) in
    let room : vec_len c.self.inside.heads < vec_capacity c.self.inside.heads = omega (arith, c.self.invariant.room, one) in
    let at : c.count_before-at.result ≡ prefix_len (is_before h.name h.cycle) c.args.self.now.heads = c.count_before-at.ensures ∙ ap (λ (n : List ℕ). prefix_len (is_before n h.cycle) c.args.self.now.heads) c.as_slice.ensures in
    let is : c.insert.new.self.items ≡ with_head h c.args.self.now.heads = found_room c.insert.result _ _ _ (c.insert.ensures.succeeds room) c.insert.ensures.items ∙ (λ i. insert (same i) (at i) (c.set.ensures i)) ∙ inserted_is h c.args.self.now.heads in
    let spare : length c.pop.new.self.items ≡ c.args.self.now.spare - 1 = omega (arith, one, ap (λ (t : TableRoom). t.spare) c.self.view_is) in
    λ i. record { heads = is i; spare = spare i }
