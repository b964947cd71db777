use Rattle.std.proofs.Common.{◌≡◌, List, length, slice_get, subst, sym, ap, ◌∙◌, arith}
use Rattle.std.proofs.lemmas.Option.{same_Some}
use Rattle.rio_fill.specs.Fill.{TreeFill}
use Rattle.rio_fill.proofs.Kept.{all_written}
use Rattle.rio_session.specs.{Fills.{AreNamesOrdered, FilledRoom, FilledTree, changed_tree}, Noted.{CanBeSavedThen, saved_then}}
use Rattle.rio_session.proofs.TreesChanged.{ordered_changed, tree_within}
use Rattle.rio_session.proofs.open_trees.OpenTrees.save.Goals as goal

pub save_at-requires-clause-there : goal.save_at-requires-clause-there
save_at-requires-clause-there c =
    let same = c.as_mut_slice.ensures.value ∙ ap (λ (t : FilledRoom). t.trees) c.self.view_is in
    omega (arith, tree_within c.args.self.now.trees c.args.at c.requires.0 c.requires.1, ap length same)

pub save_at-requires-clause-can : goal.save_at-requires-clause-can
save_at-requires-clause-can c t here =
    let same = c.as_mut_slice.ensures.value ∙ ap (λ (t : FilledRoom). t.trees) c.self.view_is in
    let one = same_Some c.requires.0 t (sym c.requires.1 ∙ ap (λ (l : List FilledTree). slice_get l c.args.at) (sym same) ∙ here) in
    subst (λ (x : FilledTree). CanBeSavedThen c.args.ats.now c.args.flags x.fill) one c.requires.2

pub invariant_of-self : goal.invariant_of-self
invariant_of-self c =
    let inside = c.self.inside in
    let f : TreeFill → TreeFill = saved_then c.args.ats.now c.args.flags in
    let all = all_written inside.trees.len c.as_mut_slice.result.now c.save_at.new.trees inside.trees.items c.as_mut_slice.ensures.value inside.trees.ok.0 c.save_at.auto.trees in
    let same : c.save_at.new.trees ≡ changed_tree c.args.at f inside.trees.items = c.save_at.ensures ∙ ap (λ (ts : List FilledTree). changed_tree c.args.at f ts) c.as_mut_slice.ensures.value in
    record {
      ordered = subst AreNamesOrdered (sym (all ∙ same)) (ordered_changed f inside.trees.items c.args.at c.self.invariant.ordered);
      room = c.self.invariant.room;
    }
