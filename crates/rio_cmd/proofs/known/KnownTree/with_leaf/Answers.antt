use Rattle.std.proofs.Common.{◌≡◌, ℕ, List, Bool, ◌||◌, ◌&&◌, ◌==◌, sym, ap, ◌∙◌}
use Rattle.std.specs.{List.{list_any}, Str.{bytes_eq}}
use Rattle.rio_num.specs.Word.{is_among}
use Rattle.rio_leaf.specs.{Leaves.{is_one}, Marks.{letter_of_counters}}
use Rattle.rio_decl.proofs.KnownLaws.{false_and, true_and}
use Rattle.rio_cmd.proofs.{KnownTrees.{leaf_known}, known.KnownTree.with_leaf.Goals.{then-may_count+in_ok-note, else-may_count}}
use Rattle.rio_cmd.proofs.known.KnownTree.with_leaf.Goals as goal

pub invariant_of-result : goal.invariant_of-result
invariant_of-result c =
    let inside = c.self.inside in
    let name = c.args.leaf.name.now in
    let counts : Bool = (c.args.leaf.letter == letter_of_counters) && is_one c.args.leaf.dim in
    let named = sym c.in_ok-from_slice.ensures in
    let counted : (other : List ℕ) → is_among c.if-may_count.counters other ≡ (bytes_eq name other && counts || is_among inside.counters other) =
    λ other. elim c.if-may_count.branch [
      | then-may_count+in_ok-note w ↦
          ap (list_any (bytes_eq other)) w.counters-is
          ∙ w.in_ok-note.ensures other
          ∙ ap (λ (b : Bool). b || is_among inside.counters other) (true_and (bytes_eq name other) counts (sym c.may_count.ensures ∙ w.if-may_count.true))
      | else-may_count w ↦
          ap (list_any (bytes_eq other)) w.counters-is
          ∙ ap (λ (b : Bool). b || is_among inside.counters other) (false_and (bytes_eq name other) counts (sym c.may_count.ensures ∙ w.if-may_count.false))
    ] in
    leaf_known inside.branches inside.own inside.branch_names inside.leaf_names inside.counters c.self.invariant _ _ _ _ c.in_ok-push.ensures.ok
    (λ other. c.in_ok-note-2.ensures other ∙ ap (λ (n : List ℕ). bytes_eq n other || is_among inside.leaf_names other) named)
    (λ other. counted other ∙ ap (λ (n : List ℕ). bytes_eq n other && counts || is_among inside.counters other) named)
