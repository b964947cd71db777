use Rattle.std.proofs.Common.{◌≡◌, ℕ, List, Bool, ◌||◌, ◌&&◌, sym, ap, ◌∙◌}
use Rattle.std.specs.{List.{list_any}, Str.{bytes_eq}}
use Rattle.rio_num.specs.Word.{is_among}
use Rattle.rio_format.specs.declared.class.Member.{Member}
use Rattle.rio_model.specs.ClassGrammar.{is_i32}
use Rattle.rio_decl.proofs.{KnownLaws.{false_and, true_and, with_last}, known.KnownMembers.with.Goals.{then-may_count+in_ok-note, else-may_count}}
use Rattle.rio_decl.proofs.known.KnownMembers.with.Goals as goal

pub invariant_of-result : goal.invariant_of-result
invariant_of-result c =
    let inside = c.self.inside in
    let name = c.args.next.name.now in
    let kind = c.args.next.kind in
    let named = sym c.in_ok-from_slice.ensures in
    let noted : (other : List ℕ) → is_among c.if-may_count.integers other ≡ (bytes_eq name other && is_i32 kind || is_among inside.integers other) =
    λ other. elim c.if-may_count.branch [
      | then-may_count+in_ok-note w ↦
          ap (list_any (bytes_eq other)) w.integers-is
          ∙ w.in_ok-note.ensures other
          ∙ ap (λ (b : Bool). b || is_among inside.integers other) (true_and (bytes_eq name other) (is_i32 kind) (sym c.may_count.ensures ∙ w.if-may_count.true))
      | else-may_count w ↦
          ap (list_any (bytes_eq other)) w.integers-is
          ∙ ap (λ (b : Bool). b || is_among inside.integers other) (false_and (bytes_eq name other) (is_i32 kind) (sym c.may_count.ensures ∙ w.if-may_count.false))
    ] in record {
      all = λ other. with_last (λ (m : Member). bytes_eq m.name other) inside.members _ _ _ _ c.in_ok-push.ensures.ok (c.in_ok-note-2.ensures other ∙ ap (λ (n : List ℕ). bytes_eq n other || is_among inside.all other) named) (c.self.invariant.all other);
      may_count = λ other. with_last (λ (m : Member). bytes_eq m.name other && is_i32 m.kind) inside.members _ _ _ _ c.in_ok-push.ensures.ok (noted other ∙ ap (λ (n : List ℕ). bytes_eq n other && is_i32 kind || is_among inside.integers other) named) (c.self.invariant.may_count other);
    }
