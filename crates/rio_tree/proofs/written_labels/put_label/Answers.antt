use Rattle.std.proofs.{Common.{ℕ, Bool, cond, Option, Some, ap, ◌∙◌, nat_cmp}, lemmas.Map.Text.{is_eq-slice_cmp}}
use Rattle.std.specs.{Map.{lookup}, Ordering.{is_eq}, Cmp.Lexicographic.{slice_cmp}, Str.{bytes_eq}}
use Rattle.rio_format.proofs.MapLaws.{bytes-insert}
use Rattle.rio_format.specs.Index.{name_place}
use Rattle.rio_tree.proofs.written_labels.put_label.Goals as goal

pub returns-clause-ok : goal.returns-clause-ok
returns-clause-ok c = λ q.
    let old : Option ℕ = name_place c.args.labels.now q in
    let key = c.in_ok-from_slice.field-0 in
    ap (lookup (λ k. is_eq (slice_cmp nat_cmp q k.items))) c.in_ok-insert.ensures.entries
    ∙ bytes-insert (λ k. k.items) c.args.labels.now.entries key c.args.label q
    ∙ ap (λ (b : Bool). cond b (Some c.args.label) old)
    (is_eq-slice_cmp q key.items ∙ ap (bytes_eq q) c.in_ok-from_slice.ensures.items)
