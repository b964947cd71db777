use Rattle.std.proofs.Common.{ℕ, List, Err, refl, sym, ap, ◌∙◌}
use Rattle.rio_fill.specs.declared.prepared.Parts.{Parts}
use Rattle.rio_fill.proofs.Walk.{part_bad, part_kept, part_long}
use Rattle.rio_fill.proofs.prepared.put_part.Goals as goal

pub returns-in-Err-BadRow : goal.returns-in-Err-BadRow
returns-in-Err-BadRow c = λ leaves before says have stated lacks.
    let is = c.in-Err-BadRow.field-0-is in
    let bad = c.in-Err-BadRow.ensures leaves before says have stated (λ q. lacks (sym is ∙ q)) ∙ ap Err is in
    (part_bad c.args.classes.now c.args.branch.now.shape c.args.values.now before bad, refl)

pub returns-in_ok-push-in-Ok : goal.returns-in_ok-push-in-Ok
returns-in_ok-push-in-Ok c = λ leaves before says have stated.
    let parts = c.args.parts.now in
    let kept = part_kept c.args.classes.now c.args.branch.now.shape c.args.values.now before c.in-Ok.entry.bytes (c.in-Ok.ensures leaves before says have stated) in
    (kept.0, ap (λ (es : List (List ℕ)). let p : Parts = record { entries = es; long = parts.long } in p) c.in_ok-push-in-Ok.ensures.ok ∙ kept.1 parts)

pub returns-in-Err-TooLarge : goal.returns-in-Err-TooLarge
returns-in-Err-TooLarge c = λ leaves before says have stated.
    let is = c.in-Err-TooLarge.field-0-is in
    let long = c.in-Err-TooLarge.ensures leaves before says have stated (λ q. let no = sym is ∙ q in cc) ∙ ap Err is in
    let made = part_long c.args.classes.now c.args.branch.now.shape c.args.values.now before long in
    (made.0, made.1 c.args.parts.now)
