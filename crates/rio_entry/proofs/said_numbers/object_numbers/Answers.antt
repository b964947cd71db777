use Rattle.std.proofs.{Common.{◌≡◌, ◌∙◌, List, [], ◌∷◌, ◌++◌, ap}, lemmas.Result.{err_from_is_err_and}}
use Rattle.std.specs.Prelude.{pos}
use Rattle.rio_format.specs.declared.value.Value.{Value, Int}
use Rattle.rio_entry.proofs.KeptEntries.{one_breaks, one_says}
use Rattle.rio_entry.proofs.said_numbers.object_numbers.Goals as goal

pub returns-in_err-pass_next-clause-exact : goal.returns-in_err-pass_next-clause-exact
returns-in_err-pass_next-clause-exact c = λ counts.
    let p = err_from_is_err_and c.from_residual.result c.from_residual.ensures.1 in
    rw (p.1, p.2) (λ ne. one_breaks c.args.classes.now c.args.class.now counts c.args.reader.now c.in_err-pass_next.field-0.0 (c.in_err-pass_next.ensures.exact ne))

pub returns-clause-exact : goal.returns-clause-exact
returns-clause-exact c = λ counts.
    let all : c.push.new.self ≡ Int (pos 0) ∷ [] = c.in_ok-push.ensures.ok ∙ ap (λ (vs : List Value). vs ++ Int (pos 0) ∷ []) c.new-numbers.ensures in
    rw all (one_says c.args.classes.now c.args.class.now counts c.args.reader.now c.pass_next.new.reader c.in_ok-pass_next.ensures.exact)
