use Rattle.std.proofs.Common.{rules, ◌≡◌, ◌≢◌, ◌<◌, ◌∙◌, get_or, length, sym, arith, Some, None}
use Rattle.csv.specs.Records.{field_at, fields_of}
use Rattle.rio_csv.specs.Fields.{value_in_field}
use Rattle.rio_csv.proofs.ValueLaws.{at_field, some_field, unequal}
use Rattle.rio_csv.proofs.RecordLaws.{are_records}
use Rattle.rio_csv.proofs.read.values_in.Goals as goal

pub returns-then-len-letters : goal.returns-then-len-letters
returns-then-len-letters c = sym (unequal c.args.letters.now _ (λ e. c.if-len-letters.true (c.len.ensures ∙ e)))

pub returns-in_default : goal.returns-in_default
returns-in_default c =
    let none : field_at (fields_of c.args.line.now) c.loop-i.i ≡ None = search rules in
    absurd (some_field (fields_of c.args.line.now) c.loop-i.i (omega (arith, c.loop-i.invariant.1, c.loop-i-test.true)) none)

pub returns-in-None : goal.returns-in-None
returns-in-None c =
    let letters = c.args.letters.now in
    let is : field_at (fields_of c.args.line.now) c.loop-i.i ≡ Some c.in-Some.field.now = search rules in
    let found : value_in_field (get_or letters c.loop-i.i 0) c.in-Some.field.now ≡ None = search rules in
    let step = at_field letters (fields_of c.args.line.now) c.loop-i.i c.in-Some.field.now c.loop-i.values (omega (arith, c.loop-i-test.true)) is in
    sym (rw found at step) ∙ c.loop-i.invariant.0

pub loop-i-preserved : goal.loop-i-preserved
loop-i-preserved c =
    let letters = c.args.letters.now in
    let is : field_at (fields_of c.args.line.now) c.loop-i.i ≡ Some c.in-Some.field.now = search rules in
    let found : value_in_field (get_or letters c.loop-i.i 0) c.in-Some.field.now ≡ Some c.in-Some-2.value = search rules in
    let step = at_field letters (fields_of c.args.line.now) c.loop-i.i c.in-Some.field.now c.loop-i.values (omega (arith, c.loop-i-test.true)) is in
    (rw c.in_ok-push-in-Some-2.ensures.ok (sym (rw found at step) ∙ c.loop-i.invariant.0), c.loop-i.invariant.1)
