use Rattle.std.proofs.Common.{[], ◌∷◌, length, ap, arith}
use Rattle.rio_format.specs.Written.{written_form}
use Rattle.rio_machine.specs.{Limits.{head_length}, declared.refusal.Refusal.TheVariants.{TooLarge}}
use Rattle.rio_step.specs.Refusing.{first_of, refused_if}
use Rattle.rio_judge.proofs.LengthLaws.{short_told, too_long_told, whole_size}
use Rattle.rio_judge.proofs.put.short_length.Goals as goal

pub zeros_behind-requires : goal.zeros_behind-requires
zeros_behind-requires c = omega (arith, c.in_ok-length.ensures 0)

pub overflow_add-length : goal.overflow_add-length
overflow_add-length c = omega (arith, c.in_ok-length.ensures 0, c.zeros_behind.ensures)

pub returns-then-length-zeros_behind-gt-LENGTH_LIMIT-clause-told : goal.returns-then-length-zeros_behind-gt-LENGTH_LIMIT-clause-told
returns-then-length-zeros_behind-gt-LENGTH_LIMIT-clause-told c =
    let size = length (written_form c.args.classes.now 0 c.args.value.now) in
    let head = head_length c.args.class.now c.args.name.now in
    let told = too_long_told size head _ _ (c.in_ok-length.ensures 0) c.zeros_behind.ensures c.if-length-zeros_behind-gt-LENGTH_LIMIT.true in
    ap (λ b. first_of (refused_if b TooLarge ∷ [])) told

pub returns-clause-length : goal.returns-clause-length
returns-clause-length c start =
    let size = length (written_form c.args.classes.now start c.args.value.now) in
    let head = head_length c.args.class.now c.args.name.now in
    whole_size size head _ _ (c.in_ok-length.ensures start) c.zeros_behind.ensures c.if-length-zeros_behind-gt-LENGTH_LIMIT.false

pub returns-clause-told : goal.returns-clause-told
returns-clause-told c =
    let size = length (written_form c.args.classes.now 0 c.args.value.now) in
    let head = head_length c.args.class.now c.args.name.now in
    let told = short_told size head _ _ (c.in_ok-length.ensures 0) c.zeros_behind.ensures c.if-length-zeros_behind-gt-LENGTH_LIMIT.false in
    ap (λ b. first_of (refused_if b TooLarge ∷ [])) told
