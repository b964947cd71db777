use Rattle.std.proofs.{Common.{◌≡◌, ℕ, List, [], ◌∷◌, true, Result, Ok, ◌∙◌, sym, ap, arith, refl}, lemmas.Result.{err_from_is_err_and}}
use Rattle.rio_num.specs.Room.{Room}
use Rattle.rio_leaf.specs.declared.branch.Shape.TheVariants.{Class}
use Rattle.rio_format.specs.{Fits.{fits}, Written.{written_form}}
use Rattle.rio_entry.proofs.{Answered.{too_long, written}, ClassBytes.{object_bytes, object_fits}}
use Rattle.rio_machine.specs.declared.entry_fault.EntryFault.{EntryFault}
use Rattle.rio_entry.proofs.write.write_value.Goals as goal

pub returns-then-branch-gt-LENGTH_LIMIT : goal.returns-then-branch-gt-LENGTH_LIMIT
returns-then-branch-gt-LENGTH_LIMIT c = λ counts ne.
    let fit : fits c.args.classes.now c.args.class.now c.args.value.now ≡ true = sym c.in_ok-fits.ensures ∙ c.if-not-branch.false in
    let same = object_bytes c.args.classes.now c.args.class.now counts c.args.value.now fit in
    too_long c.args.classes.now (Class c.args.class.now) counts (c.args.value.now ∷ []) (object_fits c.args.classes.now c.args.class.now counts c.args.value.now ∙ fit) (written_form c.args.classes.now 0 c.args.value.now) (sym same) (omega (arith, c.in_ok-written_length.ensures 0, c.if-branch-gt-LENGTH_LIMIT.true))

pub write_object-requires : goal.write_object-requires
write_object-requires c = omega (arith, c.in_ok-written_length.ensures 0, c.if-branch-gt-LENGTH_LIMIT.false)

pub returns : goal.returns
returns c = λ counts.
    let fit : fits c.args.classes.now c.args.class.now c.args.value.now ≡ true = sym c.in_ok-fits.ensures ∙ c.if-not-branch.false in
    let same = object_bytes c.args.classes.now c.args.class.now counts c.args.value.now fit in
    written c.args.classes.now (Class c.args.class.now) counts (c.args.value.now ∷ []) (object_fits c.args.classes.now c.args.class.now counts c.args.value.now ∙ fit) (written_form c.args.classes.now 0 c.args.value.now) (sym same) (omega (arith, c.in_ok-written_length.ensures 0, c.if-branch-gt-LENGTH_LIMIT.false))
    ∙ ap (λ (room : Room). let r : Result (List ℕ) EntryFault = Ok room.bytes in r) (sym c.in_ok-write_object.ensures.exact)

pub returns-in_err-fits : goal.returns-in_err-fits
returns-in_err-fits c = λ counts. let p = err_from_is_err_and c.from_residual.result c.from_residual.ensures.1 in rw (p.1, p.2) (λ ne. absurd (ne refl))

pub returns-in_err-written_length : goal.returns-in_err-written_length
returns-in_err-written_length c = λ counts. let p = err_from_is_err_and c.from_residual-in_err-written_length.result c.from_residual-in_err-written_length.ensures.1 in rw (p.1, p.2) (λ ne. absurd (ne refl))

pub returns-in_err-write_object : goal.returns-in_err-write_object
returns-in_err-write_object c = λ counts. let p = err_from_is_err_and c.from_residual-in_err-write_object.result c.from_residual-in_err-write_object.ensures.1 in rw (p.1, p.2) (λ ne. absurd (ne refl))
