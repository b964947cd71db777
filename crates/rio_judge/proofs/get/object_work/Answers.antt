use Rattle.std.proofs.Common.{◌≡◌, ℕ, ◌∙◌, Option, Some, None, Ok, Err, refl, sym, ap, subst}
use Rattle.rio_dir.specs.Table.{head_of}
use Rattle.rio_key.specs.declared.head.KeyHead.{KeyHead}
use Rattle.rio_machine.specs.{declared.command.Command.TheVariants.{Get}, declared.refusal.Refusal.TheVariants.{NoSuchCycle}}
use Rattle.rio_judge.specs.{Stops.{GoesByState}, declared.stop.Stop.TheVariants.{Refused}, declared.work.Work.TheVariants.{Get as Telling}}
use Rattle.rio_judge.proofs.{GetTests.{no_cycle, tells_cycle, tells_newest}, ItemsOfState.{first_is_greatest, names_objects}, KeysOfState.{first_is_found, found_key}}
use Rattle.rio_judge.proofs.get.object_work.Goals as goal

pub returns-in_default-clause-answers : goal.returns-in_default-clause-answers
returns-in_default-clause-answers c m are =
    let facts = names_objects c.args.table.now.heads c.args.trees.now.trees m are c.args.name.now c.requires.no_tree in
    let most = first_is_greatest c.args.table.now.heads c.args.trees.now.trees m are c.args.name.now c.args.newest.now facts c.requires.key in
    subst (λ (x : Option ℕ × KeyHead). GoesByState m (Get c.args.name.now x.0 c.args.version) (Ok (Telling x.1 c.args.version))) (λ i. (sym c.in_default.is i, sym c.in_ok-head.ensures i))
    (tells_newest c.args.table.now.heads m c.args.name.now c.args.version facts c.args.newest.now most c.requires.key)

pub returns-in_default-clause-sound : goal.returns-in_default-clause-sound
returns-in_default-clause-sound c classes = (
  refl,
  subst (λ (h : KeyHead). head_of c.args.name.now (Some h.cycle) c.args.table.now.heads ≡ Some h) (sym c.in_ok-head.ensures)
      (first_is_found c.args.name.now c.args.table.now.heads c.args.newest.now c.requires.key),
)

pub returns-in_ok-head-in-Some-key_at-clause-answers : goal.returns-in_ok-head-in-Some-key_at-clause-answers
returns-in_ok-head-in-Some-key_at-clause-answers c m are =
    let facts = names_objects c.args.table.now.heads c.args.trees.now.trees m are c.args.name.now c.requires.no_tree in
    subst (λ (x : Option ℕ × KeyHead). GoesByState m (Get c.args.name.now x.0 c.args.version) (Ok (Telling x.1 c.args.version))) (λ i. (sym c.in-Some.is i, sym c.in_ok-head-in-Some-key_at.ensures i))
    (tells_cycle c.args.table.now.heads m c.args.name.now c.args.version facts c.args.newest.now c.in-Some-key_at.head.now c.in-Some.cycle c.requires.key (c.in-Some-key_at.ensures.some))

pub returns-in_ok-head-in-Some-key_at-clause-sound : goal.returns-in_ok-head-in-Some-key_at-clause-sound
returns-in_ok-head-in-Some-key_at-clause-sound c classes =
    let h = c.in-Some-key_at.head.now in
    let found : head_of c.args.name.now (Some c.in-Some.cycle) c.args.table.now.heads ≡ Some h = c.in-Some-key_at.ensures.some in
    let cycle = (found_key c.args.name.now c.in-Some.cycle c.args.table.now.heads h found).1 in (
      refl,
      subst (λ (k : KeyHead). head_of c.args.name.now (Some k.cycle) c.args.table.now.heads ≡ Some k) (sym c.in_ok-head-in-Some-key_at.ensures)
          (ap (λ (n : ℕ). head_of c.args.name.now (Some n) c.args.table.now.heads) cycle ∙ found),
    )

pub returns-in-None-clause-answers : goal.returns-in-None-clause-answers
returns-in-None-clause-answers c m are =
    let facts = names_objects c.args.table.now.heads c.args.trees.now.trees m are c.args.name.now c.requires.no_tree in
    subst (λ (cycle : Option ℕ). GoesByState m (Get c.args.name.now cycle c.args.version) (Err (Refused NoSuchCycle))) (sym c.in-Some.is)
    (no_cycle c.args.table.now.heads m c.args.name.now c.args.version facts c.args.newest.now c.in-Some.cycle c.requires.key (c.in-None.ensures.none refl are.ordered))
