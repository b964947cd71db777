use Rattle.std.proofs.Common.{◌≡◌, ◌≤◌, ◌+◌, ◌-◌, ◌^◌, ℕ, List, length, sym, ap, ◌∙◌, subst, arith}
use Rattle.rio_num.specs.Room.{Room, room_of}
use Rattle.rio_format.specs.{declared.kind.Kind.TheVariants.{Inline}, ReaderState.{no_words}, Writer.{nothing_written}, Slots.{kinded}, Objects.{SpellsObject}, Written.{writing_of, written_form}}
use Rattle.rio_format.proofs.WrittenValues.{written_is_spelled}
use Rattle.rio_write.specs.{Sinks.{StandsWithin}, Writing.{HasRoom}}
use Rattle.rio_write.proofs.{Taking.{whole_written}, WriteLaws.{first_room}}
use Rattle.rio_write.proofs.write.write_object.Goals as goal

pub write_value-requires : goal.write_value-requires
unfolding StandsWithin
write_value-requires c =
    let known = writing_of c.args.classes.now c.args.value.now in
    let class = c.class_of-class.result.now in
    let first = first_room (known.bytes (kinded (Inline known.class))) c.args.start c.requires in
    let room : HasRoom (known.bytes (kinded (Inline class))) (nothing_written c.args.start) = subst (λ (k : List ℕ). HasRoom (known.bytes (kinded (Inline k))) (nothing_written c.args.start)) (sym (c.class_of-class.ensures c.args.classes.now)) first in
    λ b. (nothing_written c.args.start, c.new-writer.ensures, room)

pub into_bytes-requires : goal.into_bytes-requires
into_bytes-requires c =
    let f = (writing_of c.args.classes.now c.args.value.now).bytes (kinded (Inline c.class_of-class.result.now)) in
    (whole_written f c.args.start c.new-writer.result c.write_value.new.sink c.new-names.result c.write_value.new.names c.new-writer.ensures c.in_ok-write_value.ensures).1

pub returns-clause-exact : goal.returns-clause-exact
returns-clause-exact c =
    let known = writing_of c.args.classes.now c.args.value.now in
    let f = known.bytes (kinded (Inline c.class_of-class.result.now)) in
    let written = whole_written f c.args.start c.new-writer.result c.write_value.new.sink c.new-names.result c.write_value.new.names c.new-writer.ensures c.in_ok-write_value.ensures in
    c.into_bytes.ensures ∙ ap room_of written.0 ∙ ap (λ (k : List ℕ). room_of (known.bytes (kinded (Inline k)) c.args.start no_words).0) (c.class_of-class.ensures c.args.classes.now)

pub returns-clause-spelled : goal.returns-clause-spelled
returns-clause-spelled c = λ class fits depth versions.
    let known = writing_of c.args.classes.now c.args.value.now in
    let f = known.bytes (kinded (Inline c.class_of-class.result.now)) in
    let written = whole_written f c.args.start c.new-writer.result c.write_value.new.sink c.new-names.result c.write_value.new.names c.new-writer.ensures c.in_ok-write_value.ensures in
    let are : c.into_bytes.result ≡ room_of (written_form c.args.classes.now c.args.start c.args.value.now) =
    c.into_bytes.ensures ∙ ap room_of written.0 ∙ ap (λ (k : List ℕ). room_of (known.bytes (kinded (Inline k)) c.args.start no_words).0) (c.class_of-class.ensures c.args.classes.now) in
    let room : c.args.start + length (written_form c.args.classes.now c.args.start c.args.value.now) ≤ 2 ^ 30 - 2 = omega (arith, c.requires) in
    let spells = written_is_spelled c.args.classes.now class c.args.start c.args.value.now fits depth versions room in
    subst (λ (b : Room). SpellsObject c.args.classes.now c.args.start class c.args.value.now b.bytes) (sym are) spells
