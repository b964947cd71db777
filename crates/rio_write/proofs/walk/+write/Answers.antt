use Rattle.std.proofs.{Common.{rules, ◌≡◌, ◌<◌, None, SFits, w32, map, refl, sym, ap, ◌∙◌, inl, inr, length}, lemmas.Int.{to_z-of_z}}
use Rattle.std.specs.Int.{w16, w128, cast_unsigned}
use Rattle.byteorder.specs.Endian.{big_bytes}
use Rattle.rio_format.specs.{declared.kind.Kind.TheVariants.{Inline}, declared.value.Value.{the_lemmas}, Bodies.{form_of}, Slots.{Field, declared_body, kinded}, Written.{body_bytes, form_bytes, writing_of}}
use Rattle.rio_write.specs.{Sinks.{Accepted, RoomFor}, Writing.{part_writing}}
use Rattle.rio_write.proofs.SinkLaws.{can_point, fields_end, header_body_room, header_closes, headed_accepted, item_fits, items_end, items_go, leads_first, nothing_accepted, object_room, part_fits, parts_end, parts_go, pointer_accepted, pointer_closes, text_is_short}
use Rattle.rio_write.proofs.SinkParts.{link_room, link_text_room, link_writes, no_link, counted_room, counted_writes, none_counted, array_room, array_writes, no_array, id_room, bits_room, bare_writes, no_bare, pid_bits_room, pid_id_room, pid_room, pid_writes, list_base_room, list_name_room, links_room, listed_writes, no_listed, array_base_room, array_name_room, lower_room, pointers_room, arrayed_writes, no_arrayed}
use Rattle.rio_write.proofs.WriteValues.{back_is, bits32_is, bits64_is, bool_is, int_is, null_is, object_is, opaque_is, text_is}
use Rattle.rio_write.proofs.walk.+write.Goals as goal

pub write_array-write_value-requires : goal.write_array-write_value-requires
write_array-write_value-requires g t c κs lives =
    let room = array_room g.S.Sink.stands g.S.Sink.bounded (part_writing c.args.classes.now) c.args.of c.args.parts.now (c.args.sink.now, c.args.names.now) c.items-item.result c.count_of.result (c.count_of.ensures c.args.classes.now) c.in-len1.len_at_least c.in-len1.len_below c.items-item.is (c.write_count.new.sink, c.args.names.now) (c.in_ok-write_count-in-len1.ensures c.args.names.now) c.requires in
    search (rules, the_lemmas)

pub write_array-returns-in_ok-write_count-in-len1 : goal.write_array-returns-in_ok-write_count-in-len1
write_array-returns-in_ok-write_count-in-len1 g t c = array_writes g.S.Sink.stands g.S.Sink.bounded (part_writing c.args.classes.now) c.args.of c.args.parts.now (c.args.sink.now, c.args.names.now) c.items-item.result c.count_of.result (c.count_of.ensures c.args.classes.now) c.in-len1.len_at_least c.in-len1.len_below c.items-item.is (c.write_count.new.sink, c.args.names.now) (c.write_value.new.sink, c.write_value.new.names) c.write_value.result (c.in_ok-write_count-in-len1.ensures c.args.names.now) c.write_value.ensures

pub write_array-returns-in_default : goal.write_array-returns-in_default
write_array-returns-in_default g t c = no_array g.S.Sink.stands g.S.Sink.bounded (part_writing c.args.classes.now) c.args.of c.args.parts.now (c.args.sink.now, c.args.names.now) (inl c.in_default.len_below)

pub write_array-returns-in_default-2 : goal.write_array-returns-in_default-2
write_array-returns-in_default-2 g t c = no_array g.S.Sink.stands g.S.Sink.bounded (part_writing c.args.classes.now) c.args.of c.args.parts.now (c.args.sink.now, c.args.names.now) (inr c.in_default.len_at_least)

pub write_arrayed-write_value-requires : goal.write_arrayed-write_value-requires
write_arrayed-write_value-requires g t c κs lives =
    let room = array_base_room g.S.Sink.stands g.S.Sink.bounded (part_writing c.args.classes.now) c.args.parts.now (c.args.sink.now, c.args.names.now) c.base-item.result c.name-item.result c.lower-item.result c.items-item.result _ refl c.in-len4.len_at_least c.in-len4.len_below c.base-item.is c.name-item.is c.lower-item.is c.items-item.is c.requires in
    search (rules, the_lemmas)

pub write_arrayed-write_value-requires-in-len4 : goal.write_arrayed-write_value-requires-in-len4
write_arrayed-write_value-requires-in-len4 g t c κs lives =
    let room = array_name_room g.S.Sink.stands g.S.Sink.bounded (part_writing c.args.classes.now) c.args.parts.now (c.args.sink.now, c.args.names.now) c.base-item.result c.name-item.result c.lower-item.result c.items-item.result _ refl c.in-len4.len_at_least c.in-len4.len_below c.base-item.is c.name-item.is c.lower-item.is c.items-item.is (c.write_value.new.sink, c.write_value.new.names) c.in_ok-write_value-in-len4.ensures c.requires in
    search (rules, the_lemmas)

pub write_arrayed-write_value-requires-in-len4-2 : goal.write_arrayed-write_value-requires-in-len4-2
write_arrayed-write_value-requires-in-len4-2 g t c κs lives =
    let room = lower_room g.S.Sink.stands g.S.Sink.bounded (part_writing c.args.classes.now) c.args.parts.now (c.args.sink.now, c.args.names.now) c.base-item.result c.name-item.result c.lower-item.result c.items-item.result c.count_of.result (c.count_of.ensures c.args.classes.now) c.in-len4.len_at_least c.in-len4.len_below c.base-item.is c.name-item.is c.lower-item.is c.items-item.is (c.write_value.new.sink, c.write_value.new.names) c.in_ok-write_value-in-len4.ensures (c.write_value-in-len4.new.sink, c.write_value-in-len4.new.names) (c.write_count.new.sink, c.write_value-in-len4.new.names) c.in_ok-write_value-in-len4-2.ensures (c.in_ok-write_count-in-len4.ensures c.write_value-in-len4.new.names) c.requires in
    search (rules, the_lemmas)

pub write_arrayed-write_value-requires-in-len4-3 : goal.write_arrayed-write_value-requires-in-len4-3
write_arrayed-write_value-requires-in-len4-3 g t c κs lives =
    let room = pointers_room g.S.Sink.stands g.S.Sink.bounded (part_writing c.args.classes.now) c.args.parts.now (c.args.sink.now, c.args.names.now) c.base-item.result c.name-item.result c.lower-item.result c.items-item.result c.count_of.result (c.count_of.ensures c.args.classes.now) c.in-len4.len_at_least c.in-len4.len_below c.base-item.is c.name-item.is c.lower-item.is c.items-item.is (c.write_value.new.sink, c.write_value.new.names) c.in_ok-write_value-in-len4.ensures (c.write_value-in-len4.new.sink, c.write_value-in-len4.new.names) (c.write_count.new.sink, c.write_value-in-len4.new.names) c.in_ok-write_value-in-len4-2.ensures (c.in_ok-write_count-in-len4.ensures c.write_value-in-len4.new.names) (c.write_value-in-len4-2.new.sink, c.write_value-in-len4-2.new.names) c.in_ok-write_value-in-len4-3.ensures c.requires in
    search (rules, the_lemmas)

pub write_arrayed-returns-in_ok-write_value-in-len4-3 : goal.write_arrayed-returns-in_ok-write_value-in-len4-3
write_arrayed-returns-in_ok-write_value-in-len4-3 g t c = arrayed_writes g.S.Sink.stands g.S.Sink.bounded (part_writing c.args.classes.now) c.args.parts.now (c.args.sink.now, c.args.names.now) c.base-item.result c.name-item.result c.lower-item.result c.items-item.result c.count_of.result (c.count_of.ensures c.args.classes.now) c.in-len4.len_at_least c.in-len4.len_below c.base-item.is c.name-item.is c.lower-item.is c.items-item.is (c.write_value.new.sink, c.write_value.new.names) c.in_ok-write_value-in-len4.ensures (c.write_value-in-len4.new.sink, c.write_value-in-len4.new.names) (c.write_count.new.sink, c.write_value-in-len4.new.names) c.in_ok-write_value-in-len4-2.ensures (c.in_ok-write_count-in-len4.ensures c.write_value-in-len4.new.names) (c.write_value-in-len4-2.new.sink, c.write_value-in-len4-2.new.names) c.in_ok-write_value-in-len4-3.ensures (c.write_value-in-len4-3.new.sink, c.write_value-in-len4-3.new.names) c.write_value-in-len4-3.result c.write_value-in-len4-3.ensures

pub write_arrayed-returns-in_default : goal.write_arrayed-returns-in_default
write_arrayed-returns-in_default g t c = no_arrayed g.S.Sink.stands g.S.Sink.bounded (part_writing c.args.classes.now) c.args.parts.now (c.args.sink.now, c.args.names.now) (inl c.in_default.len_below)

pub write_arrayed-returns-in_default-2 : goal.write_arrayed-returns-in_default-2
write_arrayed-returns-in_default-2 g t c = no_arrayed g.S.Sink.stands g.S.Sink.bounded (part_writing c.args.classes.now) c.args.parts.now (c.args.sink.now, c.args.names.now) (inr c.in_default.len_at_least)

pub write_bare-write_value-requires : goal.write_bare-write_value-requires
write_bare-write_value-requires g t c κs lives =
    let room = id_room g.S.Sink.stands g.S.Sink.bounded (part_writing c.args.classes.now) c.args.parts.now (c.args.sink.now, c.args.names.now) c.id-item.result c.bits-item.result c.in-len2.len_at_least c.in-len2.len_below c.id-item.is c.bits-item.is (c.take_u16.new.self, c.args.names.now) (c.in_ok-take_u16-in-len2.ensures c.args.names.now) c.requires in
    search (rules, the_lemmas)

pub write_bare-write_value-requires-in-len2 : goal.write_bare-write_value-requires-in-len2
write_bare-write_value-requires-in-len2 g t c κs lives =
    let room = bits_room g.S.Sink.stands g.S.Sink.bounded (part_writing c.args.classes.now) c.args.parts.now (c.args.sink.now, c.args.names.now) c.id-item.result c.bits-item.result c.in-len2.len_at_least c.in-len2.len_below c.id-item.is c.bits-item.is (c.take_u16.new.self, c.args.names.now) (c.in_ok-take_u16-in-len2.ensures c.args.names.now) (c.write_value.new.sink, c.write_value.new.names) c.in_ok-write_value-in-len2.ensures c.requires in
    search (rules, the_lemmas)

pub write_bare-returns-in_ok-write_value-in-len2 : goal.write_bare-returns-in_ok-write_value-in-len2
write_bare-returns-in_ok-write_value-in-len2 g t c = bare_writes g.S.Sink.stands g.S.Sink.bounded (part_writing c.args.classes.now) c.args.parts.now (c.args.sink.now, c.args.names.now) c.id-item.result c.bits-item.result c.in-len2.len_at_least c.in-len2.len_below c.id-item.is c.bits-item.is (c.take_u16.new.self, c.args.names.now) (c.in_ok-take_u16-in-len2.ensures c.args.names.now) (c.write_value.new.sink, c.write_value.new.names) c.in_ok-write_value-in-len2.ensures (c.write_value-in-len2.new.sink, c.write_value-in-len2.new.names) c.write_value-in-len2.result c.write_value-in-len2.ensures

pub write_bare-write_value-requires-in-len3 : goal.write_bare-write_value-requires-in-len3
write_bare-write_value-requires-in-len3 g t c κs lives =
    let room = pid_id_room g.S.Sink.stands g.S.Sink.bounded (part_writing c.args.classes.now) c.args.parts.now (c.args.sink.now, c.args.names.now) c.id-item-then-parts-lt4.result c.bits-item-then-parts-lt4.result c.pid-item.result c.in-len3.len_at_least c.in-len3.len_below c.id-item-then-parts-lt4.is c.bits-item-then-parts-lt4.is c.pid-item.is (c.take_u16-in-len3.new.self, c.args.names.now) (c.in_ok-take_u16-in-len3.ensures c.args.names.now) c.requires in
    search (rules, the_lemmas)

pub write_bare-write_value-requires-in-len3-2 : goal.write_bare-write_value-requires-in-len3-2
write_bare-write_value-requires-in-len3-2 g t c κs lives =
    let room = pid_bits_room g.S.Sink.stands g.S.Sink.bounded (part_writing c.args.classes.now) c.args.parts.now (c.args.sink.now, c.args.names.now) c.id-item-then-parts-lt4.result c.bits-item-then-parts-lt4.result c.pid-item.result c.in-len3.len_at_least c.in-len3.len_below c.id-item-then-parts-lt4.is c.bits-item-then-parts-lt4.is c.pid-item.is (c.take_u16-in-len3.new.self, c.args.names.now) (c.in_ok-take_u16-in-len3.ensures c.args.names.now) (c.write_value-in-len3.new.sink, c.write_value-in-len3.new.names) c.in_ok-write_value-in-len3.ensures c.requires in
    search (rules, the_lemmas)

pub write_bare-write_value-requires-in-len3-3 : goal.write_bare-write_value-requires-in-len3-3
write_bare-write_value-requires-in-len3-3 g t c κs lives =
    let room = pid_room g.S.Sink.stands g.S.Sink.bounded (part_writing c.args.classes.now) c.args.parts.now (c.args.sink.now, c.args.names.now) c.id-item-then-parts-lt4.result c.bits-item-then-parts-lt4.result c.pid-item.result c.in-len3.len_at_least c.in-len3.len_below c.id-item-then-parts-lt4.is c.bits-item-then-parts-lt4.is c.pid-item.is (c.take_u16-in-len3.new.self, c.args.names.now) (c.in_ok-take_u16-in-len3.ensures c.args.names.now) (c.write_value-in-len3.new.sink, c.write_value-in-len3.new.names) c.in_ok-write_value-in-len3.ensures (c.write_value-in-len3-2.new.sink, c.write_value-in-len3-2.new.names) c.in_ok-write_value-in-len3-2.ensures c.requires in
    search (rules, the_lemmas)

pub write_bare-returns-in_ok-write_value-in-len3-2 : goal.write_bare-returns-in_ok-write_value-in-len3-2
write_bare-returns-in_ok-write_value-in-len3-2 g t c = pid_writes g.S.Sink.stands g.S.Sink.bounded (part_writing c.args.classes.now) c.args.parts.now (c.args.sink.now, c.args.names.now) c.id-item-then-parts-lt4.result c.bits-item-then-parts-lt4.result c.pid-item.result c.in-len3.len_at_least c.in-len3.len_below c.id-item-then-parts-lt4.is c.bits-item-then-parts-lt4.is c.pid-item.is (c.take_u16-in-len3.new.self, c.args.names.now) (c.in_ok-take_u16-in-len3.ensures c.args.names.now) (c.write_value-in-len3.new.sink, c.write_value-in-len3.new.names) c.in_ok-write_value-in-len3.ensures (c.write_value-in-len3-2.new.sink, c.write_value-in-len3-2.new.names) c.in_ok-write_value-in-len3-2.ensures (c.write_value-in-len3-3.new.sink, c.write_value-in-len3-3.new.names) c.write_value-in-len3-3.result c.write_value-in-len3-3.ensures

pub write_bare-returns-in_default : goal.write_bare-returns-in_default
write_bare-returns-in_default g t c = no_bare g.S.Sink.stands g.S.Sink.bounded (part_writing c.args.classes.now) c.args.parts.now (c.args.sink.now, c.args.names.now) (inl c.in_default.len_below)

pub write_bare-returns-in_default-2 : goal.write_bare-returns-in_default-2
write_bare-returns-in_default-2 g t c = no_bare g.S.Sink.stands g.S.Sink.bounded (part_writing c.args.classes.now) c.args.parts.now (c.args.sink.now, c.args.names.now) (inr c.in_default.len_at_least)

pub write_counted-write_all-requires : goal.write_counted-write_all-requires
write_counted-write_all-requires g t c κs lives =
    let some : 0 < length c.args.items.now = search rules in
    let room = counted_room g.S.Sink.stands g.S.Sink.bounded (writing_of c.args.classes.now) c.args.of c.args.items.now (c.args.sink.now, c.args.names.now) some (c.write_bool-2.new.sink, c.args.names.now) (c.in_ok-write_bool.ensures c.args.names.now) c.requires in
    search (rules, the_lemmas)

pub write_counted-returns : goal.write_counted-returns
write_counted-returns g t c =
    let some : 0 < length c.args.items.now = search rules in
    counted_writes g.S.Sink.stands g.S.Sink.bounded (writing_of c.args.classes.now) c.args.of c.args.items.now (c.args.sink.now, c.args.names.now) some (c.write_bool-2.new.sink, c.args.names.now) (c.write_all.new.sink, c.write_all.new.names) c.write_all.result (c.in_ok-write_bool.ensures c.args.names.now) c.write_all.ensures

pub write_listed-write_value-requires : goal.write_listed-write_value-requires
write_listed-write_value-requires g t c κs lives =
    let room = list_base_room g.S.Sink.stands g.S.Sink.bounded (part_writing c.args.classes.now) c.args.parts.now (c.args.sink.now, c.args.names.now) c.base-item.result c.name-item.result c.items-item.result _ refl c.in-len3.len_at_least c.in-len3.len_below c.base-item.is c.name-item.is c.items-item.is c.requires in
    search (rules, the_lemmas)

pub write_listed-write_value-requires-in-len3 : goal.write_listed-write_value-requires-in-len3
write_listed-write_value-requires-in-len3 g t c κs lives =
    let room = list_name_room g.S.Sink.stands g.S.Sink.bounded (part_writing c.args.classes.now) c.args.parts.now (c.args.sink.now, c.args.names.now) c.base-item.result c.name-item.result c.items-item.result _ refl c.in-len3.len_at_least c.in-len3.len_below c.base-item.is c.name-item.is c.items-item.is (c.write_value.new.sink, c.write_value.new.names) c.in_ok-write_value-in-len3.ensures c.requires in
    search (rules, the_lemmas)

pub write_listed-write_value-requires-in-len3-2 : goal.write_listed-write_value-requires-in-len3-2
write_listed-write_value-requires-in-len3-2 g t c κs lives =
    let room = links_room g.S.Sink.stands g.S.Sink.bounded (part_writing c.args.classes.now) c.args.parts.now (c.args.sink.now, c.args.names.now) c.base-item.result c.name-item.result c.items-item.result c.count_of.result (c.count_of.ensures c.args.classes.now) c.in-len3.len_at_least c.in-len3.len_below c.base-item.is c.name-item.is c.items-item.is (c.write_value.new.sink, c.write_value.new.names) c.in_ok-write_value-in-len3.ensures (c.write_value-in-len3.new.sink, c.write_value-in-len3.new.names) (c.write_count.new.sink, c.write_value-in-len3.new.names) c.in_ok-write_value-in-len3-2.ensures (c.in_ok-write_count-in-len3.ensures c.write_value-in-len3.new.names) c.requires in
    search (rules, the_lemmas)

pub write_listed-returns-in_ok-write_count-in-len3 : goal.write_listed-returns-in_ok-write_count-in-len3
write_listed-returns-in_ok-write_count-in-len3 g t c = listed_writes g.S.Sink.stands g.S.Sink.bounded (part_writing c.args.classes.now) c.args.parts.now (c.args.sink.now, c.args.names.now) c.base-item.result c.name-item.result c.items-item.result c.count_of.result (c.count_of.ensures c.args.classes.now) c.in-len3.len_at_least c.in-len3.len_below c.base-item.is c.name-item.is c.items-item.is (c.write_value.new.sink, c.write_value.new.names) c.in_ok-write_value-in-len3.ensures (c.write_value-in-len3.new.sink, c.write_value-in-len3.new.names) (c.write_count.new.sink, c.write_value-in-len3.new.names) c.in_ok-write_value-in-len3-2.ensures (c.in_ok-write_count-in-len3.ensures c.write_value-in-len3.new.names) (c.write_value-in-len3-2.new.sink, c.write_value-in-len3-2.new.names) c.write_value-in-len3-2.result c.write_value-in-len3-2.ensures

pub write_listed-returns-in_default : goal.write_listed-returns-in_default
write_listed-returns-in_default g t c = no_listed g.S.Sink.stands g.S.Sink.bounded (part_writing c.args.classes.now) c.args.parts.now (c.args.sink.now, c.args.names.now) (inl c.in_default.len_below)

pub write_listed-returns-in_default-2 : goal.write_listed-returns-in_default-2
write_listed-returns-in_default-2 g t c = no_listed g.S.Sink.stands g.S.Sink.bounded (part_writing c.args.classes.now) c.args.parts.now (c.args.sink.now, c.args.names.now) (inr c.in_default.len_at_least)

pub write_link-write_value-requires : goal.write_link-write_value-requires
write_link-write_value-requires g t c κs lives =
    let room = link_room g.S.Sink.stands g.S.Sink.bounded (writing_of c.args.classes.now) c.args.items.now (c.args.sink.now, c.args.names.now) c.pointer-item.result c.text-item.result c.in-len2.len_at_least c.in-len2.len_below c.pointer-item.is c.text-item.is c.requires in
    search (rules, the_lemmas)

pub write_link-write_value-requires-in-len2 : goal.write_link-write_value-requires-in-len2
write_link-write_value-requires-in-len2 g t c κs lives =
    let room = link_text_room g.S.Sink.stands g.S.Sink.bounded (writing_of c.args.classes.now) c.args.items.now (c.args.sink.now, c.args.names.now) c.pointer-item.result c.text-item.result c.in-len2.len_at_least c.in-len2.len_below c.pointer-item.is c.text-item.is (c.write_value.new.sink, c.write_value.new.names) c.in_ok-write_value-in-len2.ensures c.requires in
    search (rules, the_lemmas)

pub write_link-returns-in_ok-write_value-in-len2 : goal.write_link-returns-in_ok-write_value-in-len2
write_link-returns-in_ok-write_value-in-len2 g t c = link_writes g.S.Sink.stands g.S.Sink.bounded (writing_of c.args.classes.now) c.args.items.now (c.args.sink.now, c.args.names.now) c.pointer-item.result c.text-item.result c.in-len2.len_at_least c.in-len2.len_below c.pointer-item.is c.text-item.is (c.write_value.new.sink, c.write_value.new.names) (c.write_value-in-len2.new.sink, c.write_value-in-len2.new.names) c.write_value-in-len2.result c.in_ok-write_value-in-len2.ensures c.write_value-in-len2.ensures

pub write_link-returns-in_default : goal.write_link-returns-in_default
write_link-returns-in_default g t c = no_link g.S.Sink.stands g.S.Sink.bounded (writing_of c.args.classes.now) c.args.items.now (c.args.sink.now, c.args.names.now) (inl c.in_default.len_below)

pub write_link-returns-in_default-2 : goal.write_link-returns-in_default-2
write_link-returns-in_default-2 g t c = no_link g.S.Sink.stands g.S.Sink.bounded (writing_of c.args.classes.now) c.args.items.now (c.args.sink.now, c.args.names.now) (inr c.in_default.len_at_least)

pub write_all-write_value-requires : goal.write_all-write_value-requires
write_all-write_value-requires g t c κs lives =
    let room = item_fits g.S.Sink.stands g.S.Sink.bounded (writing_of c.args.classes.now) c.args.slot.now c.args.items.now c.loop-item.item-index c.item-item.result c.loop-item-test.true c.item-item.is (c.loop-item.sink, c.loop-item.names) c.loop-item.invariant.1 in
    search (rules, the_lemmas)

pub write_all-loop-item-init : goal.write_all-loop-item-init
write_all-loop-item-init g t c = (leads_first g.S.Sink.stands _ (c.args.sink.now, c.args.names.now), c.requires)

pub write_all-loop-item-preserved : goal.write_all-loop-item-preserved
write_all-loop-item-preserved g t c = items_go g.S.Sink.stands g.S.Sink.bounded (writing_of c.args.classes.now) c.args.slot.now c.args.items.now c.loop-item.item-index c.item-item.result c.loop-item-test.true c.item-item.is (c.loop-item.sink, c.loop-item.names) _ (c.args.sink.now, c.args.names.now) (c.write_value.new.sink, c.write_value.new.names) c.in_ok-write_value.ensures c.loop-item.invariant

pub write_all-returns : goal.write_all-returns
write_all-returns g t c = items_end g.S.Sink.stands g.S.Sink.bounded (writing_of c.args.classes.now) c.args.slot.now c.args.items.now c.loop-item.item-index _ (c.args.sink.now, c.args.names.now) (c.loop-item.sink, c.loop-item.names) c.loop-item-test.false c.loop-item.invariant.0

pub write_fields-write_value-requires : goal.write_fields-write_value-requires
write_fields-write_value-requires g t c κs lives =
    let room = part_fits g.S.Sink.stands g.S.Sink.bounded (part_writing c.args.classes.now) c.args.fields.now c.args.parts.now c.loop-k.k c.in-Some.field c.field.inside.slot c.index-parts-k.result (sym c.get.ensures ∙ c.in-Some.is) c.loop-k-test.true (ap (λ (f : Field). f.slot) c.field.view_is) c.index-parts-k.is (c.loop-k.sink, c.loop-k.names) c.loop-k.invariant.1 in
    search (rules, the_lemmas)

pub write_fields-loop-k-init : goal.write_fields-loop-k-init
write_fields-loop-k-init g t c = (leads_first g.S.Sink.stands _ (c.args.sink.now, c.args.names.now), c.requires)

pub write_fields-loop-k-preserved : goal.write_fields-loop-k-preserved
write_fields-loop-k-preserved g t c = parts_go g.S.Sink.stands g.S.Sink.bounded (part_writing c.args.classes.now) c.args.fields.now c.args.parts.now c.loop-k.k c.in-Some.field c.field.inside.slot c.index-parts-k.result (sym c.get.ensures ∙ c.in-Some.is) c.loop-k-test.true (ap (λ (f : Field). f.slot) c.field.view_is) c.index-parts-k.is (c.loop-k.sink, c.loop-k.names) _ (c.args.sink.now, c.args.names.now) (c.write_value.new.sink, c.write_value.new.names) c.in_ok-write_value.ensures c.loop-k.invariant

pub write_fields-returns-in_default : goal.write_fields-returns-in_default
write_fields-returns-in_default g t c = fields_end g.S.Sink.stands g.S.Sink.bounded (part_writing c.args.classes.now) c.args.fields.now c.args.parts.now c.loop-k.k _ (c.args.sink.now, c.args.names.now) (c.loop-k.sink, c.loop-k.names) (sym c.get.ensures ∙ c.in_default.is) c.loop-k.invariant.0

pub write_fields-returns : goal.write_fields-returns
write_fields-returns g t c = parts_end g.S.Sink.stands g.S.Sink.bounded (part_writing c.args.classes.now) c.args.fields.now c.args.parts.now c.loop-k.k _ (c.args.sink.now, c.args.names.now) (c.loop-k.sink, c.loop-k.names) c.loop-k-test.false c.loop-k.invariant.0

pub write_headed-write_declared-requires : goal.write_headed-write_declared-requires
write_headed-write_declared-requires g t c κs lives =
    let fits : SFits w32 c.args.version = search rules in
    let body = body_bytes (declared_body c.args.classes.now c.args.class.now c.args.version) (map (part_writing c.args.classes.now) c.args.parts.now) in
    let same : big_bytes 2 c.bits_16.result ≡ big_bytes 2 (cast_unsigned w16 c.args.version) = search (rules, to_z-of_z) in
    let room = header_body_room g.S.Sink.stands g.S.Sink.bounded c.args.version body (big_bytes 2 c.bits_16.result) same (c.args.sink.now, c.args.names.now) (c.take_header.new.self, c.args.names.now) (g.S.Sink.place c.in_ok-begun.begun) (c.in_ok-begun.ensures c.args.names.now) c.requires in
    search (rules, the_lemmas, to_z-of_z)

pub write_headed-close-requires : goal.write_headed-close-requires
write_headed-close-requires g t c =
    let fits : SFits w32 c.args.version = search rules in
    let body = body_bytes (declared_body c.args.classes.now c.args.class.now c.args.version) (map (part_writing c.args.classes.now) c.args.parts.now) in
    let same : big_bytes 2 c.bits_16.result ≡ big_bytes 2 (cast_unsigned w16 c.args.version) = search (rules, to_z-of_z) in
    let one : Accepted g.S.Sink.stands body (c.take_header.new.self, c.args.names.now) (c.write_declared.new.sink, c.write_declared.new.names) = simp to_z-of_z at c.in_ok-write_declared.ensures in (
      c.write_declared.new.names,
      header_closes g.S.Sink.stands g.S.Sink.bounded c.args.version body (big_bytes 2 c.bits_16.result) same (c.args.sink.now, c.args.names.now) (c.take_header.new.self, c.args.names.now) (g.S.Sink.place c.in_ok-begun.begun) (c.in_ok-begun.ensures c.args.names.now) (c.write_declared.new.sink, c.write_declared.new.names) one c.requires,
    )

pub write_headed-returns : goal.write_headed-returns
write_headed-returns g t c =
    let fits : SFits w32 c.args.version = search rules in
    let body = body_bytes (declared_body c.args.classes.now c.args.class.now c.args.version) (map (part_writing c.args.classes.now) c.args.parts.now) in
    let same : big_bytes 2 c.bits_16.result ≡ big_bytes 2 (cast_unsigned w16 c.args.version) = search (rules, to_z-of_z) in
    let one : Accepted g.S.Sink.stands body (c.take_header.new.self, c.args.names.now) (c.write_declared.new.sink, c.write_declared.new.names) = simp to_z-of_z at c.in_ok-write_declared.ensures in
    headed_accepted g.S.Sink.stands g.S.Sink.bounded c.args.version body (big_bytes 2 c.bits_16.result) same (c.args.sink.now, c.args.names.now) (c.take_header.new.self, c.args.names.now) (g.S.Sink.place c.in_ok-begun.begun) (c.in_ok-begun.ensures c.args.names.now) (c.write_declared.new.sink, c.write_declared.new.names) one (c.close.new.self, c.write_declared.new.names) (c.close.ensures c.write_declared.new.names)

pub write_pointed-take_pointer-requires : goal.write_pointed-take_pointer-requires
write_pointed-take_pointer-requires g t c =
    let known = writing_of c.args.classes.now c.args.object.now in
    can_point g.S.Sink.stands g.S.Sink.bounded c.class_of-class.result.now known.class (c.class_of-class.ensures c.args.classes.now) (λ k. known.bytes (kinded (Inline k))) (c.args.sink.now, c.args.names.now) c.requires

pub write_pointed-write_value-requires : goal.write_pointed-write_value-requires
write_pointed-write_value-requires g t c κs lives =
    let known = writing_of c.args.classes.now c.args.object.now in
    let room = object_room g.S.Sink.stands g.S.Sink.bounded c.class_of-class.result.now known.class (c.class_of-class.ensures c.args.classes.now) (λ k. known.bytes (kinded (Inline k))) (c.args.sink.now, c.args.names.now) (c.take_pointer.new.self, c.take_pointer.new.names) (g.S.Sink.place c.in_ok-begun.begun) c.in_ok-begun.ensures c.requires in
    search (rules, the_lemmas)

pub write_pointed-close-requires : goal.write_pointed-close-requires
write_pointed-close-requires g t c =
    let known = writing_of c.args.classes.now c.args.object.now in (
      c.write_value.new.names,
      pointer_closes g.S.Sink.stands g.S.Sink.bounded c.class_of-class.result.now known.class (c.class_of-class.ensures c.args.classes.now) (λ k. known.bytes (kinded (Inline k))) (c.args.sink.now, c.args.names.now) (c.take_pointer.new.self, c.take_pointer.new.names) (g.S.Sink.place c.in_ok-begun.begun) c.in_ok-begun.ensures (c.write_value.new.sink, c.write_value.new.names) c.in_ok-write_value.ensures c.requires,
    )

pub write_pointed-returns : goal.write_pointed-returns
write_pointed-returns g t c =
    let known = writing_of c.args.classes.now c.args.object.now in
    pointer_accepted g.S.Sink.stands g.S.Sink.bounded c.class_of-class.result.now known.class (c.class_of-class.ensures c.args.classes.now) (λ k. known.bytes (kinded (Inline k))) (c.args.sink.now, c.args.names.now) (c.take_pointer.new.self, c.take_pointer.new.names) (g.S.Sink.place c.in_ok-begun.begun) c.in_ok-begun.ensures (c.write_value.new.sink, c.write_value.new.names) c.in_ok-write_value.ensures (c.close.new.self, c.write_value.new.names) (c.close.ensures c.write_value.new.names)

pub write_value-write_parts-requires : goal.write_value-write_parts-requires
write_value-write_parts-requires g t c κs lives =
    let fits : SFits w32 c.in-Object.version = search rules in
    let classes = c.args.classes.now in
    let class = c.as_slice-class.result.now in
    let room : RoomFor g.S.Sink.stands g.S.Sink.bounded (form_bytes classes class c.in-Object.version (form_of class) (map (part_writing classes) c.as_slice-parts.result.now)) (c.args.sink.now, c.args.names.now) =
    simp (c.as_slice-class.ensures, c.as_slice-parts.ensures) (rw (c.in-Object.is, object_is) at c.requires) in
    search (rules, the_lemmas, to_z-of_z)

pub write_value-returns-in-Int : goal.write_value-returns-in-Int
write_value-returns-in-Int g t c =
    let fits : SFits w128 c.in-Int.n = search rules in
    rw (c.in-Int.is, int_is) (simp to_z-of_z at (c.write_int.ensures c.args.names.now))

pub write_value-returns-in-Object : goal.write_value-returns-in-Object
write_value-returns-in-Object g t c =
    let fits : SFits w32 c.in-Object.version = search rules in
    rw (c.in-Object.is, object_is) (simp (to_z-of_z, c.as_slice-class.ensures, c.as_slice-parts.ensures) at c.write_parts.ensures)

pub write_value-returns-in-Opaque : goal.write_value-returns-in-Opaque
write_value-returns-in-Opaque g t c = rw (c.in-Opaque.is, opaque_is) (nothing_accepted g.S.Sink.stands (c.args.sink.now, c.args.names.now))

pub write_value-returns-in-Bits32 : goal.write_value-returns-in-Bits32
write_value-returns-in-Bits32 g t c = rw (c.in-Bits32.is, bits32_is) (c.take_u32.ensures c.args.names.now)

pub write_value-returns-in-Bits64 : goal.write_value-returns-in-Bits64
write_value-returns-in-Bits64 g t c = rw (c.in-Bits64.is, bits64_is) (c.take_u64.ensures c.args.names.now)

pub write_value-returns-in-Bool : goal.write_value-returns-in-Bool
write_value-returns-in-Bool g t c = rw (c.in-Bool.is, bool_is) (c.write_bool.ensures c.args.names.now)

pub write_value-take_text-requires : goal.write_value-take_text-requires
write_value-take_text-requires g t c = rw c.as_slice.ensures (text_is_short g.S.Sink.stands g.S.Sink.bounded _ (c.args.sink.now, c.args.names.now) (rw (c.in-Text.is, text_is) at c.requires))

pub write_value-returns-in-Text : goal.write_value-returns-in-Text
write_value-returns-in-Text g t c = rw (c.in-Text.is, text_is) (rw c.as_slice.ensures at (c.take_text.ensures c.args.names.now))

pub write_value-returns-in-Null : goal.write_value-returns-in-Null
write_value-returns-in-Null g t c = rw (c.in-Null.is, null_is) (c.take_u32-in-Null.ensures c.args.names.now)

pub write_value-returns-in-Back : goal.write_value-returns-in-Back
write_value-returns-in-Back g t c = rw (c.in-Back.is, back_is) (c.take_back.ensures c.args.names.now)

pub write_declared-returns-in-None : goal.write_declared-returns-in-None
write_declared-returns-in-None g t c =
    let fits : SFits w32 c.args.version = search rules in
    let none : declared_body c.args.classes.now c.args.class.now c.args.version ≡ None = simp to_z-of_z at (sym c.declared_body.ensures ∙ c.in-None.is) in
    rw none (nothing_accepted g.S.Sink.stands (c.args.sink.now, c.args.names.now))

pub write_counted-returns-then-is_empty : goal.write_counted-returns-then-is_empty
write_counted-returns-then-is_empty g t c =
    let none : length c.args.items.now ≡ 0 = search rules in
    none_counted g.S.Sink.stands g.S.Sink.bounded (writing_of c.args.classes.now) c.args.of c.args.items.now (c.args.sink.now, c.args.names.now) none (c.write_bool.new.sink, c.args.names.now) c.write_bool.result (c.write_bool.ensures c.args.names.now)
