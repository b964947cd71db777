use Rattle.std.proofs.Common.{◌≡◌, ◌*◌, ◌+◌, ◌-◌, [], drop}
use Rattle.rio_num.specs.{At.{GoesOn}, Layout.{each, times}, Meanings.{read}}
use Rattle.rio_format.specs.Objects.{base_part, link, member_parts, object_of, pointer}
use Rattle.rio_read.specs.Lists.{with_front}
use Rattle.rio_read.proofs.object.+object.Given as goal

abbrev pub decreases-read_object : goal.decreases-read_object
decreases-read_object l = 9 * l.levels

abbrev pub decreases-read_base_part : goal.decreases-read_base_part
decreases-read_base_part l = 9 * l.levels + 1

abbrev pub decreases-read_pointer : goal.decreases-read_pointer
decreases-read_pointer l = 9 * l.levels + 1

abbrev pub decreases-read_kind : goal.decreases-read_kind
decreases-read_kind l = 9 * l.levels + 2

abbrev pub decreases-read_link : goal.decreases-read_link
decreases-read_link l = 9 * l.levels + 2

abbrev pub decreases-read_bases : goal.decreases-read_bases
decreases-read_bases l = 9 * l.levels + 2

abbrev pub decreases-read_pointers : goal.decreases-read_pointers
decreases-read_pointers l = 9 * l.levels + 2

abbrev pub decreases-read_member : goal.decreases-read_member
decreases-read_member l = 9 * l.levels + 3

abbrev pub decreases-read_links : goal.decreases-read_links
decreases-read_links l = 9 * l.levels + 3

abbrev pub decreases-read_array_parts : goal.decreases-read_array_parts
decreases-read_array_parts l = 9 * l.levels + 3

abbrev pub decreases-read_members : goal.decreases-read_members
decreases-read_members l = 9 * l.levels + 4

abbrev pub decreases-read_list_parts : goal.decreases-read_list_parts
decreases-read_list_parts l = 9 * l.levels + 4

abbrev pub decreases-read_parts : goal.decreases-read_parts
decreases-read_parts l = 9 * l.levels + 5

abbrev pub decreases-read_body : goal.decreases-read_body
decreases-read_body l = 9 * l.levels + 6

abbrev pub decreases-read_headed : goal.decreases-read_headed
decreases-read_headed l = 9 * l.levels + 7

abbrev pub decreases-read_formed : goal.decreases-read_formed
decreases-read_formed l = 9 * l.levels + 8

abbrev pub invariant-read_bases-loop-base : goal.invariant-read_bases-loop-base
invariant-read_bases-loop-base l =
    (with_front l.parts (read (each (base_part (object_of l.levels l.classes)) (drop l.base-index l.bases)) l.reader) ≡ read (each (base_part (object_of l.levels l.classes)) l.bases) l.fn.reader)
    × GoesOn l.fn.reader.at l.reader.at

abbrev pub invariant-read_members-loop-member : goal.invariant-read_members-loop-member
invariant-read_members-loop-member l =
    (with_front l.parts (read (member_parts (object_of l.levels l.classes) l.counters (drop l.member-index l.members)) l.reader) ≡ with_front l.fn.parts (read (member_parts (object_of l.levels l.classes) [] l.members) l.fn.reader))
    × GoesOn l.fn.reader.at l.reader.at

abbrev pub invariant-read_links-loop-done : goal.invariant-read_links-loop-done
invariant-read_links-loop-done l =
    (with_front l.links (read (times (l.count - l._done) (link (object_of l.levels l.classes))) l.reader) ≡ read (times l.count (link (object_of l.levels l.classes))) l.fn.reader)
    × GoesOn l.fn.reader.at l.reader.at

abbrev pub invariant-read_pointers-loop-done : goal.invariant-read_pointers-loop-done
invariant-read_pointers-loop-done l =
    (with_front l.pointers (read (times (l.count - l._done) (pointer (object_of l.levels l.classes))) l.reader) ≡ read (times l.count (pointer (object_of l.levels l.classes))) l.fn.reader)
    × GoesOn l.fn.reader.at l.reader.at
