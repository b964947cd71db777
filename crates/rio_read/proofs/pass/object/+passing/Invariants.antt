use Rattle.std.proofs.Common.{◌≡◌, ◌*◌, ◌+◌, ◌-◌, [], drop}
use Rattle.rio_num.specs.{At.{GoesOn}, Layout.{each, times}, Meanings.{read}}
use Rattle.rio_format.specs.Objects.{base_part, link, member_parts, object_of, pointer}
use Rattle.rio_read.specs.Passing.{pass_of}
use Rattle.rio_read.proofs.pass.object.+passing.Given as goal

abbrev pub decreases-pass_object : goal.decreases-pass_object
decreases-pass_object l = 10 * l.levels

abbrev pub decreases-pass_base_part : goal.decreases-pass_base_part
decreases-pass_base_part l = 10 * l.levels + 1

abbrev pub decreases-pass_new : goal.decreases-pass_new
decreases-pass_new l = 10 * l.levels + 1

abbrev pub decreases-pass_pointer : goal.decreases-pass_pointer
decreases-pass_pointer l = 10 * l.levels + 2

abbrev pub decreases-pass_bases : goal.decreases-pass_bases
decreases-pass_bases l = 10 * l.levels + 2

abbrev pub decreases-pass_kind : goal.decreases-pass_kind
decreases-pass_kind l = 10 * l.levels + 3

abbrev pub decreases-pass_link : goal.decreases-pass_link
decreases-pass_link l = 10 * l.levels + 3

abbrev pub decreases-pass_pointers : goal.decreases-pass_pointers
decreases-pass_pointers l = 10 * l.levels + 3

abbrev pub decreases-pass_member : goal.decreases-pass_member
decreases-pass_member l = 10 * l.levels + 4

abbrev pub decreases-pass_links : goal.decreases-pass_links
decreases-pass_links l = 10 * l.levels + 4

abbrev pub decreases-pass_array_parts : goal.decreases-pass_array_parts
decreases-pass_array_parts l = 10 * l.levels + 4

abbrev pub decreases-pass_members : goal.decreases-pass_members
decreases-pass_members l = 10 * l.levels + 5

abbrev pub decreases-pass_list_parts : goal.decreases-pass_list_parts
decreases-pass_list_parts l = 10 * l.levels + 5

abbrev pub decreases-pass_parts : goal.decreases-pass_parts
decreases-pass_parts l = 10 * l.levels + 6

abbrev pub decreases-pass_listed : goal.decreases-pass_listed
decreases-pass_listed l = 10 * l.levels + 6

abbrev pub decreases-pass_body : goal.decreases-pass_body
decreases-pass_body l = 10 * l.levels + 7

abbrev pub decreases-pass_headed : goal.decreases-pass_headed
decreases-pass_headed l = 10 * l.levels + 8

abbrev pub decreases-pass_formed : goal.decreases-pass_formed
decreases-pass_formed l = 10 * l.levels + 9

abbrev pub invariant-pass_bases-loop-base : goal.invariant-pass_bases-loop-base
invariant-pass_bases-loop-base l =
    (read (pass_of (each (base_part (object_of l.levels l.classes)) (drop l.base-index l.bases))) l.reader ≡ read (pass_of (each (base_part (object_of l.levels l.classes)) l.bases)) l.fn.reader)
    × GoesOn l.fn.reader.at l.reader.at

abbrev pub invariant-pass_members-loop-member : goal.invariant-pass_members-loop-member
invariant-pass_members-loop-member l =
    (read (pass_of (member_parts (object_of l.levels l.classes) l.counters (drop l.member-index l.members))) l.reader ≡ read (pass_of (member_parts (object_of l.levels l.classes) [] l.members)) l.fn.reader)
    × GoesOn l.fn.reader.at l.reader.at

abbrev pub invariant-pass_links-loop-done : goal.invariant-pass_links-loop-done
invariant-pass_links-loop-done l =
    (read (pass_of (times (l.count - l._done) (link (object_of l.levels l.classes)))) l.reader ≡ read (pass_of (times l.count (link (object_of l.levels l.classes)))) l.fn.reader)
    × GoesOn l.fn.reader.at l.reader.at

abbrev pub invariant-pass_pointers-loop-done : goal.invariant-pass_pointers-loop-done
invariant-pass_pointers-loop-done l =
    (read (pass_of (times (l.count - l._done) (pointer (object_of l.levels l.classes)))) l.reader ≡ read (pass_of (times l.count (pointer (object_of l.levels l.classes)))) l.fn.reader)
    × GoesOn l.fn.reader.at l.reader.at
