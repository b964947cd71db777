use Rattle.std.proofs.Common.{◌≡◌, ◌*◌, ◌+◌, ◌-◌, length}
use Rattle.rio_token.specs.Reading.{more_at}
use Rattle.rio_model.specs.ValueGrammar.{enclosed_at, part_at, value_in_text}
use Rattle.rio_valtext.proofs.read.+value.Given as goal

abbrev pub decreases-read_list : goal.decreases-read_list
decreases-read_list l = 10 * l.levels

abbrev pub decreases-read_object : goal.decreases-read_object
decreases-read_object l = 10 * l.levels + 1

abbrev pub decreases-read_pointer : goal.decreases-read_pointer
decreases-read_pointer l = 10 * l.levels + 3

abbrev pub decreases-read_marked : goal.decreases-read_marked
decreases-read_marked l = 10 * l.levels + 4

abbrev pub decreases-read_word : goal.decreases-read_word
decreases-read_word l = 10 * l.levels + 4

abbrev pub decreases-read_next : goal.decreases-read_next
decreases-read_next l = 10 * l.levels + 5

abbrev pub decreases-read_named : goal.decreases-read_named
decreases-read_named l = 10 * l.levels + 6

abbrev pub decreases-push_part : goal.decreases-push_part
decreases-push_part l = 10 * l.levels + 7

abbrev pub decreases-push_next : goal.decreases-push_next
decreases-push_next l = 10 * l.levels + 6

abbrev pub decreases-read_more_items : goal.decreases-read_more_items
decreases-read_more_items l = 10 * l.levels + 7

abbrev pub decreases-read_items : goal.decreases-read_items
decreases-read_items l = 10 * l.levels + 8

abbrev pub decreases-read_values : goal.decreases-read_values
decreases-read_values l = 10 * l.levels + 9

abbrev pub decreases-read_more_parts : goal.decreases-read_more_parts
decreases-read_more_parts l = 10 * l.levels + 8

abbrev pub decreases-read_parts : goal.decreases-read_parts
decreases-read_parts l = 10 * l.levels + 9

abbrev pub invariant-read_more_items-loop-done : goal.invariant-read_more_items-loop-done
invariant-read_more_items-loop-done l =
    more_at (l._done-end - l._done) 93 (λ before. value_in_text (enclosed_at l.levels)) l.items l.tokens ≡ more_at (length l.fn.tokens.rest) 93 (λ before. value_in_text (enclosed_at l.levels)) l.fn.items l.fn.tokens

abbrev pub invariant-read_more_parts-loop-done : goal.invariant-read_more_parts-loop-done
invariant-read_more_parts-loop-done l =
    more_at (l._done-end - l._done) 125 (λ before. part_at (enclosed_at l.levels)) l.parts l.tokens ≡ more_at (length l.fn.tokens.rest) 125 (λ before. part_at (enclosed_at l.levels)) l.fn.parts l.fn.tokens
