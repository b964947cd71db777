use Rattle.rio_format.proofs.LongestLaws.{longest-List, longest-Object}
use Rattle.rio_format.proofs.longest.+longest.Goals as goal

pub longest_list-returns-in-List : goal.longest_list-returns-in-List
longest_list-returns-in-List t c = rw (c.in-List.is, longest-List, ← c.as_slice.ensures) c.longest_of_items.ensures

pub longest_list-returns-in-Object : goal.longest_list-returns-in-Object
longest_list-returns-in-Object t c = rw (c.in-Object.is, longest-Object, ← c.as_slice-in-Object.ensures) c.longest_of_parts.ensures
