-- The tree that was found of a key, or the text in its place.
use Rattle.std.specs.Prelude.{◌≡◌, ℕ, List, Result, Ok, Err}
use Rattle.rio_num.specs.Room.{Room}
use Rattle.rio_tree.specs.declared.head.TreeHead.{TreeHead}

abbrev pub TreeOrText : Type 0
TreeOrText = Result TreeHead (List ℕ)

-- it is this one; how many bytes more are promised to fit isn't said
abbrev pub IsFoundTree : Result TreeHead Room → TreeOrText → Type 0
IsFoundTree (Ok head) tree = tree ≡ Ok head
IsFoundTree (Err text) tree = tree ≡ Err text.bytes
