-- Whether two values are equal, by the trees of numbers that stand for them.
use Rattle.std.specs.{Prelude.{Bool, true, false, ◌&&◌, ◌==◌}, Coded.{Coded}}
use base.Stored.{Gv, gnil, gnum, gcons}

abbrev pub is_same_tree : Gv → Gv → Bool
is_same_tree gnil gnil = true
is_same_tree gnil (gnum n) = false
is_same_tree gnil (gcons c d) = false
is_same_tree (gnum m) gnil = false
is_same_tree (gnum m) (gnum n) = m == n
is_same_tree (gnum m) (gcons c d) = false
is_same_tree (gcons a b) gnil = false
is_same_tree (gcons a b) (gnum n) = false
is_same_tree (gcons a b) (gcons c d) = is_same_tree a c && is_same_tree b d

abbrev pub is_coded_same : {A : Type 0} → Coded A → A → A → Bool
is_coded_same coded a b = is_same_tree (coded.code a) (coded.code b)
