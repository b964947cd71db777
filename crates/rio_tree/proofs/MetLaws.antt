-- What the tables of leaves say with one leaf more.
use Rattle.std.proofs.Common.{◌≡◌, Bool, true, false, cond, Option, Some, refl, ap, ◌∙◌}
use Rattle.std.specs.Option.{option_map}
use Rattle.rio_tree.specs.{declared.met.MetLeaf.{MetLeaf}, Tables.{leaf_of}}

map_cond : (b : Bool) (x : MetLeaf) (o : Option MetLeaf) → option_map leaf_of (cond b (Some x) o) ≡ cond b (Some (leaf_of x)) (option_map leaf_of o)
map_cond true x o = refl
map_cond false x o = refl

-- one look-up after a change
pub found_more : (b : Bool) (x : MetLeaf) (after before : Option MetLeaf) → after ≡ cond b (Some x) before → option_map leaf_of after ≡ cond b (Some (leaf_of x)) (option_map leaf_of before)
found_more b x after before e = ap (option_map leaf_of) e ∙ map_cond b x before
