use Rattle.std.proofs.{Common.{◌≡◌, arith, of_z, to_z, w32}, lemmas.Int.{to_z-of_z}}
use Rattle.rio_tree.proofs.written.object_branch.Goals as goal

pub returns : goal.returns
returns c =
    let version : to_z w32 (of_z w32 c.args.branch.now.class_version) ≡ c.args.branch.now.class_version = grind (arith, to_z-of_z) in
    simp (
      c.in_ok-with_int.ensures,
      c.in_ok-with_text.ensures,
      c.as_slice.ensures,
      c.in_ok-with.ensures,
      c.new.ensures,
      version,
    ) at c.object.ensures
