use Rattle.std.proofs.{Common.{◌≡◌, append_assoc, arith, of_z, to_z, w32}, lemmas.Int.{to_z-of_z}}
use Rattle.rio_info.proofs.element_value.with_counter.Goals as goal

pub returns : goal.returns
returns c =
    let version : to_z w32 (of_z w32 c.args.owner.now.version) ≡ c.args.owner.now.version = grind (arith, to_z-of_z) in
    simp (
      c.in_ok-with_text.ensures,
      c.in_ok-with_int.ensures,
      c.as_slice.ensures,
      version,
      append_assoc,
    ) at c.with_text-2.ensures
