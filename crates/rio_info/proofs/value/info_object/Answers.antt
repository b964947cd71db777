use Rattle.std.proofs.{Common.{◌≡◌, arith, of_z, to_z, w32}, lemmas.Int.{to_z-of_z}}
use Rattle.rio_format.specs.WrittenList.{info_object}
use Rattle.rio_info.proofs.value.info_object.Goals as goal

pub returns : goal.returns
unfolding info_object
returns c =
    let version : to_z w32 (of_z w32 c.args.class.now.version) ≡ c.args.class.now.version = grind (arith, to_z-of_z) in
    simp (
      c.in_ok-with-2.ensures,
      c.in_ok-with_int.ensures,
      c.in_ok-with_number.ensures,
      c.in_ok-with.ensures,
      c.in_ok-titled_object.ensures,
      c.new-2.ensures,
      c.as_slice.ensures,
      c.from.ensures,
      c.new.ensures,
      version,
    ) at c.object.ensures
