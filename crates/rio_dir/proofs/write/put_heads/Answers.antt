use Rattle.std.proofs.Common.{◌≡◌, ◌∙◌, ◌-◌, ◌++◌, length, ap, arith}
use Rattle.std.specs.List.{flat_map}
use Rattle.rio_num.specs.Room.{Room}
use Rattle.rio_key.specs.{Written.{written_key}, declared.head.KeyHead.{KeyHead}}
use Rattle.rio_dir.proofs.TableWritten.{all_written, length-flat, none_left, one_written, size_left}
use Rattle.rio_dir.proofs.write.put_heads.Goals as goal

pub loop-head-preserved : goal.loop-head-preserved
loop-head-preserved c =
    let heads = c.args.heads.now in
    let i = c.loop-head.head-index in
    let h = c.head-item.result in
    let bytes = ap (λ (r : Room). r.bytes) c.in_ok-write_key.ensures ∙ ap (λ (k : KeyHead). c.loop-head.into.bytes ++ written_key k) c.get.ensures in
    let spare = ap (λ (r : Room). r.spare) c.in_ok-write_key.ensures in
    let left = size_left written_key heads i h c.loop-head-test.true c.head-item.is in
    record {
      written = one_written written_key heads i h c.loop-head.into.bytes c.write_key.new.into.bytes _ c.loop-head-test.true c.head-item.is bytes c.loop-head.invariant.written;
      spare = omega (arith, spare, ap (λ (k : KeyHead). length (written_key k)) c.get.ensures, left, c.loop-head.invariant.spare, c.requires.room);
    }

pub returns : goal.returns
returns c =
    let heads = c.args.heads.now in
    let bytes = all_written written_key heads c.loop-head.head-index c.loop-head.into.bytes c.args.into.now.bytes c.loop-head-test.false c.loop-head.invariant.written in
    let spare : c.loop-head.into.spare ≡ c.args.into.now.spare - length (flat_map written_key heads) = omega (arith, c.loop-head.invariant.spare, none_left written_key heads c.loop-head.head-index c.loop-head-test.false, length-flat written_key heads) in
    λ i. record { bytes = bytes i; spare = spare i }
