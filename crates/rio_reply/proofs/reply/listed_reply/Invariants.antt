use Rattle.std.proofs.Common.{◌≡◌, ◌++◌, drop}
use Rattle.std.specs.List.{flat_map}
use Rattle.rio_reply.specs.Told.{listed_line, listing_of}
use Rattle.rio_reply.proofs.reply.listed_reply.Given as goal

abbrev pub invariant-loop-head : goal.invariant-loop-head
invariant-loop-head l = l.text.bytes ++ flat_map listed_line (drop l.head-index l.heads) ≡ listing_of l.heads
