use Rattle.std.proofs.Common.{◌<◌, length}
use Rattle.rootio.proofs.Pieces.{ReadUpTo, bytes_left}
use Rattle.rootio.proofs.input.read_input.Given as goal

abbrev pub invariant-pieces : goal.invariant-pieces
invariant-pieces g l = record {
  read : ReadUpTo (g.S.Source.view l.fn.input) (g.S.Source.view l.input) l.taken.bytes;
  room : 0 < length l.piece.items;
}

abbrev pub decreases-pieces : goal.decreases-pieces
decreases-pieces g l = bytes_left l.taken.bytes
