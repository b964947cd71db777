use Rattle.std.proofs.{Common.{◌++◌, drop, length, length-append, length-take, subst, sym, ◌∙◌, arith}, lemmas.Result.{err_from_is_err_and}}
use Rattle.rio_num.specs.Room.{Room}
use Rattle.rio_host.specs.Host.{Becomes}
use Rattle.rootio.specs.Input.{TakenAll}
use Rattle.rootio.proofs.Pieces.{ReadUpTo, all_read, nothing_read, piece_more, stopped}
use Rattle.rootio.proofs.input.read_input.Goals as goal

pub pieces-init : goal.pieces-init
pieces-init g c =
    let start = g.S.Source.view c.args.input.now in
    record {
      read = subst (λ (r : Room). ReadUpTo start start r.bytes) (sym c.new-taken.ensures) (nothing_read start);
      room = omega (arith, c.in_ok-piece.ensures);
    }

pub returns-in_err-take_piece : goal.returns-in_err-take_piece
returns-in_err-take_piece g c =
    let p = err_from_is_err_and c.from_residual-in_err-take_piece.result c.from_residual-in_err-take_piece.ensures.1 in
    rw (p.1, p.2)
    (stopped (g.S.Source.view c.args.input.now) (g.S.Source.view c.pieces.input) (g.S.Source.view c.take_piece.new.input) c.pieces.taken.bytes c.take_piece.new.taken.bytes
    c.in_err-take_piece.field-0.0 c.pieces.invariant.read c.in_err-take_piece.ensures)

pub pieces-preserved : goal.pieces-preserved
pieces-preserved g c =
    let took = rw c.if-branch.true at c.in_ok-take_piece.ensures in
    record {
      read = piece_more (g.S.Source.view c.args.input.now) (g.S.Source.view c.pieces.input) (g.S.Source.view c.take_piece.new.input) c.pieces.taken.bytes c.take_piece.new.taken.bytes
          c.pieces.invariant.read took.0 took.1;
      room =
          let piece = c.take_piece.new.piece in
          let rest = drop (length piece) c.pieces.piece.items in
          omega (arith, c.deref_mut.ensures.len, c.take_piece.auto.piece, c.pieces.piece.ok, c.pieces.invariant.room, length-take c.pieces.piece.len (piece ++ rest), length-append piece rest);
    }

pub returns : goal.returns
returns g c =
    let ended = rw c.if-branch.false at c.in_ok-take_piece.ensures in
    let so = c.pieces.invariant.read in
    let start = g.S.Source.view c.args.input.now in
    let now = g.S.Source.view c.take_piece.new.input in (
      subst (λ l. Becomes (TakenAll l) start.remaining now.remaining) (sym ended.1) (all_read start (g.S.Source.view c.pieces.input) now c.pieces.taken.bytes so ended.0),
      rw ended.1 so.within,
      ended.2 ∙ so.faults,
    )
