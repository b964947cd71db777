use Rattle.std.proofs.Common.{◌∙◌, arith, refl, sym}
use Rattle.rio_session.proofs.ClosePlanned.{close_planned, info_low, keys_fit, name_short, room_left}
use Rattle.rio_session.proofs.closing.plan_close.Goals as goal

pub plan_saves-requires-clause-can : goal.plan_saves-requires-clause-can
plan_saves-requires-clause-can c = let w = c.requires.can in (w.0, w.1.saves)

pub close_records-requires-clause-heads : goal.close_records-requires-clause-heads
close_records-requires-clause-heads c =
    let w = c.requires.can in keys_fit w.0 _ _ _ _ _ _ _ w.1 _ _ _ (c.in_ok-saves.ensures.planned w.0 w.1.saves)

pub close_records-requires-clause-info : goal.close_records-requires-clause-info
close_records-requires-clause-info c = let w = c.requires.can in info_low w.0 _ _ _ _ _ _ _ w.1 c.args.info refl c.end-end.ensures.shape

pub close_records-requires-clause-name : goal.close_records-requires-clause-name
close_records-requires-clause-name c = let w = c.requires.can in name_short w.0 _ _ _ _ _ _ _ w.1

pub close_records-requires-clause-low : goal.close_records-requires-clause-low
close_records-requires-clause-low c =
    let w = c.requires.can in room_left w.0 _ _ _ _ _ _ _ w.1 _ _ _ (c.in_ok-saves.ensures.planned w.0 w.1.saves)

pub returns : goal.returns
returns c s can =
    close_planned s _ _ _ _ _ _ _ can _ _ _ (c.in_ok-saves.ensures.planned s can.saves) (omega arith) (sym c.have_cycles.ensures ∙ c.if-not-have_cycles.false) c.in_ok-records.records c.in_ok-records.ensures
