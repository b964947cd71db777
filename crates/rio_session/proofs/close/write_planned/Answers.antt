use Rattle.std.proofs.{Common.{◌∙◌, List, ℕ, length, ap, arith, refl, subst, sym}, lemmas.Option.{same_Some}}
use Rattle.rio_host.{proofs.Images.{told_before}, specs.Host.{Any}}
use Rattle.rio_chain.specs.{Chains.{HasChain}, declared.segment.Segment.{Segment}}
use Rattle.rio_session.specs.{Changing.{links_at}, Closes.{open_file}, Fillings.{closing}, Steps.{CanRun, all_stepped}}
use Rattle.rio_session.proofs.CloseWritten.{closed_then, directory_there, planned_saves, ready, saving_time, told_then, writing_time, written_then}
use Rattle.rio_session.proofs.close.write_planned.Goals as goal

pub make_changes-requires-clause-run : goal.make_changes-requires-clause-run
make_changes-requires-clause-run g c =
    let w = c.requires.planned in subst (CanRun c.args.planned.steps.items) w.1.same w.1.planned.steps_are.run

pub returns-in_err-make_changes-clause-any_moment : goal.returns-in_err-make_changes-clause-any_moment
returns-in_err-make_changes-clause-any_moment g c s m text can stands =
    saving_time c.headers_have_records.ensures (g.H.Host.view c.args.host.now) s m text c.args.chain.now.segments c.args.planned.steps.items c.args.planned.records can stands (g.H.Host.view c.make_changes.new.host)
    (c.make_changes.ensures.any_moment (planned_saves s c.args.planned.steps.items) s can.same refl)

pub write_close-requires-clause-holds : goal.write_close-requires-clause-holds
write_close-requires-clause-holds g c file told =
    let w = c.requires.planned in
    let before = told_before Any _ _ file c.make_changes.ensures.writes.told told in
    let has = c.requires.holds before.0 before.1 in
    let u = c.in_ok-make_changes.ensures.done (planned_saves w.0 c.args.planned.steps.items) w.0 w.1.same refl in
    let then_held = u.holds before.0 has.0 before.1 (subst (λ (ss : List Segment). HasChain has.0 ss before.0) (sym w.1.same) has.1) in
    let same = same_Some then_held.0 file (sym then_held.1 ∙ told) in
    let p = planned_saves w.0 c.args.planned.steps.items in
    (links_at p (length p.changes) has.0, subst (λ (f : List ℕ). HasChain (links_at p (length p.changes) has.0) c.make_changes.new.chain.segments f) same then_held.2)

pub write_close-requires-clause-records : goal.write_close-requires-clause-records
write_close-requires-clause-records g c =
    let w = c.requires.planned in (
      open_file (closing w.0).kept,
      sym (c.in_ok-make_changes.ensures.chain ∙ ap (all_stepped c.args.planned.steps.items) (sym w.1.same) ∙ w.1.planned.steps_are.segments_are),
      w.1.planned.made,
    )

pub write_close-requires-clause-directory : goal.write_close-requires-clause-directory
write_close-requires-clause-directory g c file told =
    let w = c.requires.planned in
    directory_there w.0 c.args.chain.now.segments c.make_changes.new.chain.segments c.args.planned.steps.items c.args.planned.records w.1 c.in_ok-make_changes.ensures.chain

pub write_close-requires-clause-room : goal.write_close-requires-clause-room
write_close-requires-clause-room g c = omega (arith, c.requires.room, c.in_ok-make_changes.ensures.spare)

pub returns-in_err-write_close-clause-any_moment : goal.returns-in_err-write_close-clause-any_moment
returns-in_err-write_close-clause-any_moment g c s m text can stands =
    let v = g.H.Host.view c.args.host.now in
    let mid = g.H.Host.view c.make_changes.new.host in
    let segments = c.args.chain.now.segments in
    let segments_then = c.make_changes.new.chain.segments in
    let steps = c.args.planned.steps.items in
    let records = c.args.planned.records in
    let headers = c.headers_have_records.ensures in
    let u = c.in_ok-make_changes.ensures.done (planned_saves s c.args.planned.steps.items) s can.same refl in
    let are = c.in_ok-make_changes.ensures.chain in
    writing_time headers v s m text segments steps records can stands mid segments_then u are (g.H.Host.view c.write_close.new.host)
    (c.write_close.ensures.any_moment _ _ (ready headers v s m text segments steps records can stands mid segments_then u are))

pub returns-clause-any_moment : goal.returns-clause-any_moment
returns-clause-any_moment g c s m text can stands =
    let v = g.H.Host.view c.args.host.now in
    let mid = g.H.Host.view c.make_changes.new.host in
    let segments = c.args.chain.now.segments in
    let segments_then = c.make_changes.new.chain.segments in
    let steps = c.args.planned.steps.items in
    let records = c.args.planned.records in
    let headers = c.headers_have_records.ensures in
    let u = c.in_ok-make_changes.ensures.done (planned_saves s c.args.planned.steps.items) s can.same refl in
    let are = c.in_ok-make_changes.ensures.chain in
    writing_time headers v s m text segments steps records can stands mid segments_then u are (g.H.Host.view c.write_close.new.host)
    (c.write_close.ensures.any_moment _ _ (ready headers v s m text segments steps records can stands mid segments_then u are))

pub returns-clause-closed : goal.returns-clause-closed
returns-clause-closed g c s m text can stands image said left =
    let v = g.H.Host.view c.args.host.now in
    let mid = g.H.Host.view c.make_changes.new.host in
    let segments = c.args.chain.now.segments in
    let segments_then = c.make_changes.new.chain.segments in
    let steps = c.args.planned.steps.items in
    let records = c.args.planned.records in
    let headers = c.headers_have_records.ensures in
    let u = c.in_ok-make_changes.ensures.done (planned_saves s c.args.planned.steps.items) s can.same refl in
    let are = c.in_ok-make_changes.ensures.chain in
    closed_then headers v s m text segments steps records can stands mid segments_then u are (g.H.Host.view c.write_close.new.host) c.in_ok-write_close.ensures.quiet
    (c.in_ok-write_close.ensures.closed _ _ (ready headers v s m text segments steps records can stands mid segments_then u are)) image said left

pub returns-clause-written : goal.returns-clause-written
returns-clause-written g c s m text can stands =
    let v = g.H.Host.view c.args.host.now in
    let mid = g.H.Host.view c.make_changes.new.host in
    let segments = c.args.chain.now.segments in
    let segments_then = c.make_changes.new.chain.segments in
    let steps = c.args.planned.steps.items in
    let records = c.args.planned.records in
    let headers = c.headers_have_records.ensures in
    let u = c.in_ok-make_changes.ensures.done (planned_saves s c.args.planned.steps.items) s can.same refl in
    let are = c.in_ok-make_changes.ensures.chain in
    written_then headers v s m text segments steps records can stands mid segments_then u are (g.H.Host.view c.write_close.new.host)
    (c.in_ok-write_close.ensures.written _ _ (ready headers v s m text segments steps records can stands mid segments_then u are))

pub returns-clause-records : goal.returns-clause-records
returns-clause-records g c s m text can stands =
    let u = c.in_ok-make_changes.ensures.done (planned_saves s c.args.planned.steps.items) s can.same refl in
    told_then c.headers_have_records.ensures (g.H.Host.view c.args.host.now) s m text c.args.chain.now.segments c.args.planned.steps.items c.args.planned.records can stands (g.H.Host.view c.make_changes.new.host)
    c.make_changes.new.chain.segments u c.in_ok-make_changes.ensures.chain
