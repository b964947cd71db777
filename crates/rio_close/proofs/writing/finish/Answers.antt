use Rattle.std.proofs.{Common.{◌≡◌, length, ap, sym, ◌∙◌, arith}, lemmas.Option.{same_Some}, lemmas.Result.{on_ok_weaker}}
use Rattle.rio_host.{proofs.Images.{has_length, told_before}, specs.Host.{Any}}
use Rattle.rio_close.proofs.FieldWrites.{end_held, ended_time, half_time, worded_time}
use Rattle.rio_close.proofs.writing.finish.Goals as goal

pub returns-in_err-write_fields-clause-any_moment : goal.returns-in_err-write_fields-clause-any_moment
returns-in_err-write_fields-clause-any_moment g c file holds = half_time _ _ file _ _ c.args.place _ c.args.end (c.write_fields.ensures.any_moment file holds)

pub returns-in_err-write_word-clause-any_moment : goal.returns-in_err-write_word-clause-any_moment
returns-in_err-write_word-clause-any_moment g c file holds =
    let law = g.met.H.Host.lawful in
    let staged = c.in_ok-write_fields.ensures.holds file holds in
    worded_time _ (g.H.Host.view c.write_fields.new.host) file _ _ c.args.place _ c.args.end (c.write_fields.ensures.any_moment file holds)
    staged.0 staged.1 staged.2 c.in_ok-write_fields.ensures.quiet c.write_fields.ensures.writes.said (law c.write_fields.new.host)
    (g.H.Host.view c.write_word.new.self) (law c.write_word.new.self) c.write_word.ensures.disk

pub returns-clause-any_moment : goal.returns-clause-any_moment
returns-clause-any_moment g c file holds =
    let law = g.met.H.Host.lawful in
    let staged = c.in_ok-write_fields.ensures.holds file holds in
    ended_time _ (g.H.Host.view c.write_fields.new.host) file _ _ c.args.place _ c.args.end (c.write_fields.ensures.any_moment file holds)
    staged.0 staged.1 staged.2 c.in_ok-write_fields.ensures.quiet c.write_fields.ensures.writes.said (law c.write_fields.new.host)
    (g.H.Host.view c.write_word.new.self) (g.H.Host.view c.sync.new.self) (law c.write_word.new.self) (law c.sync.new.self) c.write_word.ensures.disk c.sync.ensures.disk

pub returns-clause-holds : goal.returns-clause-holds
returns-clause-holds g c = on_ok_weaker c.sync.result (λ quiet file holds.
    let law = g.met.H.Host.lawful in
    let staged = c.in_ok-write_fields.ensures.holds file holds in
    end_held _ (g.H.Host.view c.write_fields.new.host) file _ _ c.args.place _ c.args.end (c.write_fields.ensures.any_moment file holds)
    staged.0 staged.1 staged.2 c.in_ok-write_fields.ensures.quiet c.write_fields.ensures.writes.said (law c.write_fields.new.host)
    (g.H.Host.view c.write_word.new.self) (g.H.Host.view c.sync.new.self) c.in_ok-write_word.ensures.written c.sync.ensures.holds)
    c.sync.ensures.quiet

pub write_word-requires-clause-within : goal.write_word-requires-clause-within
write_word-requires-clause-within g c bytes told =
    let old = told_before Any (g.H.Host.view c.args.host.now).holds (g.H.Host.view c.write_fields.new.host).holds bytes c.write_fields.ensures.writes.told told in
    let new = c.in_ok-write_fields.ensures.holds old.0 old.1 in
    let same : new.0 ≡ bytes = same_Some new.0 bytes (sym new.1 ∙ told) in
    omega (arith, ap length same, has_length new.0 16 c.args.free.now 11 c.requires.free_size new.2.free_there)
