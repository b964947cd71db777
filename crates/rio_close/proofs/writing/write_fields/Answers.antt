use Rattle.std.proofs.lemmas.Result.{on_ok_weaker}
use Rattle.rio_close.proofs.FieldWrites.{fields_held, first_time, second_time, synced_time, third_time}
use Rattle.rio_close.proofs.writing.write_fields.Goals as goal

pub returns-in_err-write-clause-any_moment : goal.returns-in_err-write-clause-any_moment
returns-in_err-write-clause-any_moment g c file holds =
    let law = g.met.H.Host.lawful in
    let v1 = g.H.Host.view c.write.new.self in
    first_time _ file _ _ c.args.place _ holds c.requires.quiet (law c.args.host.now) c.requires.later c.requires.free_size c.requires.info_size c.requires.directory_size
    v1 v1 v1 v1 (law c.write.new.self) (law c.write.new.self) (law c.write.new.self) (law c.write.new.self) c.write.ensures.disk

pub returns-in_err-write-2-clause-any_moment : goal.returns-in_err-write-2-clause-any_moment
returns-in_err-write-2-clause-any_moment g c file holds =
    let law = g.met.H.Host.lawful in
    let v1 = g.H.Host.view c.write.new.self in
    let v2 = g.H.Host.view c.write-2.new.self in
    second_time _ file _ _ c.args.place _ holds c.requires.quiet (law c.args.host.now) c.requires.later c.requires.free_size c.requires.info_size c.requires.directory_size
    v1 v2 v2 v2 (law c.write.new.self) (law c.write-2.new.self) (law c.write-2.new.self) (law c.write-2.new.self) c.write.ensures.disk c.write-2.ensures.disk

pub returns-in_err-write-3-clause-any_moment : goal.returns-in_err-write-3-clause-any_moment
returns-in_err-write-3-clause-any_moment g c file holds =
    let law = g.met.H.Host.lawful in
    let v1 = g.H.Host.view c.write.new.self in
    let v2 = g.H.Host.view c.write-2.new.self in
    let v3 = g.H.Host.view c.write-3.new.self in
    third_time _ file _ _ c.args.place _ holds c.requires.quiet (law c.args.host.now) c.requires.later c.requires.free_size c.requires.info_size c.requires.directory_size
    v1 v2 v3 v3 (law c.write.new.self) (law c.write-2.new.self) (law c.write-3.new.self) (law c.write-3.new.self) c.write.ensures.disk c.write-2.ensures.disk c.write-3.ensures.disk

pub returns-clause-any_moment : goal.returns-clause-any_moment
returns-clause-any_moment g c file holds =
    let law = g.met.H.Host.lawful in
    let v1 = g.H.Host.view c.write.new.self in
    let v2 = g.H.Host.view c.write-2.new.self in
    let v3 = g.H.Host.view c.write-3.new.self in
    let v4 = g.H.Host.view c.sync.new.self in
    synced_time _ file _ _ c.args.place _ holds c.requires.quiet (law c.args.host.now) c.requires.later c.requires.free_size c.requires.info_size c.requires.directory_size
    v1 v2 v3 v4 (law c.write.new.self) (law c.write-2.new.self) (law c.write-3.new.self) (law c.sync.new.self) c.write.ensures.disk c.write-2.ensures.disk c.write-3.ensures.disk c.sync.ensures.disk

pub returns-clause-holds : goal.returns-clause-holds
returns-clause-holds g c = on_ok_weaker c.sync.result (λ quiet file holds.
    let law = g.met.H.Host.lawful in
    fields_held _ file _ _ c.args.place _ holds c.requires.quiet (law c.args.host.now) c.requires.later c.requires.free_size c.requires.info_size c.requires.directory_size
    (g.H.Host.view c.write.new.self) (g.H.Host.view c.write-2.new.self) (g.H.Host.view c.write-3.new.self) (g.H.Host.view c.sync.new.self)
    c.in_ok-write.ensures.written c.in_ok-write-2.ensures.written c.in_ok-write-3.ensures.written c.sync.ensures.holds)
    c.sync.ensures.quiet
