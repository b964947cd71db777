use Rattle.std.proofs.{Common.{◌++◌, Some, refl}, lemmas.Result.{IfOk-from_err, err_from_is_err_and}}
use Rattle.rio_host.proofs.{PiecesLaws.{grown_join}, ReadsLaws.{reads_none}}
use Rattle.rio_csv.specs.Unread.{TakesFirst}
use Rattle.rio_machine.specs.declared.command.Outcome.{Outcome}
use Rattle.rootio.specs.{Headline.{replies}, Script.{commands_in, session_run}}
use Rattle.rootio.proofs.{Doing.{all_done, cause_behind, does_next, ends_at, fault_again, leaves_open, room_there, stands_between, stops_there, unsaid_there}, Room.{room_between}, Untouched.{any_join}}
use Rattle.rootio.proofs.{Feeding.{begins_from, fewer_left, goes_on, next_is, next_statable, next_within, none_left}, RunStops.{behind}}
use Rattle.rootio.proofs.source.do_from.Goals as goal

pub each-init : goal.each-init
each-init g c =
    begins_from c.args.replies (g.H.Host.view c.args.host.now) c.args.session.now (g.C.CommandSource.left c.args.commands.now) c.requires.known c.requires.ready c.requires.fresh

pub do_command-requires : goal.do_command-requires
do_command-requires g c =
    let left = g.C.CommandSource.left c.each.commands in
    let new = g.C.CommandSource.left c.next_command.new.self in
    let took : TakesFirst left (Some c.in-Some.command) new = rw c.in-Some.is at c.in_ok-command.ensures in
    let so = c.each.invariant in
    record {
      fresh = so.doing.fresh;
      statable = next_statable c.args.replies (g.H.Host.view c.args.host.now) (g.H.Host.view c.each.host) c.args.session.now c.each.session
          (commands_in (g.C.CommandSource.left c.args.commands.now)) left new so c.in-Some.command took c.requires.statable;
      ready = so.doing.ready;
    }

pub each-preserved : goal.each-preserved
each-preserved g c =
    let start = g.H.Host.view c.args.host.now in
    let v = g.H.Host.view c.each.host in
    let v1 = g.H.Host.view c.do_command.new.host in
    let all = commands_in (g.C.CommandSource.left c.args.commands.now) in
    let left = g.C.CommandSource.left c.each.commands in
    let new = g.C.CommandSource.left c.next_command.new.self in
    let took : TakesFirst left (Some c.in-Some.command) new = rw c.in-Some.is at c.in_ok-command.ensures in
    let so = c.each.invariant in
    let e = c.in_ok-do_command.ensures in
    goes_on c.args.replies start v c.args.session.now c.each.session all left new so c.in-Some.command took v1 c.do_command.new.session
    (does_next c.args.replies start v v1 c.args.session.now c.each.session c.do_command.new.session all so.k c.in-Some.command
    (next_within c.args.replies start v c.args.session.now c.each.session all left new so c.in-Some.command took)
    (next_is c.args.replies start v c.args.session.now c.each.session all left new so c.in-Some.command took) so.doing c.in_ok-do_command.field-0
    e.kept.done e.records e.marks e.kept.ready e.kept.failed e.file.told e.text.said e.kept.cause)

pub each-preserved-in_ok-do_command : goal.each-preserved-in_ok-do_command
each-preserved-in_ok-do_command g c =
    let start = g.H.Host.view c.args.host.now in
    let v = g.H.Host.view c.each.host in
    let v1 = g.H.Host.view c.do_command.new.host in
    let all = commands_in (g.C.CommandSource.left c.args.commands.now) in
    let left = g.C.CommandSource.left c.each.commands in
    let new = g.C.CommandSource.left c.next_command.new.self in
    let took : TakesFirst left (Some c.in-Some.command) new = rw c.in-Some.is at c.in_ok-command.ensures in
    let so = c.each.invariant in
    let e = c.in_ok-do_command.ensures in
    goes_on c.args.replies start v c.args.session.now c.each.session all left new so c.in-Some.command took v1 c.do_command.new.session
    (does_next c.args.replies start v v1 c.args.session.now c.each.session c.do_command.new.session all so.k c.in-Some.command
    (next_within c.args.replies start v c.args.session.now c.each.session all left new so c.in-Some.command took)
    (next_is c.args.replies start v c.args.session.now c.each.session all left new so c.in-Some.command took) so.doing c.in_ok-do_command.field-0
    e.kept.done e.records e.marks e.kept.ready e.kept.failed e.file.told e.text.said e.kept.cause)

pub each-preserved-in_ok-do_command-2 : goal.each-preserved-in_ok-do_command-2
each-preserved-in_ok-do_command-2 g c =
    let start = g.H.Host.view c.args.host.now in
    let v = g.H.Host.view c.each.host in
    let v1 = g.H.Host.view c.do_command.new.host in
    let all = commands_in (g.C.CommandSource.left c.args.commands.now) in
    let left = g.C.CommandSource.left c.each.commands in
    let new = g.C.CommandSource.left c.next_command.new.self in
    let took : TakesFirst left (Some c.in-Some.command) new = rw c.in-Some.is at c.in_ok-command.ensures in
    let so = c.each.invariant in
    let e = c.in_ok-do_command.ensures in
    goes_on c.args.replies start v c.args.session.now c.each.session all left new so c.in-Some.command took v1 c.do_command.new.session
    (does_next c.args.replies start v v1 c.args.session.now c.each.session c.do_command.new.session all so.k c.in-Some.command
    (next_within c.args.replies start v c.args.session.now c.each.session all left new so c.in-Some.command took)
    (next_is c.args.replies start v c.args.session.now c.each.session all left new so c.in-Some.command took) so.doing c.in_ok-do_command.field-0
    e.kept.done e.records e.marks e.kept.ready e.kept.failed e.file.told e.text.said e.kept.cause)

pub each-preserved-in_ok-do_command-3 : goal.each-preserved-in_ok-do_command-3
each-preserved-in_ok-do_command-3 g c =
    let start = g.H.Host.view c.args.host.now in
    let v = g.H.Host.view c.each.host in
    let v1 = g.H.Host.view c.do_command.new.host in
    let all = commands_in (g.C.CommandSource.left c.args.commands.now) in
    let left = g.C.CommandSource.left c.each.commands in
    let new = g.C.CommandSource.left c.next_command.new.self in
    let took : TakesFirst left (Some c.in-Some.command) new = rw c.in-Some.is at c.in_ok-command.ensures in
    let so = c.each.invariant in
    let e = c.in_ok-do_command.ensures in
    goes_on c.args.replies start v c.args.session.now c.each.session all left new so c.in-Some.command took v1 c.do_command.new.session
    (does_next c.args.replies start v v1 c.args.session.now c.each.session c.do_command.new.session all so.k c.in-Some.command
    (next_within c.args.replies start v c.args.session.now c.each.session all left new so c.in-Some.command took)
    (next_is c.args.replies start v c.args.session.now c.each.session all left new so c.in-Some.command took) so.doing c.in_ok-do_command.field-0
    e.kept.done e.records e.marks e.kept.ready e.kept.failed e.file.told e.text.said e.kept.cause)

pub each-smaller : goal.each-smaller
each-smaller g c =
    let left = g.C.CommandSource.left c.each.commands in
    let new = g.C.CommandSource.left c.next_command.new.self in
    let took : TakesFirst left (Some c.in-Some.command) new = rw c.in-Some.is at c.in_ok-command.ensures in
    fewer_left left new c.in-Some.command took

pub returns-in_err-command : goal.returns-in_err-command
returns-in_err-command g c =
    let p = err_from_is_err_and c.from_residual.result c.from_residual.ensures.1 in
    let so = c.each.invariant in
    let v = g.H.Host.view c.each.host in
    let all = commands_in (g.C.CommandSource.left c.args.commands.now) in
    record {
      stops = λ file text m stands. (so.doing.sofar m text stands).time file;
      unclosed = λ m text stands. rw (p.1, p.2) (
          stands_between c.args.replies (g.H.Host.view c.args.host.now) v v c.args.session.now c.each.session all so.k so.within so.doing m text stands
          (g.met.H.Host.lawful c.each.host) (reads_none v) refl);
      no_say_fault = λ omitted. rw (p.1, p.2) (λ e. absurd cc);
      room = λ m text stands none.
          let r = session_run c.args.replies c.args.session.now stands.state.links m all in
          let sofar = so.doing.sofar m text stands in
          room_between c.args.session.now c.each.session r text so.k so.within sofar.costs none v sofar.stands.said;
      done = IfOk-from_err c.from_residual.result _ c.from_residual.ensures.0;
      ready = IfOk-from_err c.from_residual.result _ c.from_residual.ensures.0;
      fresh = IfOk-from_err c.from_residual.result _ c.from_residual.ensures.0;
      told = so.doing.told;
      said = so.doing.said;
      cause = rw (p.1, p.2) so.doing.none;
    }

pub returns-in_err-do_command : goal.returns-in_err-do_command
returns-in_err-do_command g c =
    let p = err_from_is_err_and c.from_residual-in_err-do_command.result c.from_residual-in_err-do_command.ensures.1 in
    let start = g.H.Host.view c.args.host.now in
    let v = g.H.Host.view c.each.host in
    let v1 = g.H.Host.view c.do_command.new.host in
    let first = c.args.session.now in
    let s = c.each.session in
    let s1 = c.do_command.new.session in
    let all = commands_in (g.C.CommandSource.left c.args.commands.now) in
    let left = g.C.CommandSource.left c.each.commands in
    let new = g.C.CommandSource.left c.next_command.new.self in
    let command = c.in-Some.command in
    let took : TakesFirst left (Some command) new = rw c.in-Some.is at c.in_ok-command.ensures in
    let so = c.each.invariant in
    let within = next_within c.args.replies start v first s all left new so command took in
    let is = next_is c.args.replies start v first s all left new so command took in
    let e = c.in_err-do_command.ensures in
    record {
      stops = λ file text m stands. stops_there c.args.replies start v v1 first s s1 all so.k command within is so.doing e.file.any_moment e.marks file text m stands;
      unclosed = λ m text stands. rw (p.1, p.2) (
          ends_at c.args.replies start v v1 first s all so.k so.within so.doing m text stands c.in_err-do_command.field-0.0 (g.met.H.Host.lawful c.do_command.new.host)
          (leaves_open c.args.replies start v v1 first s all so.k command so.doing (g.met.H.Host.lawful c.do_command.new.host) e.file.any_moment m text stands)
          (λ none. (e.kept.no_memory none).1) e.text.silent
          (λ f. unsaid_there c.args.replies start v v1 first s s1 all so.k command within is so.doing c.in_err-do_command.field-0.0 e.file.unsaid e.text.part e.marks f m text stands));
      room = λ m text stands none.
          room_there c.args.replies start v v1 first s s1 all so.k command within is so.doing c.in_err-do_command.field-0.0 e.text.silent e.text.lacks e.text.part e.marks
          m text stands none;
      no_say_fault = λ omitted. rw (p.1, p.2) (fault_again c.in_err-do_command.field-0.0 (e.no_say_fault omitted));
      done = IfOk-from_err c.from_residual-in_err-do_command.result _ c.from_residual-in_err-do_command.ensures.0;
      ready = IfOk-from_err c.from_residual-in_err-do_command.result _ c.from_residual-in_err-do_command.ensures.0;
      fresh = IfOk-from_err c.from_residual-in_err-do_command.result _ c.from_residual-in_err-do_command.ensures.0;
      told = any_join start.holds v.holds v1.holds so.doing.told e.file.told;
      said = grown_join start.said v.said v1.said so.doing.said e.text.said;
      cause = rw (p.1, p.2) (cause_behind Outcome (Unit {0}) start v v1 c.in_err-do_command.field-0.0 so.doing.none e.kept.cause);
    }

pub returns : goal.returns
returns g c =
    let start = g.H.Host.view c.args.host.now in
    let v = g.H.Host.view c.each.host in
    let all = commands_in (g.C.CommandSource.left c.args.commands.now) in
    let left = g.C.CommandSource.left c.each.commands in
    let new = g.C.CommandSource.left c.next_command.new.self in
    let so = c.each.invariant in
    let ends = none_left c.args.replies start v c.args.session.now c.each.session all left new so c.in_ok-command.field-0 c.in_default.not-Some c.in_ok-command.ensures in
    let has = all_done c.args.replies start v c.args.session.now c.each.session all so.k ends so.doing in
    record {
      stops = λ file text m stands. (so.doing.sofar m text stands).time file;
      done = λ m text stands. has m text stands;
      room = λ m text stands none said told k command there long. (has m text stands).room none k command there;
      unclosed = λ m text stands. tt;
      no_say_fault = λ omitted e. absurd cc;
      ready = so.doing.ready;
      fresh = so.doing.fresh;
      told = so.doing.told;
      said = so.doing.said;
      cause = so.doing.none;
    }
