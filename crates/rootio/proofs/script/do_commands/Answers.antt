use Rattle.std.proofs.Common.{arith}
use Rattle.std.proofs.lemmas.Result.{IfOk-from_err, err_from_is_err_and}
use Rattle.rio_host.proofs.PiecesLaws.{grown_join}
use Rattle.rio_machine.specs.declared.command.Outcome.{Outcome}
use Rattle.rio_session.specs.declared.replies.Replies.TheVariants.{Printed}
use Rattle.rootio.proofs.StatableCommands.{statable_at}
use Rattle.rootio.proofs.{Doing.{all_done, cause_behind, does_next, ends_at, leaves_open, nothing_yet, room_there, stops_there, unsaid_there}, Untouched.{any_join}}
use Rattle.rootio.proofs.script.do_commands.Goals as goal

pub loop-command-init : goal.loop-command-init
loop-command-init g c = nothing_yet Printed (g.H.Host.view c.args.host.now) c.args.session.now c.args.commands.now c.requires.ready c.requires.fresh

pub apply-requires : goal.apply-requires
apply-requires g c = record {
  fresh = c.loop-command.invariant.fresh;
  statable = statable_at c.args.commands.now c.loop-command.command-index c.command-item.result c.loop-command-test.true c.command-item.is c.requires.statable;
  ready = c.loop-command.invariant.ready;
}

pub loop-command-preserved : goal.loop-command-preserved
loop-command-preserved g c =
    does_next Printed (g.H.Host.view c.args.host.now) (g.H.Host.view c.loop-command.host) (g.H.Host.view c.apply.new.host) c.args.session.now c.loop-command.session c.apply.new.self
    c.args.commands.now c.loop-command.command-index c.command-item.result c.loop-command-test.true c.command-item.is c.loop-command.invariant c.in_ok-apply.field-0
    c.in_ok-apply.ensures.kept.done c.in_ok-apply.ensures.records c.in_ok-apply.ensures.marks c.in_ok-apply.ensures.kept.ready c.in_ok-apply.ensures.kept.failed c.in_ok-apply.ensures.file.told c.in_ok-apply.ensures.text.said c.in_ok-apply.ensures.kept.cause

pub returns-in_err-apply : goal.returns-in_err-apply
returns-in_err-apply g c =
    let p = err_from_is_err_and c.from_residual.result c.from_residual.ensures.1 in
    record {
      stops = λ file text m stands.
          stops_there Printed (g.H.Host.view c.args.host.now) (g.H.Host.view c.loop-command.host) (g.H.Host.view c.apply.new.host) c.args.session.now c.loop-command.session c.apply.new.self
          c.args.commands.now c.loop-command.command-index c.command-item.result c.loop-command-test.true c.command-item.is c.loop-command.invariant
          c.in_err-apply.ensures.file.any_moment c.in_err-apply.ensures.marks file text m stands;
      unclosed = λ m text stands. rw (p.1, p.2) (
          ends_at Printed (g.H.Host.view c.args.host.now) (g.H.Host.view c.loop-command.host) (g.H.Host.view c.apply.new.host) c.args.session.now c.loop-command.session
          c.args.commands.now c.loop-command.command-index (let lt = c.loop-command-test.true in omega (arith, lt)) c.loop-command.invariant m text stands
          c.in_err-apply.field-0.0 (g.met.H.Host.lawful c.apply.new.host)
          (leaves_open Printed (g.H.Host.view c.args.host.now) (g.H.Host.view c.loop-command.host) (g.H.Host.view c.apply.new.host) c.args.session.now c.loop-command.session
          c.args.commands.now c.loop-command.command-index c.command-item.result c.loop-command.invariant (g.met.H.Host.lawful c.apply.new.host)
          c.in_err-apply.ensures.file.any_moment m text stands)
          (λ none. (c.in_err-apply.ensures.kept.no_memory none).1) c.in_err-apply.ensures.text.silent
          (λ e. unsaid_there Printed (g.H.Host.view c.args.host.now) (g.H.Host.view c.loop-command.host) (g.H.Host.view c.apply.new.host) c.args.session.now c.loop-command.session c.apply.new.self
          c.args.commands.now c.loop-command.command-index c.command-item.result c.loop-command-test.true c.command-item.is c.loop-command.invariant c.in_err-apply.field-0.0
          c.in_err-apply.ensures.file.unsaid c.in_err-apply.ensures.text.part c.in_err-apply.ensures.marks e m text stands));
      room = λ m text stands none.
          room_there Printed (g.H.Host.view c.args.host.now) (g.H.Host.view c.loop-command.host) (g.H.Host.view c.apply.new.host) c.args.session.now c.loop-command.session c.apply.new.self
          c.args.commands.now c.loop-command.command-index c.command-item.result c.loop-command-test.true c.command-item.is c.loop-command.invariant c.in_err-apply.field-0.0
          c.in_err-apply.ensures.text.silent c.in_err-apply.ensures.text.lacks c.in_err-apply.ensures.text.part c.in_err-apply.ensures.marks m text stands none;
      done = IfOk-from_err c.from_residual.result _ c.from_residual.ensures.0;
      ready = IfOk-from_err c.from_residual.result _ c.from_residual.ensures.0;
      fresh = IfOk-from_err c.from_residual.result _ c.from_residual.ensures.0;
      told = any_join (g.H.Host.view c.args.host.now).holds (g.H.Host.view c.loop-command.host).holds (g.H.Host.view c.apply.new.host).holds c.loop-command.invariant.told c.in_err-apply.ensures.file.told;
      said = grown_join (g.H.Host.view c.args.host.now).said (g.H.Host.view c.loop-command.host).said (g.H.Host.view c.apply.new.host).said c.loop-command.invariant.said c.in_err-apply.ensures.text.said;
      cause = rw (p.1, p.2)
          (cause_behind Outcome (Unit {0}) (g.H.Host.view c.args.host.now) (g.H.Host.view c.loop-command.host) (g.H.Host.view c.apply.new.host) c.in_err-apply.field-0.0 c.loop-command.invariant.none
          c.in_err-apply.ensures.kept.cause);
    }

pub returns : goal.returns
returns g c =
    let doing = c.loop-command.invariant in
    record {
      stops = λ file text m stands. (doing.sofar m text stands).time file;
      done = λ m text stands.
          all_done Printed (g.H.Host.view c.args.host.now) (g.H.Host.view c.loop-command.host) c.args.session.now c.loop-command.session c.args.commands.now c.loop-command.command-index
          c.loop-command-test.false doing m text stands;
      room = λ m text stands none said told k command there long.
          (all_done Printed (g.H.Host.view c.args.host.now) (g.H.Host.view c.loop-command.host) c.args.session.now c.loop-command.session c.args.commands.now c.loop-command.command-index
          c.loop-command-test.false doing m text stands).room none k command there;
      unclosed = λ m text stands. tt;
      ready = doing.ready;
      fresh = doing.fresh;
      told = doing.told;
      said = doing.said;
      cause = doing.none;
    }
