use Rattle.std.proofs.Common.{subst}
use Rattle.rio_session.specs.RowPlans.{IsPreparedOf}
use Rattle.rio_session.proofs.{CommandDoes.{refused_does}, RowJudged.{fill_of, made_and_refused, not_made, row_of}}
use Rattle.rio_session.proofs.session.Session.fill_by.Goals as goal

pub fill_with-requires-clause-can : goal.fill_with-requires-clause-can
fill_with-requires-clause-can g c =
    let t = c.requires.there.0 in
    let made = subst (IsPreparedOf c.args.self.now t c.args.row.now) c.in-Ok.is c.requires.there.2 in
    (t, c.requires.there.1, row_of c.args.self.now c.args.row.now t c.in-Ok.entries made)

pub returns-in-None-clause-does : goal.returns-in-None-clause-does
returns-in-None-clause-does g c command todo =
    let s = c.args.self.now in
    let r = c.args.row.now in
    let t = c.requires.there.0 in
    let made = subst (IsPreparedOf s t r) c.in-Ok.is c.requires.there.2 in
    c.fill_with.ensures.does command (fill_of s r t c.requires.there.1.found command todo c.in-Ok.entries made c.in-None.ensures)

pub returns-in-Some-clause-does : goal.returns-in-Some-clause-does
returns-in-Some-clause-does g c command todo =
    let s = c.args.self.now in
    let r = c.args.row.now in
    let t = c.requires.there.0 in
    let made = subst (IsPreparedOf s t r) c.in-Ok.is c.requires.there.2 in
    let judged = made_and_refused s r t c.requires.there.1.found command todo c.in-Ok.entries made c.in-Some.refusal c.in-Some.ensures in
    refused_does c.args.replies (g.H.Host.view c.args.host.now) (g.H.Host.view c.refuse.new.host) s c.refuse.new.self (g.met.H.Host.lawful c.args.host.now) (g.met.H.Host.lawful c.refuse.new.host) c.requires.ready c.requires.fresh c.refuse.result
    command c.in-Some.refusal judged c.refuse.ensures.says c.refuse.ensures.outcome

pub returns-in-Some-judge_row : goal.returns-in-Some-judge_row
returns-in-Some-judge_row g c =
    let s = c.args.self.now in
    let r = c.args.row.now in
    let t = c.requires.there.0 in
    let made = subst (IsPreparedOf s t r) c.in-Err.is c.requires.there.2 in
    let refuse = c.refuse-in-Some-judge_row in
    record {
      does = λ command todo.
          let judged = not_made s r t c.requires.there.1.found command todo c.in-Err.fault c.in_default.not-NoMemory made c.in-Some-judge_row.refusal c.in-Some-judge_row.ensures in
          refused_does c.args.replies (g.H.Host.view c.args.host.now) (g.H.Host.view refuse.new.host) s refuse.new.self (g.met.H.Host.lawful c.args.host.now) (g.met.H.Host.lawful refuse.new.host) c.requires.ready c.requires.fresh refuse.result
          command c.in-Some-judge_row.refusal judged refuse.ensures.says refuse.ensures.outcome;
      reads = refuse.ensures.reads;
    }
