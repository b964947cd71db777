use Rattle.std.proofs.{Common.{◌≡◌, ◌++◌, ◌∙◌, List, ℕ, Option, Some, ap, refl, subst, sym}, lemmas.{List.{append-nil}, Option.{same_Some}, Result.{IfOk-from_err, err_from_is_err_and}}}
use Rattle.rio_host.proofs.{Moments.{elapses_join}, PiecesLaws.{grown_join}}
use Rattle.rio_chain.specs.{Segments.{IsChain, Link}, Stops.{KeepsFront}}
use Rattle.rio_chain.proofs.OneChain.{chain_one}
use Rattle.rio_step.specs.Runs.{state_after}
use Rattle.rio_effect.specs.FileRuns.{saved_records}
use Rattle.rio_session.specs.{Closes.{ClosesFile, IsWellClosed}, Fillings.{closing}, Kept.{all_done}, Session.{ClosesAs, file_records}}
use Rattle.rio_session.proofs.{CloseStates.{holds_closed_file}, Spoken.{grows_none}}
use Rattle.rio_session.specs.declared.replies.Replies.TheVariants.{Printed}
use Rattle.rootio.specs.{Headline.{all_replies}, Script.{session_file_run, session_run}, Writing.{StandsUnsaid}}
use Rattle.rootio.proofs.{Doing.{cause_of_close, on_ok_all}, RunStops.{stop_closing}, Unclosed.{close_open, stays_open}, Untouched.{any_join}}
use Rattle.rootio.proofs.script.do_and_close.Goals as goal

pub returns-in_err-do_commands : goal.returns-in_err-do_commands
returns-in_err-do_commands g c =
    let p = err_from_is_err_and c.from_residual.result c.from_residual.ensures.1 in
    record {
      stops = c.in_err-do_commands.ensures.stops;
      done = IfOk-from_err c.from_residual.result _ c.from_residual.ensures.0;
      unclosed = λ m text stands.
          rw (p.1, p.2) (stays_open (session_run Printed c.args.session stands.state.links m c.args.commands.now) text (g.H.Host.view c.do_commands.new.host) c.in_err-do_commands.field-0.0 (c.in_err-do_commands.ensures.unclosed m text stands));
      told = c.in_err-do_commands.ensures.told;
      said = c.in_err-do_commands.ensures.said;
      room = c.in_err-do_commands.ensures.room;
      cause = rw (p.1, p.2) c.in_err-do_commands.ensures.cause;
    }

abbrev some_text : List ℕ → Option (List ℕ)
some_text l = Some l

pub returns : goal.returns
returns g c =
    let all = c.in_ok-do_commands.ensures in
    record {
      stops = λ file text m stands.
          let r = session_run Printed c.args.session stands.state.links m c.args.commands.now in
          let end = state_after m c.args.commands.now r.marks in
          let said = text ++ all_replies r in
          elapses_join (ClosesAs end said) (all.stops file text m stands)
          (c.close.ensures.any_moment end said (all.done m text stands).stands)
          (λ image told closes. stop_closing r file text image told closes);
      room = λ m text stands none said told k command there long. (all.done m text stands).room none k command there;
      done = on_ok_all c.close.result (λ closed written quiet saves m text stands.
          let r = session_run Printed c.args.session stands.state.links m c.args.commands.now in
          let end = state_after m c.args.commands.now r.marks in
          let done = all.done m text stands in
          record {
            quiet = quiet;
            said = c.close.ensures.writes.said ∙ done.stands.said ∙ ap (λ l. some_text (text ++ l)) (sym (append-nil (all_replies r)));
            left = λ image told leaves. closed end (text ++ all_replies r) done.stands image told leaves;
            written = λ image told leaves.
                let closes : ClosesFile (g.H.Host.view c.do_commands.new.host) (g.H.Host.view c.close.new.host) c.do_commands.new.session = written end (text ++ all_replies r) done.stands in
                let same = quiet image told closes.written.file leaves closes.written.holds in
                let file : done.records.now ≡ closes.file = same_Some done.records.now closes.file (sym done.records.holds ∙ closes.holds) in
                let run = session_file_run c.args.session stands.state.links m c.args.commands.now in
                let last = run.records.links in
                let there = done.stands.state.links in
                let its_file : done.records.now ≡ done.stands.file = same_Some done.records.now done.stands.file (sym done.records.holds ∙ done.stands.holds) in
                let its_links : there ≡ last = chain_one done.stands.file there last done.stands.state.chain.chain (subst (IsChain last) its_file done.records.chain.chain) in
                let links : closes.links ≡ there = chain_one closes.file closes.links there closes.chain.chain (subst (IsChain there) (sym its_file ∙ file) done.stands.state.chain.chain) in
                let now : file_records c.do_commands.new.session there ≡ run.records =
                ap (λ (l : List Link). file_records c.do_commands.new.session l) its_links ∙ sym done.records.records_are in
                let saved = ap (λ (l : List Link). all_done (closing c.do_commands.new.session).changes l) links ∙ saves end (text ++ all_replies r) done.stands
                ∙ (λ i. (saved_records (done.datime i) (now i) end).links) in
                let well = holds_closed_file (g.H.Host.view c.do_commands.new.host) (g.H.Host.view c.close.new.host) c.do_commands.new.session stands.file image closes
                (subst (KeepsFront stands.file) file done.records.front) (closes.written.holds ∙ ap Some (sym same)) in
                subst (λ (x : (List ℕ × ℕ) × List Link). IsWellClosed x.0.0 x.0.1 stands.file x.1 image) (λ i. ((done.name i, done.datime i), saved i)) well;
            room = done.room;
          }) c.close.ensures.closed c.close.ensures.written c.close.ensures.quiet c.close.ensures.records;
      unclosed = λ m text stands.
          let r = session_run Printed c.args.session stands.state.links m c.args.commands.now in
          close_open (g.H.Host.view c.do_commands.new.host) (g.H.Host.view c.close.new.host) c.do_commands.new.session (state_after m c.args.commands.now r.marks)
          (text ++ all_replies r) all.ready (all.done m text stands).stands (g.met.H.Host.lawful c.do_commands.new.host) (g.met.H.Host.lawful c.close.new.host)
          (c.close.ensures.any_moment (state_after m c.args.commands.now r.marks) (text ++ all_replies r) (all.done m text stands).stands) StandsUnsaid r refl text c.close.result
          (c.close.ensures.writes.said ∙ (all.done m text stands).stands.said) c.close.ensures.no_memory c.close.ensures.cause;
      told = any_join (g.H.Host.view c.args.host.now).holds (g.H.Host.view c.do_commands.new.host).holds (g.H.Host.view c.close.new.host).holds all.told c.close.ensures.writes.told;
      said = grown_join (g.H.Host.view c.args.host.now).said (g.H.Host.view c.do_commands.new.host).said (g.H.Host.view c.close.new.host).said all.said
          (grows_none (g.H.Host.view c.do_commands.new.host).said (g.H.Host.view c.close.new.host).said c.close.ensures.writes.said);
      cause = cause_of_close (g.H.Host.view c.args.host.now) (g.H.Host.view c.do_commands.new.host) (g.H.Host.view c.close.new.host) c.close.result all.cause c.close.ensures.cause;
    }
