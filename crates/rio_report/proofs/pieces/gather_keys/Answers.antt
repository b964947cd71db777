use Rattle.std.proofs.{Common.{rules, List, ℕ, refl, sym}, lemmas.List.{append-nil}, lemmas.Result.{err_from_is_err_and}}
use Rattle.rio_host.proofs.ReadsLaws.{reads_none}
use Rattle.rio_report.proofs.{Gather.{gathered_reads}, LineByLine.{all_gathered, first_lines, line_cut, line_gathered}, WholeLines.{stored_ends}}
use Rattle.rio_report.specs.Dump.{stored_line}
use Rattle.rio_report.proofs.pieces.gather_keys.Goals as goal

pub returns-in_err-gather_key-clause-says : goal.returns-in_err-gather_key-clause-says
returns-in_err-gather_key-clause-says g c =
    let p = err_from_is_err_and c.from_residual.result c.from_residual.ensures.1 in
    rw p.1 (line_cut (λ (file : List ℕ). stored_line file c.args.classes.now) c.args.keys.now c.args.held.now.bytes (g.H.Host.view c.args.host.now) (g.H.Host.view c.loop-key.host) (g.H.Host.view c.gather_key.new.host)
    (g.met.H.Host.lawful c.args.host.now) (g.met.H.Host.lawful c.loop-key.host) c.loop-key.key-index c.key-item.result c.loop-key-test.true c.key-item.is c.loop-key.held.bytes c.loop-key.invariant.so_far (λ file y. stored_ends file c.args.classes.now y) c.in_err-gather_key.ensures.says)

pub loop-key-init : goal.loop-key-init
loop-key-init g c = record {
  so_far = gathered_reads (first_lines (λ (file : List ℕ). stored_line file c.args.classes.now) c.args.keys.now c.args.held.now.bytes 0) c.args.held.now.bytes (reads_none (g.H.Host.view c.args.host.now)) (λ file told. sym (append-nil c.args.held.now.bytes));
  holds = refl;
  calm = refl;
  heard = refl;
}

pub loop-key-preserved : goal.loop-key-preserved
loop-key-preserved g c =
    let so_far = line_gathered (λ (file : List ℕ). stored_line file c.args.classes.now) c.args.keys.now c.args.held.now.bytes (g.H.Host.view c.args.host.now) (g.H.Host.view c.loop-key.host) (g.H.Host.view c.gather_key.new.host)
    (g.met.H.Host.lawful c.args.host.now) (g.met.H.Host.lawful c.loop-key.host) c.loop-key.key-index c.key-item.result c.loop-key-test.true c.key-item.is c.loop-key.held.bytes c.loop-key.invariant.so_far c.gather_key.new.held.bytes c.in_ok-gather_key.ensures.says in
    record {
      so_far = so_far;
      holds = so_far.said.holds;
      calm = search rules;
      heard = so_far.said.say_faults;
    }

pub returns-clause-says : goal.returns-clause-says
returns-clause-says g c =
    all_gathered (λ (file : List ℕ). stored_line file c.args.classes.now) c.args.keys.now c.args.held.now.bytes c.loop-key.key-index c.loop-key.held.bytes c.loop-key-test.false c.loop-key.invariant.so_far
