use Rattle.std.proofs.{Common.{rules, List, ℕ, refl, sym}, lemmas.List.{append-nil}, lemmas.Result.{err_from_is_err_and}}
use Rattle.rio_host.proofs.ReadsLaws.{reads_none}
use Rattle.rio_report.proofs.{Gather.{gathered_reads}, LineByLine.{all_gathered, first_lines, line_cut, line_gathered}, WholeLines.{class_ends}}
use Rattle.rio_report.specs.Dump.{class_line}
use Rattle.rio_report.proofs.pieces.gather_classes.Goals as goal

pub returns-in_err-gather_class-clause-says : goal.returns-in_err-gather_class-clause-says
returns-in_err-gather_class-clause-says g c =
    let p = err_from_is_err_and c.from_residual.result c.from_residual.ensures.1 in
    rw p.1 (line_cut (λ (file : List ℕ). class_line) c.args.classes.now c.args.held.now.bytes (g.H.Host.view c.args.host.now) (g.H.Host.view c.loop-class.host) (g.H.Host.view c.gather_class.new.host)
    (g.met.H.Host.lawful c.args.host.now) (g.met.H.Host.lawful c.loop-class.host) c.loop-class.class-index c.class-item.result c.loop-class-test.true c.class-item.is c.loop-class.held.bytes c.loop-class.invariant.so_far (λ file y. class_ends y) c.in_err-gather_class.ensures.says)

pub loop-class-init : goal.loop-class-init
loop-class-init g c = record {
  so_far = gathered_reads (first_lines (λ (file : List ℕ). class_line) c.args.classes.now c.args.held.now.bytes 0) c.args.held.now.bytes (reads_none (g.H.Host.view c.args.host.now)) (λ file told. sym (append-nil c.args.held.now.bytes));
  holds = refl;
  calm = refl;
  heard = refl;
}

pub loop-class-preserved : goal.loop-class-preserved
loop-class-preserved g c =
    let so_far = line_gathered (λ (file : List ℕ). class_line) c.args.classes.now c.args.held.now.bytes (g.H.Host.view c.args.host.now) (g.H.Host.view c.loop-class.host) (g.H.Host.view c.gather_class.new.host)
    (g.met.H.Host.lawful c.args.host.now) (g.met.H.Host.lawful c.loop-class.host) c.loop-class.class-index c.class-item.result c.loop-class-test.true c.class-item.is c.loop-class.held.bytes c.loop-class.invariant.so_far c.gather_class.new.held.bytes c.in_ok-gather_class.ensures.says in
    record {
      so_far = so_far;
      holds = so_far.said.holds;
      calm = search rules;
      heard = so_far.said.say_faults;
    }

pub returns-clause-says : goal.returns-clause-says
returns-clause-says g c =
    all_gathered (λ (file : List ℕ). class_line) c.args.classes.now c.args.held.now.bytes c.loop-class.class-index c.loop-class.held.bytes c.loop-class-test.false c.loop-class.invariant.so_far
