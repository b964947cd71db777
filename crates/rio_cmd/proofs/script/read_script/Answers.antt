use Rattle.std.proofs.Common.{◌+◌, refl, sym, ◌∙◌, arith}
use Rattle.rio_cmd.proofs.LineLaws.{command_read, line_passed, no_lines_left}
use Rattle.rio_cmd.proofs.script.read_script.Goals.{then-is_command_line+in_ok-read_line+in_ok-push, else-is_command_line}
use Rattle.rio_cmd.proofs.script.read_script.Goals as goal

pub loop-line-preserved : goal.loop-line-preserved
loop-line-preserved c =
    let before = rw c.in-Some.ensures.lines at c.loop-line.invariant.read in
    record {
      read = elim c.if-is_command_line.branch [
        | then-is_command_line+in_ok-read_line+in_ok-push w ↦
            rw (w.commands-is, w.in_ok-push.ensures.ok, w.in_ok-read_line.ensures)
            (command_read c.loop-line.commands _ (c.loop-line.passed + 1) c.in-Some.line.now _ (sym c.is_command_line.ensures ∙ w.if-is_command_line.true) before)
        | else-is_command_line w ↦
            rw w.commands-is
            (line_passed c.loop-line.commands _ (c.loop-line.passed + 1) c.in-Some.line.now _ (sym c.is_command_line.ensures ∙ w.if-is_command_line.false) before)
      ];
      left = omega (arith, c.in-Some.ensures.less);
    }

pub returns : goal.returns
returns c = no_lines_left c.loop-line.commands _ (c.loop-line.passed + 1) c.loop-line.rest.now (c.in_default.ensures.none.0 refl) c.loop-line.invariant.read
