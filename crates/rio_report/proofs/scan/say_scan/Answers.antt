use Rattle.rio_report.proofs.scan.say_scan.Goals as goal

pub returns : goal.returns
returns g c = record {
  done = c.say_file_tree.ensures.done;
  refused = c.say_file_tree.ensures.refused;
  calls = c.say_file_tree.ensures.calls;
  silent = c.say_file_tree.ensures.silent;
  lines = c.say_file_tree.ensures.lines;
  cause = c.say_file_tree.ensures.cause;
}
