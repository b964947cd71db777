use Rattle.rio_report.proofs.dump.say_dump.Goals as goal

pub returns : goal.returns
returns g c = record {
  done = c.say_all_or_item.ensures.done;
  refused = c.say_all_or_item.ensures.refused;
  calls = c.say_all_or_item.ensures.calls;
  silent = c.say_all_or_item.ensures.silent;
  lines = c.say_all_or_item.ensures.lines;
  cause = c.say_all_or_item.ensures.cause;
}
