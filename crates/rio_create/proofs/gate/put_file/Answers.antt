use Rattle.std.proofs.lemmas.Result.{on_ok_weaker}
use Rattle.rio_create.proofs.Gates.{both_time, made_file, word_time}
use Rattle.rio_create.proofs.gate.put_file.Goals as goal

pub returns-in_err-put_word-clause-any_moment : goal.returns-in_err-put_word-clause-any_moment
returns-in_err-put_word-clause-any_moment g c file holds unborn =
    word_time (g.H.Host.view c.args.host.now) file c.args.tail.now unborn (g.H.Host.view c.put_word.new.host) (c.put_word.ensures.any_moment file holds)

pub returns-clause-any_moment : goal.returns-clause-any_moment
returns-clause-any_moment g c file holds unborn =
    let zero = c.in_ok-put_word.ensures.holds file holds in
    both_time (g.H.Host.view c.args.host.now) file c.args.tail.now unborn (g.H.Host.view c.put_word.new.host) (g.H.Host.view c.put_behind.new.host) zero.0
    (c.put_word.ensures.any_moment file holds) c.put_word.ensures.writes.said zero.2 (c.put_behind.ensures.any_moment zero.0 zero.1)

pub returns-clause-made : goal.returns-clause-made
returns-clause-made g c =
    on_ok_weaker c.put_behind.result
    (λ behind file holds.
    let zero = c.in_ok-put_word.ensures.holds file holds in
    made_file (g.H.Host.view c.put_behind.new.host) zero.0 c.args.tail.now (behind zero.0 zero.1))
    c.put_behind.ensures.holds
