use Rattle.std.proofs.Common.{sym, ◌∙◌, refl}
use Rattle.rio_token.specs.Words.{written}
use Rattle.rio_token.proofs.NumberLaws.{stops_at}
use Rattle.rio_token.proofs.words.number_in.Goals as goal

pub returns-in-None-clause-exact : goal.returns-in-None-clause-exact
unfolding written
returns-in-None-clause-exact c =
    sym (rw (← c.loop-byte.invariant.0) (stops_at c.args.base c.args.most c.requires c.loop-byte.n c.args.digits.now c.loop-byte.byte-index _ c.loop-byte-test.true refl (sym c.with_digit.ensures ∙ c.in-None.is)))
