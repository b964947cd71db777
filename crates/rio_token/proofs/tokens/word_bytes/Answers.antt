use Rattle.std.proofs.Common.{sym, ◌∙◌}
use Rattle.rio_token.proofs.TokenLaws.{word_bytes}
use Rattle.rio_token.proofs.tokens.word_bytes.Goals as goal

pub returns : goal.returns
returns c =
    let scan = c.requires.scan in
    rw (scan.1, scan.2) (sym (word_bytes c.args.rest.now (sym scan.0 ∙ c.requires.word)))
