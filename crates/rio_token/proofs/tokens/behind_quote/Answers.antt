use Rattle.std.proofs.Common.{sym, ◌∙◌}
use Rattle.rio_token.proofs.TokenLaws.{string_bytes}
use Rattle.rio_token.proofs.tokens.behind_quote.Goals as goal

pub returns : goal.returns
returns c =
    let scan = c.requires.scan in
    rw (c.behind_first.ensures, c.bytes_from.ensures, scan.1) (sym (string_bytes c.args.rest.now (sym scan.0 ∙ c.requires.text)))
