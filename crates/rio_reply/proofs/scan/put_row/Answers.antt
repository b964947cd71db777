use Rattle.std.proofs.Common.{◌≡◌, ◌++◌, ℕ, List, OnOk, subst}
use Rattle.rio_reply.proofs.Scans.{row_is}
use Rattle.rio_reply.proofs.scan.put_row.Goals as goal

pub returns : goal.returns
returns c = subst (λ (l : List ℕ). OnOk c.put_brackets.result (c.put_brackets.new.text.bytes ≡ c.args.text.now.bytes ++ l)) (row_is c.args.row.now) c.put_brackets.ensures
