use Rattle.std.proofs.Common.{List, ℕ, ap, subst}
use Rattle.std.specs.Prelude.{OnOk}
use Rattle.rio_host.specs.Host.{Elapses}
use Rattle.rio_chain.specs.{Becoming.{ChainBecomes}, Changes.{with_records}, Segments.{Link}, Stops.{IsEither}}
use Rattle.rio_chain.proofs.PutsNoted.{one_cut, one_record}
use Rattle.rio_chain.proofs.kept.Chain.put_record.Goals as goal

pub put_all-requires-clause-whole : goal.put_all-requires-clause-whole
put_all-requires-clause-whole g c = one_record c.args.place c.len-n.result c.args.body.now.bytes c.len-n.ensures c.requires.whole

pub put_all-requires-clause-low : goal.put_all-requires-clause-low
put_all-requires-clause-low g c = rw c.len-n.ensures c.requires.low

pub returns-clause-any_moment : goal.returns-clause-any_moment
returns-clause-any_moment g c file links told has =
    let one = one_cut c.len-n.result c.args.body.now.bytes c.len-n.ensures in
    let old = g.H.Host.view c.args.host.now in
    subst (λ (after : List Link). Elapses old (g.H.Host.view c.put_all.new.host) (IsEither old file links after))
    (ap (λ (rs : List (List ℕ)). with_records c.args.place rs links) one) (c.put_all.ensures.any_moment file links told has)

pub returns-clause-holds : goal.returns-clause-holds
returns-clause-holds g c =
    let one = one_cut c.len-n.result c.args.body.now.bytes c.len-n.ensures in
    let old = g.H.Host.view c.args.host.now in
    let new = g.H.Host.view c.put_all.new.host in
    subst (λ (rs : List (List ℕ)). OnOk c.put_all.result (ChainBecomes old new c.args.self.now.segments c.put_all.new.self.segments (with_records c.args.place rs))) one
    c.put_all.ensures.holds

pub returns-clause-chain : goal.returns-clause-chain
returns-clause-chain g c = rw c.len-n.ensures at c.put_all.ensures.chain
