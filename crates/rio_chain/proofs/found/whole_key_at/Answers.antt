use Rattle.std.proofs.Common.{ℕ, Option, sym, subst}
use Rattle.std.specs.Prelude.{IfOk, IfSome, is_some}
use Rattle.rio_key.specs.declared.head.KeyHead.{KeyHead}
use Rattle.rio_host.specs.Reading.{Told}
use Rattle.rio_chain.specs.{Found.{FindsWhole}, Keyed.{HasKeyAt, IsWalkedKey}}
use Rattle.rio_chain.proofs.WalkedKeys.{walked_elsewhere, whole_there}
use Rattle.rio_chain.proofs.found.whole_key_at.Goals as goal

pub returns-then-place-eq100-clause-whole : goal.returns-then-place-eq100-clause-whole
returns-then-place-eq100-clause-whole g c =
    subst (λ (p : ℕ). IfOk c.first_key_at.result (λ (key : Option KeyHead). Told (g.H.Host.view c.args.host.now) (FindsWhole p c.args.n (is_some key)))) (sym c.if-place-eq100.true) c.first_key_at.ensures.whole

pub returns-then-place-eq100-clause-walked : goal.returns-then-place-eq100-clause-walked
returns-then-place-eq100-clause-walked g c =
    subst (λ (p : ℕ). IfOk c.first_key_at.result (λ (key : Option KeyHead). IfSome key (IsWalkedKey p c.args.n))) (sym c.if-place-eq100.true) c.first_key_at.ensures.walked

pub returns-then-place-eq100-clause-key : goal.returns-then-place-eq100-clause-key
returns-then-place-eq100-clause-key g c =
    subst (λ (p : ℕ). IfOk c.first_key_at.result (λ (key : Option KeyHead). IfSome key (λ head. Told (g.H.Host.view c.args.host.now) (HasKeyAt head p c.args.n)))) (sym c.if-place-eq100.true) c.first_key_at.ensures.key

pub returns-else-place-eq100-clause-whole : goal.returns-else-place-eq100-clause-whole
returns-else-place-eq100-clause-whole g c =
    whole_there (g.H.Host.view c.args.host.now) c.args.place c.args.n c.record_key_at.result c.if-place-eq100.false c.record_key_at.ensures.whole

pub returns-else-place-eq100-clause-walked : goal.returns-else-place-eq100-clause-walked
returns-else-place-eq100-clause-walked g c =
    walked_elsewhere c.args.place c.args.n c.record_key_at.result c.if-place-eq100.false c.record_key_at.ensures.keyed
