use Rattle.std.proofs.Common.{Bool, subst}
use Rattle.rio_chain.specs.Found.{FindsKeyAt, FindsRecord}
use Rattle.rio_chain.proofs.Finding.{finds_record, finds_no_record, key_stands}
use Rattle.rio_chain.proofs.found.record_key_at.Goals as goal

pub returns-then-is_key_of-clause-whole : goal.returns-then-is_key_of-clause-whole
returns-then-is_key_of-clause-whole g c file told =
    subst (λ (b : Bool). FindsRecord c.args.place c.args.n b file) c.if-is_key_of.true
    (finds_record file c.args.place c.args.n c.in-Some.head c.is_key_of.result c.requires.aligned
    (subst (λ o. FindsKeyAt c.args.place c.args.n o file) c.in-Some.is (c.in_ok-head.ensures.key file told)) c.is_key_of.ensures)

pub returns-then-is_key_of-clause-key : goal.returns-then-is_key_of-clause-key
returns-then-is_key_of-clause-key g c file told =
    key_stands file c.args.place c.args.n c.in-Some.head
    (subst (λ o. FindsKeyAt c.args.place c.args.n o file) c.in-Some.is (c.in_ok-head.ensures.key file told))

pub returns-else-is_key_of-clause-whole : goal.returns-else-is_key_of-clause-whole
returns-else-is_key_of-clause-whole g c file told =
    subst (λ (b : Bool). FindsRecord c.args.place c.args.n b file) c.if-is_key_of.false
    (finds_record file c.args.place c.args.n c.in-Some.head c.is_key_of.result c.requires.aligned
    (subst (λ o. FindsKeyAt c.args.place c.args.n o file) c.in-Some.is (c.in_ok-head.ensures.key file told)) c.is_key_of.ensures)

pub returns-in-None-clause-whole : goal.returns-in-None-clause-whole
returns-in-None-clause-whole g c file told =
    finds_no_record file c.args.place c.args.n (subst (λ o. FindsKeyAt c.args.place c.args.n o file) c.in-None.is (c.in_ok-head.ensures.key file told))
