use Rattle.std.proofs.Common.{subst, arith}
use Rattle.rio_num.specs.{Answers.{ReadsUnless}, At.{At, standing_at}, Plain.{plain}}
use Rattle.rio_key.specs.{Key.{key_head_at}, declared.fault.KeyFault.TheVariants.{NoMemory}}
use Rattle.rio_num.proofs.ReadLaws.{IsBytes-standing}
use Rattle.rio_key.proofs.KeyRead.{is_broken, is_found, is_only}
use Rattle.rio_key.proofs.read.read_key.Goals as goal

pub returns-clause-found : goal.returns-clause-found
returns-clause-found c =
    let s = standing_at c.args.base c.args.place c.args.bytes.now in
    let given = subst (λ (t : At). ReadsUnless NoMemory (λ x. x) c.take_key.result (key_head_at t) (plain c.take_key.new.cursor)) c.at.ensures c.take_key.ensures in
    is_found s c.take_key.new.cursor c.take_key.result (IsBytes-standing c.args.base c.args.place c.args.bytes.now (λ i. omega (arith, c.type_inv.bytes i))) given

pub returns-clause-broken : goal.returns-clause-broken
returns-clause-broken c =
    let s = standing_at c.args.base c.args.place c.args.bytes.now in
    let given = subst (λ (t : At). ReadsUnless NoMemory (λ x. x) c.take_key.result (key_head_at t) (plain c.take_key.new.cursor)) c.at.ensures c.take_key.ensures in
    is_broken s c.take_key.new.cursor c.take_key.result (IsBytes-standing c.args.base c.args.place c.args.bytes.now (λ i. omega (arith, c.type_inv.bytes i))) given

pub returns-clause-only : goal.returns-clause-only
returns-clause-only c = λ h front rest e spelled.
    let s = standing_at c.args.base c.args.place c.args.bytes.now in
    let given = subst (λ (t : At). ReadsUnless NoMemory (λ x. x) c.take_key.result (key_head_at t) (plain c.take_key.new.cursor)) c.at.ensures c.take_key.ensures in
    is_only s c.take_key.new.cursor c.take_key.result h front rest given e spelled
