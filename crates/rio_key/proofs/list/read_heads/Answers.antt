use Rattle.std.proofs.Common.{subst, arith}
use Rattle.rio_num.specs.{Answers.{ReadsUnless}, At.{At}, Plain.{plain}}
use Rattle.rio_key.specs.KeyList.{key_list_at, list_memory}
use Rattle.rio_num.proofs.Plain.{standing}
use Rattle.rio_key.proofs.KeyListLaws.{is_list_broken, is_list_found, is_list_only}
use Rattle.rio_key.proofs.list.read_heads.Goals as goal

pub returns-clause-found : goal.returns-clause-found
returns-clause-found c =
    let given = subst (λ (t : At). ReadsUnless list_memory (λ x. x) c.take_key_list.result (key_list_at t) (plain c.take_key_list.new.cursor)) c.new.ensures c.take_key_list.ensures in
    is_list_found (standing c.args.base c.args.bytes.now) c.take_key_list.new.cursor c.take_key_list.result (λ i. omega (arith, c.type_inv.bytes i)) given

pub returns-clause-broken : goal.returns-clause-broken
returns-clause-broken c =
    let given = subst (λ (t : At). ReadsUnless list_memory (λ x. x) c.take_key_list.result (key_list_at t) (plain c.take_key_list.new.cursor)) c.new.ensures c.take_key_list.ensures in
    is_list_broken (standing c.args.base c.args.bytes.now) c.take_key_list.new.cursor c.take_key_list.result (λ i. omega (arith, c.type_inv.bytes i)) given

pub returns-clause-only : goal.returns-clause-only
returns-clause-only c = λ hs front rest e spelled.
    let given = subst (λ (t : At). ReadsUnless list_memory (λ x. x) c.take_key_list.result (key_list_at t) (plain c.take_key_list.new.cursor)) c.new.ensures c.take_key_list.ensures in
    is_list_only (standing c.args.base c.args.bytes.now) c.take_key_list.new.cursor c.take_key_list.result hs front rest given e spelled
