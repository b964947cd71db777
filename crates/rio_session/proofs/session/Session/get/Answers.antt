use Rattle.std.proofs.Common.{◌∙◌, ℕ, List, sym, subst, ap}
use Rattle.std.specs.List.{Contains}
use Rattle.rio_chain.specs.{Chains.{HasChain}, Segments.{RecordAt}}
use Rattle.rio_session.specs.Session.{SessionState}
use Rattle.rio_session.proofs.{GetCalls.{tells_what_is_read}, OtherSteps.{found_key, key_begins}}
use Rattle.rio_session.proofs.session.Session.get.Goals as goal

pub read_record-requires-clause-record : goal.read_record-requires-clause-record
read_record-requires-clause-record g c =
    let kept = c.self.invariant.kept (ap (λ (s : SessionState). s.failed) c.self.view_is ∙ c.requires.fresh) in
    let among = found_key c.args.self.now.heads c.args.head.now.name c.args.head.now.cycle c.args.head.now c.requires.there in
    key_begins c.self.inside.chain.segments c.self.inside.table.heads c.args.head.now kept.closable.placed (subst (λ (s : SessionState). Contains s.heads c.args.head.now) (sym c.self.view_is) among)

pub returns-in-Ok-clause-tells : goal.returns-in-Ok-clause-tells
returns-in-Ok-clause-tells g c =
    let s = c.args.self.now in
    let seek = c.args.head.now.seek in
    tells_what_is_read c.args.replies c.args.head.now c.args.version (g.H.Host.view c.args.host.now) (g.H.Host.view c.read_record.new.host) s c.in-Ok.ensures.calls (g.H.Host.view c.print.new.host) c.print.new.self c.print.result c.as_slice.result.now
    (g.met.H.Host.lawful c.read_record.new.host) c.in-Ok.ensures.cause
    (λ file held links chain. subst (λ (bytes : List ℕ). Contains links (RecordAt seek bytes)) (sym c.as_slice.ensures)
    (c.in-Ok.ensures.bytes file links held (subst (λ (x : SessionState). HasChain links x.segments file) (sym c.self.view_is) chain)))
    c.print.ensures
