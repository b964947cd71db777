use Rattle.std.proofs.Common.{List, sym, ap, subst, ◌∙◌}
use Rattle.std.specs.List.{Contains}
use Rattle.rio_key.specs.BasketEntries.{entries_in}
use Rattle.rio_chain.specs.Segments.{RecordAt}
use Rattle.rio_session.proofs.OtherSteps.{one_record}
use Rattle.rio_session.proofs.scan_rows.read_basket.Goals as goal

pub returns-in-Ok-clause-found : goal.returns-in-Ok-clause-found
returns-in-Ok-clause-found g c = λ file links told chain bytes among.
    let own = c.in_ok-record.ensures.bytes file links told chain in
    c.in-Ok.ensures ∙ ap (entries_in c.args.offsets) (c.as_slice.ensures ∙ one_record file c.args.place _ bytes links chain.chain.links_are own among)
