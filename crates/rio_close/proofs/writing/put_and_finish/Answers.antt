use Rattle.std.proofs.{Common.{◌≡◌, ◌+◌, length, ap, sym, subst, ◌∙◌, arith, ℕ, List}, lemmas.Option.{same_Some}}
use Rattle.rio_host.{proofs.Images.{told_before}, specs.Host.{Any}}
use Rattle.rio_chain.specs.{Chains.{ChainState, HasChain}, Placing.{file_end}, Segments.{IsRecord}, declared.segment.Segment.{Segment}}
use Rattle.rio_close.proofs.Closing.{both_there, closed_then, dir_within, fields_time, free_is_record, free_reached, free_seek, free_time, list_is_record, list_low, list_reached, list_seek, list_time, written_then}
use Rattle.rio_close.proofs.writing.put_and_finish.Goals as goal

pub put_record-requires-clause-whole : goal.put_record-requires-clause-whole
put_record-requires-clause-whole g c =
    let r = c.requires.records in
    let records = c.args.records.now in
    subst (λ (p : ℕ). IsRecord p records.list.bytes.bytes) (sym (list_seek r.0 records r.2)) (list_is_record r.0 records r.2)

pub put_record-requires-clause-low : goal.put_record-requires-clause-low
put_record-requires-clause-low g c = let r = c.requires.records in list_low r.0 c.args.records.now r.2 c.args.chain.now.segments r.1

pub returns-in_err-put_record-clause-any_moment : goal.returns-in_err-put_record-clause-any_moment
returns-in_err-put_record-clause-any_moment g c f m ready =
    let records = c.args.records.now in
    let chain = subst (λ (s : List Segment). HasChain ready.held.links s ready.held.file) ready.same ready.held.chain in
    list_time (g.H.Host.view c.args.host.now) f records m ready.made ready.held (g.H.Host.view c.put_record.new.host) records.list.head.seek (list_seek f records ready.made)
    (c.put_record.ensures.any_moment ready.held.file ready.held.links ready.held.holds chain)

pub put_record-requires-2-clause-whole : goal.put_record-requires-2-clause-whole
put_record-requires-2-clause-whole g c =
    let r = c.requires.records in
    let records = c.args.records.now in
    subst (λ (p : ℕ). IsRecord p records.free.bytes.bytes) (sym (free_seek r.0 records r.2)) (free_is_record r.0 records r.2)

pub returns-in_err-put_record-2-clause-any_moment : goal.returns-in_err-put_record-2-clause-any_moment
returns-in_err-put_record-2-clause-any_moment g c f m ready =
    let records = c.args.records.now in
    let v0 = g.H.Host.view c.args.host.now in
    let v1 = g.H.Host.view c.put_record.new.host in
    let chain = subst (λ (s : List Segment). HasChain ready.held.links s ready.held.file) ready.same ready.held.chain in
    let one = list_reached v0 f records m ready.made ready.held v1 records.list.head.seek c.put_record.new.self.segments (list_seek f records ready.made) c.put_record.ensures.writes.said
    (c.put_record.ensures.any_moment ready.held.file ready.held.links ready.held.holds chain) (c.in_ok-put_record.ensures.holds ready.held.file ready.held.links ready.held.holds chain) in
    free_time v0 f records m ready.made ready.held v1 c.put_record.new.self.segments one (g.H.Host.view c.put_record-2.new.host) records.free.head.seek (free_seek f records ready.made)
    (c.put_record-2.ensures.any_moment one.file _ one.holds one.chain)

pub finish-requires-clause-within : goal.finish-requires-clause-within
finish-requires-clause-within g c bytes told =
    let r = c.requires.records in
    let records = c.args.records.now in
    let b1 = told_before Any _ _ bytes c.put_record-2.ensures.writes.told told in
    let b0 = told_before Any _ _ b1.0 c.put_record.ensures.writes.told b1.1 in
    let has = c.requires.holds b0.0 b0.1 in
    let one = c.in_ok-put_record.ensures.holds b0.0 has.0 b0.1 has.1 in
    let two = c.in_ok-put_record-2.ensures.holds one.0 _ one.1 one.2 in
    let same : two.0 ≡ bytes = same_Some two.0 bytes (sym two.1 ∙ told) in
    let first = ap (λ (s : ChainState). s.segments) c.in_ok-put_record.ensures.chain in
    let both = ap (λ (s : ChainState). s.segments) c.in_ok-put_record-2.ensures.chain ∙ both_there r.0 records r.2 c.args.chain.now.segments c.put_record.new.self.segments r.1 first in
    let within = dir_within r.0 records r.2 c.args.chain.now.segments c.put_record-2.new.self.segments _ two.0 r.1 both two.2 (c.requires.directory b0.0 b0.1) in
    omega (arith, within, ap length same, c.from-place.ensures)

pub returns-in_err-finish-clause-any_moment : goal.returns-in_err-finish-clause-any_moment
returns-in_err-finish-clause-any_moment g c f m ready =
    let records = c.args.records.now in
    let v0 = g.H.Host.view c.args.host.now in
    let v1 = g.H.Host.view c.put_record.new.host in
    let v2 = g.H.Host.view c.put_record-2.new.host in
    let chain = subst (λ (s : List Segment). HasChain ready.held.links s ready.held.file) ready.same ready.held.chain in
    let one = list_reached v0 f records m ready.made ready.held v1 records.list.head.seek c.put_record.new.self.segments (list_seek f records ready.made) c.put_record.ensures.writes.said
    (c.put_record.ensures.any_moment ready.held.file ready.held.links ready.held.holds chain) (c.in_ok-put_record.ensures.holds ready.held.file ready.held.links ready.held.holds chain) in
    let two = free_reached v0 f records m ready.made ready.held v1 c.put_record.new.self.segments one v2 records.free.head.seek c.put_record-2.new.self.segments (free_seek f records ready.made) c.put_record-2.ensures.writes.said
    (c.put_record-2.ensures.any_moment one.file _ one.holds one.chain) (c.in_ok-put_record-2.ensures.holds one.file _ one.holds one.chain) in
    let first = ap (λ (s : ChainState). s.segments) c.in_ok-put_record.ensures.chain in
    let both = ap (λ (s : ChainState). s.segments) c.in_ok-put_record-2.ensures.chain ∙ both_there f records ready.made c.args.chain.now.segments c.put_record.new.self.segments ready.same first in
    let end = c.end-end.ensures.end ∙ ap file_end both in
    let at = ap (λ (k : ℕ). k + 106) c.from-place.ensures in
    fields_time v0 f records m ready.made ready.held v2 c.put_record-2.new.self.segments two _ _ at end _ _ _ c.as_slice.ensures c.as_slice-2.ensures c.as_slice-3.ensures
    (g.H.Host.view c.finish.new.host) (c.finish.ensures.any_moment two.file two.holds)

pub returns-clause-any_moment : goal.returns-clause-any_moment
returns-clause-any_moment g c f m ready =
    let records = c.args.records.now in
    let v0 = g.H.Host.view c.args.host.now in
    let v1 = g.H.Host.view c.put_record.new.host in
    let v2 = g.H.Host.view c.put_record-2.new.host in
    let chain = subst (λ (s : List Segment). HasChain ready.held.links s ready.held.file) ready.same ready.held.chain in
    let one = list_reached v0 f records m ready.made ready.held v1 records.list.head.seek c.put_record.new.self.segments (list_seek f records ready.made) c.put_record.ensures.writes.said
    (c.put_record.ensures.any_moment ready.held.file ready.held.links ready.held.holds chain) (c.in_ok-put_record.ensures.holds ready.held.file ready.held.links ready.held.holds chain) in
    let two = free_reached v0 f records m ready.made ready.held v1 c.put_record.new.self.segments one v2 records.free.head.seek c.put_record-2.new.self.segments (free_seek f records ready.made) c.put_record-2.ensures.writes.said
    (c.put_record-2.ensures.any_moment one.file _ one.holds one.chain) (c.in_ok-put_record-2.ensures.holds one.file _ one.holds one.chain) in
    let first = ap (λ (s : ChainState). s.segments) c.in_ok-put_record.ensures.chain in
    let both = ap (λ (s : ChainState). s.segments) c.in_ok-put_record-2.ensures.chain ∙ both_there f records ready.made c.args.chain.now.segments c.put_record.new.self.segments ready.same first in
    let end = c.end-end.ensures.end ∙ ap file_end both in
    let at = ap (λ (k : ℕ). k + 106) c.from-place.ensures in
    fields_time v0 f records m ready.made ready.held v2 c.put_record-2.new.self.segments two _ _ at end _ _ _ c.as_slice.ensures c.as_slice-2.ensures c.as_slice-3.ensures
    (g.H.Host.view c.finish.new.host) (c.finish.ensures.any_moment two.file two.holds)

pub returns-clause-closed : goal.returns-clause-closed
returns-clause-closed g c f m ready =
    let records = c.args.records.now in
    let v0 = g.H.Host.view c.args.host.now in
    let v1 = g.H.Host.view c.put_record.new.host in
    let v2 = g.H.Host.view c.put_record-2.new.host in
    let chain = subst (λ (s : List Segment). HasChain ready.held.links s ready.held.file) ready.same ready.held.chain in
    let one = list_reached v0 f records m ready.made ready.held v1 records.list.head.seek c.put_record.new.self.segments (list_seek f records ready.made) c.put_record.ensures.writes.said
    (c.put_record.ensures.any_moment ready.held.file ready.held.links ready.held.holds chain) (c.in_ok-put_record.ensures.holds ready.held.file ready.held.links ready.held.holds chain) in
    let two = free_reached v0 f records m ready.made ready.held v1 c.put_record.new.self.segments one v2 records.free.head.seek c.put_record-2.new.self.segments (free_seek f records ready.made) c.put_record-2.ensures.writes.said
    (c.put_record-2.ensures.any_moment one.file _ one.holds one.chain) (c.in_ok-put_record-2.ensures.holds one.file _ one.holds one.chain) in
    let first = ap (λ (s : ChainState). s.segments) c.in_ok-put_record.ensures.chain in
    let both = ap (λ (s : ChainState). s.segments) c.in_ok-put_record-2.ensures.chain ∙ both_there f records ready.made c.args.chain.now.segments c.put_record.new.self.segments ready.same first in
    let end = c.end-end.ensures.end ∙ ap file_end both in
    let at = ap (λ (k : ℕ). k + 106) c.from-place.ensures in
    closed_then v0 f records m ready.made ready.held v2 c.put_record-2.new.self.segments two _ _ at end _ _ _ c.as_slice.ensures c.as_slice-2.ensures c.as_slice-3.ensures
    (g.H.Host.view c.finish.new.host) (c.in_ok-finish.ensures.holds two.file two.holds)

pub returns-clause-written : goal.returns-clause-written
returns-clause-written g c f m ready =
    let records = c.args.records.now in
    let v0 = g.H.Host.view c.args.host.now in
    let v1 = g.H.Host.view c.put_record.new.host in
    let v2 = g.H.Host.view c.put_record-2.new.host in
    let chain = subst (λ (s : List Segment). HasChain ready.held.links s ready.held.file) ready.same ready.held.chain in
    let one = list_reached v0 f records m ready.made ready.held v1 records.list.head.seek c.put_record.new.self.segments (list_seek f records ready.made) c.put_record.ensures.writes.said
    (c.put_record.ensures.any_moment ready.held.file ready.held.links ready.held.holds chain) (c.in_ok-put_record.ensures.holds ready.held.file ready.held.links ready.held.holds chain) in
    let two = free_reached v0 f records m ready.made ready.held v1 c.put_record.new.self.segments one v2 records.free.head.seek c.put_record-2.new.self.segments (free_seek f records ready.made) c.put_record-2.ensures.writes.said
    (c.put_record-2.ensures.any_moment one.file _ one.holds one.chain) (c.in_ok-put_record-2.ensures.holds one.file _ one.holds one.chain) in
    let first = ap (λ (s : ChainState). s.segments) c.in_ok-put_record.ensures.chain in
    let both = ap (λ (s : ChainState). s.segments) c.in_ok-put_record-2.ensures.chain ∙ both_there f records ready.made c.args.chain.now.segments c.put_record.new.self.segments ready.same first in
    let end = c.end-end.ensures.end ∙ ap file_end both in
    let at = ap (λ (k : ℕ). k + 106) c.from-place.ensures in
    written_then v0 f records m ready.made ready.held v2 c.put_record-2.new.self.segments two _ _ at end _ _ _ c.as_slice.ensures c.as_slice-2.ensures c.as_slice-3.ensures
    (g.H.Host.view c.finish.new.host) (c.in_ok-finish.ensures.holds two.file two.holds)
