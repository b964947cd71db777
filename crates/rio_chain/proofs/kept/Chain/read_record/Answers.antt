use Rattle.std.proofs.Common.{◌∙◌, ap, sym, subst, arith, get_or, length, List, ℕ}
use Rattle.std.specs.Prelude.{Contains}
use Rattle.rio_num.specs.Room.{Room}
use Rattle.rio_chain.specs.{Adjoining.{AreSegments}, Chains.{ChainState}, Merging.{spans_in}, Placing.{file_end}, Segments.{RecordAt}}
use Rattle.rio_chain.specs.declared.segment.Span.{Span}
use Rattle.rio_chain.proofs.{Held.{record_before_end, record_read, record_within}, Merged.{found_at}}
use Rattle.rio_chain.proofs.kept.Chain.read_record.Goals as goal

pub index-requires : goal.index-requires
index-requires g c =
    let r = c.requires.record in
    let i = c.self.invariant in
    let same = i.records_are ∙ ap (λ (s : ChainState). spans_in s.segments) c.self.view_is in
    let shape : AreSegments c.args.self.now.segments = subst (λ (s : ChainState). AreSegments s.segments) c.self.view_is i.shape in
    let f = found_at c.args.self.now.segments r.0 r.2 c.args.place r.1 c.count_before-at.result r.3 shape.adjacent c.count_before-at.ensures in
    omega (arith, f.inside, ap length same)

pub bytes_at-requires : goal.bytes_at-requires
bytes_at-requires g c file told =
    let r = c.requires.record in
    let i = c.self.invariant in
    let same = i.records_are ∙ ap (λ (s : ChainState). spans_in s.segments) c.self.view_is in
    let shape : AreSegments c.args.self.now.segments = subst (λ (s : ChainState). AreSegments s.segments) c.self.view_is i.shape in
    let f = found_at c.args.self.now.segments r.0 r.2 c.args.place r.1 c.count_before-at.result r.3 shape.adjacent c.count_before-at.ensures in
    let has = c.requires.holds file told in
    let within = record_within file has.0 c.args.self.now.segments c.args.place r.1 r.0 r.2 has.1 r.3 in
    let read = f.is c.index.result.now (c.index.ensures ∙ ap (λ (l : List Span). get_or l c.count_before-at.result c.index.result.now) same) in
    omega (arith, within, ap (λ (x : Span). x.length) read)

pub returns-clause-bytes : goal.returns-clause-bytes
returns-clause-bytes g c file links told has =
    let r = c.requires.record in
    let i = c.self.invariant in
    let same = i.records_are ∙ ap (λ (s : ChainState). spans_in s.segments) c.self.view_is in
    let shape : AreSegments c.args.self.now.segments = subst (λ (s : ChainState). AreSegments s.segments) c.self.view_is i.shape in
    let f = found_at c.args.self.now.segments r.0 r.2 c.args.place r.1 c.count_before-at.result r.3 shape.adjacent c.count_before-at.ensures in
    let read = f.is c.index.result.now (c.index.ensures ∙ ap (λ (l : List Span). get_or l c.count_before-at.result c.index.result.now) same) in
    let held = record_read file links c.args.self.now.segments c.args.place r.1 r.0 r.2 has r.3 c.in_ok-bytes.bytes.items (omega (arith, ap (λ (x : Span). x.length) read, c.in_ok-bytes.ensures.count)) (c.in_ok-bytes.ensures.bytes file told) in
    subst (λ (b : List ℕ). Contains links (RecordAt c.args.place b)) (sym (ap (λ (r : Room). r.bytes) c.from.ensures)) held

pub returns-clause-short : goal.returns-clause-short
returns-clause-short g c =
    let r = c.requires.record in
    let i = c.self.invariant in
    let same = i.records_are ∙ ap (λ (s : ChainState). spans_in s.segments) c.self.view_is in
    let shape : AreSegments c.args.self.now.segments = subst (λ (s : ChainState). AreSegments s.segments) c.self.view_is i.shape in
    let f = found_at c.args.self.now.segments r.0 r.2 c.args.place r.1 c.count_before-at.result r.3 shape.adjacent c.count_before-at.ensures in
    let read = f.is c.index.result.now (c.index.ensures ∙ ap (λ (l : List Span). get_or l c.count_before-at.result c.index.result.now) same) in
    let within = record_before_end c.args.self.now.segments r.0 r.2 c.args.place r.1 r.3 in
    let end = i.end_is ∙ ap (λ (s : ChainState). file_end s.segments) c.self.view_is in
    omega (arith, ap length (ap (λ (r : Room). r.bytes) c.from.ensures), c.in_ok-bytes.ensures.count, ap (λ (x : Span). x.length) read, within, end, i.low)
