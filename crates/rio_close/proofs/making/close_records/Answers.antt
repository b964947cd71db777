use Rattle.std.proofs.Common.{◌≡◌, ◌+◌, ◌*◌, ◌≤◌, List, codes, length, ap, sym, subst, ◌∙◌, arith}
use Rattle.rio_dir.specs.Table.{heads_size}
use Rattle.rio_chain.specs.{Chains.{ChainState}, Placing.{file_end, gaps_in, record_count}, declared.segment.Segment.{Segment}}
use Rattle.rio_machine.specs.Limits.{head_length}
use Rattle.rio_state.specs.Closing.{padded_length}
use Rattle.rio_state.specs.Sizes.{close_size}
use Rattle.rio_close.specs.Written.{record_size}
use Rattle.rio_close.proofs.Fitting.{free_fits, list_fits}
use Rattle.rio_close.proofs.making.close_records.Goals as goal

pub list_record-requires-clause-low : goal.list_record-requires-clause-low
list_record-requires-clause-low c =
    let same : c.reserve.new.self.segments ≡ c.args.chain.now.segments = ap (λ (s : ChainState). s.segments) c.in_ok-reserve.ensures.ok ∙ ap (λ (s : ChainState). s.segments) c.in_ok-after.ensures in
    let fits = list_fits c.args.chain.now.segments c.args.name.now c.args.table.now.heads c.requires.low in
    omega (arith, fits, ap file_end same)

pub free_record-requires-clause-low : goal.free_record-requires-clause-low
free_record-requires-clause-low c =
    let name = c.args.name.now in
    let heads = c.args.table.now.heads in
    let segments = c.reserve.new.self.segments in
    let same : segments ≡ c.args.chain.now.segments = ap (λ (s : ChainState). s.segments) c.in_ok-reserve.ensures.ok ∙ ap (λ (s : ChainState). s.segments) c.in_ok-after.ensures in
    let low = subst (λ (s : List Segment). file_end s + close_size name (heads_size heads) (record_count s) ≤ 1999999996) (sym same) c.requires.low in
    let fits = free_fits segments name heads low (record_size c.in_ok-list.list) c.in_ok-list.ensures.shape c.in_ok-list.ensures.size in
    let after = ap (λ (s : ChainState). s.segments) c.in_ok-list.ensures.chain in
    subst (λ (s : List Segment). file_end s + padded_length (head_length (codes "TFile") name + 10 * (length (gaps_in s) + 1)) ≤ 1999999996) (sym after) fits

pub overflow_cast-list_size : goal.overflow_cast-list_size
overflow_cast-list_size c =
    let fits = list_fits c.args.chain.now.segments c.args.name.now c.args.table.now.heads c.requires.low in
    omega (arith, fits, c.len-list_size.ensures, c.in_ok-list.ensures.size)
