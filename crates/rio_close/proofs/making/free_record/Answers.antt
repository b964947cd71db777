use Rattle.std.proofs.Common.{◌≡◌, ◌+◌, ◌-◌, ◌*◌, ◌++◌, List, codes, length, ap, sym, ◌∙◌, arith}
use Rattle.rio_num.specs.Room.{Room}
use Rattle.rio_free.specs.{Record.{free_bytes}, declared.gap.Gap.{Gap as FreeGap}}
use Rattle.rio_free.proofs.Written.{length-free}
use Rattle.rio_chain.specs.{Chains.{ChainState}, Placing.{file_end, gaps_in, with_segment}}
use Rattle.rio_chain.proofs.Placed.{end_grows}
use Rattle.rio_machine.specs.Limits.{head_length}
use Rattle.rio_state.specs.Closing.{padded_length}
use Rattle.rio_close.specs.Written.{record_size}
use Rattle.rio_close.proofs.Fitting.{end_gaps, free_size_is, gaps_fit, words_fit}
use Rattle.rio_close.proofs.making.free_record.Goals as goal

pub note_put-requires-clause-low : goal.note_put-requires-clause-low
note_put-requires-clause-low c =
    let segments = c.args.chain.now.segments in
    let key_is = c.own_key_length.ensures.exact in
    let gaps : c.as_slice.result.now ≡ gaps_in segments = c.as_slice.ensures.all ∙ c.gaps.ensures in
    let n_is : c.padded-n.result ≡ padded_length (head_length (codes "TFile") c.args.name.now + 10 * (length (gaps_in segments) + 1)) =
    c.padded-n.ensures ∙ (λ i. padded_length (key_is i + 10 * (length (gaps i) + 1))) in
    omega (arith, end_grows segments c.end-place.result c.padded-n.result c.end-place.ensures.shape c.end-place.ensures.end, n_is, c.requires.low)

pub write_free-requires-clause-gaps_fit : goal.write_free-requires-clause-gaps_fit
write_free-requires-clause-gaps_fit c =
    gaps_fit c.note_put.new.self.segments c.gaps-2.result.now.gaps c.end.ensures.shape c.gaps-2.ensures (omega (arith, c.end.ensures.end, c.end.ensures.low))

pub own_record-requires : goal.own_record-requires
own_record-requires c =
    let segments = c.args.chain.now.segments in
    let key_is = c.own_key_length.ensures.exact in
    let gaps : c.as_slice.result.now ≡ gaps_in segments = c.as_slice.ensures.all ∙ c.gaps.ensures in
    let n_is : c.padded-n.result ≡ padded_length (head_length (codes "TFile") c.args.name.now + 10 * (length (gaps_in segments) + 1)) =
    c.padded-n.ensures ∙ (λ i. padded_length (key_is i + 10 * (length (gaps i) + 1))) in
    let after : c.note_put.new.self.segments ≡ with_segment c.end-place.result c.padded-n.result segments = ap (λ (s : ChainState). s.segments) c.note_put.ensures in
    let same : gaps_in c.note_put.new.self.segments ≡ gaps_in segments = ap gaps_in after ∙ end_gaps segments c.end-place.result c.padded-n.result c.end-place.ensures.shape c.end-place.ensures.end in
    let told : free_bytes c.gaps-2.result.now.gaps c.end.result ≡ free_bytes (gaps_in c.note_put.new.self.segments) (file_end c.note_put.new.self.segments) = λ i. free_bytes (c.gaps-2.ensures i) (c.end.ensures.end i) in
    let contents : c.as_slice-2.result.now ≡ free_bytes (gaps_in c.note_put.new.self.segments) (file_end c.note_put.new.self.segments) =
    c.as_slice-2.ensures ∙ ap (λ (r : Room). r.bytes) c.in_ok-write_free.ensures ∙ ap (λ (r : Room). r.bytes ++ free_bytes c.gaps-2.result.now.gaps c.end.result) c.new-contents.ensures ∙ told in
    let long : head_length (codes "TFile") c.args.name.now + length c.as_slice-2.result.now ≡ head_length (codes "TFile") c.args.name.now + 10 * (length (gaps_in segments) + 1) =
    omega (arith, ap length contents, length-free (gaps_in c.note_put.new.self.segments) (file_end c.note_put.new.self.segments), ap length same) in
    words_fit c.end-place.result c.args.datime c.args.name.now (length c.as_slice-2.result.now) c.end-place.ensures.low (omega (arith, c.ranges.datime.fits))
    (omega (arith, key_is, c.own_key_length.ensures.short, c.requires.name)) (omega (arith, c.requires.low, ap padded_length long))

pub returns-clause-count : goal.returns-clause-count
returns-clause-count c =
    let segments = c.args.chain.now.segments in
    let key_is = c.own_key_length.ensures.exact in
    let gaps : c.as_slice.result.now ≡ gaps_in segments = c.as_slice.ensures.all ∙ c.gaps.ensures in
    let n_is : c.padded-n.result ≡ padded_length (head_length (codes "TFile") c.args.name.now + 10 * (length (gaps_in segments) + 1)) =
    c.padded-n.ensures ∙ (λ i. padded_length (key_is i + 10 * (length (gaps i) + 1))) in
    let after : c.note_put.new.self.segments ≡ with_segment c.end-place.result c.padded-n.result segments = ap (λ (s : ChainState). s.segments) c.note_put.ensures in
    let same : gaps_in c.note_put.new.self.segments ≡ gaps_in segments = ap gaps_in after ∙ end_gaps segments c.end-place.result c.padded-n.result c.end-place.ensures.shape c.end-place.ensures.end in
    omega (arith, ap length gaps, ap length same)

pub returns-clause-size : goal.returns-clause-size
returns-clause-size c =
    let segments = c.args.chain.now.segments in
    let key_is = c.own_key_length.ensures.exact in
    let gaps : c.as_slice.result.now ≡ gaps_in segments = c.as_slice.ensures.all ∙ c.gaps.ensures in
    let n_is : c.padded-n.result ≡ padded_length (head_length (codes "TFile") c.args.name.now + 10 * (length (gaps_in segments) + 1)) =
    c.padded-n.ensures ∙ (λ i. padded_length (key_is i + 10 * (length (gaps i) + 1))) in
    let after : c.note_put.new.self.segments ≡ with_segment c.end-place.result c.padded-n.result segments = ap (λ (s : ChainState). s.segments) c.note_put.ensures in
    let same : gaps_in c.note_put.new.self.segments ≡ gaps_in segments = ap gaps_in after ∙ end_gaps segments c.end-place.result c.padded-n.result c.end-place.ensures.shape c.end-place.ensures.end in
    let told : free_bytes c.gaps-2.result.now.gaps c.end.result ≡ free_bytes (gaps_in c.note_put.new.self.segments) (file_end c.note_put.new.self.segments) = λ i. free_bytes (c.gaps-2.ensures i) (c.end.ensures.end i) in
    let contents : c.as_slice-2.result.now ≡ free_bytes (gaps_in c.note_put.new.self.segments) (file_end c.note_put.new.self.segments) =
    c.as_slice-2.ensures ∙ ap (λ (r : Room). r.bytes) c.in_ok-write_free.ensures ∙ ap (λ (r : Room). r.bytes ++ free_bytes c.gaps-2.result.now.gaps c.end.result) c.new-contents.ensures ∙ told in
    let size = free_size_is c.end-place.result c.args.datime (file_end c.note_put.new.self.segments) c.args.name.now c.as_slice-2.result.now (gaps_in c.note_put.new.self.segments) c.in_ok-made.made contents c.in_ok-made.ensures in
    let size_is : record_size c.in_ok-made.made ≡ c.padded-n.result =
    size ∙ ap (λ (g : List FreeGap). padded_length (head_length (codes "TFile") c.args.name.now + 10 * (length g + 1))) same ∙ sym n_is in
    omega (arith, size_is, n_is, c.requires.low)

pub returns-clause-chain : goal.returns-clause-chain
returns-clause-chain c =
    let segments = c.args.chain.now.segments in
    let key_is = c.own_key_length.ensures.exact in
    let gaps : c.as_slice.result.now ≡ gaps_in segments = c.as_slice.ensures.all ∙ c.gaps.ensures in
    let n_is : c.padded-n.result ≡ padded_length (head_length (codes "TFile") c.args.name.now + 10 * (length (gaps_in segments) + 1)) =
    c.padded-n.ensures ∙ (λ i. padded_length (key_is i + 10 * (length (gaps i) + 1))) in
    let after : c.note_put.new.self.segments ≡ with_segment c.end-place.result c.padded-n.result segments = ap (λ (s : ChainState). s.segments) c.note_put.ensures in
    let same : gaps_in c.note_put.new.self.segments ≡ gaps_in segments = ap gaps_in after ∙ end_gaps segments c.end-place.result c.padded-n.result c.end-place.ensures.shape c.end-place.ensures.end in
    let told : free_bytes c.gaps-2.result.now.gaps c.end.result ≡ free_bytes (gaps_in c.note_put.new.self.segments) (file_end c.note_put.new.self.segments) = λ i. free_bytes (c.gaps-2.ensures i) (c.end.ensures.end i) in
    let contents : c.as_slice-2.result.now ≡ free_bytes (gaps_in c.note_put.new.self.segments) (file_end c.note_put.new.self.segments) =
    c.as_slice-2.ensures ∙ ap (λ (r : Room). r.bytes) c.in_ok-write_free.ensures ∙ ap (λ (r : Room). r.bytes ++ free_bytes c.gaps-2.result.now.gaps c.end.result) c.new-contents.ensures ∙ told in
    let size = free_size_is c.end-place.result c.args.datime (file_end c.note_put.new.self.segments) c.args.name.now c.as_slice-2.result.now (gaps_in c.note_put.new.self.segments) c.in_ok-made.made contents c.in_ok-made.ensures in
    let size_is : record_size c.in_ok-made.made ≡ c.padded-n.result =
    size ∙ ap (λ (g : List FreeGap). padded_length (head_length (codes "TFile") c.args.name.now + 10 * (length g + 1))) same ∙ sym n_is in
    let n_now = sym size_is in
    let place_now = c.end-place.ensures.end in
    c.note_put.ensures ∙ (λ i. record c.args.chain.now { segments = with_segment (place_now i) (n_now i) segments; spare = c.args.chain.now.spare - 1 })
