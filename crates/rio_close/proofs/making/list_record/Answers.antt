use Rattle.std.proofs.Common.{◌≡◌, ℕ, ◌+◌, ◌-◌, ◌%◌, ◌++◌, codes, length, ap, sym, ◌∙◌, arith}
use Rattle.rio_num.specs.Room.{Room}
use Rattle.rio_dir.specs.Table.{heads_size, key_list_bytes}
use Rattle.rio_chain.specs.Placing.{file_end, place_of, with_segment}
use Rattle.rio_machine.specs.Limits.{head_length}
use Rattle.rio_state.specs.Closing.{padded_length}
use Rattle.rio_close.specs.Written.{record_size}
use Rattle.rio_close.proofs.{ClosedFile.{few_heads}, Fitting.{list_length_is, list_size, own_as, padded_aligned, placed_low, words_fit}}
use Rattle.rio_close.proofs.making.list_record.Goals as goal

pub write_key_list-requires-clause-count : goal.write_key_list-requires-clause-count
write_key_list-requires-clause-count c = omega (arith, c.requires.low, few_heads c.args.table.now.heads)

pub own_record-requires : goal.own_record-requires
own_record-requires c =
    let heads = c.args.table.now.heads in
    let contents : c.as_slice.result.now ≡ key_list_bytes heads =
    c.as_slice.ensures ∙ ap (λ (r : Room). r.bytes) c.in_ok-write_key_list.ensures.ok ∙ ap (λ (r : Room). r.bytes ++ key_list_bytes heads) c.new-contents.ensures in
    let long : head_length (codes "TFile") c.args.name.now + length c.as_slice.result.now ≡ head_length (codes "TFile") c.args.name.now + 4 + heads_size heads = omega (arith, ap length contents, list_length_is heads) in
    words_fit c.place_for-place.result c.args.datime c.args.name.now (length c.as_slice.result.now) (omega (arith, c.place_for-place.ensures.low, c.place_for-place.ensures.end_low)) (omega (arith, c.ranges.datime.fits))
    (omega (arith, c.own_key_length.ensures.exact, c.own_key_length.ensures.short, c.requires.name)) (omega (arith, c.requires.low, ap padded_length long))

pub note_put-requires-clause-low : goal.note_put-requires-clause-low
note_put-requires-clause-low c =
    let segments = c.args.chain.now.segments in
    let n = c.padded-n.result in
    let aligned : n % 4 ≡ 0 = ap (λ (k : ℕ). k % 4) c.padded-n.ensures ∙ padded_aligned (c.own_key_length.result + 4 + c.heads_length.result) in
    let size : n ≡ padded_length (head_length (codes "TFile") c.args.name.now + 4 + heads_size c.args.table.now.heads) =
    c.padded-n.ensures ∙ (λ i. padded_length (c.own_key_length.ensures.exact i + 4 + c.heads_length.ensures i)) in
    let low = placed_low segments n c.place_for-place.ensures.shape (omega (arith, size)) aligned in
    omega (arith, low, size, c.requires.low, ap (λ (p : ℕ). file_end (with_segment p n segments)) c.place_for-place.ensures.exact)

pub returns-clause-size : goal.returns-clause-size
returns-clause-size c =
    let heads = c.args.table.now.heads in
    let contents : c.as_slice.result.now ≡ key_list_bytes heads =
    c.as_slice.ensures ∙ ap (λ (r : Room). r.bytes) c.in_ok-write_key_list.ensures.ok ∙ ap (λ (r : Room). r.bytes ++ key_list_bytes heads) c.new-contents.ensures in
    list_size c.place_for-place.result c.args.datime c.args.name.now c.as_slice.result.now heads c.in_ok-made.made contents c.in_ok-made.ensures

pub returns-clause-made : goal.returns-clause-made
returns-clause-made c =
    let heads = c.args.table.now.heads in
    let segments = c.args.chain.now.segments in
    let contents : c.as_slice.result.now ≡ key_list_bytes heads =
    c.as_slice.ensures ∙ ap (λ (r : Room). r.bytes) c.in_ok-write_key_list.ensures.ok ∙ ap (λ (r : Room). r.bytes ++ key_list_bytes heads) c.new-contents.ensures in
    let size = list_size c.place_for-place.result c.args.datime c.args.name.now c.as_slice.result.now heads c.in_ok-made.made contents c.in_ok-made.ensures in
    let n_is : c.padded-n.result ≡ record_size c.in_ok-made.made = c.padded-n.ensures ∙ (λ i. padded_length (c.own_key_length.ensures.exact i + 4 + c.heads_length.ensures i)) ∙ sym size in
    own_as c.place_for-place.result (place_of segments (record_size c.in_ok-made.made)) c.args.datime c.args.name.now c.as_slice.result.now (key_list_bytes heads) c.in_ok-made.made
    (c.place_for-place.ensures.exact ∙ ap (place_of segments) n_is) contents c.in_ok-made.ensures

pub returns-clause-chain : goal.returns-clause-chain
returns-clause-chain c =
    let heads = c.args.table.now.heads in
    let segments = c.args.chain.now.segments in
    let contents : c.as_slice.result.now ≡ key_list_bytes heads =
    c.as_slice.ensures ∙ ap (λ (r : Room). r.bytes) c.in_ok-write_key_list.ensures.ok ∙ ap (λ (r : Room). r.bytes ++ key_list_bytes heads) c.new-contents.ensures in
    let size = list_size c.place_for-place.result c.args.datime c.args.name.now c.as_slice.result.now heads c.in_ok-made.made contents c.in_ok-made.ensures in
    let n_is : c.padded-n.result ≡ record_size c.in_ok-made.made = c.padded-n.ensures ∙ (λ i. padded_length (c.own_key_length.ensures.exact i + 4 + c.heads_length.ensures i)) ∙ sym size in
    let place = c.place_for-place.ensures.exact ∙ ap (place_of segments) n_is in
    c.note_put.ensures ∙ (λ i. record c.args.chain.now { segments = with_segment (place i) (n_is i) segments; spare = c.args.chain.now.spare - 1 })
