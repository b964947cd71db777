use Rattle.std.proofs.Common.{◌≡◌, ◌∙◌, ◌-◌, arith, length, length-append, take, drop, ap, sym, subst}
use Rattle.std.specs.Prelude.{MatchOption, sum}
use Rattle.rio_chain.specs.{Batches.{cut_by, first_length}, Changes.{with_records}, Placing.{HasRest, file_end, word_behind}, Chains.{ChainState, HasChain}}
use Rattle.rio_chain.proofs.{PutChain.{behind_word, put_time, put_holds}, PutsNoted.{all_long, cut_lengths, first_small, lengths_of, putting_all, room_by_rest}}
use Rattle.rio_chain.proofs.kept.Chain.put_all.Goals as goal

pub slice_bounds-put_behind-count : goal.slice_bounds-put_behind-count
slice_bounds-put_behind-count g c = omega (arith, all_long c.args.place c.args.lengths.now c.args.body.now.bytes c.requires.whole, ap length (c.as_slice.ensures ∙ c.append_word.ensures), length-append c.args.body.now.bytes (word_behind c.rest_behind-rest.result))

pub slice_bounds-put_behind-start : goal.slice_bounds-put_behind-start
slice_bounds-put_behind-start g c = slice_bounds-put_behind-count g c

pub overflow_cast-first : goal.overflow_cast-first
overflow_cast-first g c = omega (arith, c.first_length-first.ensures, first_small c.args.place c.args.lengths.now c.args.body.now.bytes c.requires.whole)

pub note_all-requires-clause-lengths : goal.note_all-requires-clause-lengths
note_all-requires-clause-lengths g c = lengths_of c.args.place c.args.lengths.now c.args.body.now.bytes c.requires.whole

pub note_all-requires-clause-space : goal.note_all-requires-clause-space
note_all-requires-clause-space g c = room_by_rest c.args.self.now.segments c.args.place c.len-n.result (sum c.args.lengths.now) c.rest_behind-rest.result (c.len-n.ensures ∙ c.requires.whole.long) c.rest_behind-rest.ensures.rest

pub put_behind-requires-clause-within : goal.put_behind-requires-clause-within
put_behind-requires-clause-within g c file told =
    let held = c.requires.holds file told in
    let links = held.0 in
    let has = held.1 in
    let rest = subst (λ n. MatchOption c.rest_behind-rest.result (c.args.place ≡ file_end c.args.self.now.segments) (λ k. HasRest c.args.self.now.segments c.args.place n k)) c.len-n.ensures c.rest_behind-rest.ensures.rest in
    (putting_all file links c.args.self.now.segments c.args.place c.args.lengths.now c.args.body.now.bytes (take (length c.as_slice.result.now - 4) (drop 4 c.as_slice.result.now)) c.rest_behind-rest.result has c.requires.whole rest (behind_word c.as_slice.result.now ∙ ap (drop 4) (c.as_slice.ensures ∙ c.append_word.ensures))).within

pub returns-in-Ok-clause-any_moment : goal.returns-in-Ok-clause-any_moment
returns-in-Ok-clause-any_moment g c file links told has =
    let rest = subst (λ n. MatchOption c.rest_behind-rest.result (c.args.place ≡ file_end c.args.self.now.segments) (λ k. HasRest c.args.self.now.segments c.args.place n k)) c.len-n.ensures c.rest_behind-rest.ensures.rest in
    let p = putting_all file links c.args.self.now.segments c.args.place c.args.lengths.now c.args.body.now.bytes (take (length c.as_slice.result.now - 4) (drop 4 c.as_slice.result.now)) c.rest_behind-rest.result has c.requires.whole rest (behind_word c.as_slice.result.now ∙ ap (drop 4) (c.as_slice.ensures ∙ c.append_word.ensures)) in
    put_time (g.H.Host.view c.args.host.now) (g.H.Host.view c.put_behind.new.host) file links c.args.place (first_length c.args.lengths.now) c.first_length-first.result (cut_by c.args.lengths.now c.args.body.now.bytes) (take (length c.as_slice.result.now - 4) (drop 4 c.as_slice.result.now)) p c.first_length-first.ensures (c.in-Ok.ensures.any_moment file told)

pub returns-in-Err-clause-any_moment : goal.returns-in-Err-clause-any_moment
returns-in-Err-clause-any_moment g c file links told has =
    let rest = subst (λ n. MatchOption c.rest_behind-rest.result (c.args.place ≡ file_end c.args.self.now.segments) (λ k. HasRest c.args.self.now.segments c.args.place n k)) c.len-n.ensures c.rest_behind-rest.ensures.rest in
    let p = putting_all file links c.args.self.now.segments c.args.place c.args.lengths.now c.args.body.now.bytes (take (length c.as_slice.result.now - 4) (drop 4 c.as_slice.result.now)) c.rest_behind-rest.result has c.requires.whole rest (behind_word c.as_slice.result.now ∙ ap (drop 4) (c.as_slice.ensures ∙ c.append_word.ensures)) in
    put_time (g.H.Host.view c.args.host.now) (g.H.Host.view c.put_behind.new.host) file links c.args.place (first_length c.args.lengths.now) c.first_length-first.result (cut_by c.args.lengths.now c.args.body.now.bytes) (take (length c.as_slice.result.now - 4) (drop 4 c.as_slice.result.now)) p c.first_length-first.ensures (c.in-Err.ensures.any_moment file told)

pub returns-in-Ok-clause-holds : goal.returns-in-Ok-clause-holds
returns-in-Ok-clause-holds g c file links told has =
    let rest = subst (λ n. MatchOption c.rest_behind-rest.result (c.args.place ≡ file_end c.args.self.now.segments) (λ k. HasRest c.args.self.now.segments c.args.place n k)) c.len-n.ensures c.rest_behind-rest.ensures.rest in
    let p = putting_all file links c.args.self.now.segments c.args.place c.args.lengths.now c.args.body.now.bytes (take (length c.as_slice.result.now - 4) (drop 4 c.as_slice.result.now)) c.rest_behind-rest.result has c.requires.whole rest (behind_word c.as_slice.result.now ∙ ap (drop 4) (c.as_slice.ensures ∙ c.append_word.ensures)) in
    let long = cut_lengths c.args.lengths.now c.args.body.now.bytes c.requires.whole.long in
    let h = put_holds (g.H.Host.view c.put_behind.new.host).holds file links c.args.self.now.segments c.args.place (first_length c.args.lengths.now) c.first_length-first.result (cut_by c.args.lengths.now c.args.body.now.bytes) c.args.lengths.now (take (length c.as_slice.result.now - 4) (drop 4 c.as_slice.result.now)) p has.same c.first_length-first.ensures long (c.in-Ok.ensures.holds file told) in
    let after = ap (λ (s : ChainState). s.segments) c.note_all.ensures in
    (h.0, h.1, subst (λ s. HasChain (with_records c.args.place (cut_by c.args.lengths.now c.args.body.now.bytes) links) s h.0) (sym after) h.2, h.3)
