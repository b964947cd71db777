use Rattle.std.proofs.{Common.{◌≡◌, ◌≢◌, ◌⊎◌, ◌+◌, ◌≤◌, ◌∙◌, ℕ, Option, Some, inl, inr, sym, ap, subst, subst₂}, lemmas.Result.{err_from_is_err_and}}
use Rattle.rio_host.specs.Reading.{FindsWord, Told}
use Rattle.rio_key.specs.declared.head.KeyHead.{KeyHead}
use Rattle.rio_chain.specs.{Adjoining.{segment_length}, Keyed.{AreKeyed, HasKeyAt, IsWalkedKey}}
use Rattle.rio_host.proofs.ReadsLaws.{reads_join}
use Rattle.rio_chain.proofs.SoFar.{breaks_short, tells_break, walked, shape_whole, shape_more, up_to_more, Going, Shape, UpTo}
use Rattle.rio_chain.proofs.WalkedKeys.{KeysSoFar, keyed_more}
use Rattle.rio_chain.proofs.walking.walk_with_keys.Goals.{else-found-eq0-via-then-found-eq0+else-place-gt100, else-found-eq0-via-else-found-eq0}
use Rattle.rio_chain.proofs.walking.walk_with_keys.Goals as goal

pub returns-in-None-clause-broken : goal.returns-in-None-clause-broken
returns-in-None-clause-broken g c file told =
    breaks_short file c.links.place c.links.segments (c.links.invariant.0.stand file told) (subst (λ o. FindsWord c.links.place o file) c.in-None.is (c.links.invariant.0.here file told))

-- the word is zero
zero_of : (word : Option ℕ) (found : ℕ) → word ≡ Some found → found ≡ 0 → word ≡ Some 0
zero_of word found is zero = cc

pub returns-then-place-gt100-clause-segments : goal.returns-then-place-gt100-clause-segments
returns-then-place-gt100-clause-segments g c file told =
    walked file c.links.place c.links.segments (c.links.invariant.0.stand file told)
    (subst (λ o. FindsWord c.links.place o file) (zero_of c.links.word c.in-Some.found c.in-Some.is c.if-found-eq0.true) (c.links.invariant.0.here file told)) c.if-place-gt100.true

pub returns-then-place-gt100-clause-shape : goal.returns-then-place-gt100-clause-shape
returns-then-place-gt100-clause-shape g c =
    shape_whole c.links.place c.links.segments (subst (λ o. Shape c.links.place o c.links.segments) (zero_of c.links.word c.in-Some.found c.in-Some.is c.if-found-eq0.true) c.links.invariant.0.shape) c.if-place-gt100.true

pub link_at-requires-clause-word : goal.link_at-requires-clause-word
link_at-requires-clause-word g c file told = subst (λ o. FindsWord c.links.place o file) c.in-Some.is (c.links.invariant.0.here file (sym c.links.invariant.0.calls.holds ∙ told))

pub returns-in_err-segment-clause-broken : goal.returns-in_err-segment-clause-broken
returns-in_err-segment-clause-broken g c =
    let p = err_from_is_err_and c.from_residual-in_err-segment.result c.from_residual-in_err-segment.ensures.1 in
    let live : (c.in-Some.found ≢ 0) ⊎ (c.links.place ≤ 100) =
    elim c.else-found-eq0.branch [ else-found-eq0-via-then-found-eq0+else-place-gt100 w ↦ inr w.if-place-gt100.false | else-found-eq0-via-else-found-eq0 w ↦ inl w.if-found-eq0.false ] in
    rw (p.1, p.2) (tells_break (g.H.Host.view c.args.host.now) (g.H.Host.view c.links.host) c.links.place c.in-Some.found c.links.segments c.in_err-segment.field-0.0 c.links.invariant.0.calls.holds c.links.invariant.0.stand
    (λ file told. subst (λ o. FindsWord c.links.place o file) c.in-Some.is (c.links.invariant.0.here file told)) live c.in_err-segment.ensures.none)

pub links-preserved : goal.links-preserved
links-preserved g c =
    let inv = c.links.invariant.0 in
    let seg = c.in_ok-segment.field-0.segment in
    let size : c.end-place.result ≡ c.links.place + segment_length seg = c.end-place.ensures ∙ ap (λ (p : ℕ). p + segment_length seg) c.in_ok-segment.ensures.begins.there in
    let told_links : Told (g.H.Host.view c.args.host.now) (λ file. UpTo (c.links.place + segment_length seg) c.push.new.self file × FindsWord (c.links.place + segment_length seg) c.in_ok-segment.field-0.behind file) =
    λ file told. up_to_more file c.links.place c.links.segments c.push.new.self seg c.in_ok-segment.field-0.behind (inv.stand file told) (c.in_ok-segment.ensures.link file (inv.calls.holds ∙ told)) c.in_ok-push.ensures.ok in
    let moved : Going (g.H.Host.view c.args.host.now) (g.H.Host.view c.link_at.new.host) c.in_ok-file_length.file_length (c.links.place + segment_length seg) c.in_ok-segment.field-0.behind c.push.new.self = record {
      calls = reads_join (g.met.H.Host.lawful c.links.host) inv.calls c.link_at.ensures.calls;
      calm = c.in_ok-segment.ensures.cause ∙ inv.calm;
      long = inv.long;
      within = c.in_ok-segment.ensures.behind;
      shape = shape_more c.links.place c.in-Some.found c.in_ok-segment.field-0.behind c.links.segments c.push.new.self seg (subst (λ o. Shape c.links.place o c.links.segments) c.in-Some.is inv.shape) c.in_ok-segment.ensures.begins c.in_ok-segment.ensures.kind c.in_ok-segment.ensures.apart c.in_ok-push.ensures.ok;
      here = λ file told. (told_links file told).1;
      stand = λ file told. (told_links file told).0;
    } in
    let more = c.in_ok-push.ensures.ok in
    let others = c.in_ok-push_key.ensures in
    let keys : KeysSoFar (g.H.Host.view c.args.host.now) c.push.new.self c.push_key.new.heads = record {
      walked = subst₂ (AreKeyed IsWalkedKey) (sym more) (sym others) (keyed_more IsWalkedKey c.links.segments c.links.heads seg c.in_ok-segment.field-0.key c.links.invariant.1.walked c.in_ok-segment.ensures.walked);
      stand = λ file told.
          let Holds : ℕ → ℕ → KeyHead → Type 0 = λ p n head. HasKeyAt head p n file in
          subst₂ (AreKeyed Holds) (sym more) (sym others)
          (keyed_more Holds c.links.segments c.links.heads seg c.in_ok-segment.field-0.key (c.links.invariant.1.stand file told) (c.in_ok-segment.ensures.key file (inv.calls.holds ∙ told)));
    } in
    (subst (λ (p : ℕ). Going (g.H.Host.view c.args.host.now) (g.H.Host.view c.link_at.new.host) c.in_ok-file_length.file_length p c.in_ok-segment.field-0.behind c.push.new.self) (sym size) moved, keys)
