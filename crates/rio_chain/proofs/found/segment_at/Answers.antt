use Rattle.std.proofs.Common.{◌≡◌, inl, inr, refl, sym, subst, ◌∙◌, length, arith, rules, ℕ}
use Rattle.std.specs.Prelude.{IfSome, Option, is_some}
use Rattle.rio_host.specs.Reading.{Told}
use Rattle.rio_key.specs.declared.head.KeyHead.{KeyHead}
use Rattle.rio_chain.specs.{Segments.{HasWord, HoldsLink, Link}, Found.{FindsWhole}, Keyed.{HasKeyAt, IsWalkedKey}}
use Rattle.rio_chain.proofs.Links.{IsBadLength, bad_length, no_first_gap, whole_holds, not_whole}
use Rattle.rio_chain.proofs.found.segment_at.Goals.{then-length-lt4-via-then-length-lt4, then-length-lt4-via-else-length-lt4+then-length-ne0, then-length-lt4-via-else-length-lt4+else-length-ne0+then-file_length-place}
use Rattle.rio_chain.proofs.found.segment_at.Goals as goal

pub returns-then-length-lt4-clause-none : goal.returns-then-length-lt4-clause-none
returns-then-length-lt4-clause-none g c = (
  refl,
  λ file told.
      let all : c.args.file_length ≡ length file = c.requires.told file told in
      let size = c.length_of-length.ensures in
      let bad : IsBadLength file c.args.place c.length_of-length.result = elim c.then-length-lt4.branch [
        | then-length-lt4-via-then-length-lt4 w ↦ inl w.if-length-lt4.true
        | then-length-lt4-via-else-length-lt4+then-length-ne0 w ↦ inr (inl w.if-length-ne0.true)
        | then-length-lt4-via-else-length-lt4+else-length-ne0+then-file_length-place w ↦ inr (inr (omega (arith, all, w.if-file_length-place.true)))
      ] in
      bad_length file c.args.place c.args.word (c.requires.word file told) (subst (IsBadLength file c.args.place) size bad),
)

pub returns-then-place-eq100-clause-none : goal.returns-then-place-eq100-clause-none
returns-then-place-eq100-clause-none g c = (
  refl,
  λ file told.
      let is = c.if-place-eq100.true in
      subst (λ (p : ℕ). (link : Link) → ¬ HoldsLink file p link) (sym is) (no_first_gap file c.args.word (subst (λ (p : ℕ). HasWord file p c.args.word) is (c.requires.word file told)) c.if-word-ge2147483648.true),
)

pub returns-in-Some-clause-segment : goal.returns-in-Some-clause-segment
returns-in-Some-clause-segment g c file told =
    let all : c.args.file_length ≡ length file = c.requires.told file told in
    let size : c.length_of-length.result ≡ c.args.word = search rules in
    let whole = subst (λ (k : Option KeyHead). FindsWhole c.args.place c.args.word (is_some k) file) c.in-Some.is (c.in_ok-key.ensures.whole file told) in
    let found = whole_holds file c.args.place c.args.word (omega (arith, all, size, c.if-file_length-place.false, c.requires.within)) whole in
    (found.0, found.1 ∙ sym size, found.2)

pub returns-in-None-clause-none : goal.returns-in-None-clause-none
returns-in-None-clause-none g c = (
  refl,
  λ file told.
      not_whole file c.args.place c.args.word (c.requires.word file told) c.if-word-ge2147483648.false
      (subst (λ (k : Option KeyHead). FindsWhole c.args.place c.args.word (is_some k) file) c.in-None.is (c.in_ok-key.ensures.whole file told)),
)

pub returns-in-Some-clause-walked : goal.returns-in-Some-clause-walked
returns-in-Some-clause-walked g c =
    let size : c.length_of-length.result ≡ c.args.word = search rules in
    let key : IsWalkedKey c.args.place c.args.word c.in-Some.key = subst (λ (k : Option KeyHead). IfSome k (IsWalkedKey c.args.place c.args.word)) c.in-Some.is c.in_ok-key.ensures.walked in
    subst (λ (n : ℕ). IsWalkedKey c.args.place n c.in-Some.key) (sym size) key

pub returns-in-Some-clause-key : goal.returns-in-Some-clause-key
returns-in-Some-clause-key g c file told =
    let size : c.length_of-length.result ≡ c.args.word = search rules in
    let key : HasKeyAt c.in-Some.key c.args.place c.args.word file =
    subst (λ (k : Option KeyHead). IfSome k (λ head. Told (g.H.Host.view c.args.host.now) (HasKeyAt head c.args.place c.args.word))) c.in-Some.is c.in_ok-key.ensures.key file told in
    subst (λ (n : ℕ). HasKeyAt c.in-Some.key c.args.place n file) (sym size) key
