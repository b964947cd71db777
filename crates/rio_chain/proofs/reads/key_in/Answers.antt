use Rattle.std.proofs.Common.{◌≡◌, ◌∙◌, ap, sym, subst, Option, Some, None, Result, Ok, Err}
use Rattle.std.specs.Prelude.{IfOk, IfSome}
use Rattle.rio_num.proofs.ReadLaws.{ok_is}
use Rattle.rio_num.specs.Plain.{IsSpelledIn}
use Rattle.rio_key.specs.{Key.{SpellsKey}, declared.fault.KeyFault.{KeyFault}, declared.head.KeyHead.{KeyHead}}
use Rattle.rio_chain.specs.{Found.{IsShortKey}, declared.fault.WalkFault.{WalkFault}}
use Rattle.rio_chain.proofs.{Keys.{standing_rest, no_key_found}, ShortKeys.{short_key}}
use Rattle.rio_chain.proofs.reads.key_in.Goals as goal

pub returns-in-Ok-clause-key : goal.returns-in-Ok-clause-key
returns-in-Ok-clause-key c =
    let is = standing_rest c.args.place c.args.bytes.now in record {
      found_is = subst (IsSpelledIn (SpellsKey c.in-Ok.head)) is c.in-Ok.ensures.found;
      only = λ h s. ap some (ok_is {E = KeyFault} c.in-Ok.head h (sym (c.in-Ok.ensures.only h s.0 s.1 (is ∙ s.2) s.3)));
    }
  where
    some : KeyHead → Option KeyHead
    some h = Some h

pub returns-in-Err-clause-key : goal.returns-in-Err-clause-key
returns-in-Err-clause-key c =
    let is = standing_rest c.args.place c.args.bytes.now in
    no_key_found c.args.bytes.now c.in-Err.fault c.no_key.result (λ ne h s. let clash = c.in-Err.ensures.only h s.0 s.1 (is ∙ s.2) s.3 ne in cc) c.no_key.ensures.key

pub returns-in-Ok-clause-short : goal.returns-in-Ok-clause-short
returns-in-Ok-clause-short c =
    let is = standing_rest c.args.place c.args.bytes.now in
    short_key c.in-Ok.head c.args.bytes.now (subst (IsSpelledIn (SpellsKey c.in-Ok.head)) is c.in-Ok.ensures.found)

none_short : (Q : Type 0) (r : Result (Option KeyHead) WalkFault) → IfOk r (λ found. (found ≡ None) × Q) → IfOk r (λ found. IfSome found IsShortKey)
none_short Q (Ok found) is = subst (λ (o : Option KeyHead). IfSome o IsShortKey) (sym is.0) tt
none_short Q (Err e) is = tt

pub returns-in-Err-clause-short : goal.returns-in-Err-clause-short
returns-in-Err-clause-short c = none_short _ c.no_key.result c.no_key.ensures.key
