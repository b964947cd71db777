use Rattle.std.proofs.Common.{◌≡◌, ℕ, suc, ◌+◌, Bool, List, drop, if◌then◌else◌, sym, ap, ◌∙◌, arith}
use Rattle.rio_format.specs.{declared.class.Base.{Base}, declared.value.Part.{Part}}
use Rattle.rio_model.specs.Mapping.{after_bases}
use Rattle.rio_map.proofs.VersionLaws.{passes}
use Rattle.rio_map.proofs.version.base_parts.Goals as goal

abbrev from_on : ℕ → List Base → List Part → List Part
from_on k bases parts = after_bases (λ p. p.name) (drop k bases) (drop k parts)

pub returns-then-not-is_nameless : goal.returns-then-not-is_nameless
returns-then-not-is_nameless c =
    let k = c.loop-k.k in
    let here = passes c.args.bases.now c.args.parts.now k c.loop-k-test.true in
    let stops = ap (λ (b : Bool). if b then from_on (suc k) c.args.bases.now c.args.parts.now else drop k c.args.parts.now) (sym c.is_nameless.ensures ∙ c.if-not-is_nameless.true) in
    sym stops ∙ sym here ∙ c.loop-k.invariant

pub loop-k-preserved : goal.loop-k-preserved
loop-k-preserved c =
    let k = c.loop-k.k in
    let here = passes c.args.bases.now c.args.parts.now k c.loop-k-test.true in
    let goes = ap (λ (b : Bool). if b then from_on (suc k) c.args.bases.now c.args.parts.now else drop k c.args.parts.now) (sym c.is_nameless.ensures ∙ c.if-not-is_nameless.false) in
    let next : k + 1 ≡ suc k = omega arith in
    ap (λ (n : ℕ). from_on n c.args.bases.now c.args.parts.now) next ∙ sym goes ∙ sym here ∙ c.loop-k.invariant
