-- The parts of an object and of its bases, one layer at a time.
use Rattle.std.proofs.Common.{◌≡◌, ℕ, ◌+◌, ◌<◌, drop, get_or, length, ℤ, Bool, true, false, cond, List, [], ◌∷◌, ◌++◌, map, Option, Some, refl, sym, ap, ◌∙◌}
use Rattle.std.proofs.lemmas.List.{at_drop_more}
use Rattle.std.specs.{Prelude.{find}, Option.{option_map, option_or}, Str.{bytes_eq}, List.{flat_map}}
use Rattle.rio_format.specs.{Accessors.{part_of}, declared.value.Part.{Part}}
use Rattle.rio_format.specs.declared.value.Value.{Value, Object, out-Value, roll-Value, roll-out-Value, TheVariants.{rolls-Object}, TheOpen.{Value-F}, TheFolds.{para-Part, para-roll-Value, para-roll-Part}, TheViews.{out-Part, roll-out-Part}}
use Rattle.rio_format.specs.PartsWithBases.{kept_parts, member_in, parts_of_base, parts_step, parts_with_bases}
use Rattle.rio_format.specs.declared.value.Value.TheOpen as layer

abbrev Parts : Type 0
Parts = List Part

abbrev part_step : (p : layer.Part-F (Value × Parts) (Part × Parts)) → Parts
part_step p = p.value.1

abbrev in_part : Part → Parts
in_part = para-Part Parts Parts parts_step part_step

part_parts : (p : Part) → in_part p ≡ parts_with_bases p.value
part_parts p = ap in_part (sym (roll-out-Part p)) ∙ para-roll-Part Parts Parts parts_step part_step (out-Part p)

fronts : (ps : List Part) → map (λ (e : Part × Parts). e.0) (map (λ p. (p, in_part p)) ps) ≡ ps
fronts [] = refl
fronts (p ∷ ps) = ap (λ (rest : List Part). p ∷ rest) (fronts ps)

behind : (ps : List Part) → flat_map (λ (p : Part × Parts). kept_parts p.0.name p.1) (map (λ p. (p, in_part p)) ps) ≡ flat_map parts_of_base ps
behind [] = refl
behind (p ∷ ps) = ap (λ (own : Parts). kept_parts p.name own ++ flat_map (λ (p : Part × Parts). kept_parts p.0.name p.1) (map (λ p. (p, in_part p)) ps)) (part_parts p) ∙ ap (λ (rest : Parts). parts_of_base p ++ rest) (behind ps)

-- the parts of an object, and those of its bases
abbrev pub layer_parts_with_bases : Value-F Value Part → Parts
layer_parts_with_bases (layer.Object class version parts) = parts ++ flat_map parts_of_base parts
layer_parts_with_bases other = []

by_layer : (y : Value-F Value Part) → parts_with_bases (roll-Value y) ≡ layer_parts_with_bases y
by_layer (layer.Object class version parts) =
    para-roll-Value Parts Parts parts_step part_step (layer.Object class version parts)
    ∙ ap (λ (front : Parts). front ++ flat_map (λ (p : Part × Parts). kept_parts p.0.name p.1) (map (λ p. (p, in_part p)) parts)) (fronts parts)
    ∙ ap (λ (rest : Parts). parts ++ rest) (behind parts)
by_layer y = para-roll-Value Parts Parts parts_step part_step y

pub parts_by_layer : (v : Value) → parts_with_bases v ≡ layer_parts_with_bases (out-Value v)
parts_by_layer v = ap parts_with_bases (sym (roll-out-Value v)) ∙ by_layer (out-Value v)

-- ---- the first part of a name, among parts one behind the other

or_cond : (b : Bool) (x : Value) (a o : Option Value) → cond b (Some x) (option_or a o) ≡ option_or (cond b (Some x) a) o
or_cond true x a o = refl
or_cond false x a o = refl

value_cond : (b : Bool) (x : Part) (o : Option Part) → option_map (λ (p : Part). p.value) (cond b (Some x) o) ≡ cond b (Some x.value) (option_map (λ (p : Part). p.value) o)
value_cond true x o = refl
value_cond false x o = refl

pub part_of-append : (name : List ℕ) (a b : List Part) → part_of name (a ++ b) ≡ option_or (part_of name a) (part_of name b)
part_of-append name [] b = refl
part_of-append name (p ∷ a) b =
    let found : List Part → Option Part = find (λ (q : Part). bytes_eq q.name name) in
    let test = bytes_eq p.name name in
    value_cond test p (found (a ++ b)) ∙ ap (cond test (Some p.value)) (part_of-append name a b) ∙ or_cond test p.value (part_of name a) (part_of name b) ∙ ap (λ (o : Option Value). option_or o (part_of name b)) (sym (value_cond test p (found a)))

pub member_by_layer : (name : List ℕ) (v : Value) → member_in name v ≡ part_of name (layer_parts_with_bases (out-Value v))
member_by_layer name v = ap (part_of name) (parts_by_layer v)

pub member-Object : (name class : List ℕ) (version : ℤ) (parts : List Part) → member_in name (Object class version parts) ≡ option_or (part_of name parts) (part_of name (flat_map parts_of_base parts))
member-Object name class version parts =
    ap (member_in name) (sym (rolls-Object class version parts)) ∙ ap (part_of name) (by_layer (layer.Object class version parts)) ∙ part_of-append name parts (flat_map parts_of_base parts)

-- one base more
pub bases-drop : (name : List ℕ) (parts : List Part) (i : ℕ) (p : Part) → i < length parts → p ≡ get_or parts i p
    → part_of name (flat_map parts_of_base (drop i parts)) ≡ option_or (part_of name (parts_of_base p)) (part_of name (flat_map parts_of_base (drop (i + 1) parts)))
bases-drop name parts i p lt is =
    at_drop_more (λ (ps : List Part). part_of name (flat_map parts_of_base ps)) parts i p lt
    ∙ ap (λ (q : Part). part_of name (flat_map parts_of_base (q ∷ drop (i + 1) parts))) (sym is)
    ∙ part_of-append name (parts_of_base p) (flat_map parts_of_base (drop (i + 1) parts))
