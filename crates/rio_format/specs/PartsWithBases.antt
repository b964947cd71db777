-- The parts of an object with those of its bases, and its members by name.
use Rattle.std.specs.{Prelude.{ℕ, List, [], ◌++◌, length, map, ◌==◌, Option, if◌then◌else◌}, List.{flat_map}}
use Rattle.rio_format.specs.{Accessors.{part_of}, declared.value.Part.{Part}, declared.value.Value.{Value, TheOpen.{Value-F, Object}, TheFolds.{para-Value}}}

-- the parts of what stands in a part, if it is a base: a part without a name
abbrev pub kept_parts : List ℕ → List Part → List Part
kept_parts name parts = if length name == 0 then parts else []

-- one layer of a value, with the parts of each child beside it
abbrev pub parts_step : Value-F (Value × List Part) (Part × List Part) → List Part
parts_step (Object class version parts) = map (λ p. p.0) parts ++ flat_map (λ p. kept_parts p.0.name p.1) parts
parts_step other = []

-- the parts of an object, and behind them those of its bases, in order, and so on for each base
abbrev pub parts_with_bases : Value → List Part
parts_with_bases = para-Value (List Part) (List Part) parts_step (λ p. p.value.1)

-- the parts of a base
abbrev pub parts_of_base : Part → List Part
parts_of_base p = kept_parts p.name (parts_with_bases p.value)

-- The value of the member of that name: of the first part of that name among the object's own, or else among those of its
-- bases.
abbrev pub member_in : List ℕ → Value → Option Value
member_in name v = part_of name (parts_with_bases v)
