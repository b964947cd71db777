-- Values of which the text says everything: what a script may hold.
use Rattle.std.specs.Prelude.{◌≡◌, ◌⊎◌, ℕ, ◌+◌, ◌-◌, ◌^◌, ℤ, pos, negsuc, List, [], ◌∷◌, ◌++◌, length, map, nat_lt, Ok, Bool, true, false, ◌==◌, ◌&&◌, if◌then◌else◌}
use Rattle.std.specs.List.{list_all}
use Rattle.rio_num.specs.Word.{is_name_text}
use Rattle.rio_format.specs.declared.value.Value.{Value, TheOpen.{Value-F, Int, Bits32, Bits64, Bool as Truth, Text, List as Items, Object, Pointed, Null, Back, Opaque}, TheFolds.{fold-Value}}
use Rattle.rio_token.specs.Marks.{closing_brace, closing_bracket, comma}
use Rattle.rio_model.specs.{Stated.{is_class_version}, ValueGrammar.{bracket_limit, value_in}, ValueText.{text_of_value}}

-- whether a value's text says everything with at most so many brackets within one another, and whether it is an object
pub record Readability : Type 0 where
  pub within : ℕ → Bool
  pub object : Bool

abbrev pub single : Bool → Readability
single b = record { within = λ levels. b; object = false }

-- from -2^63 to 2^64 - 1
abbrev pub is_number : ℤ → Bool
is_number (pos n) = nat_lt n (2 ^ 64)
is_number (negsuc n) = nat_lt n (2 ^ 63)

-- the same of a part
pub record PartReadability : Type 0 where
  pub name : List ℕ
  pub within : ℕ → Bool

-- a part: one without a name is a base, which is an object
abbrev pub part_within : List ℕ → Readability → ℕ → Bool
part_within name value levels = value.within levels && (if length name == 0 then value.object else is_name_text name)

abbrev pub part_readable : List ℕ → Readability → PartReadability
part_readable name value = record { name = name; within = part_within name value }

-- the empty ones among the names stand at the front
abbrev pub are_bases_first : Bool → List (List ℕ) → Bool
are_bases_first front [] = true
are_bases_first front (name ∷ names) =
    let is_base = length name == 0 in (if is_base then front else true) && are_bases_first is_base names

-- parts: the bases stand at the front
abbrev pub are_parts_within : List PartReadability → ℕ → Bool
are_parts_within parts levels = list_all (λ p. p.within levels) parts && are_bases_first true (map (λ p. p.name) parts)

-- one layer of a value
abbrev pub readable_step : Value-F Readability PartReadability → Readability
readable_step (Int z) = single (is_number z)
readable_step (Bits32 n) = single (nat_lt n (2 ^ 32))
readable_step (Bits64 n) = single (nat_lt n (2 ^ 64))
readable_step (Truth b) = single true
readable_step (Text text) = single (list_all (λ b. nat_lt b 256) text)
readable_step (Items items) = record {
  within = λ levels. nat_lt 0 levels && list_all (λ v. v.within (levels - 1)) items;
  object = false;
}
readable_step (Object class version parts) = record {
  within = λ levels.
      nat_lt 0 levels && is_name_text class && is_class_version version && are_parts_within parts (levels - 1);
  object = true;
}
readable_step (Pointed label object) = record {
  within = λ levels. nat_lt label (2 ^ 32) && object.object && object.within levels;
  object = false;
}
readable_step Null = single true
readable_step (Back label) = single (nat_lt label (2 ^ 32))
readable_step (Opaque class len) = single false

unfoldable pub readability_of : Value → Readability
readability_of = fold-Value Readability PartReadability readable_step (λ p. part_readable p.name p.value)

-- numbers are in range, names are names, versions are versions, bases are objects and stand before the members,
-- nothing is opaque, and brackets go no deeper than they may
abbrev pub is_readable_value : Value → Bool
is_readable_value v = (readability_of v).within bracket_limit

-- what may stand behind a value: nothing, a comma or a closing bracket
abbrev pub Follows : List ℕ → Type 0
Follows [] = Unit {0}
Follows (b ∷ bs) = (b ≡ comma) ⊎ ((b ≡ closing_bracket) ⊎ (b ≡ closing_brace))

-- the text of a value is read as the value, wherever it stands
abbrev pub ValuesAreRead : Type 0
ValuesAreRead = (front rest : List ℕ) (v : Value) → is_readable_value v ≡ true → Follows rest
    → value_in (front ++ (text_of_value v ++ rest)) (length front)
    ≡ Ok (v, record { place = length front + length (text_of_value v); rest = rest })
