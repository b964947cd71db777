-- A value of one kind in another, cut up as the code does it: what is had of the value alone, and what is had of it with the
-- objects in it in their version.
use Rattle.std.specs.Prelude.{ℕ, List, Bool, false, ◌==◌, ◌&&◌, Option, Some, None, if◌then◌else◌}
use Rattle.std.specs.Str.{bytes_eq}
use Rattle.rio_format.specs.{declared.kind.Kind.{Kind, TheVariants.{Plain, Counter, Fixed, Counted, Text, Inline, Pointer, Other}}, declared.kind.Primitive.{Primitive, TheVariants.{I32}}}
use Rattle.rio_format.specs.declared.value.Value.{Value, out-Value}
use Rattle.rio_model.specs.Mapping.{is_list_of, is_object_value, is_pointer_value, is_text_value, list_as, single_as}

-- ---- of the value alone

abbrev pub single_in : Primitive → Kind → Value → Option Value
single_in from (Plain to) v = single_as from to v
single_in from Counter v = single_as from I32 v
single_in from to v = None

abbrev pub fixed_in : Primitive → ℕ → Kind → Value → Option Value
fixed_in from count (Fixed to wanted) v = if (count == wanted) && is_list_of count (out-Value v) then list_as from to v else None
fixed_in from count to v = None

abbrev pub counted_in : Primitive → Kind → Value → Option Value
counted_in from (Counted to counter) v = list_as from to v
counted_in from to v = None

abbrev pub text_in : Kind → Value → Option Value
text_in Text v = if is_text_value (out-Value v) then Some v else None
text_in to v = None

abbrev pub flat_as : Kind → Kind → Value → Option Value
flat_as (Plain from) to v = single_in from to v
flat_as Counter to v = single_in I32 to v
flat_as (Fixed from count) to v = fixed_in from count to v
flat_as (Counted from counter) to v = counted_in from to v
flat_as Text to v = text_in to v
flat_as (Inline class) to v = None
flat_as (Pointer class) to v = None
flat_as (Other code) to v = None

-- ---- with the objects in it

-- both are objects of one class, or pointers to such, and the value has the form
abbrev pub inline_stays : List ℕ → Kind → Value → Bool
inline_stays class (Inline other) v = bytes_eq class other && is_object_value (out-Value v)
inline_stays class to v = false

abbrev pub pointer_stays : List ℕ → Kind → Value → Bool
pointer_stays class (Pointer other) v = bytes_eq class other && is_pointer_value (out-Value v)
pointer_stays class to v = false

abbrev pub stays : Kind → Kind → Value → Bool
stays (Inline class) to v = inline_stays class to v
stays (Pointer class) to v = pointer_stays class to v
stays from to v = false
