-- What converts a value is what the code does: of the value alone, or of what is had of it.
use Rattle.std.proofs.Common.{◌≡◌, ◌==◌, ◌&&◌, Bool, true, false, Option, Some, None, Ok, if◌then◌else◌, refl}
use Rattle.std.specs.{Option.{option_map}, Str.{bytes_eq}}
use Rattle.rio_format.specs.{declared.kind.Kind.{Kind, TheVariants.{Plain, Counter, Fixed, Counted, Text, Inline, Pointer, Other}}, declared.value.Value.{Value, out-Value}}
use Rattle.rio_model.specs.Mapping.{Mapped, Mapping, convert, is_list_of, is_object_value, is_pointer_value, is_text_value, list_as}
use Rattle.rio_map.specs.Converting.{flat_as, stays}

-- what the code has: the value as it is had, or the conversion of the value alone
abbrev pub by_code : Kind → Kind → Mapping → Option (Mapped Value)
by_code from to m = if stays from to m.as_is then Some m.mapped else option_map Ok (flat_as from to m.as_is)

module _ (m : Mapping) where
  abbrev of_option : Option Value → Option (Mapped Value)
  of_option = option_map Ok

  of_test : (b : Bool) (o : Option Value) → (if b then of_option o else None) ≡ of_option (if b then o else None)
  of_test true o = refl
  of_test false o = refl

  had_if : (b : Bool) → (if b then Some m.mapped else None) ≡ (if b then Some m.mapped else of_option None)
  had_if true = refl
  had_if false = refl

  text_if : (b : Bool) → (if b then Some (Ok m.as_is) else None) ≡ of_option (if b then Some m.as_is else None)
  text_if true = refl
  text_if false = refl

  pub convert_is : (from to : Kind) → convert from to m ≡ by_code from to m
  convert_is (Plain from) (Plain to) = refl
  convert_is (Plain from) Counter = refl
  convert_is (Plain from) (Fixed to n) = refl
  convert_is (Plain from) (Counted to c) = refl
  convert_is (Plain from) Text = refl
  convert_is (Plain from) (Inline class) = refl
  convert_is (Plain from) (Pointer class) = refl
  convert_is (Plain from) (Other code) = refl
  convert_is Counter (Plain to) = refl
  convert_is Counter Counter = refl
  convert_is Counter (Fixed to n) = refl
  convert_is Counter (Counted to c) = refl
  convert_is Counter Text = refl
  convert_is Counter (Inline class) = refl
  convert_is Counter (Pointer class) = refl
  convert_is Counter (Other code) = refl
  convert_is (Fixed from count) (Plain to) = refl
  convert_is (Fixed from count) Counter = refl
  convert_is (Fixed from count) (Fixed to n) = of_test ((count == n) && is_list_of count (out-Value m.as_is)) (list_as from to m.as_is)
  convert_is (Fixed from count) (Counted to c) = refl
  convert_is (Fixed from count) Text = refl
  convert_is (Fixed from count) (Inline class) = refl
  convert_is (Fixed from count) (Pointer class) = refl
  convert_is (Fixed from count) (Other code) = refl
  convert_is (Counted from counter) (Plain to) = refl
  convert_is (Counted from counter) Counter = refl
  convert_is (Counted from counter) (Fixed to n) = refl
  convert_is (Counted from counter) (Counted to c) = refl
  convert_is (Counted from counter) Text = refl
  convert_is (Counted from counter) (Inline class) = refl
  convert_is (Counted from counter) (Pointer class) = refl
  convert_is (Counted from counter) (Other code) = refl
  convert_is Text (Plain to) = refl
  convert_is Text Counter = refl
  convert_is Text (Fixed to n) = refl
  convert_is Text (Counted to c) = refl
  convert_is Text Text = text_if (is_text_value (out-Value m.as_is))
  convert_is Text (Inline class) = refl
  convert_is Text (Pointer class) = refl
  convert_is Text (Other code) = refl
  convert_is (Inline class) (Plain to) = refl
  convert_is (Inline class) Counter = refl
  convert_is (Inline class) (Fixed to n) = refl
  convert_is (Inline class) (Counted to c) = refl
  convert_is (Inline class) Text = refl
  convert_is (Inline class) (Inline other) = had_if (bytes_eq class other && is_object_value (out-Value m.as_is))
  convert_is (Inline class) (Pointer other) = refl
  convert_is (Inline class) (Other code) = refl
  convert_is (Pointer class) (Plain to) = refl
  convert_is (Pointer class) Counter = refl
  convert_is (Pointer class) (Fixed to n) = refl
  convert_is (Pointer class) (Counted to c) = refl
  convert_is (Pointer class) Text = refl
  convert_is (Pointer class) (Inline other) = refl
  convert_is (Pointer class) (Pointer other) = had_if (bytes_eq class other && is_pointer_value (out-Value m.as_is))
  convert_is (Pointer class) (Other code) = refl
  convert_is (Other code) (Plain to) = refl
  convert_is (Other code) Counter = refl
  convert_is (Other code) (Fixed to n) = refl
  convert_is (Other code) (Counted to c) = refl
  convert_is (Other code) Text = refl
  convert_is (Other code) (Inline class) = refl
  convert_is (Other code) (Pointer class) = refl
  convert_is (Other code) (Other other) = refl
