-- The slot that each kind of the code's slots is.
use Rattle.rio_format.specs.declared.kind.Kind.TheVariants.{Plain as PlainKind, Counter as CounterKind, Fixed as FixedKind, Counted as CountedKind, Text as TextKind, Inline as InlineKind, Pointer as PointerKind, Other as OtherKind}
use Rattle.rio_format.specs.Slots.{Slot, kinded, based, flags, any_pointer, link, many}
use Rattle.rio_format.specs.declared.slot.SlotKind.{SlotKind, TheVariants.{Plain, Counter, Fixed, Counted, Text, Inline, Pointer, Other, Based, Flags, AnyPointer, Link, Numbers, Pointers, Links}}

abbrev pub slot_of_kind : SlotKind → Slot
slot_of_kind (Plain prim) = kinded (PlainKind prim)
slot_of_kind Counter = kinded CounterKind
slot_of_kind (Fixed prim count) = kinded (FixedKind prim count)
slot_of_kind (Counted prim counter) = kinded (CountedKind prim counter.now)
slot_of_kind Text = kinded TextKind
slot_of_kind (Inline class) = kinded (InlineKind class.now)
slot_of_kind (Pointer class) = kinded (PointerKind class.now)
slot_of_kind (Other code) = kinded (OtherKind code)
slot_of_kind (Based class version) = based class.now version
slot_of_kind Flags = flags
slot_of_kind AnyPointer = any_pointer
slot_of_kind Link = link
slot_of_kind (Numbers prim) = many (kinded (PlainKind prim))
slot_of_kind Pointers = many any_pointer
slot_of_kind Links = many link
