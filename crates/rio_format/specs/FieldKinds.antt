-- The parts of the objects of each kind of the code's fields.
use Rattle.std.specs.Prelude.{List}
use Rattle.rio_format.specs.{Bodies.{t_named, t_obj_string}, Slots.{Field, described_fields, listed_fields, arrayed_fields, bare_fields, number_fields}}
use Rattle.rio_format.specs.declared.slot.FieldsKind.{FieldsKind, TheVariants.{Described, Named, ObjString, Listed, Arrayed, Bare, Numbers}}

abbrev pub fields_of_kind : FieldsKind → List Field
fields_of_kind (Described class) = described_fields class.now
fields_of_kind Named = described_fields t_named
fields_of_kind ObjString = described_fields t_obj_string
fields_of_kind Listed = listed_fields
fields_of_kind Arrayed = arrayed_fields
fields_of_kind Bare = bare_fields
fields_of_kind (Numbers prim) = number_fields prim
