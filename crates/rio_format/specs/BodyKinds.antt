-- The body that each kind of the code's bodies is.
use Rattle.rio_format.specs.{Bodies.{Body, described, listed, arrayed, opaque, t_named, t_obj_string}, declared.body.BodyKind.{BodyKind, TheVariants.{Described, Named, ObjString, Listed, Arrayed, Opaque}}}

abbrev pub body_of_kind : BodyKind → Body
body_of_kind (Described class) = described class.now
body_of_kind Named = described t_named
body_of_kind ObjString = described t_obj_string
body_of_kind Listed = listed
body_of_kind Arrayed = arrayed
body_of_kind Opaque = opaque
