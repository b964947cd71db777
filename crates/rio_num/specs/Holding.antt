-- What `Boxed` and `Items` are made of, and their measures: types that hold them look these up by way of `formers`.
use mathlib.Core.Former.{Former, list}
use denote.Param.Weighed.{Weighed, w_list}

-- A boxed value is its value.
abbrev pub boxed_shape : Former {0} → Former {0}
boxed_shape g = g

abbrev pub boxed_measure : {g : Former {0}} → Weighed g → Weighed (boxed_shape g)
boxed_measure w = w

-- Items are a list.
abbrev pub listed_shape : Former {0} → Former {0}
listed_shape g = list g

abbrev pub listed_measure : {g : Former {0}} → Weighed g → Weighed (listed_shape g)
listed_measure w = w_list w
