use Rattle.std.proofs.Common.{rules}
use Rattle.rio_model.proofs.ValueTextLaws.{text_of-List, text_of-Object, text_of-Pointed}
use Rattle.rio_valtext.proofs.print.+put.Goals as goal

pub put_value-returns-in-List : goal.put_value-returns-in-List
put_value-returns-in-List t c = rw (c.in-List.is, text_of-List, ← c.as_slice-in-List.ensures) c.put_list.ensures

pub put_value-returns-in-Object : goal.put_value-returns-in-Object
put_value-returns-in-Object t c = rw (c.in-Object.is, text_of-Object, ← c.as_slice-in-Object.ensures, ← c.as_slice-in-Object-2.ensures) (search rules)

pub put_value-returns-in-Pointed : goal.put_value-returns-in-Pointed
put_value-returns-in-Pointed t c = rw (c.in-Pointed.is, text_of-Pointed, ← c.get.ensures) c.put_pointed.ensures
