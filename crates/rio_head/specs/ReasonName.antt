-- The names of the reasons against writing.
use Rattle.std.specs.Prelude.{ℕ, List, codes}
use Rattle.rio_head.specs.declared.reason.Reason.{Reason, TheVariants.{NotNew, LargeForm, NoChain, OtherDirectory, BadInfo, BadName, BadKey, BadObject, BadTree, DoubleKey, MixedName, TooMany, NoRoom}}

abbrev pub name_of_reason : Reason → List ℕ
name_of_reason NotNew = codes "NotNew"
name_of_reason LargeForm = codes "LargeForm"
name_of_reason NoChain = codes "NoChain"
name_of_reason OtherDirectory = codes "OtherDirectory"
name_of_reason BadInfo = codes "BadInfo"
name_of_reason BadName = codes "BadName"
name_of_reason BadKey = codes "BadKey"
name_of_reason BadObject = codes "BadObject"
name_of_reason BadTree = codes "BadTree"
name_of_reason DoubleKey = codes "DoubleKey"
name_of_reason MixedName = codes "MixedName"
name_of_reason TooMany = codes "TooMany"
name_of_reason NoRoom = codes "NoRoom"
