-- Refusals as they are said.
use Rattle.std.specs.{Prelude.{ℕ, List, [], ◌++◌, codes}, Fmt.{decimal}}
use Rattle.rio_num.specs.Printed.{name_text, numbered}
use Rattle.rio_machine.specs.declared.refusal.Refusal.{Refusal, TheVariants.{BadLine, BadName, NoSuchName, NoSuchCycle, NameIsTree, NotATree, NameInUse, NoSuchClass, SameVersion, HoldsItself, DoesNotFit, BadRow, KindChanged, NoVersion, CycleLimit, TooLarge, TooDeep, TooMany, Full}}

-- the number by which it is told: of several that hold the lowest
abbrev pub refusal_number : Refusal → ℕ
refusal_number (BadLine line place) = 1
refusal_number BadName = 2
refusal_number NoSuchName = 3
refusal_number NoSuchCycle = 4
refusal_number NameIsTree = 5
refusal_number NotATree = 6
refusal_number NameInUse = 7
refusal_number NoSuchClass = 8
refusal_number SameVersion = 9
refusal_number HoldsItself = 10
refusal_number DoesNotFit = 11
refusal_number BadRow = 12
refusal_number (KindChanged member) = 13
refusal_number NoVersion = 14
refusal_number CycleLimit = 15
refusal_number TooLarge = 16
refusal_number TooDeep = 17
refusal_number TooMany = 18
refusal_number (Full end wanted) = 19

abbrev pub refusal_name : Refusal → List ℕ
refusal_name (BadLine line place) = codes "BadLine"
refusal_name BadName = codes "BadName"
refusal_name NoSuchName = codes "NoSuchName"
refusal_name NoSuchCycle = codes "NoSuchCycle"
refusal_name NameIsTree = codes "NameIsTree"
refusal_name NotATree = codes "NotATree"
refusal_name NameInUse = codes "NameInUse"
refusal_name NoSuchClass = codes "NoSuchClass"
refusal_name SameVersion = codes "SameVersion"
refusal_name HoldsItself = codes "HoldsItself"
refusal_name DoesNotFit = codes "DoesNotFit"
refusal_name BadRow = codes "BadRow"
refusal_name (KindChanged member) = codes "KindChanged"
refusal_name NoVersion = codes "NoVersion"
refusal_name CycleLimit = codes "CycleLimit"
refusal_name TooLarge = codes "TooLarge"
refusal_name TooDeep = codes "TooDeep"
refusal_name TooMany = codes "TooMany"
refusal_name (Full end wanted) = codes "Full"

-- what is told behind the name: where the line is bad, which member it is, where the records end and how much was wanted
abbrev pub refusal_details : Refusal → List ℕ
refusal_details (BadLine line place) = numbered line ++ numbered place
refusal_details (KindChanged member) = codes " " ++ name_text member
refusal_details (Full end wanted) = numbered end ++ numbered wanted
refusal_details other = []

-- no NUMBER NAME, and what is told behind it: a line
abbrev pub refusal_text : Refusal → List ℕ
refusal_text r = codes "no " ++ decimal (refusal_number r) ++ codes " " ++ refusal_name r ++ refusal_details r ++ codes "\n"
