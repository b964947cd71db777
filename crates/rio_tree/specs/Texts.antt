-- What is printed of a refused branch.
use Rattle.std.specs.Prelude.{ℕ, List, codes}
use Rattle.rio_tree.specs.declared.refusal.BranchRefusal.{BranchRefusal, TheVariants.{BranchClass, SubBranches, EmbeddedBasket, LeafClass, NoCounter, EntryCount, BadBasketList, Compressed, BadBasket, BadEntry}}

abbrev pub branch_refusal_name : BranchRefusal → List ℕ
branch_refusal_name BranchClass = codes "BranchClass"
branch_refusal_name SubBranches = codes "SubBranches"
branch_refusal_name EmbeddedBasket = codes "EmbeddedBasket"
branch_refusal_name LeafClass = codes "LeafClass"
branch_refusal_name NoCounter = codes "NoCounter"
branch_refusal_name EntryCount = codes "EntryCount"
branch_refusal_name BadBasketList = codes "BadBasketList"
branch_refusal_name Compressed = codes "Compressed"
branch_refusal_name BadBasket = codes "BadBasket"
branch_refusal_name BadEntry = codes "BadEntry"
