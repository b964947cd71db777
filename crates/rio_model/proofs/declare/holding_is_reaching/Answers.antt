use Rattle.std.proofs.Common.{◌+◌, [], ◌∷◌, ◌++◌, length, arith, length-append}
use Rattle.rio_model.proofs.ReachLaws.{reaching_is_a_way}
use Rattle.rio_model.proofs.declare.holding_is_reaching.Goals as goal

pub returns : goal.returns
returns c = λ classes class.
    reaching_is_a_way (classes ++ class ∷ []) (length classes + 1) class.name class.name (omega (arith, length-append classes (class ∷ [])))
