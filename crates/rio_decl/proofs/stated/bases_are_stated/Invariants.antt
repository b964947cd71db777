use Rattle.std.proofs.Common.{◌≡◌, List, [], drop}
use Rattle.rio_format.specs.declared.class.Base.{Base}
use Rattle.rio_model.specs.Stated.{are_stated_bases}
use Rattle.rio_decl.specs.Known.{KnowsBases}
use Rattle.rio_decl.proofs.stated.bases_are_stated.Given as goal

abbrev pub invariant-loop-base : goal.invariant-loop-base
invariant-loop-base l =
    (before : List Base)
    × KnowsBases before l.passed
    × (are_stated_bases before (drop l.base-index l.bases) ≡ are_stated_bases [] l.bases)
