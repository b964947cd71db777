use Rattle.std.proofs.Common.{◌≡◌, ◌++◌, drop}
use Rattle.std.specs.List.{flat_map}
use Rattle.rio_cmd.specs.ImportWords.{spec_word, tree_line}
use Rattle.rio_cmd.proofs.import_words.tree_line.Given as goal

abbrev pub invariant-loop-spec : goal.invariant-loop-spec
invariant-loop-spec l = l.line.bytes ++ flat_map spec_word (drop l.spec-index l.specs) ≡ tree_line l.fn.tree l.fn.specs
