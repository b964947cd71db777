use Rattle.std.proofs.Common.{◌≡◌, ℕ, List, ◌||◌, drop}
use Rattle.rio_num.specs.Word.{is_among}
use Rattle.rio_model.specs.ClassGrammar.{is_counted_by}
use Rattle.rio_decl.proofs.known.counters_of.Given as goal

abbrev pub invariant-loop-member : goal.invariant-loop-member
invariant-loop-member l = (name : List ℕ) → (is_among l.counters name || is_counted_by (drop l.member-index l.members) name) ≡ is_counted_by l.members name
