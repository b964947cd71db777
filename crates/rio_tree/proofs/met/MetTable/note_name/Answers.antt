use Rattle.std.proofs.Common.{Bor, ℕ, List}
use Rattle.std.specs.{Map.{lookup}, Str.{bytes_eq}}
use Rattle.rio_tree.specs.Tables.{met_of}
use Rattle.rio_tree.proofs.MetLaws.{found_more}
use Rattle.rio_tree.proofs.met.MetTable.note_name.Goals as goal

pub returns : goal.returns
returns c = λ i. record {
  of_label = (met_of c.args.self.now).of_label;
  of_name = λ name. found_more (bytes_eq c.args.leaf.name.now name) c.args.leaf (lookup (λ (known : Bor (List ℕ)). bytes_eq name known.now) c.insert.new.self.entries) (lookup (λ (known : Bor (List ℕ)). bytes_eq name known.now) c.args.self.now.by_name.entries) (c.in_ok-insert.ensures.updates.0 (record c.args.leaf.name { now = name })) i;
}
