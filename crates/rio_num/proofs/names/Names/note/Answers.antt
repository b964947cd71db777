use Rattle.std.proofs.Common.{ℕ, List, ◌||◌, Bool, ap, sym, ◌∙◌, Bor}
use Rattle.std.specs.{List.{list_any}, Str.{bytes_eq}}
use Rattle.rio_num.proofs.NameSets.{any_map, cond_or}
use Rattle.rio_num.proofs.names.Names.note.Goals as goal

pub returns : goal.returns
returns c = λ other.
    any_map (λ (k : Bor (List ℕ)). k.now) (bytes_eq other) c.insert.new.self.keys
    ∙ c.in_ok-insert.ensures.updates.0 (record c.args.name { now = other })
    ∙ cond_or (bytes_eq c.args.name.now other) (list_any (λ (k : Bor (List ℕ)). bytes_eq other k.now) c.self.inside.names.keys)
    ∙ ap (λ (b : Bool). bytes_eq c.args.name.now other || b) (sym (any_map (λ (k : Bor (List ℕ)). k.now) (bytes_eq other) c.self.inside.names.keys) ∙ ap (λ (names : List (List ℕ)). list_any (bytes_eq other) names) c.self.view_is)
