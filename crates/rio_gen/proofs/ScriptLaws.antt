-- The commands of a generated file, one after the other.
use Rattle.std.proofs.Common.{◌≡◌, ◌<◌, ◌+◌, ◌-◌, ◌∷◌, ◌++◌, ◌∙◌, [], ℕ, List, map, true, false, refl, sym, ap, arith, append_assoc}
use Rattle.rio_gen.proofs.NumberLaws.{first_left, none_left}
use Rattle.rio_gen.specs.Generated.{commands_left, gen_script, generated_row, tree_name}
use Rattle.rio_machine.specs.declared.command.Command.{Command, TheVariants.{Fill}}

pub fill_left : (done entries : ℕ) → done < entries
    → commands_left true done entries ≡ Fill tree_name (generated_row done) ∷ commands_left true (done + 1) entries
fill_left done entries more = ap (λ (ks : List ℕ). map (Fill tree_name) (map generated_row ks)) (first_left entries done more)

pub nothing_left : (done entries : ℕ) → done ≡ entries → commands_left true done entries ≡ []
nothing_left done entries is = ap (λ (ks : List ℕ). map (Fill tree_name) (map generated_row ks)) (none_left entries done (omega (arith, is)))

pub all_left : (entries : ℕ) → commands_left false 0 entries ≡ gen_script entries
all_left entries = let n : entries - 0 ≡ entries = omega arith in rw n refl

-- a command more of the script was put at the end
pub one_put : (put left whole : List Command) (c : Command) (rest : List Command) → left ≡ c ∷ rest → put ++ left ≡ whole → (put ++ c ∷ []) ++ rest ≡ whole
one_put put left whole c rest is so_far = append_assoc put (c ∷ []) rest ∙ ap (λ (cs : List Command). put ++ cs) (sym is) ∙ so_far
