-- A save of a tree isn't refused where its cycle isn't the last one.
use Rattle.std.proofs.Common.{◌≡◌, ◌∙◌, ℕ, ◌<◌, List, Bool, true, false, not, ◌||◌, Option, Some, None, refl, sym, ap, arith}
use Rattle.std.proofs.lemmas.Bool.{leb-false, Decides.{nat_tests}}
use Rattle.std.specs.{Prelude.{is_some, nat_le}, FinMap.{get}, Option.{option_map_or, option_or}}
use Rattle.rio_machine.specs.{Limits.{cycle_limit}, State.{State, Tree, names_item, names_object, names_tree}, declared.command.Command.TheVariants.{Save}}
use Rattle.rio_machine.specs.declared.refusal.Refusal.{Refusal, TheVariants.{CycleLimit, NoSuchName, NotATree}}
use Rattle.rio_step.specs.Refusing.{is_at_last_cycle, lacks_name, refusal_of, refusals, refused_if}
use Rattle.rio_step.proofs.ApartLaws.{none_at, not_refused}

-- what is left of the tests
abbrev three_tests : Bool → Bool → Bool → Option Refusal
three_tests a b c = option_or (refused_if a NoSuchName) (option_or (refused_if b NotATree) (option_or (refused_if c CycleLimit) None))

above : (n k : ℕ) → k < n → nat_le n k ≡ false
above n k low = by (nat_le n k) refl
  where
    by : (b : Bool) → nat_le n k ≡ b → b ≡ false
    by false e = refl
    by true e = absurd (grind (arith, nat_tests))

item_named : (m : State) (name : List ℕ) (x : Tree) → get m.trees name ≡ Some x → names_item m name ≡ true
item_named m name x there = by (names_object m name)
  where
    tree : names_tree m name ≡ true
    tree = ap is_some there

    by : (b : Bool) → (b || names_tree m name) ≡ true
    by true = refl
    by false = tree

pub save_free : (m : State) (name : List ℕ) (x : Tree) → get m.trees name ≡ Some x → names_object m name ≡ false → x.cycle < cycle_limit → refusal_of m (Save name) None ≡ None
unfolding refusal_of
save_free m name x there none low =
    let named : lacks_name m (Save name) ≡ false = ap not (item_named m name x there) in
    let last : is_at_last_cycle m (Save name) ≡ false = ap (λ (o : Option Tree). option_map_or (λ t. nat_le cycle_limit t.cycle) o false) there ∙ above cycle_limit x.cycle low in
    λ i. three_tests (named i) (none i) (last i)

-- and it isn't the last one where the save isn't refused
pub free_cycle : (m : State) (name : List ℕ) (x : Tree) → get m.trees name ≡ Some x → refusal_of m (Save name) None ≡ None → x.cycle < cycle_limit
unfolding refusal_of
free_cycle m name x there free =
    let last : is_at_last_cycle m (Save name) ≡ false = not_refused (is_at_last_cycle m (Save name)) CycleLimit (none_at (refusals m (Save name) None) 14 free) in
    let test : nat_le cycle_limit x.cycle ≡ false = sym (ap (λ (o : Option Tree). option_map_or (λ t. nat_le cycle_limit t.cycle) o false) there) ∙ last in
    leb-false cycle_limit x.cycle test
