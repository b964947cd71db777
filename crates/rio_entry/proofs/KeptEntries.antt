-- Entries of whose values no more is kept than what a function says of them.
use Rattle.std.proofs.Common.{◌≡◌, ◌==◌, ℕ, Bool, true, false, cond, List, [], ◌∷◌, length, map, Result, Ok, Err, refl, sym, ap, subst, ◌∙◌}
use Rattle.std.specs.{Prelude.{ℤ, pos, IfOk}, Result.{result_map_both}}
use Rattle.rio_num.specs.{Answers.{GivesUnless}, At.{AreBytes}, Meanings.{read}}
use Rattle.rio_num.proofs.ReadLaws.{ok_is}
use Rattle.rio_leaf.specs.declared.branch.Shape.{Shape, TheVariants.{Class}}
use Rattle.rio_format.specs.{Frames.{Step}, ReaderState.{ReaderState, no_words, standing}, declared.fault.ObjFault.{ObjFault}, Objects.{depth_limit, object_of}, declared.class.ClassDef.{ClassDef}}
use Rattle.rio_read.specs.Passing.{pass_of}
use Rattle.rio_read.proofs.Steps.{step_as, step_as-err, step_as-ok, step_as-twice}
use Rattle.rio_format.specs.declared.value.Value.{Value, Int}
use Rattle.rio_entry.specs.{Leaves.{number_alone, numbers_of_values}, Reading.{BreaksEntry, SpellsEntry}}
use Rattle.rio_machine.specs.Entries.{columns_values, entry_in, entry_values, only_values}
use Rattle.rio_machine.specs.declared.entry_fault.EntryFault.{EntryFault, TheVariants.{BadEntry, NoMemory}}
use Rattle.rio_entry.proofs.{EntryLaws.{broken_is_fault, read_is_spelled}, ObjectNumbers.{object_is_no_number}}

-- ---- the one object of a branch of a class

module _ (classes : List ClassDef) (class : List ℕ) (counts : List Value) (s : ReaderState) where
  abbrev object : Step Value
  object = read (object_of depth_limit classes class) s

  abbrev entry : Step (List Value)
  entry = read (entry_values classes (Class class) counts) s

  one_read : entry ≡ step_as (λ (v : Value). v ∷ []) object
  unfolding columns_values
  one_read = by object refl
    where
      by : (r : Step Value) → object ≡ r → entry ≡ step_as (λ (v : Value). v ∷ []) r
      by (Ok x) e = rw e refl
      by (Err d) e = rw e refl

  -- what a function says of it
  one_as : {B : Type 0} (f : List Value → B) → step_as f entry ≡ step_as (λ (v : Value). f (v ∷ [])) object
  one_as f = ap (step_as f) one_read ∙ step_as-twice (λ (v : Value). v ∷ []) f object

  pub one_passed : read (pass_of (object_of depth_limit classes class)) s ≡ read (pass_of (entry_values classes (Class class) counts)) s
  one_passed = sym (one_as (λ vs. tt))

  pub one_says : (s1 : ReaderState) → read (pass_of (object_of depth_limit classes class)) s ≡ Ok (tt, s1) → read (numbers_of_values (entry_values classes (Class class) counts)) s ≡ Ok (Int (pos 0) ∷ [], s1)
  one_says s1 h =
      let there = step_as-ok (λ v. tt) object tt s1 h in
      let none = object_is_no_number classes class s there.0 s1 there.1 in
      one_as (map number_alone)
      ∙ ap (step_as (λ (v : Value). number_alone v ∷ [])) there.1
      ∙ ap (λ (n : ℤ). let r : Step (List Value) = Ok (Int n ∷ [], s1) in r) none

  pub one_breaks : (d : ObjFault) → read (pass_of (object_of depth_limit classes class)) s ≡ Err d → read (numbers_of_values (entry_values classes (Class class) counts)) s ≡ Err d
  one_breaks d h = one_as (map number_alone) ∙ ap (step_as (λ (v : Value). number_alone v ∷ [])) (step_as-err (λ v. tt) object d h)

-- ---- entries

module _ {B : Type 0} (f : List Value → B) (classes : List ClassDef) (shape : Shape) (counts : List Value) (bytes : List ℕ) where
  -- what is kept with nothing behind it
  abbrev pub entry_kept : Result B EntryFault
  entry_kept = result_map_both f (λ (e : EntryFault). e) (entry_in classes shape counts bytes)

  abbrev pub kept_alone : Result B EntryFault
  kept_alone = only_values (step_as f (read (entry_values classes shape counts) (standing 0 bytes no_words)))

  kept_is : kept_alone ≡ entry_kept
  kept_is = by (read (entry_values classes shape counts) (standing 0 bytes no_words))
    where
      ended : (row : List Value) (place : ℕ) (b : Bool) → (let t : Result B EntryFault = cond b (Ok (f row)) (Err (BadEntry place)) in t) ≡ result_map_both f (λ (e : EntryFault). e) (cond b (Ok row) (Err (BadEntry place)))
      ended row place true = refl
      ended row place false = refl

      by : (r : Step (List Value)) → only_values (step_as f r) ≡ result_map_both f (λ (e : EntryFault). e) (only_values r)
      by (Ok x) = ended x.0 x.1.at.place (length x.1.at.rest == 0)
      by (Err d) = refl

  pub told_as_kept : (result : Result B EntryFault) → GivesUnless NoMemory (λ y. y) result kept_alone → GivesUnless NoMemory (λ y. y) result entry_kept
  told_as_kept result given = subst (GivesUnless NoMemory (λ y. y) result) kept_is given

  module _ (result : Result B EntryFault) (given : GivesUnless NoMemory (λ y. y) result entry_kept) where
    pub kept_is_found : AreBytes bytes → IfOk result (λ y. (row : List Value) × SpellsEntry classes shape counts row bytes × (y ≡ f row))
    kept_is_found fits = by result given
      where
        some : (y : B) (r : Result (List Value) EntryFault) → entry_in classes shape counts bytes ≡ r → (let t : Result B EntryFault = result_map_both f (λ (e : EntryFault). e) r in t) ≡ Ok y → (row : List Value) × SpellsEntry classes shape counts row bytes × (y ≡ f row)
        some y (Ok row) is e = (row, read_is_spelled classes shape counts bytes fits row is, sym (ok_is {E = EntryFault} (f row) y e))
        some y (Err fault) is e = absurd cc

        by : (r : Result B EntryFault) → GivesUnless NoMemory (λ y. y) r entry_kept → IfOk r (λ y. (row : List Value) × SpellsEntry classes shape counts row bytes × (y ≡ f row))
        by (Ok y) e = some y (entry_in classes shape counts bytes) refl e
        by (Err fault) e = tt

    pub kept_is_spelled : AreBytes bytes → IfOk result (λ y. (row : List Value) × SpellsEntry classes shape counts row bytes)
    kept_is_spelled fits = by result (kept_is_found fits)
      where
        by : (r : Result B EntryFault) → IfOk r (λ y. (row : List Value) × SpellsEntry classes shape counts row bytes × (y ≡ f row)) → IfOk r (λ y. (row : List Value) × SpellsEntry classes shape counts row bytes)
        by (Ok y) found = (found.0, found.1)
        by (Err fault) found = tt

    pub kept_is_broken : (e : EntryFault) → BreaksEntry classes shape counts bytes e → GivesUnless NoMemory (λ y. y) result (Err e)
    kept_is_broken e breaks =
        let same = ap (λ (r : Result (List Value) EntryFault). let t : Result B EntryFault = result_map_both f (λ (g : EntryFault). g) r in t) (broken_is_fault classes shape counts bytes e breaks) in
        subst (GivesUnless NoMemory (λ y. y) result) same given
