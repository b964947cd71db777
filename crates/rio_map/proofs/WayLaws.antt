-- A class has no zero where one that it needs has none, or one that it needs stands within itself.
use Rattle.std.proofs.Common.{◌≡◌, ◌⊎◌, inl, inr, Result, Ok, Err, IfOk, OnOk, ◌-◌, ℕ, zero, suc, ℤ, List, [], ◌∷◌, ◌++◌, length, take, Option, Some, None, slice_get, refl, sym, ap, subst, ◌∙◌, arith}
use Rattle.std.specs.{Prelude.{option_and_then}, Option.{option_map}}
use Rattle.rio_format.specs.{declared.class.ClassDef.{ClassDef}, declared.value.Value.{Value, Object}, Bodies.{part}, Slots.{Field, fields_of}}
use Rattle.rio_model.specs.Mapping.{object_zero, parts_zero, slot_zero, zero_version, zero_within}
use Rattle.rio_map.specs.Lacking.{ClassNeeds, HasNoZero, IsWay, LeadsOn, Needs, SlotNeeds}
use Rattle.rio_map.specs.declared.lacking.Need.{Need, TheVariants.{Class, Nothing, Impossible}}
use Rattle.rio_map.proofs.LevelLaws.{more_levels, no_levels, not_known}

-- ---- parts of which one has no zero

with_front : {A B : Type 0} (f : A → Option B) → (o : Option A) → o ≡ None → option_and_then f o ≡ None
with_front f o e = ap (option_and_then f) e

and_none : {A B : Type 0} (f : A → B) (o : Option A) → o ≡ None → option_map f o ≡ None
and_none f o e = ap (option_map f) e

rest_none : {A B C : Type 0} (o : Option A) (make : A → C → B) (rest : Option C) → rest ≡ None → option_and_then (λ v. option_map (make v) rest) o ≡ None
rest_none None make rest e = refl
rest_none (Some x) make rest e = ap (option_map (make x)) e

part_lacks : (object : List ℕ → Option Value) (fs : List Field) (k : ℕ) (f : Field) → slice_get fs k ≡ Some f → slot_zero object f.slot ≡ None → parts_zero object fs ≡ None
part_lacks object [] k f found none = absurd cc
part_lacks object (g ∷ gs) zero f found none =
    let same : g ≡ f = cc in
    let none_here : slot_zero object g.slot ≡ None = subst (λ (x : Field). slot_zero object x.slot ≡ None) (sym same) none in
    with_front (λ v. option_map (λ ps. part g.name v ∷ ps) (parts_zero object gs)) (slot_zero object g.slot) none_here
part_lacks object (g ∷ gs) (suc k) f found none =
    rest_none (slot_zero object g.slot) (λ v ps. part g.name v ∷ ps) (parts_zero object gs) (part_lacks object gs k f found none)

module _ (classes : List ClassDef) where
  abbrev within : ℕ → List ℕ → Option Value
  within levels = zero_within levels classes

  -- ---- what a class needs

  of_version : (class : List ℕ) (version : ℤ) (levels : ℕ) → zero_version classes class ≡ Some version → within (suc levels) class ≡ object_zero classes class (within levels) version
  of_version class version levels known =
      let less : suc levels - 1 ≡ levels = omega arith in
      more_levels classes class (suc levels) version (omega arith) known
      ∙ ap (λ (n : ℕ). object_zero classes class (within n) version) less

  every_level : (class : List ℕ) → ((n : ℕ) → within (suc n) class ≡ None) → HasNoZero classes class
  every_level class none zero = no_levels classes class 0 refl
  every_level class none (suc n) = none n

  pub no_version : (class : List ℕ) → zero_version classes class ≡ None → HasNoZero classes class
  no_version class none n = not_known classes class n none

  abbrev of_fields : (class : List ℕ) (version : ℤ) (n : ℕ) → Option (List Field) → Option Value
  of_fields class version n fields = option_map (Object class version) (option_and_then (parts_zero (within n)) fields)

  pub no_fields : (class : List ℕ) (version : ℤ) → zero_version classes class ≡ Some version → fields_of classes class version ≡ None → HasNoZero classes class
  no_fields class version known none =
      every_level class (λ n. of_version class version n known ∙ ap (of_fields class version n) none)

  pub part_needs : (class : List ℕ) (version : ℤ) (fs : List Field) (k : ℕ) (f : Field) (need : Need) → zero_version classes class ≡ Some version → fields_of classes class version ≡ Some fs → slice_get fs k ≡ Some f → SlotNeeds f.slot need → ClassNeeds classes class need
  part_needs class version fs k f need known fields found = by need
    where
      lacks : (n : ℕ) → slot_zero (within n) f.slot ≡ None → within (suc n) class ≡ None
      lacks n e =
          of_version class version n known
          ∙ ap (of_fields class version n) fields
          ∙ ap (option_map (Object class version)) (part_lacks (within n) fs k f found e)

      by : (need : Need) → SlotNeeds f.slot need → ClassNeeds classes class need
      by (Class other) needs = λ n none. lacks n (needs (within n) none)
      by Nothing needs = tt
      by Impossible needs = every_level class (λ n. lacks n (needs (within n)))

  -- ---- ways

  last_of : List ℕ → List (List ℕ) → List ℕ
  last_of class [] = class
  last_of class (next ∷ way) = last_of next way

  last_is : (class : List ℕ) (way : List (List ℕ)) (last : List ℕ) → slice_get (class ∷ way) (length way) ≡ Some last → last_of class way ≡ last
  unfolding last_of
  last_is class [] last found = cc
  last_is class (next ∷ way) last found = last_is next way last found

  longer : (class : List ℕ) (way : List (List ℕ)) (other : List ℕ) → LeadsOn classes class way → Needs classes (last_of class way) other → LeadsOn classes class (way ++ other ∷ [])
  unfolding last_of
  longer class [] other leads needs = (needs, tt)
  longer class (next ∷ way) other leads needs = (leads.0, longer next way other leads.1 needs)

  shorter : (n : ℕ) (class : List ℕ) (way : List (List ℕ)) → LeadsOn classes class way → LeadsOn classes class (take n way)
  shorter zero class way leads = tt
  shorter (suc n) class [] leads = tt
  shorter (suc n) class (next ∷ way) leads = (leads.0, shorter n next way leads.1)

  ends : (class : List ℕ) (way : List (List ℕ)) → LeadsOn classes class way → HasNoZero classes (last_of class way) → HasNoZero classes class
  unfolding last_of
  ends class [] leads none = none
  ends class (next ∷ way) leads none = every_level class (λ n. leads.0 n (ends next way leads.1 none n))

  -- none of them has a zero of so many levels
  abbrev NoneAt : ℕ → List (List ℕ) → Type 0
  NoneAt n [] = Unit {0}
  NoneAt n (class ∷ way) = (within n class ≡ None) × NoneAt n way

  none_first : (way : List (List ℕ)) → NoneAt 0 way
  none_first [] = tt
  none_first (class ∷ way) = (no_levels classes class 0 refl, none_first way)

  none_there : (n : ℕ) (way : List (List ℕ)) (k : ℕ) (class : List ℕ) → NoneAt n way → slice_get way k ≡ Some class → within n class ≡ None
  none_there n [] k class none found = absurd cc
  none_there n (first ∷ way) zero class none found = let same : first ≡ class = cc in subst (λ (c : List ℕ). within n c ≡ None) same none.0
  none_there n (first ∷ way) (suc k) class none found = none_there n way k class none.1 found

  rises : (n : ℕ) (class : List ℕ) (way : List (List ℕ)) → LeadsOn classes class way → NoneAt n way → within (suc n) (last_of class way) ≡ None → NoneAt (suc n) (class ∷ way)
  unfolding last_of
  rises n class [] leads none last = (last, tt)
  rises n class (next ∷ way) leads none last = (leads.0 n none.0, rises n next way leads.1 none.1 last)

  round : (n : ℕ) (class : List ℕ) (way : List (List ℕ)) (k : ℕ) (other : List ℕ) → LeadsOn classes class way → slice_get (class ∷ way) k ≡ Some other → Needs classes (last_of class way) other → NoneAt n (class ∷ way)
  round zero class way k other leads found needs = none_first (class ∷ way)
  round (suc n) class way k other leads found needs =
      let none = round n class way k other leads found needs in
      rises n class way leads none.1 (needs n (none_there n (class ∷ way) k other none found))

  -- ---- ways from a class

  at_end : (class : List ℕ) (way : List (List ℕ)) (last : List ℕ) → slice_get (class ∷ way) (length (class ∷ way) - 1) ≡ Some last → last_of class way ≡ last
  at_end class way last found =
      let less : length (class ∷ way) - 1 ≡ length way = omega arith in
      last_is class way last (subst (λ (k : ℕ). slice_get (class ∷ way) k ≡ Some last) less found)

  pub way_ends : (class : List ℕ) (way : List (List ℕ)) (last : List ℕ) → slice_get way (length way - 1) ≡ Some last → HasNoZero classes last → IsWay classes class way → HasNoZero classes class
  way_ends class [] last found none is = absurd cc
  way_ends class (first ∷ way) last found none is =
      let at : last_of first way ≡ last = at_end first way last found in
      subst (λ (c : List ℕ). HasNoZero classes c) is.0 (ends first way is.1 (subst (λ (c : List ℕ). HasNoZero classes c) (sym at) none))

  pub way_round : (class : List ℕ) (way : List (List ℕ)) (last other : List ℕ) (k : ℕ) → slice_get way (length way - 1) ≡ Some last → Needs classes last other → slice_get way k ≡ Some other → IsWay classes class way → HasNoZero classes class
  way_round class [] last other k found needs there is = absurd cc
  way_round class (first ∷ way) last other k found needs there is =
      let at : last_of first way ≡ last = at_end first way last found in
      let own : Needs classes (last_of first way) other = subst (λ (c : List ℕ). Needs classes c other) (sym at) needs in
      subst (λ (c : List ℕ). HasNoZero classes c) is.0 (λ n. (round n first way k other is.1 there own).0)

  pub way_longer : (class : List ℕ) (way : List (List ℕ)) (last other : List ℕ) → slice_get way (length way - 1) ≡ Some last → Needs classes last other → IsWay classes class way → IsWay classes class (way ++ other ∷ [])
  way_longer class [] last other found needs is = absurd cc
  way_longer class (first ∷ way) last other found needs is =
      let at : last_of first way ≡ last = at_end first way last found in
      (is.0, longer first way other is.1 (subst (λ (c : List ℕ). Needs classes c other) (sym at) needs))

  pub way_shorter : (n : ℕ) (class : List ℕ) (way : List (List ℕ)) → IsWay classes class way → IsWay classes class (take n way)
  way_shorter zero class way is = tt
  way_shorter (suc n) class [] is = tt
  way_shorter (suc n) class (first ∷ way) is = (is.0, shorter n first way is.1)

  pub way_met : (class : List ℕ) (way new : List (List ℕ)) (last other : List ℕ) → slice_get way (length way - 1) ≡ Some last → Needs classes last other → (new ≡ way) ⊎ (new ≡ way ++ other ∷ []) → IsWay classes class way → IsWay classes class new
  way_met class way new last other found needs (inl e) is = subst (λ (w : List (List ℕ)). IsWay classes class w) (sym e) is
  way_met class way new last other found needs (inr e) is =
      subst (λ (w : List (List ℕ)). IsWay classes class w) (sym e) (way_longer class way last other found needs is)

-- ---- results

pub if_ok_then : {A E : Type 0} (P Q : A → Type 0) (r : Result A E) → ((x : A) → P x → Q x) → IfOk r P → IfOk r Q
if_ok_then P Q (Ok x) then h = then x h
if_ok_then P Q (Err e) then h = tt

pub on_ok_then : {A E : Type 0} (P Q : Type 0) (r : Result A E) → (P → Q) → OnOk r P → OnOk r Q
on_ok_then P Q (Ok x) then h = then h
on_ok_then P Q (Err e) then h = tt
