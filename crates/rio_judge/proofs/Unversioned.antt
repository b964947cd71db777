-- No row changes a kind in a version that isn't known.
use Rattle.std.proofs.Common.{◌≡◌, ◌∙◌, ℕ, List, [], ◌∷◌, Bool, true, false, Option, Some, None, Ok, Err, refl, sym, ap, subst}
use Rattle.std.proofs.lemmas.Bool.{not-true}
use Rattle.std.specs.{Prelude.{is_some, ℤ, option_and_then, if◌then◌else◌}, FinMap.{get}, Option.{option_map_or}, Ordering.{int_eq}}
use Rattle.rio_num.specs.Reading.{◌>>=◌}
use Rattle.rio_format.specs.{Classes.{find_in}, declared.class.Base.{Base}, declared.class.ClassDef.{ClassDef}, declared.value.Value.{Value}}
use Rattle.rio_model.specs.{Mapping.{Mapped, as_version, in_description, in_own_version}, Resolving.{built_in_version, is_known_version}}
use Rattle.rio_model.specs.declared.map_fault.MapFault.TheVariants.{KindChanged, NoVersion, NoMemory}
use Rattle.rio_machine.specs.State.{Row}
use Rattle.rio_step.specs.Refusing.{change_in, row_seen_by, row_seen_in, rows_seen_in}

-- nothing has changed its kind
abbrev IsUnchanged : {A : Type 0} → Mapped A → Type 0
IsUnchanged (Ok x) = Unit {0}
IsUnchanged (Err (KindChanged member)) = ⊥
IsUnchanged (Err NoVersion) = Unit {0}
IsUnchanged (Err NoMemory) = Unit {0}

then_unchanged : {A B : Type 0} (x : Mapped A) (f : A → Mapped B) → IsUnchanged x → ((a : A) → IsUnchanged (f a)) → IsUnchanged (x >>= f)
then_unchanged (Ok x) f is each = each x
then_unchanged (Err (KindChanged member)) f is each = absurd is
then_unchanged (Err NoVersion) f is each = tt
then_unchanged (Err NoMemory) f is each = tt

no_change : {A : Type 0} (x : Mapped A) → IsUnchanged x → change_in x ≡ None
no_change (Ok x) is = refl
no_change (Err (KindChanged member)) is = absurd is
no_change (Err NoVersion) is = refl
no_change (Err NoMemory) is = refl

unversioned : (classes : List ClassDef) (class : List ℕ) (version : ℤ) (v : Value) → is_known_version classes class version ≡ false → as_version classes class version v ≡ Err NoVersion
unfolding as_version
unversioned classes class version v = by (built_in_version class) (find_in classes class version)
  where
    not_own : (b : Bool) → b ≡ false → let r : Mapped Value = if b then Ok v else Err NoVersion in r ≡ Err NoVersion
    not_own true e = absurd cc
    not_own false e = refl

    by : (built : Option ℤ) (found : Option ClassDef) → option_map_or (int_eq version) built (is_some found) ≡ false → option_map_or (in_own_version version v) built (in_description classes class version v found) ≡ Err NoVersion
    by (Some own) found unknown = not_own (int_eq version own) unknown
    by None None unknown = refl
    by None (Some c) unknown = absurd cc

module _ (classes : List ClassDef) (asked : Base) (unknown : is_known_version classes asked.name asked.version ≡ false) where
  row_unchanged : (row : Row) → IsUnchanged (row_seen_by (as_version classes asked.name asked.version) row)
  row_unchanged [] = tt
  row_unchanged (v ∷ vs) =
      subst (λ (x : Mapped Value). IsUnchanged (x >>= λ w. row_seen_by (as_version classes asked.name asked.version) vs >>= λ ws. Ok (w ∷ ws))) (sym (unversioned classes asked.name asked.version v unknown)) tt

  rows_unchanged : (rows : List Row) → IsUnchanged (rows_seen_in classes (Some asked) rows)
  rows_unchanged [] = tt
  rows_unchanged (r ∷ rs) =
      then_unchanged (row_seen_in classes (Some asked) r) (λ s. rows_seen_in classes (Some asked) rs >>= λ ss. Ok (s ∷ ss)) (row_unchanged r)
      (λ s. then_unchanged (rows_seen_in classes (Some asked) rs) (λ ss. Ok (s ∷ ss)) (rows_unchanged rs) (λ ss. tt))

  pub none_changed : (rows : List Row) → change_in (rows_seen_in classes (Some asked) rows) ≡ None
  none_changed rows = no_change _ (rows_unchanged rows)
