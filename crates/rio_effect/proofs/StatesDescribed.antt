-- A class list describes the classes of a state as they are.
use Rattle.std.proofs.Common.{◌≡◌, ◌==◌, ℕ, ◌^◌, ◌<◌, ℤ, pos, negsuc, List, [], ◌∷◌, ◌++◌, map, Bool, true, false, cond, int_le, Option, Some, None, refl, sym, ap, subst, ◌∙◌, arith}
use Rattle.std.proofs.{lemmas.Bool.{and_from, and_parts, eqb-true, lt-ltb}, lemmas.Int.{ints}}
use Rattle.std.specs.{List.{fold, list_all}, Option.{option_map_or}, Str.{bytes_eq}}
use Rattle.rio_format.specs.{Classes.{newer_of, newest_in}, declared.class.Base.{Base}, declared.class.ClassDef.{ClassDef}, Integers.{fits_signed}}
use Rattle.rio_model.specs.{ClassGrammar.{checksum_of, summed}, ClassText.{text_of_class}, Declaring.{base_declared, newest_version}}
use Rattle.rio_model.specs.{Described.{has_class_numbers, is_base_number, is_described}, StateClasses.{AreAccepted, IsDeclared}}
use Rattle.rio_model.specs.Stated.{has_stated_parts, is_class_version, is_stated_class}
use Rattle.rio_effect.specs.Classes.{StatesAreDescribed}

-- ---- checksums

sum_low : (text : List ℕ) (sum : ℕ) → sum < 2 ^ 32 → fold summed sum text < 2 ^ 32
sum_low [] sum low = low
sum_low (b ∷ bs) sum low = sum_low bs (summed sum b) (omega arith)

checksum_low : (c : ClassDef) → checksum_of c < 2 ^ 32
unfolding checksum_of
checksum_low c = sum_low (text_of_class c) 0 (omega arith)

-- ---- versions

abbrev is_versioned : ClassDef → Bool
is_versioned c = is_class_version c.version

version_fits : (version : ℤ) → is_class_version version ≡ true → fits_signed 32 version ≡ true
version_fits (pos n) e = grind (arith, ints)
version_fits (negsuc n) e = absurd (grind (arith, ints))

newer_versioned : (c : ClassDef) (o : Option ClassDef) → is_versioned c ≡ true → option_map_or is_versioned o true ≡ true → is_versioned (newer_of c o) ≡ true
newer_versioned c None own e = own
newer_versioned c (Some d) own e = by (int_le d.version c.version)
  where
    by : (b : Bool) → is_versioned (cond b c d) ≡ true
    by true = own
    by false = e

newest_versioned : (classes : List ClassDef) (name : List ℕ) → list_all is_versioned classes ≡ true → option_map_or is_versioned (newest_in classes name) true ≡ true
newest_versioned [] name all = refl
newest_versioned (c ∷ cs) name all =
    let two = and_parts (is_versioned c) (list_all is_versioned cs) all in
    by (bytes_eq c.name name) two.0 (newest_versioned cs name two.1)
  where
    by : (b : Bool) → is_versioned c ≡ true → option_map_or is_versioned (newest_in cs name) true ≡ true → option_map_or is_versioned (cond b (Some (newer_of c (newest_in cs name))) (newest_in cs name)) true ≡ true
    by true own rest = newer_versioned c (newest_in cs name) own rest
    by false own rest = rest

version_or_one : (o : Option ClassDef) → option_map_or is_versioned o true ≡ true → is_class_version (option_map_or (λ c. c.version) o (pos 1)) ≡ true
version_or_one None e = refl
version_or_one (Some c) e = e

bases_fit : (classes : List ClassDef) (bs : List Base) → list_all is_versioned classes ≡ true → list_all is_base_number (map (base_declared classes) bs) ≡ true
bases_fit classes [] all = refl
bases_fit classes (b ∷ bs) all =
    and_from _ _ (version_fits (newest_version classes b.name) (version_or_one (newest_in classes b.name) (newest_versioned classes b.name all))) (bases_fit classes bs all)

-- ---- classes

-- what a class has that a declaration gives
class_described : (before : List ClassDef) (c : ClassDef) → list_all is_versioned before ≡ true → IsDeclared before c → (is_described c ≡ true) × (is_versioned c ≡ true)
unfolding is_stated_class
class_described before c all d =
    let stated = and_parts (has_stated_parts c) (c.sum == checksum_of c) d.stated in
    let bases = (and_parts _ _ stated.0).0 in
    let words = (and_parts _ _ bases).0 in
    let version = (and_parts _ (is_class_version c.version) words).1 in
    let sum : c.sum < 2 ^ 32 = subst (λ (n : ℕ). n < 2 ^ 32) (sym (eqb-true c.sum (checksum_of c) stated.1)) (checksum_low c) in
    let fit : list_all is_base_number c.bases ≡ true = ap (λ (k : ClassDef). list_all is_base_number k.bases) d.newest ∙ bases_fit before c.bases all in
    (and_from (has_stated_parts c) (has_class_numbers c) stated.0 (and_from _ _ (lt-ltb c.sum (2 ^ 32) sum) fit), version)

one_versioned : (before : List ClassDef) (c : ClassDef) → list_all is_versioned before ≡ true → is_versioned c ≡ true → list_all is_versioned (before ++ c ∷ []) ≡ true
one_versioned [] c all own = and_from _ _ own refl
one_versioned (d ∷ ds) c all own = let two = and_parts (is_versioned d) (list_all is_versioned ds) all in and_from _ _ two.0 (one_versioned ds c two.1 own)

all_described : (before after : List ClassDef) → list_all is_versioned before ≡ true → AreAccepted before after → list_all is_described after ≡ true
all_described before [] all are = refl
all_described before (c ∷ after) all are =
    let own = class_described before c all are.0 in
    and_from _ _ own.0 (all_described (before ++ c ∷ []) after (one_versioned before c all own.1) are.2)

pub states_are_described : StatesAreDescribed
states_are_described classes are = all_described [] classes refl are
