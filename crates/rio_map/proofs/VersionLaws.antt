-- Objects of a class in a version that is described.
use Rattle.std.proofs.Common.{◌≡◌, ◌&&◌, ℕ, ℤ, List, [], ◌∷◌, zero, suc, ◌<◌, ◌++◌, ◌==◌, drop, length, map, Bool, true, false, cond, Option, Some, None, Ok, Err, if◌then◌else◌, refl, sym, ap, ◌∙◌, arith}
use Rattle.std.proofs.lemmas.{Bool.{and_parts}, Bool.Decides.{Decides-int_eq}, Slice.Eq.{bytes_eq-Decides}}
use Rattle.std.specs.{Option.{option_map_or}, Ordering.{int_eq}, Str.{bytes_eq}}
use Rattle.rio_num.specs.Reading.{◌>>=◌}
use Rattle.rio_format.specs.{Classes.{find_in}, declared.class.Base.{Base}, declared.class.ClassDef.{ClassDef}, declared.value.Part.{Part}, declared.value.Value.{Value}}
use Rattle.rio_model.specs.Mapping.{Asked, Mapped, PartMapping, after_bases, as_version, described_bases, described_members, in_description, in_own_version, mapping_of, object_mapped}
use Rattle.rio_model.specs.{Resolving.{built_in_version}, declared.map_fault.MapFault.TheVariants.{NoVersion}}
use Rattle.rio_map.specs.Versions.{bases_as, behind, is_nameless, mapped_in, mapping_of_part, members_as}

pub found_named : (classes : List ClassDef) (class : List ℕ) (version : ℤ) (c : ClassDef) → find_in classes class version ≡ Some c → (c.name ≡ class) × (c.version ≡ version)
found_named [] class version c h = absurd cc
found_named (d ∷ ds) class version c h = by (bytes_eq d.name class && int_eq d.version version) refl h (found_named ds class version c)
  where
    by : (b : Bool) → (bytes_eq d.name class && int_eq d.version version) ≡ b → cond b (Some d) (find_in ds class version) ≡ Some c → (find_in ds class version ≡ Some c → (c.name ≡ class) × (c.version ≡ version)) → (c.name ≡ class) × (c.version ≡ version)
    by true is h later =
        let e : d ≡ c = cc in
        let parts = and_parts (bytes_eq d.name class) (int_eq d.version version) is in
        (ap (λ (x : ClassDef). x.name) (sym e) ∙ (bytes_eq-Decides d.name class).0 parts.0, ap (λ (x : ClassDef). x.version) (sym e) ∙ (Decides-int_eq d.version version).0 parts.1)
    by false is h later = later h

module _ (classes : List ClassDef) (class : List ℕ) (version : ℤ) (v : Value) (c : ClassDef) where
  abbrev asks : List ℕ → ℤ → Asked
  asks name number = record { class = name; version = number; described = c }

  in_found : find_in classes class version ≡ Some c → in_description classes class version v (find_in classes class version) ≡ mapped_in classes c v
  in_found found =
      let named = found_named classes class version c found in
      ap (in_description classes class version v) found
      ∙ (λ i. (mapping_of classes (asks (sym named.0 i) (sym named.1 i)) v).mapped)

  pub as_described : built_in_version class ≡ None → find_in classes class version ≡ Some c → as_version classes class version v ≡ mapped_in classes c v
  unfolding as_version
  as_described own found =
      ap (λ (o : Option ℤ). option_map_or (in_own_version version v) o (in_description classes class version v (find_in classes class version))) own ∙ in_found found

pub as_own : (classes : List ClassDef) (class : List ℕ) (version : ℤ) (v : Value) (own : ℤ) → built_in_version class ≡ Some own → as_version classes class version v ≡ in_own_version version v own
unfolding as_version
as_own classes class version v own known =
    ap (λ (o : Option ℤ). option_map_or (in_own_version version v) o (in_description classes class version v (find_in classes class version))) known

pub as_built_in : (classes : List ClassDef) (class : List ℕ) (version : ℤ) (v : Value) (own : ℤ) → built_in_version class ≡ Some own → int_eq version own ≡ true → as_version classes class version v ≡ Ok v
as_built_in classes class version v own known same =
    as_own classes class version v own known
    ∙ ap (λ (b : Bool). let r : Mapped Value = if b then Ok v else Err NoVersion in r) same

pub object_by_bases : (classes : List ClassDef) (old : Option ClassDef) (asked : ClassDef) (parts : List PartMapping) (front : List Part) → bases_as classes (described_bases old) asked parts ≡ Ok front
    → object_mapped classes old asked parts ≡ behind front (members_as classes (described_members old) asked (after_bases (λ p. p.name) (described_bases old) parts))
object_by_bases classes old asked parts front e =
    ap (λ (r : Mapped (List Part)). r >>= λ bs. members_as classes (described_members old) asked (after_bases (λ p. p.name) (described_bases old) parts) >>= λ ms. Ok (bs ++ ms)) e

-- ---- the parts after the bases

pub after_bases_mapped : (classes : List ClassDef) (asked : ClassDef) (bs : List Base) (ps : List Part)
    → after_bases (λ q. q.name) bs (map (mapping_of_part classes asked) ps) ≡ map (mapping_of_part classes asked) (after_bases (λ p. p.name) bs ps)
after_bases_mapped classes asked [] ps = refl
after_bases_mapped classes asked (b ∷ bs) [] = refl
after_bases_mapped classes asked (b ∷ bs) (p ∷ ps) = by (length p.name == 0) (after_bases_mapped classes asked bs ps)
  where
    by : (c : Bool) → after_bases (λ q. q.name) bs (map (mapping_of_part classes asked) ps) ≡ map (mapping_of_part classes asked) (after_bases (λ q. q.name) bs ps)
        → cond c (after_bases (λ q. q.name) bs (map (mapping_of_part classes asked) ps)) (map (mapping_of_part classes asked) (p ∷ ps)) ≡ map (mapping_of_part classes asked) (cond c (after_bases (λ q. q.name) bs ps) (p ∷ ps))
    by true e = e
    by false e = refl

none_after : (bs : List Base) → let none : List Part = [] in after_bases (λ p. p.name) bs none ≡ none
none_after [] = refl
none_after (b ∷ bs) = refl

-- from one base on, and the part at its place
pub passes : (bs : List Base) (ps : List Part) (k : ℕ) → k < length bs
    → after_bases (λ p. p.name) (drop k bs) (drop k ps) ≡ (if is_nameless ps k then after_bases (λ p. p.name) (drop (suc k) bs) (drop (suc k) ps) else drop k ps)
passes [] ps k lt = absurd (omega (arith, lt))
passes (b ∷ bs) [] zero lt = refl
passes (b ∷ bs) (p ∷ ps) zero lt = refl
passes (b ∷ bs) [] (suc k) lt = none_after (drop k bs)
passes (b ∷ bs) (p ∷ ps) (suc k) lt = passes bs ps k (omega (arith, lt))
