-- Pointers to the elements of a class, first to those of its bases and then to those of its members.
use Rattle.std.proofs.{Common.{◌≡◌, ◌∙◌, ℕ, ◌+◌, List, [], ◌∷◌, ◌++◌, length, map, refl, ap, arith}, lemmas.List.{length-map, map-append}}
use Rattle.std.proofs.lemmas.Simd.{map-map}
use Rattle.rio_format.specs.{declared.class.ClassDef.{ClassDef}, declared.value.Value.{Value, Pointed}, WrittenElements.{base_element, member_element, written_elements}, WrittenList.{element_object, pointers_from}}

-- labels go on behind those of the first list
pub pointers_from-append : (label : ℕ) (xs ys : List Value) → pointers_from label (xs ++ ys) ≡ pointers_from label xs ++ pointers_from (label + length xs) ys
unfolding pointers_from
pointers_from-append label [] ys = ap (λ n. pointers_from n ys) (omega arith)
pointers_from-append label (x ∷ xs) ys =
    ap (λ r. Pointed label x ∷ r) (pointers_from-append (label + 1) xs ys ∙ ap (λ n. pointers_from (label + 1) xs ++ pointers_from n ys) (omega arith))

-- the pointers to all elements are those to bases and then those to members
pub by_parts : (label : ℕ) (classes : List ClassDef) (c : ClassDef) → pointers_from label (map element_object (written_elements classes c)) ≡ pointers_from label (map (λ b. element_object (base_element b)) c.bases) ++ pointers_from (label + length c.bases) (map (λ m. element_object (member_element classes c m)) c.members)
unfolding written_elements
by_parts label classes c =
    rw (
      map-append element_object (map base_element c.bases) (map (member_element classes c) c.members),
      map-map element_object base_element c.bases,
      map-map element_object (member_element classes c) c.members,
      pointers_from-append label (map (λ b. element_object (base_element b)) c.bases) (map (λ m. element_object (member_element classes c m)) c.members),
      length-map c.bases (λ b. element_object (base_element b)),
    ) refl
