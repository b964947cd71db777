-- A class with its bases in the newest versions is declared as it is, and breaks no rule where the class itself breaks none.
use Rattle.std.proofs.Common.{◌≡◌, ℕ, zero, suc, ◌+◌, ◌∙◌, List, [], ◌∷◌, ◌++◌, length, map, Bool, true, false, not, ◌||◌, ◌&&◌, if◌then◌else◌, Some, None, refl, ap}
use Rattle.std.specs.{Prelude.{is_some, nat_le}, List.{list_all, list_any}, Option.{option_or}, Str.{bytes_eq}}
use Rattle.rio_format.specs.{Classes.{find_in}, declared.class.Base.{Base}, declared.class.ClassDef.{ClassDef}}
use Rattle.rio_model.specs.declared.declare.DeclareFault.TheVariants.{NoSuchClass, SameVersion, HoldsItself, TooMany}
use Rattle.rio_model.specs.Declaring.{any_inline, any_within, base_declared, class_limit, declare_fault, declared, holds_itself, is_built_in_base, is_known, knows_all, knows_kind, reaches}

module _ (classes : List ClassDef) where
  -- ---- names of bases

  any_named : (p : List ℕ → Bool) (bs : List Base) → list_any (λ b. p b.name) (map (base_declared classes) bs) ≡ list_any (λ b. p b.name) bs
  any_named p [] = refl
  any_named p (b ∷ bs) = ap (λ x. p b.name || x) (any_named p bs)

  all_named : (p : List ℕ → Bool) (bs : List Base) → list_all (λ b. p b.name) (map (base_declared classes) bs) ≡ list_all (λ b. p b.name) bs
  all_named p [] = refl
  all_named p (b ∷ bs) = ap (λ x. p b.name && x) (all_named p bs)

  newest_again : (bs : List Base) → map (base_declared classes) (map (base_declared classes) bs) ≡ map (base_declared classes) bs
  newest_again [] = refl
  newest_again (b ∷ bs) = ap (λ xs. base_declared classes b ∷ xs) (newest_again bs)

  pub declared_again : (c : ClassDef) → declared classes (declared classes c) ≡ declared classes c
  declared_again c = let again = newest_again c.bases in λ i. record c { bases = again i }

  -- ---- rules

  any_last : (p : ClassDef → Bool) (xs : List ClassDef) (c d : ClassDef) → p c ≡ p d → list_any p (xs ++ c ∷ []) ≡ list_any p (xs ++ d ∷ [])
  any_last p [] c d e = ap (λ x. x || false) e
  any_last p (x ∷ xs) c d e = ap (λ t. p x || t) (any_last p xs c d e)

  within_same : (test : List ℕ → Bool) (c : ClassDef) → any_within test (declared classes c) ≡ any_within test c
  within_same test c = ap (λ x. x || list_any (λ m. any_inline test m.kind) c.members) (any_named test c.bases)

  reaches_same : (levels : ℕ) (c : ClassDef) (first last : List ℕ) → reaches levels (classes ++ declared classes c ∷ []) first last ≡ reaches levels (classes ++ c ∷ []) first last
  unfolding reaches
  reaches_same zero c first last = refl
  reaches_same (suc levels) c first last =
      any_last (λ k. bytes_eq k.name first && any_within (λ next. bytes_eq last next || reaches levels (classes ++ declared classes c ∷ []) next last) k) classes (declared classes c) c
      (ap (λ x. bytes_eq c.name first && x) (within_same (λ next. bytes_eq last next || reaches levels (classes ++ declared classes c ∷ []) next last) c))
      ∙ (λ i. list_any (λ k. bytes_eq k.name first && any_within (λ next. bytes_eq last next || reaches_same levels c next last i) k) (classes ++ c ∷ []))

  knows_same : (c : ClassDef) → knows_all classes (declared classes c) ≡ knows_all classes c
  knows_same c = ap (λ x. x && list_all (λ m. knows_kind classes c m.kind) c.members) (all_named (λ n. is_known classes c n || is_built_in_base n) c.bases)

  holds_same : (c : ClassDef) → holds_itself classes (declared classes c) ≡ holds_itself classes c
  holds_same c = reaches_same (length classes + 1) c c.name c.name

-- no rule is broken, where none of the tests holds
no_rule : (knows same holds limit : Bool) → knows ≡ true → same ≡ false → holds ≡ false → limit ≡ false
    → option_or (if not knows then Some NoSuchClass else if same then Some SameVersion else if holds then Some HoldsItself else None) (if limit then Some TooMany else None) ≡ None
no_rule knows same holds limit a b c d = rw (a, b, c, d) refl

pub no_fault : (classes : List ClassDef) (c : ClassDef) → knows_all classes c ≡ true → is_some (find_in classes c.name c.version) ≡ false → holds_itself classes c ≡ false
    → nat_le class_limit (length classes) ≡ false → declare_fault classes (declared classes c) ≡ None
no_fault classes c knows new holds few =
    no_rule (knows_all classes (declared classes c)) (is_some (find_in classes c.name c.version)) (holds_itself classes (declared classes c)) (nat_le class_limit (length classes))
    (knows_same classes c ∙ knows) new (holds_same classes c ∙ holds) few
