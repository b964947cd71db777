-- What a map gives after one insert.
use Rattle.std.proofs.Common.{◌≡◌, ℕ, ℤ, List, [], ◌∷◌, Bool, true, false, cond, ◌&&◌, Option, Some, refl, sym, ap, ◌∙◌, nat_cmp, arith}
use Rattle.std.proofs.{lemmas.Bool.Decides.{nat_tests}, lemmas.Map.Text.{is_eq-slice_cmp}, lemmas.Slice.Eq.{bytes_eq-Decides}}
use Rattle.std.specs.{declared.cmp.Ordering.{Ordering, TheVariants.{Less, Equal, Greater}}, BTreeMap.{insert_entry}, Cmp.Lexicographic.{slice_cmp}}
use Rattle.std.specs.{Map.{lookup}, Ordering.{int_cmp, int_eq, is_eq, ordering_then, match_ordering}, Str.{bytes_eq}, Prelude.{◌==◌}}
use Rattle.rio_format.proofs.LeadLaws.{int_eq-sym}

same_met : {X : Type 0} (p t : Bool) (v old rest : Option X) → p ≡ t → cond p v rest ≡ cond t v (cond p old rest)
same_met true true v old rest e = refl
same_met false false v old rest e = refl
same_met true false v old rest e = absurd (cc)
same_met false true v old rest e = absurd (cc)

apart_met : {X : Type 0} (p t : Bool) (v old rest : Option X) → (p ≡ true → t ≡ true → ⊥) → cond p old (cond t v rest) ≡ cond t v (cond p old rest)
apart_met true true v old rest apart = absurd (apart refl refl)
apart_met true false v old rest apart = refl
apart_met false t v old rest apart = refl

module _ {K : Type 0} (bytes : K → List ℕ) where
  abbrev by_bytes : K → K → Ordering
  by_bytes x y = slice_cmp nat_cmp (bytes x) (bytes y)

  abbrev has_bytes : List ℕ → K → Bool
  has_bytes q k = is_eq (slice_cmp nat_cmp q (bytes k))

  insert_by : {X : Type 0} (o : Ordering) (k : K) (v : X) (q : List ℕ) (e : K × X) (es : List (K × X)) → by_bytes k e.0 ≡ o → lookup (has_bytes q) (insert_entry by_bytes es k v) ≡ cond (has_bytes q k) (Some v) (lookup (has_bytes q) es) → lookup (has_bytes q) (match_ordering o ((k, v) ∷ e ∷ es) ((e.0, v) ∷ es) (e ∷ insert_entry by_bytes es k v)) ≡ cond (has_bytes q k) (Some v) (lookup (has_bytes q) (e ∷ es))
  insert_by {X} Less k v q e es is ih = refl
  insert_by {X} Equal k v q e es is ih =
      let same : bytes k ≡ bytes e.0 = (bytes_eq-Decides (bytes k) (bytes e.0)).0 (sym (is_eq-slice_cmp (bytes k) (bytes e.0)) ∙ ap is_eq is) in
      same_met (has_bytes q e.0) (has_bytes q k) (Some v) (Some e.1) (lookup (has_bytes q) es) (ap (λ (b : List ℕ). is_eq (slice_cmp nat_cmp q b)) (sym same))
  insert_by {X} Greater k v q e es is ih =
      ap (λ (o : Option X). cond (has_bytes q e.0) (Some e.1) o) ih
      ∙ apart_met (has_bytes q e.0) (has_bytes q k) (Some v) (Some e.1) (lookup (has_bytes q) es) (λ m n.
      let one : q ≡ bytes e.0 = (bytes_eq-Decides q (bytes e.0)).0 (sym (is_eq-slice_cmp q (bytes e.0)) ∙ m) in
      let two : q ≡ bytes k = (bytes_eq-Decides q (bytes k)).0 (sym (is_eq-slice_cmp q (bytes k)) ∙ n) in
      let level : is_eq (by_bytes k e.0) ≡ true = is_eq-slice_cmp (bytes k) (bytes e.0) ∙ ap (λ (b : List ℕ). bytes_eq b (bytes e.0)) (sym two ∙ one) ∙ (bytes_eq-Decides (bytes e.0) (bytes e.0)).1 refl in
      let clash : false ≡ true = sym (ap is_eq is) ∙ level in
      cc clash)

  -- keys that are told apart by their bytes
  pub bytes-insert : {X : Type 0} (es : List (K × X)) (k : K) (v : X) (q : List ℕ) → lookup (has_bytes q) (insert_entry by_bytes es k v) ≡ cond (has_bytes q k) (Some v) (lookup (has_bytes q) es)
  bytes-insert [] k v q = refl
  bytes-insert (e ∷ es) k v q = insert_by (by_bytes k e.0) k v q e es refl (bytes-insert es k v q)

then_is_eq : (o p : Ordering) → is_eq (ordering_then o p) ≡ (is_eq o && is_eq p)
then_is_eq Less p = refl
then_is_eq Equal p = refl
then_is_eq Greater p = refl

nat_is_eq : (a b : ℕ) → is_eq (nat_cmp a b) ≡ (b == a)
nat_is_eq a b = grind (arith, nat_tests)

-- keys of a place and a number
pub pair_is_at : (a b : ℕ) (x y : ℤ) → is_eq (ordering_then (nat_cmp a b) (int_cmp x y)) ≡ ((b == a) && int_eq y x)
pair_is_at a b x y =
    then_is_eq (nat_cmp a b) (int_cmp x y)
    ∙ ap (λ (t : Bool). t && int_eq x y) (nat_is_eq a b)
    ∙ ap (λ (t : Bool). (b == a) && t) (int_eq-sym x y)
