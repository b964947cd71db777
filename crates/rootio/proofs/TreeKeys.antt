-- The key of the greatest cycle of a name.
use Rattle.std.proofs.Common.{◌≡◌, ◌⊎◌, inl, inr, ℕ, ◌≤◌, List, [], ◌∷◌, Bool, true, false, cond, Option, Some, None, refl, sym, ap, ◌∙◌, arith}
use Rattle.std.proofs.lemmas.Bool.{leb-false, leb-true}
use Rattle.std.specs.Prelude.{nat_le}
use Rattle.rio_key.specs.declared.head.KeyHead.{KeyHead}
use Rattle.rio_dir.specs.Table.{is_of_name}
use Rattle.rio_report.specs.Item.{greater_cycle_of, with_greatest_cycle}
use Rattle.rio_state.proofs.Members.{In}

pub record IsGreatest (name : List ℕ) (ks : List KeyHead) (k : KeyHead) : Type 0 where
  pub among : In k ks
  pub named : is_of_name name k ≡ true
  pub most : (j : KeyHead) → In j ks → is_of_name name j ≡ true → j.cycle ≤ k.cycle

-- or none has the name
abbrev pub Greatest : List ℕ → List KeyHead → Option KeyHead → Type 0
Greatest name ks None = (j : KeyHead) → In j ks → is_of_name name j ≡ true → ⊥
Greatest name ks (Some k) = IsGreatest name ks k

module _ (name : List ℕ) (k : KeyHead) (ks : List KeyHead) where
  alone : is_of_name name k ≡ true → ((j : KeyHead) → In j ks → is_of_name name j ≡ true → ⊥) → (j : KeyHead) → In j (k ∷ ks) → is_of_name name j ≡ true → j.cycle ≤ k.cycle
  alone named none j (inl same) e = let c = ap (λ (h : KeyHead). h.cycle) same in omega (arith, c)
  alone named none j (inr i) e = absurd (none j i e)

  above : (other : KeyHead) → IsGreatest name ks other → other.cycle ≤ k.cycle → (j : KeyHead) → In j (k ∷ ks) → is_of_name name j ≡ true → j.cycle ≤ k.cycle
  above other g le j (inl same) e = let c = ap (λ (h : KeyHead). h.cycle) same in omega (arith, c)
  above other g le j (inr i) e = omega (arith, le, g.most j i e)

  below : (other : KeyHead) → IsGreatest name ks other → k.cycle ≤ other.cycle → (j : KeyHead) → In j (k ∷ ks) → is_of_name name j ≡ true → j.cycle ≤ other.cycle
  below other g le j (inl same) e = let c = ap (λ (h : KeyHead). h.cycle) same in omega (arith, le, c)
  below other g le j (inr i) e = g.most j i e

  passed : (other : KeyHead) → is_of_name name k ≡ false → IsGreatest name ks other → (j : KeyHead) → In j (k ∷ ks) → is_of_name name j ≡ true → j.cycle ≤ other.cycle
  passed other not g j (inl same) e = absurd (let f : false ≡ true = sym not ∙ ap (is_of_name name) same ∙ e in cc)
  passed other not g j (inr i) e = g.most j i e

  none_of : is_of_name name k ≡ false → ((j : KeyHead) → In j ks → is_of_name name j ≡ true → ⊥) → (j : KeyHead) → In j (k ∷ ks) → is_of_name name j ≡ true → ⊥
  none_of not none j (inl same) e = let f : false ≡ true = sym not ∙ ap (is_of_name name) same ∙ e in cc
  none_of not none j (inr i) e = none j i e

  choose : (other : KeyHead) (b : Bool) → nat_le other.cycle k.cycle ≡ b → is_of_name name k ≡ true → IsGreatest name ks other → Greatest name (k ∷ ks) (Some (cond b k other))
  choose other true le named g = record { among = inl refl; named = named; most = above other g (leb-true _ _ le) }
  choose other false gt named g = let lt = leb-false other.cycle k.cycle gt in record { among = inr g.among; named = g.named; most = below other g (omega (arith, lt)) }

  next : (b : Bool) → is_of_name name k ≡ b → (o : Option KeyHead) → Greatest name ks o → Greatest name (k ∷ ks) (cond b (Some (greater_cycle_of k o)) o)
  next true named None none = record { among = inl refl; named = named; most = alone named none }
  next true named (Some other) g = choose other (nat_le other.cycle k.cycle) refl named g
  next false not None none = none_of not none
  next false not (Some other) g = record { among = inr g.among; named = g.named; most = passed other not g }

pub greatest : (name : List ℕ) (ks : List KeyHead) → Greatest name ks (with_greatest_cycle name ks)
greatest name [] = λ j i e. i
greatest name (k ∷ ks) = next name k ks (is_of_name name k) refl (with_greatest_cycle name ks) (greatest name ks)
