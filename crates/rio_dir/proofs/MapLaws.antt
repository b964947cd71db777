-- The key table is a map from name and cycle.
use Rattle.std.proofs.{Common.{◌≡◌, ℕ, ◌&&◌, Bool, true, false, eqb, cond, List, [], ◌∷◌, Option, Some, None, refl, sym, subst, ◌∙◌}, lemmas.Bool.{eqb-true}}
use Rattle.std.proofs.lemmas.Slice.Eq.{bytes_eq-Decides}
use Rattle.std.specs.{List.{find}, Option.{option_map_or}, Set.{remove_key}, Str.{bytes_eq}}
use Rattle.rio_key.specs.declared.head.KeyHead.{KeyHead}
use Rattle.rio_dir.specs.Table.{AreBehind, AreOrdered, is_at_cycle, is_before, is_of_name, with_head}
use Rattle.rio_dir.specs.TableMap.{GreatestIsFound, PutInIsFound, TakenOutIsGone}
use Rattle.rio_dir.proofs.{TableOrder.{at_is}, TableLists.{cycle_of, greatest_is, none_behind}}

-- ---- one more

module _ (h : KeyHead) (name : List ℕ) (cycle : ℕ) where
  -- two heads of one name and cycle
  met : (k : KeyHead) → is_at_cycle name cycle k ≡ true → is_at_cycle name cycle h ≡ true → is_at_cycle h.name h.cycle k ≡ true
  met k one two =
      let at = at_is name cycle h two in
      subst (λ (n : List ℕ). is_at_cycle n h.cycle k ≡ true) (sym at.0) (subst (λ (c : ℕ). is_at_cycle name c k ≡ true) (sym at.1) one)

  -- the head at the front, before the others
  front : (k : KeyHead) (ks : List KeyHead) (c d : Bool) → is_at_cycle name cycle k ≡ c → is_at_cycle name cycle h ≡ d → is_at_cycle h.name h.cycle k ≡ false
      → find (is_at_cycle name cycle) (with_head h ks) ≡ cond d (Some h) (find (is_at_cycle name cycle) ks)
      → cond c (Some k) (find (is_at_cycle name cycle) (with_head h ks)) ≡ cond d (Some h) (cond c (Some k) (find (is_at_cycle name cycle) ks))
  front k ks true true ek eh apart is = let same = met k ek eh in absurd cc
  front k ks true false ek eh apart is = refl
  front k ks false d ek eh apart is = is

  found_with : (heads : List KeyHead) → find (is_at_cycle h.name h.cycle) heads ≡ None → find (is_at_cycle name cycle) (with_head h heads) ≡ cond (is_at_cycle name cycle h) (Some h) (find (is_at_cycle name cycle) heads)
  found_with [] new = refl
  found_with (k ∷ ks) new = by (found_with ks) (is_before h.name h.cycle k) (is_at_cycle h.name h.cycle k) refl new
    where
      by : (find (is_at_cycle h.name h.cycle) ks ≡ None → find (is_at_cycle name cycle) (with_head h ks) ≡ cond (is_at_cycle name cycle h) (Some h) (find (is_at_cycle name cycle) ks))
          → (b c : Bool) → is_at_cycle h.name h.cycle k ≡ c → cond c (Some k) (find (is_at_cycle h.name h.cycle) ks) ≡ None
          → find (is_at_cycle name cycle) (cond b (k ∷ with_head h ks) (h ∷ k ∷ ks)) ≡ cond (is_at_cycle name cycle h) (Some h) (find (is_at_cycle name cycle) (k ∷ ks))
      by ih b true e new = absurd cc
      by ih true false e new = front k ks (is_at_cycle name cycle k) (is_at_cycle name cycle h) refl refl e (ih new)
      by ih false false e new = refl

pub put_in_found : PutInIsFound
put_in_found h heads new name cycle = found_with h name cycle heads new

-- ---- one less

module _ (taken : List ℕ) (at : ℕ) (name : List ℕ) (cycle : ℕ) where
  -- a head of both names and cycles
  both : (h : KeyHead) → is_at_cycle taken at h ≡ true → is_at_cycle name cycle h ≡ true → (bytes_eq name taken && eqb cycle at) ≡ true
  both h one two =
      let is = at_is name cycle h two in
      subst (λ (n : List ℕ). (bytes_eq n taken && eqb cycle at) ≡ true) is.0 (subst (λ (c : ℕ). (bytes_eq h.name taken && eqb c at) ≡ true) is.1 one)

  -- another head is found as before
  others : (heads : List KeyHead) → (bytes_eq name taken && eqb cycle at) ≡ false → find (is_at_cycle name cycle) (remove_key (is_at_cycle taken at) heads) ≡ find (is_at_cycle name cycle) heads
  others [] apart = refl
  others (h ∷ hs) apart = by (others hs apart) (is_at_cycle taken at h) (is_at_cycle name cycle h) refl refl
    where
      by : find (is_at_cycle name cycle) (remove_key (is_at_cycle taken at) hs) ≡ find (is_at_cycle name cycle) hs
          → (b c : Bool) → is_at_cycle taken at h ≡ b → is_at_cycle name cycle h ≡ c
          → find (is_at_cycle name cycle) (cond b hs (h ∷ remove_key (is_at_cycle taken at) hs)) ≡ cond c (Some h) (find (is_at_cycle name cycle) hs)
      by ih true true e f = let same = both h e f in absurd cc
      by ih true false e f = refl
      by ih false true e f = rw f refl
      by ih false false e f = rw f ih

-- what was taken out isn't there
gone : (name : List ℕ) (cycle : ℕ) (heads : List KeyHead) → AreOrdered heads → find (is_at_cycle name cycle) (remove_key (is_at_cycle name cycle) heads) ≡ None
gone name cycle [] are = refl
gone name cycle (h ∷ hs) are = by (gone name cycle hs are.1) (is_at_cycle name cycle h) refl
  where
    by : find (is_at_cycle name cycle) (remove_key (is_at_cycle name cycle) hs) ≡ None → (b : Bool) → is_at_cycle name cycle h ≡ b
        → find (is_at_cycle name cycle) (cond b hs (h ∷ remove_key (is_at_cycle name cycle) hs)) ≡ None
    by ih true e =
        let at = at_is name cycle h e in
        none_behind name cycle hs (subst (λ (n : List ℕ). AreBehind n cycle hs) at.0 (subst (λ (c : ℕ). AreBehind h.name c hs) at.1 are.0))
    by ih false e = rw e ih

pub taken_out_gone : TakenOutIsGone
taken_out_gone heads are taken at name cycle = by (bytes_eq name taken) (eqb cycle at) refl refl
  where
    by : (b c : Bool) → bytes_eq name taken ≡ b → eqb cycle at ≡ c → find (is_at_cycle name cycle) (remove_key (is_at_cycle taken at) heads) ≡ cond (b && c) None (find (is_at_cycle name cycle) heads)
    by true true e f =
        subst (λ (n : List ℕ). find (is_at_cycle name cycle) (remove_key (is_at_cycle n at) heads) ≡ None) ((bytes_eq-Decides name taken).0 e)
        (subst (λ (c : ℕ). find (is_at_cycle name cycle) (remove_key (is_at_cycle name c) heads) ≡ None) (eqb-true _ _ f) (gone name cycle heads are))
    by true false e f = others taken at name cycle heads (rw (e, f) refl)
    by false c e f = others taken at name cycle heads (rw e refl)

-- ---- the greatest cycle

of_cycle : (o : Option KeyHead) → option_map_or (λ (h : KeyHead). h.cycle) o 0 ≡ cycle_of o
of_cycle None = refl
of_cycle (Some h) = refl

pub greatest_found : GreatestIsFound
greatest_found heads are name = of_cycle (find (is_of_name name) heads) ∙ sym (greatest_is name heads are)
