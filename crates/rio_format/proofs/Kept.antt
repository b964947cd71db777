-- What holds of each place that is kept holds with one more.
use Rattle.std.proofs.Common.{◌≤◌, ◌+◌, ℕ, Bool, true, false, cond, List, [], ◌∷◌, ◌++◌, All, arith}
use Rattle.std.proofs.lemmas.List.Elements.{All-append, All-cons, All-head, All-tail, All-nil}
use Rattle.std.specs.List.{list_any}
use Rattle.indexmap.specs.{IndexMap.{insert_entry}, IndexSet.{insert_key}}

module _ {K : Type 0} (P : K → Type 0) (eq : K → K → Bool) where
  pub key_kept : (ks : List K) (k : K) → All P ks → P k → All P (insert_key eq ks k)
  key_kept ks k all p = by (list_any (eq k) ks)
    where
      by : (b : Bool) → All P (cond b ks (ks ++ k ∷ []))
      by true = all
      by false = All-append P ks (k ∷ []) all (All-cons P k [] p (All-nil P))

module _ {K V : Type 0} (P : K → Type 0) (eq : K → K → Bool) where
  pub entry_kept : (es : List (K × V)) (k : K) (v : V) → All (λ e. P e.0) es → P k → All (λ e. P e.0) (insert_entry eq es k v)
  entry_kept [] k v all p = All-cons (λ (e : K × V). P e.0) (k, v) [] p (All-nil (λ (e : K × V). P e.0))
  entry_kept (e ∷ es) k v all p = by (eq k e.0) (entry_kept es k v (All-tail (λ (e : K × V). P e.0) e es all) p)
    where
      by : (b : Bool) → All (λ e. P e.0) (insert_entry eq es k v) → All (λ e. P e.0) (cond b ((e.0, v) ∷ es) (e ∷ insert_entry eq es k v))
      by true rest = All-cons (λ (e : K × V). P e.0) (e.0, v) es (All-head (λ (e : K × V). P e.0) e es all) (All-tail (λ (e : K × V). P e.0) e es all)
      by false rest = All-cons (λ (e : K × V). P e.0) e (insert_entry eq es k v) (All-head (λ (e : K × V). P e.0) e es all) rest

-- the places of count words that are whole, with one more of them
pub opened_kept : (opened : List ℕ) (place n m : ℕ) → All (λ p. p + 4 ≤ n) opened → n ≤ m → place + 4 ≤ m → All (λ p. p + 4 ≤ m) (place ∷ opened)
opened_kept opened place n m all le here = All-cons (λ p. p + 4 ≤ m) place opened here (λ k d lt. omega (arith, le, all k d lt))
