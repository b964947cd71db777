-- Names that are added to a list of names, each once.
use Rattle.std.proofs.Common.{◌≡◌, ℕ, List, [], ◌∷◌, ◌++◌, map, Bool, true, false, ◌||◌, if◌then◌else◌, refl, sym, ap, subst, ◌∙◌}
use Rattle.std.proofs.{Math.Bool.{or-false, or-true}, lemmas.Cmp.{nat_list_eq_equiv}, lemmas.List.{append-nil, map-append, Folds.{list_any-append}}}
use Rattle.std.proofs.lemmas.Map.Keys.{IsDistinct-push}
use Rattle.std.specs.{Borrow.{Bor}, Cmp.Lexicographic.{same_text}, List.{IsDistinct, list_any}, Str.{bytes_eq}}
use Rattle.indexmap.specs.IndexSet.{insert_key}
use Rattle.rio_num.specs.Word.{is_among}
use Rattle.rio_registry.specs.Reaching.{IsGrown}

-- a name that isn't there
grown_push : (xs : List (List ℕ)) (x : List ℕ) → is_among xs x ≡ false → IsGrown xs (xs ++ x ∷ []) (λ n. bytes_eq n x)
grown_push xs x new = record {
  kept = (x ∷ [], refl);
  names = λ n. list_any-append (bytes_eq n) xs (x ∷ []) ∙ ap (λ b. is_among xs n || b) (or-false (bytes_eq n x));
  distinct = λ d. IsDistinct-push nat_list_eq_equiv xs x d new;
}

-- a name that is there
grown_there : (xs : List (List ℕ)) (x : List ℕ) → is_among xs x ≡ true → IsGrown xs xs (λ n. bytes_eq n x)
grown_there xs x there = record {
  kept = ([], sym (append-nil xs));
  names = λ n. among n (bytes_eq n x) refl;
  distinct = λ d. d;
}
  where
    among : (n : List ℕ) (b : Bool) → bytes_eq n x ≡ b → is_among xs n ≡ (is_among xs n || b)
    among n false e = sym (or-false (is_among xs n))
    among n true e = ap (is_among xs) (same_text n x (sym e)) ∙ there ∙ sym (or-true (is_among xs n))

-- names as they stand in a set
pub any_text : (p : List ℕ → Bool) (keys : List (Bor (List ℕ))) → list_any p (map (λ k. k.now) keys) ≡ list_any (λ k. p k.now) keys
any_text p [] = refl
any_text p (k ∷ ks) = ap (λ (b : Bool). p k.now || b) (any_text p ks)

-- one name more in the set, which may be there
pub grown_insert : (old : List (List ℕ)) (keys new : List (Bor (List ℕ))) (name : Bor (List ℕ)) → map (λ k. k.now) keys ≡ old → new ≡ insert_key (λ v w. bytes_eq v.now w.now) keys name → IsGrown old (map (λ k. k.now) new) (λ n. bytes_eq n name.now)
grown_insert old keys new name view inserted = by_case (list_any (λ k. bytes_eq name.now k.now) keys) (ap (λ xs. is_among xs name.now) (sym view) ∙ any_text (bytes_eq name.now) keys) inserted
  where
    by_case : (b : Bool) → is_among old name.now ≡ b → new ≡ (if b then keys else keys ++ name ∷ []) → IsGrown old (map (λ k. k.now) new) (λ n. bytes_eq n name.now)
    by_case true there is = rw (is, view) (grown_there old name.now there)
    by_case false other is = rw (is, map-append (λ (k : Bor (List ℕ)). k.now) keys (name ∷ []), view) (grown_push old name.now other)

none_distinct : IsDistinct bytes_eq []
unfolding IsDistinct
none_distinct = tt

-- names that are added to none, in two steps
pub grown_first : (empty mid names : List (List ℕ)) (f g : List ℕ → Bool) → empty ≡ [] → IsGrown empty mid f → IsGrown mid names g → ((n : List ℕ) → is_among names n ≡ (f n || g n)) × IsDistinct bytes_eq names
grown_first empty mid names f g none p q = (
  λ n. q.names n ∙ ap (λ t. t || g n) (p.names n ∙ ap (λ t. is_among t n || f n) none),
  q.distinct (p.distinct (subst (λ (xs : List (List ℕ)). IsDistinct bytes_eq xs) (sym none) none_distinct)),
)
