-- Entries one behind the other, and one more of them.
use Rattle.std.proofs.Common.{◌≡◌, ℕ, zero, suc, ◌+◌, ◌-◌, ◌<◌, ◌≤◌, List, [], ◌∷◌, ◌++◌, length, take, drop, get_or, slice_get, slice_range, Some, true, ◌==◌, nat_le, refl, sym, ap, subst, ◌∙◌, arith}
use Rattle.std.proofs.lemmas.Bool.{and_parts, eqb-true, Decides.{nat_tests}}
use Rattle.std.proofs.lemmas.List.{length-append, length-take, length-drop, take_all, drop_at, drop-append-le, take-append-le}
use Rattle.std.specs.List.{concat}
use Rattle.rio_key.specs.OpenBasket.{cut_from, is_cut, start_of}

pub first_start : (ends : List ℕ) (k : ℕ) → k ≡ 0 → start_of 0 ends k ≡ 0
first_start ends zero e = refl
first_start ends (suc k) e = absurd (omega arith)

pub later_start : (ends : List ℕ) (k : ℕ) → 0 < k → start_of 0 ends k ≡ get_or ends (k - 1) 0
later_start ends zero lt = absurd (omega arith)
later_start ends (suc k) lt = let e : suc k - 1 ≡ k = omega arith in rw e refl

pub length-cut : (start : ℕ) (ends bytes : List ℕ) → length (cut_from start ends bytes) ≡ length ends
length-cut start [] bytes = refl
length-cut start (end ∷ ends) bytes = ap suc (length-cut end ends bytes)

start_next : (start end : ℕ) (ends : List ℕ) (k : ℕ) → start_of end ends k ≡ start_of start (end ∷ ends) (suc k)
start_next start end ends zero = refl
start_next start end ends (suc k) = refl

pub cut_there : (start : ℕ) (ends bytes : List ℕ) (k : ℕ) → k < length ends → slice_get (cut_from start ends bytes) k ≡ Some (slice_range bytes (start_of start ends k) (get_or ends k 0))
cut_there start [] bytes k lt = absurd (omega arith)
cut_there start (end ∷ ends) bytes zero lt = refl
cut_there start (end ∷ ends) bytes (suc k) lt =
    cut_there end ends bytes k (omega arith) ∙ ap (λ (s : ℕ). Some (slice_range bytes s (get_or ends k 0))) (start_next start end ends k)

pub least : (a b : ℕ) → nat_le a b ≡ true → a ≤ b
least a b h = grind (arith, nat_tests)

pub cut_start : (start : ℕ) (ends : List ℕ) (last : ℕ) → is_cut start ends last ≡ true → start ≤ last
cut_start start [] last h = let e = eqb-true start last h in omega arith
cut_start start (end ∷ ends) last h =
    let parts = and_parts (nat_le start end) (is_cut end ends last) h in
    let one = least start end parts.0 in
    let more = cut_start end ends last parts.1 in
    omega arith

-- an entry ends behind its beginning, and within the bytes
pub cut_bounds : (start : ℕ) (ends : List ℕ) (last k : ℕ) → is_cut start ends last ≡ true → k < length ends → (start_of start ends k ≤ get_or ends k 0) × (get_or ends k 0 ≤ last)
cut_bounds start [] last k h lt = absurd (omega arith)
cut_bounds start (end ∷ ends) last zero h lt =
    let parts = and_parts (nat_le start end) (is_cut end ends last) h in
    (least start end parts.0, cut_start end ends last parts.1)
cut_bounds start (end ∷ ends) last (suc k) h lt =
    let parts = and_parts (nat_le start end) (is_cut end ends last) h in
    let there = cut_bounds end ends last k parts.1 (omega arith) in
    (subst (λ (s : ℕ). s ≤ get_or ends k 0) (start_next start end ends k) there.0, there.1)

-- as many bytes as the entries have together
pub cut_length : (start : ℕ) (ends bytes : List ℕ) → is_cut start ends (length bytes) ≡ true → start + length (concat (cut_from start ends bytes)) ≡ length bytes
cut_length start [] bytes h = let e = eqb-true start (length bytes) h in omega arith
cut_length start (end ∷ ends) bytes h =
    let parts = and_parts (nat_le start end) (is_cut end ends (length bytes)) h in
    let one = least start end parts.0 in
    let high = cut_start end ends (length bytes) parts.1 in
    let more = cut_length end ends bytes parts.1 in
    let own : length (slice_range bytes start end) ≡ end - start = omega (arith, length-take (end - start) (drop start bytes), length-drop start bytes) in
    omega (arith, own, more, length-append (slice_range bytes start end) (concat (cut_from end ends bytes)))

-- ---- one more

kept : (bytes more : List ℕ) (a b : ℕ) → a ≤ b → b ≤ length bytes → slice_range (bytes ++ more) a b ≡ slice_range bytes a b
kept bytes more a b low high =
    let short : b - a ≤ length (drop a bytes) = omega (arith, length-drop a bytes) in
    ap (take (b - a)) (drop-append-le a bytes more (omega arith)) ∙ take-append-le (b - a) (drop a bytes) more short

last_one : (bytes more : List ℕ) (start : ℕ) → start ≡ length bytes → slice_range (bytes ++ more) start (length bytes + length more) ≡ more
last_one bytes more start e =
    let own : length bytes + length more - start ≡ length more = omega arith in
    let behind : drop start (bytes ++ more) ≡ more = drop_at bytes more start (sym e) in
    rw (own, behind) (take_all (length more) more (omega arith))

pub cut_more : (start : ℕ) (ends bytes more : List ℕ) → is_cut start ends (length bytes) ≡ true → cut_from start (ends ++ (length bytes + length more) ∷ []) (bytes ++ more) ≡ cut_from start ends bytes ++ more ∷ []
cut_more start [] bytes more h = ap (λ (e : List ℕ). e ∷ []) (last_one bytes more start (eqb-true start (length bytes) h))
cut_more start (end ∷ ends) bytes more h =
    let parts = and_parts (nat_le start end) (is_cut end ends (length bytes)) h in
    let own = kept bytes more start end (least start end parts.0) (cut_start end ends (length bytes) parts.1) in
    let others = cut_more end ends bytes more parts.1 in
    rw (own, others) refl

le_true : (a b : ℕ) → a ≤ b → nat_le a b ≡ true
le_true a b h = grind (arith, nat_tests)

pub is_cut_more : (start : ℕ) (ends : List ℕ) (last more : ℕ) → is_cut start ends last ≡ true → is_cut start (ends ++ (last + more) ∷ []) (last + more) ≡ true
is_cut_more start [] last more h =
    let e = eqb-true start last h in
    let le : nat_le start (last + more) ≡ true = le_true start (last + more) (omega arith) in
    let same : (last + more == last + more) ≡ true = grind (arith, nat_tests) in
    rw (le, same) refl
is_cut_more start (end ∷ ends) last more h =
    let parts = and_parts (nat_le start end) (is_cut end ends last) h in
    rw (parts.0, is_cut_more end ends last more parts.1) refl
