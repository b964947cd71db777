-- Entries that are cut from bytes: what they are together, where each of them ends, and how long they are.
use Rattle.std.proofs.Common.{◌≡◌, ℕ, ◌+◌, ◌-◌, ◌≤◌, List, [], ◌∷◌, ◌++◌, length, drop, map, slice_range, Bool, true, false, ◌==◌, ◌||◌, nat_le, refl, sym, ap, subst, ◌∙◌, arith}
use Rattle.std.proofs.lemmas.Bool.{and_parts, eqb-true, eq-eqb}
use Rattle.std.proofs.lemmas.List.{length-append, length-take, length-drop, take-append-drop, drop_all, drop-drop, Folds.{list_all-append}}
use Rattle.std.specs.List.{concat, list_all}
use Rattle.rio_key.specs.{OpenBasket.{cut_from, have_one_length, is_cut}, BasketRecord.{first_entry_length, offsets_of}}
use Rattle.rio_key.proofs.OpenLaws.{cut_start, least}

-- the length of what is cut
one_long : (start end : ℕ) (bytes : List ℕ) → start ≤ end → end ≤ length bytes → length (slice_range bytes start end) ≡ end - start
one_long start end bytes low high = omega (arith, length-take (end - start) (drop start bytes), length-drop start bytes)

pub concat-cut : (start : ℕ) (ends bytes : List ℕ) → is_cut start ends (length bytes) ≡ true → concat (cut_from start ends bytes) ≡ drop start bytes
concat-cut start [] bytes h = let e = eqb-true start (length bytes) h in sym (drop_all start bytes (omega arith))
concat-cut start (end ∷ ends) bytes h =
    let parts = and_parts (nat_le start end) (is_cut end ends (length bytes)) h in
    let low = least start end parts.0 in
    let more = concat-cut end ends bytes parts.1 in
    let there : drop (end - start) (drop start bytes) ≡ drop end bytes = drop-drop (end - start) start bytes ∙ ap (λ (n : ℕ). drop n bytes) (let e : start + (end - start) ≡ end = omega arith in e) in
    ap (λ (l : List ℕ). slice_range bytes start end ++ l) (more ∙ sym there) ∙ take-append-drop (end - start) (drop start bytes)

pub offsets_of-cut : (k start : ℕ) (ends bytes : List ℕ) → is_cut start ends (length bytes) ≡ true → offsets_of (k + start) (cut_from start ends bytes) ≡ (k + start) ∷ map (λ end. k + end) ends
offsets_of-cut k start [] bytes h = refl
offsets_of-cut k start (end ∷ ends) bytes h =
    let parts = and_parts (nat_le start end) (is_cut end ends (length bytes)) h in
    let low = least start end parts.0 in
    let high = cut_start end ends (length bytes) parts.1 in
    let there : k + start + length (slice_range bytes start end) ≡ k + end = omega (arith, one_long start end bytes low high) in
    ap (λ (l : List ℕ). (k + start) ∷ l) (ap (λ (n : ℕ). offsets_of n (cut_from end ends bytes)) there ∙ offsets_of-cut k end ends bytes parts.1)

-- ---- one length

-- as long as an entry that is as long as another, and as that one
same_test : (a b : ℕ) → a == b ≡ true → (entries : List (List ℕ)) → list_all (λ e. length e == b) entries ≡ true → list_all (λ e. length e == a) entries ≡ true
same_test a b e entries h = subst (λ (n : ℕ). list_all (λ e. length e == n) entries ≡ true) (sym (eqb-true a b e)) h

pub one_length_more : (entries : List (List ℕ)) (entry : List ℕ) → list_all (λ e. length e == length entry) entries ≡ true → have_one_length (entries ++ entry ∷ []) ≡ true
one_length_more [] entry h = refl
one_length_more (e ∷ es) entry h =
    let parts = and_parts (length e == length entry) (list_all (λ x. length x == length entry) es) h in
    let others = same_test (length e) (length entry) parts.0 es parts.1 in
    let same : length entry == length e ≡ true = eq-eqb (length entry) (length e) (sym (eqb-true (length e) (length entry) parts.0)) in
    list_all-append (λ x. length x == length e) es (entry ∷ []) ∙ rw (others, same) refl

pub even_more : (offsets : Bool) (entries : List (List ℕ)) (entry : List ℕ) (more : List (List ℕ)) → more ≡ entries ++ entry ∷ [] → offsets || list_all (λ e. length e == length entry) entries ≡ true → offsets || have_one_length more ≡ true
even_more true entries entry more e h = refl
even_more false entries entry more e h = ap have_one_length e ∙ one_length_more entries entry h

-- the first entry is among them
pub first_within : (entries : List (List ℕ)) → first_entry_length entries ≤ length (concat entries)
first_within [] = omega arith
first_within (e ∷ es) = omega (arith, length-append e (concat es))
