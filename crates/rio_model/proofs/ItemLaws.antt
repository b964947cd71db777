-- Lists of items with commas between them: what is spelled is read, and what is read is spelled.
use Rattle.std.proofs.Common.{◌≡◌, ℕ, zero, suc, ◌<◌, List, [], ◌∷◌, ◌++◌, length, Bool, true, false, ◌==◌, if◌then◌else◌, Ok, refl, sym, ◌∙◌, ap, subst, arith, append_assoc, length-append}
use Rattle.std.proofs.{lemmas.Bool.{eq-eqb}, lemmas.List.{append-nil}}
use Rattle.rio_num.specs.{At.{At}, Reading.{◌>>=◌}}
use Rattle.rio_num.proofs.ReadLaws.{ok_is}
use Rattle.rio_token.specs.{declared.fault.TextFault.{TextFault}, Reading.{Read, list_at, mark_at, marked, more_at, some_at}, Tokens.{behind}}
use Rattle.rio_model.specs.Lexemes.{IsNext, Lexeme, SpellsItems, SpellsFurther, Stand, mark}
use Rattle.rio_model.proofs.LexemeLaws.{bad_not_ok, mark_again, mark_found, marked_again, marked_is, stand_joined, stand_split, stand_within, then_ok}

abbrev pub ended : ℕ → List Lexeme → List Lexeme
ended close ls = ls ++ mark close ∷ []

-- what was read, and where reading stands
pub read_is : {A : Type 0} (x y : A) (s t : At) → (let r : Read A = Ok (x, s) in r ≡ Ok (y, t)) → (x ≡ y) × (s ≡ t)
read_is {A} x y s t h =
    let e = ok_is {A = A × At} {E = TextFault} (x, s) (y, t) h in
    (ap (λ (q : A × At). q.0) e, ap (λ (q : A × At). q.1) e)

module _ {A : Type 0} (close : ℕ) (item : List A → At → Read A) (Spells : List A → A → List Lexeme → Type 0) (ends : A → At → Bool) where
  -- what the reader of an item keeps to
  pub record ItemAgain : Type 0 where
    pub other : (44 == close) ≡ false
    pub comma : (x : A) (s : At) → IsNext (mark 44) s → ends x s ≡ true
    pub last : (x : A) (s : At) → IsNext (mark close) s → ends x s ≡ true
    pub begins : (s : At) (x : A × At) → item [] s ≡ Ok x → marked close s ≡ false
    pub again : (front : List A) (x : A) (own : List Lexeme) (s t : At) → Spells front x own → Stand own s t → ends x t ≡ true → item front s ≡ Ok (x, t)

  module _ (i : ItemAgain) where
    next_ends : (y : A) (front xs : List A) (ls : List Lexeme) (s t : At) → SpellsFurther Spells front xs ls → Stand (ended close ls) s t → ends y s ≡ true
    next_ends y front [] ls s t e h = i.last y s (subst (λ (l : List Lexeme). Stand (ended close l) s t) e h).0
    next_ends y front (x ∷ xs) ls s t c h = i.comma y s (subst (λ (l : List Lexeme). Stand (ended close l) s t) c.2 h).0

    closes : (s : At) → IsNext (mark close) s → marked close s ≡ true
    closes s h = marked_again close close s h ∙ eq-eqb close close refl

    regroup : (own others : List Lexeme) → ended close (own ++ others) ≡ own ++ ended close others
    regroup own others = append_assoc own others (mark close ∷ [])

    more_again : (xs front : List A) (ls : List Lexeme) (fuel : ℕ) (s t : At) → SpellsFurther Spells front xs ls → Stand (ended close ls) s t → length ls < fuel → more_at fuel close item front s ≡ Ok (front ++ xs, t)
    unfolding more_at
    more_again xs front ls zero s t c h lt = absurd (omega (arith, lt))
    more_again [] front ls (suc fuel) s t e h lt =
        let k = subst (λ (l : List Lexeme). Stand (ended close l) s t) e h in
        let marks = closes s k.0 in
        rw (marks, append-nil front, k.1) refl
    more_again (x ∷ xs) front ls (suc fuel) s t c h lt =
        let own = c.0 in
        let others = c.1 in
        let k = subst (λ (l : List Lexeme). Stand (ended close l) s t) c.2 h in
        let r = stand_split own (ended close others) (behind s) t (subst (λ (l : List Lexeme). Stand l (behind s) t) (regroup own others) k.1) in
        let m = r.0 in
        let goes : marked close s ≡ false = marked_again 44 close s k.0 ∙ i.other in
        let comma = mark_again 44 s k.0 in
        let one = i.again front x own (behind s) m c.3 r.1 (next_ends x (front ++ x ∷ []) xs others m t c.4 r.2) in
        let left : length others < fuel = omega (arith, lt, ap (λ (l : List Lexeme). length l) c.2, length-append own others) in
        let rest = more_again xs (front ++ x ∷ []) others fuel m t c.4 r.2 left in
        let joined : (front ++ x ∷ []) ++ xs ≡ front ++ x ∷ xs = append_assoc front (x ∷ []) xs in
        rw (goes, comma, one, rest, joined) refl

    pub some_again : (x : A) (xs : List A) (ls : List Lexeme) (s t : At) → SpellsItems Spells (x ∷ xs) ls → Stand (ended close ls) s t → some_at close item s ≡ Ok (x ∷ xs, t)
    unfolding some_at
    some_again x xs ls s t c h =
        let own = c.0 in
        let others = c.1 in
        let k = subst (λ (l : List Lexeme). Stand l s t) (ap (ended close) c.2 ∙ regroup own others) h in
        let r = stand_split own (ended close others) s t k in
        let m = r.0 in
        let one = i.again [] x own s m c.3 r.1 (next_ends x (x ∷ []) xs others m t c.4 r.2) in
        let within = stand_within (ended close others) m t r.2 in
        let left : length others < length m.rest = omega (arith, within, length-append others (mark close ∷ [])) in
        let rest = more_again xs (x ∷ []) others (length m.rest) m t c.4 r.2 left in
        rw (one, rest) refl

    -- the first item begins without the closing mark
    open_list : (x : A) (xs : List A) (ls : List Lexeme) (s t : At) → SpellsItems Spells (x ∷ xs) ls → Stand (ended close ls) s t → marked close s ≡ false
    open_list x xs ls s t c h =
        let k = subst (λ (l : List Lexeme). Stand l s t) (ap (ended close) c.2 ∙ regroup c.0 c.1) h in
        let r = stand_split c.0 (ended close c.1) s t k in
        i.begins s (x, r.0) (i.again [] x c.0 s r.0 c.3 r.1 (next_ends x (x ∷ []) xs c.1 r.0 t c.4 r.2))

    pub items_again : (xs : List A) (ls : List Lexeme) (s t : At) → SpellsItems Spells xs ls → Stand (ended close ls) s t → list_at close item s ≡ Ok (xs, t)
    unfolding list_at
    items_again [] ls s t e h =
        let k = subst (λ (l : List Lexeme). Stand (ended close l) s t) e h in
        let marks = closes s k.0 in
        rw (marks, k.1) refl
    items_again (x ∷ xs) ls s t c h =
        let goes = open_list x xs ls s t c h in
        let rest = some_again x xs ls s t c h in
        rw (goes, rest) refl

-- ---- what is read is spelled

module _ {A : Type 0} (close : ℕ) (item : List A → At → Read A) (Spells : List A → A → List Lexeme → Type 0) (ends : A → At → Bool) where
  -- an item that is read is spelled by the tokens that were passed
  abbrev pub ItemFound : Type 0
  ItemFound = (front : List A) (x : A) (s t : At) → item front s ≡ Ok (x, t) → (own : List Lexeme) × Spells front x own × Stand own s t × (ends x t ≡ true)

  abbrev MoreFound : List A → List A → At → At → Type 0
  MoreFound front ys s t = (xs : List A) × (ls : List Lexeme) × (ys ≡ front ++ xs) × SpellsFurther Spells front xs ls × Stand (ended close ls) s t

  module _ (found : ItemFound) where
    closed : (front ys : List A) (s t : At) → marked close s ≡ true → (let r : Read (List A) = Ok (front, behind s) in r ≡ Ok (ys, t)) → MoreFound front ys s t
    closed front ys s t m h =
        let e = read_is front ys (behind s) t h in
        ([], [], sym e.0 ∙ sym (append-nil front), refl, (marked_is close s m, sym e.1))

    next_found : (front ys : List A) (s t : At) (c : Unit {0} × At) → mark_at 44 s ≡ Ok c → (n : A × At) → item front c.1 ≡ Ok n → MoreFound (front ++ n.0 ∷ []) ys n.1 t → MoreFound front ys s t
    next_found front ys s t c comma n one m =
        let k = mark_found 44 s c.0 c.1 comma in
        let o = found front n.0 c.1 n.1 one in
        let own = o.0 in
        let others = m.1 in
        let here : Stand own (behind s) n.1 = subst (λ (a : At). Stand own a n.1) k.1 o.2 in
        let all : Stand (ended close (own ++ others)) (behind s) t = subst (λ (l : List Lexeme). Stand l (behind s) t) (sym (append_assoc own others (mark close ∷ []))) (stand_joined own (ended close others) (behind s) n.1 t here m.4) in
        (n.0 ∷ m.0, mark 44 ∷ (own ++ others), m.2 ∙ append_assoc front (n.0 ∷ []) m.0, (own, others, refl, o.1, m.3), (k.0, all))

    more_step : (fuel : ℕ) (front ys : List A) (s t : At) → ((f : List A) (x : At) → more_at fuel close item f x ≡ Ok (ys, t) → MoreFound f ys x t) → (b : Bool) → marked close s ≡ b
        → (if b then Ok (front, behind s) else (mark_at 44 s >>= λ passed. item front passed.1 >>= λ next. more_at fuel close item (front ++ next.0 ∷ []) next.1)) ≡ Ok (ys, t) → MoreFound front ys s t
    more_step fuel front ys s t ih true m h = closed front ys s t m h
    more_step fuel front ys s t ih false m h =
        let a = then_ok (mark_at 44 s) (λ passed. item front passed.1 >>= λ next. more_at fuel close item (front ++ next.0 ∷ []) next.1) ys t h in
        let b = then_ok (item front a.0.1) (λ next. more_at fuel close item (front ++ next.0 ∷ []) next.1) ys t a.2 in
        next_found front ys s t a.0 a.1 b.0 b.1 (ih (front ++ b.0.0 ∷ []) b.0.1 b.2)

    more_found : (fuel : ℕ) (front ys : List A) (s t : At) → more_at fuel close item front s ≡ Ok (ys, t) → MoreFound front ys s t
    unfolding more_at
    more_found zero front ys s t h = absurd (bad_not_ok s (ys, t) h)
    more_found (suc fuel) front ys s t h = more_step fuel front ys s t (λ f x k. more_found fuel f ys x t k) (marked close s) refl h

    abbrev pub ItemsFound : List A → At → At → Type 0
    ItemsFound xs s t = (ls : List Lexeme) × SpellsItems Spells xs ls × Stand (ended close ls) s t

    -- at least one item
    abbrev pub SomeFound : List A → At → At → Type 0
    SomeFound ys s t = (x : A) × (xs : List A) × (ls : List Lexeme) × (ys ≡ x ∷ xs) × SpellsItems Spells (x ∷ xs) ls × Stand (ended close ls) s t

    behind_first : (n : A × At) (ys : List A) (s t : At) → item [] s ≡ Ok n → MoreFound (n.0 ∷ []) ys n.1 t → SomeFound ys s t
    behind_first n ys s t one m =
        let o = found [] n.0 s n.1 one in
        let own = o.0 in
        let others = m.1 in
        let all : Stand (ended close (own ++ others)) s t = subst (λ (l : List Lexeme). Stand l s t) (sym (append_assoc own others (mark close ∷ []))) (stand_joined own (ended close others) s n.1 t o.2 m.4) in
        (n.0, m.0, own ++ others, m.2, (own, others, refl, o.1, m.3), all)

    pub some_found : (ys : List A) (s t : At) → some_at close item s ≡ Ok (ys, t) → SomeFound ys s t
    unfolding some_at
    some_found ys s t h =
        let a = then_ok (item [] s) (λ first. more_at (length first.1.rest) close item (first.0 ∷ []) first.1) ys t h in
        behind_first a.0 ys s t a.1 (more_found (length a.0.1.rest) (a.0.0 ∷ []) ys a.0.1 t a.2)

    items_by : (b : Bool) (ys : List A) (s t : At) → marked close s ≡ b → (if b then Ok ([], behind s) else some_at close item s) ≡ Ok (ys, t) → ItemsFound ys s t
    items_by true ys s t m h =
        let e = read_is [] ys (behind s) t h in
        ([], subst (λ (l : List A). SpellsItems Spells l []) e.0 refl, (marked_is close s m, sym e.1))
    items_by false ys s t m h =
        let o = some_found ys s t h in
        (o.2, subst (λ (l : List A). SpellsItems Spells l o.2) (sym o.3) o.4, o.5)

    pub items_found : (ys : List A) (s t : At) → list_at close item s ≡ Ok (ys, t) → ItemsFound ys s t
    unfolding list_at
    items_found ys s t h = items_by (marked close s) ys s t refl h
