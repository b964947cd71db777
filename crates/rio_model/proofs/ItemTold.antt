-- Lists of items with commas between them: the first token that can't stand.
use Rattle.std.proofs.Common.{◌≡◌, inl, inr, ℕ, zero, suc, ◌<◌, ◌≤◌, List, [], ◌∷◌, ◌++◌, length, Bool, true, false, if◌then◌else◌, Ok, Err, refl, sym, ◌∙◌, ap, subst, arith, append_assoc}
use Rattle.std.proofs.lemmas.List.{append-nil}
use Rattle.rio_num.specs.{At.{At}, Reading.{◌>>=◌}}
use Rattle.rio_token.specs.{declared.fault.TextFault.{TextFault}, declared.token.Token.TheVariants.{End}}
use Rattle.rio_token.specs.{Reading.{Read, bad_at, list_at, mark_at, marked, more_at, some_at}, Tokens.{behind, next_at, scan_of}}
use Rattle.rio_model.specs.{Lexemes.{IsNext, Lexeme, SpellsItems, SpellsFurther, mark}, ToldPlaces.{Begin, HaveSameNext, TellsBadToken}}
use Rattle.rio_model.proofs.{ItemLaws.{ItemAgain, ItemFound}, LexemeLaws.{mark_again, mark_found, marked_again, stand_within, takes_some}}
use Rattle.rio_model.proofs.ToldLaws.{bad_here, bad_is, bind_bad, err_is, mark_bad, marked_same, told_behind, told_here}

-- ---- how far reading may go, by the bytes that are left

pub end_of_rest : (rest : List ℕ) → length rest ≤ 0 → (scan_of rest).token ≡ End
unfolding scan_of
end_of_rest [] h = refl
end_of_rest (b ∷ bs) h = absurd (omega (arith, h))

some_left : (n k : ℕ) → n < k → (j : ℕ) × (k ≡ suc j) × (n ≤ j)
some_left n zero h = absurd (omega (arith, h))
some_left n (suc j) h = (j, refl, omega (arith, h))

module _ {A : Type 0} (close : ℕ) (item : List A → At → Read A) where
  -- nothing that goes on comes next
  more_bad : (fuel : ℕ) (front : List A) (t : At) → marked close t ≡ false → mark_at 44 t ≡ bad_at t → more_at fuel close item front t ≡ bad_at t
  unfolding more_at
  more_bad zero front t goes bad = refl
  more_bad (suc fuel) front t goes bad = rw (goes, bad) refl

  end_bad : (t : At) → (next_at t).token ≡ End → (marked close t ≡ false) × (mark_at 44 t ≡ bad_at t)
  unfolding mark_at
  end_bad t h = (rw h refl, rw h refl)

  -- a comma comes next
  more_comma : (fuel : ℕ) (front : List A) (t : At) → marked close t ≡ false → IsNext (mark 44) t
      → more_at (suc fuel) close item front t ≡ (item front (behind t) >>= λ next. more_at fuel close item (front ++ next.0 ∷ []) next.1)
  unfolding more_at
  more_comma fuel front t goes next = let comma = mark_again 44 t next in rw (goes, comma) refl

module _ {A : Type 0} (close : ℕ) (item : List A → At → Read A) (Spells : List A → A → List Lexeme → Type 0) (ends : A → At → Bool) (found : ItemFound close item Spells ends) where
  after_comma : (f g : ℕ) (front : List A) (s : At) → ((front : List A) (t : At) → length t.rest ≤ f → length t.rest ≤ g → more_at f close item front t ≡ more_at g close item front t) → length (behind s).rest ≤ f → length (behind s).rest ≤ g
      → (r : Read A) → item front (behind s) ≡ r
      → (r >>= λ next. more_at f close item (front ++ next.0 ∷ []) next.1) ≡ (r >>= λ next. more_at g close item (front ++ next.0 ∷ []) next.1)
  after_comma f g front s ih le le' (Ok x) one =
      let o = found front x.0 (behind s) x.1 one in
      let within = stand_within o.0 (behind s) x.1 o.2 in
      ih (front ++ x.0 ∷ []) x.1 (omega (arith, within, le)) (omega (arith, within, le'))
  after_comma f g front s ih le le' (Err e) one = refl

  -- limits that are at least the length of the text give the same
  enough_step : (f g : ℕ) (front : List A) (s : At) → ((front : List A) (t : At) → length t.rest ≤ f → length t.rest ≤ g → more_at f close item front t ≡ more_at g close item front t) → length s.rest ≤ suc f → length s.rest ≤ suc g
      → (b : Bool) → marked close s ≡ b → (c : Read (Unit {0})) → mark_at 44 s ≡ c → more_at (suc f) close item front s ≡ more_at (suc g) close item front s
  unfolding more_at
  enough_step f g front s ih le le' true m c comma = rw m refl
  enough_step f g front s ih le le' false m (Err e) comma = rw (m, comma) refl
  enough_step f g front s ih le le' false m (Ok c) comma =
      let k = mark_found 44 s c.0 c.1 comma in
      let less = takes_some (mark 44) s k.0 in
      let place : mark_at 44 s ≡ Ok (tt, behind s) = mark_again 44 s k.0 in
      let same = after_comma f g front s ih (omega (arith, less, le)) (omega (arith, less, le')) (item front (behind s)) refl in
      rw (m, place) same

  enough : (f g : ℕ) (front : List A) (s : At) → length s.rest ≤ f → length s.rest ≤ g → more_at f close item front s ≡ more_at g close item front s
  enough zero g front s le le' =
      let e = end_bad close item s (end_of_rest s.rest le) in
      more_bad close item zero front s e.0 e.1 ∙ sym (more_bad close item g front s e.0 e.1)
  enough (suc f) zero front s le le' =
      let e = end_bad close item s (end_of_rest s.rest le') in
      more_bad close item (suc f) front s e.0 e.1 ∙ sym (more_bad close item zero front s e.0 e.1)
  enough (suc f) (suc g) front s le le' = enough_step f g front s (λ fr t l l'. enough f g fr t l l') le le' (marked close s) refl (mark_at 44 s) refl

-- ---- the first token that can't stand

module _ {A : Type 0} (close : ℕ) (item : List A → At → Read A) (Spells Above : List A → A → List Lexeme → Type 0) (ends : A → At → Bool) where
  -- what the reader of an item keeps to, where items are spelled with more brackets
  pub record ItemTold : Type 0 where
    pub again : ItemAgain close item Spells ends
    pub found : ItemFound close item Spells ends
    pub up : (front : List A) (x : A) (ls : List Lexeme) → Spells front x ls → Above front x ls
    pub told : (front : List A) (s : At) (e : TextFault) → item front s ≡ Err e → TellsBadToken (item front) (Begin (Above front)) s e
    pub ends_same : (x : A) (s t : At) → HaveSameNext s t → ends x s ≡ true → ends x t ≡ true

  module _ (i : ItemTold) where
    -- the rest of a list, with enough for what is left
    abbrev rest_of : List A → At → Read (List A)
    rest_of front t = more_at (length t.rest) close item front t

    no_comma : (front : List A) (s : At) (e : TextFault) → marked close s ≡ false → mark_at 44 s ≡ Err e → TellsBadToken (rest_of front) (Begin (SpellsFurther Above front)) s e
    no_comma front s e goes h =
        let bad = mark_bad 44 s e h in
        bad_here (rest_of front) (Begin (SpellsFurther Above front)) s e (λ t same.
        let opened : marked close t ≡ false = sym (marked_same close s t same) ∙ goes in
        more_bad close item (length t.rest) front t opened (bad.1 t same)) ([], [], refl) bad.0

    -- the item behind a comma
    bad_item : (front : List A) (s : At) (e : TextFault) → IsNext (mark 44) s → item front (behind s) ≡ Err e → TellsBadToken (rest_of front) (Begin (SpellsFurther Above front)) s e
    bad_item front s e next h =
        told_behind (rest_of front) (item front) (Begin (Above front)) (Begin (SpellsFurther Above front)) (mark 44 ∷ []) s (behind s) e (next, refl)
        (λ t n k same g bad.
        let less = takes_some (mark 44) t k.0 in
        let left = some_left (length (behind t).rest) (length t.rest) less in
        let goes : marked close t ≡ false = marked_again 44 close t k.0 ∙ i.again.other in
        let here : item front (behind t) ≡ Err g = subst (λ (x : At). item front x ≡ Err g) k.1 bad in
        ap (λ (f : ℕ). more_at f close item front t) left.1 ∙ more_comma close item left.0 front t goes k.0 ∙ rw here refl)
        (λ ms b. (b.0, b.1 ∷ [], (ms ++ b.0, [], ap (λ (l : List Lexeme). mark 44 ∷ l) (sym (append-nil (ms ++ b.0))), b.2, refl)))
        (i.told front (behind s) e h)

    -- what stands behind an item
    bad_behind : (front : List A) (s : At) (x : A) (m : At) (e : TextFault) → IsNext (mark 44) s → item front (behind s) ≡ Ok (x, m) → TellsBadToken (rest_of (front ++ x ∷ [])) (Begin (SpellsFurther Above (front ++ x ∷ []))) m e
        → TellsBadToken (rest_of front) (Begin (SpellsFurther Above front)) s e
    bad_behind front s x m e next one b =
        let o = i.found front x (behind s) m one in
        told_behind (rest_of front) (rest_of (front ++ x ∷ [])) (Begin (SpellsFurther Above (front ++ x ∷ []))) (Begin (SpellsFurther Above front)) (mark 44 ∷ o.0) s m e (next, o.2)
        (λ t n k same g bad.
        let less = takes_some (mark 44) t k.0 in
        let within = stand_within o.0 (behind t) n k.1 in
        let left = some_left (length (behind t).rest) (length t.rest) less in
        let goes : marked close t ≡ false = marked_again 44 close t k.0 ∙ i.again.other in
        let here : item front (behind t) ≡ Ok (x, n) = i.again.again front x o.0 (behind t) n o.1 k.1 (i.ends_same x m n same o.3) in
        let rest : more_at left.0 close item (front ++ x ∷ []) n ≡ Err g = enough close item Spells ends i.found left.0 (length n.rest) (front ++ x ∷ []) n (omega (arith, within, left.2)) (omega arith) ∙ bad in
        ap (λ (f : ℕ). more_at f close item front t) left.1 ∙ more_comma close item left.0 front t goes k.0 ∙ rw here rest)
        (λ ms b. (b.0, x ∷ b.1, (o.0, ms ++ b.0, ap (λ (l : List Lexeme). mark 44 ∷ l) (append_assoc o.0 ms b.0), i.up front x o.0 o.1, b.2)))
        b

    more_step : (fuel : ℕ) (front : List A) (s : At) (e : TextFault)
        → ((f : List A) (t : At) (g : TextFault) → length t.rest ≤ fuel → more_at fuel close item f t ≡ Err g → TellsBadToken (rest_of f) (Begin (SpellsFurther Above f)) t g)
        → length s.rest ≤ suc fuel → marked close s ≡ false → (c : Read (Unit {0})) → mark_at 44 s ≡ c → (c >>= λ passed. item front passed.1 >>= λ next. more_at fuel close item (front ++ next.0 ∷ []) next.1) ≡ Err e
        → TellsBadToken (rest_of front) (Begin (SpellsFurther Above front)) s e
    more_step fuel front s e ih le goes (Err d) comma h =
        let same : d ≡ e = err_is {A = List A × At} d e h in
        no_comma front s e goes (comma ∙ ap (λ (g : TextFault). let y : Read (Unit {0}) = Err g in y) same)
    more_step fuel front s e ih le goes (Ok c) comma h =
        let k = mark_found 44 s c.0 c.1 comma in
        let less = takes_some (mark 44) s k.0 in
        let here = subst (λ (x : At). (item front x >>= λ next. more_at fuel close item (front ++ next.0 ∷ []) next.1) ≡ Err e) k.1 h in
        elim (bind_bad (List A) (item front (behind s)) (λ next. more_at fuel close item (front ++ next.0 ∷ []) next.1) e here) [
          | inl bad ↦ bad_item front s e k.0 bad
          | inr w ↦
              let o = i.found front w.0.0 (behind s) w.0.1 w.1 in
              let within = stand_within o.0 (behind s) w.0.1 o.2 in
              bad_behind front s w.0.0 w.0.1 e k.0 w.1 (ih (front ++ w.0.0 ∷ []) w.0.1 e (omega (arith, within, less, le)) w.2)
        ]

    more_by : (fuel : ℕ) (front : List A) (s : At) (e : TextFault)
        → ((f : List A) (t : At) (g : TextFault) → length t.rest ≤ fuel → more_at fuel close item f t ≡ Err g → TellsBadToken (rest_of f) (Begin (SpellsFurther Above f)) t g)
        → length s.rest ≤ suc fuel → (b : Bool) → marked close s ≡ b
        → (if b then Ok (front, behind s) else (mark_at 44 s >>= λ passed. item front passed.1 >>= λ next. more_at fuel close item (front ++ next.0 ∷ []) next.1)) ≡ Err e
        → TellsBadToken (rest_of front) (Begin (SpellsFurther Above front)) s e
    more_by fuel front s e ih le true m h = absurd (cc)
    more_by fuel front s e ih le false m h = more_step fuel front s e ih le m (mark_at 44 s) refl h

    more_told : (fuel : ℕ) (front : List A) (s : At) (e : TextFault) → length s.rest ≤ fuel → more_at fuel close item front s ≡ Err e → TellsBadToken (rest_of front) (Begin (SpellsFurther Above front)) s e
    unfolding more_at
    more_told zero front s e le h =
        let end = end_of_rest s.rest le in
        bad_here (rest_of front) (Begin (SpellsFurther Above front)) s e (λ t same.
        let b = end_bad close item t (sym same.token ∙ end) in
        more_bad close item (length t.rest) front t b.0 b.1) ([], [], refl) (bad_is {A = List A} s e h)
    more_told (suc fuel) front s e le h = more_by fuel front s e (λ f t g l k. more_told fuel f t g l k) le (marked close s) refl h

    first_bad : (s : At) (e : TextFault) → item [] s ≡ Err e → TellsBadToken (some_at close item) (Begin (SpellsItems Above)) s e
    unfolding some_at
    first_bad s e h =
        told_here (some_at close item) (item []) (Begin (Above [])) (Begin (SpellsItems Above)) s e (λ t same g bad. rw bad refl)
        (λ ms b. (b.0, b.1 ∷ [], (ms ++ b.0, [], sym (append-nil (ms ++ b.0)), b.2, refl)))
        (i.told [] s e h)

    later_bad : (s : At) (x : A) (m : At) (e : TextFault) → item [] s ≡ Ok (x, m) → more_at (length m.rest) close item (x ∷ []) m ≡ Err e → TellsBadToken (some_at close item) (Begin (SpellsItems Above)) s e
    unfolding some_at
    later_bad s x m e one h =
        let o = i.found [] x s m one in
        told_behind (some_at close item) (rest_of (x ∷ [])) (Begin (SpellsFurther Above (x ∷ []))) (Begin (SpellsItems Above)) o.0 s m e o.2
        (λ t n k same g bad.
        let here : item [] t ≡ Ok (x, n) = i.again.again [] x o.0 t n o.1 k (i.ends_same x m n same o.3) in
        rw here bad)
        (λ ms b. (b.0, x ∷ b.1, (o.0, ms ++ b.0, append_assoc o.0 ms b.0, i.up [] x o.0 o.1, b.2)))
        (more_told (length m.rest) (x ∷ []) m e (omega arith) h)

    pub some_told : (s : At) (e : TextFault) → some_at close item s ≡ Err e → TellsBadToken (some_at close item) (Begin (SpellsItems Above)) s e
    unfolding some_at
    some_told s e h =
        elim (bind_bad (List A) (item [] s) (λ first. more_at (length first.1.rest) close item (first.0 ∷ []) first.1) e h) [
          | inl bad ↦ first_bad s e bad
          | inr w ↦ later_bad s w.0.0 w.0.1 e w.1 w.2
        ]

    items_by : (s : At) (e : TextFault) (b : Bool) → marked close s ≡ b → (if b then Ok ([], behind s) else some_at close item s) ≡ Err e → TellsBadToken (list_at close item) (Begin (SpellsItems Above)) s e
    unfolding list_at
    items_by s e true m h = absurd (cc)
    items_by s e false m h =
        told_here (list_at close item) (some_at close item) (Begin (SpellsItems Above)) (Begin (SpellsItems Above)) s e
        (λ t same g bad. let opened : marked close t ≡ false = sym (marked_same close s t same) ∙ m in rw opened bad)
        (λ ms b. b) (some_told s e h)

    pub items_told : (s : At) (e : TextFault) → list_at close item s ≡ Err e → TellsBadToken (list_at close item) (Begin (SpellsItems Above)) s e
    unfolding list_at
    items_told s e h = items_by s e (marked close s) refl h
