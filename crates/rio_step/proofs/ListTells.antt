-- Lists with commas between their items: what is read, and the first tokens that can't stand.
use Rattle.std.proofs.Common.{◌≡◌, inl, inr, ℕ, zero, suc, ◌+◌, ◌<◌, ◌≤◌, ◌^◌, List, [], ◌∷◌, ◌++◌, length, Bool, true, false, ◌&&◌, not, Ok, Err, refl, sym, ◌∙◌, ap, subst, arith, append_assoc, length-append}
use Rattle.rio_num.specs.{At.{At}, Reading.{◌>>=◌}}
use Rattle.rio_token.specs.{declared.token.Token.{Token, TheVariants.{End}}, Reading.{Read, bad_at, is_end, list_at, mark_at, marked, more_at, some_at}}
use Rattle.rio_token.specs.Tokens.{behind, next_at}
use Rattle.rio_model.specs.Lexemes.{Lexeme, SpellsFurther, SpellsItems, mark}
use Rattle.rio_model.proofs.{LexemeLaws.{mark_found, stand_within, takes_some}, ClassFound.{is_end_is}, ItemTold.{end_of_rest}}
use Rattle.rio_step.specs.{CommandLaws.{HaveSameToken}, CommandSpelling.{SpellsEach}, TreeGrammar.{further_at}}
use Rattle.rio_step.proofs.{AlikeLaws.{Tells}, AskedTells.{MarkOf, mark_tells}, FurtherTells.{ItemTells, Rest, rest_tells}, TellsLaws.{mark_test}}
use Rattle.rio_step.proofs.TurnLaws.{Behind, EitherOf, InTurn, Nothing, choice_tells, fewer, handed_tells, nothing_tells, tells_as, turn_tells}

module _ (strict : Bool) where
  -- what two readers that read alike tell
  pub tells_equal : {A : Type 0} (r r' : At → Read A) (G H : A → List Lexeme → Type 0) (n : ℕ) → ((s : At) → r' s ≡ r s) → Tells strict r G H n → Tells strict r' G H n
  tells_equal r r' G H n same t = record {
    known = λ s x m h.
        let k = t.known s x m (sym (same s) ∙ h) in
        record { passed = k.passed; spelled = k.spelled; stands = k.stands; again = λ u v st. same u ∙ k.again u v st };
    up = t.up;
    told = λ s e h.
        let b = t.told s e (sym (same s) ∙ h) in
        record { before = b.before; here = b.here; cut = b.cut; stands = b.stands; unended = b.unended; told = b.told; always = λ u v st. same u ∙ b.always u v st; begins = b.begins };
  }

  module _ {A : Type 0} (close : ℕ) (item : List A → At → Read A) (Spells Above : List A → A → List Lexeme → Type 0) (n : ℕ)
      (one : (front : List A) → Tells strict (item front) (Spells front) (Above front) (n + length front))
      (takes : (front : List A) (x : A) (own : List Lexeme) → Spells front x own → 0 < length own)
      (some : (front : List A) → n + length front < 2 ^ 32 → (x : A) × (own : List Lexeme) × Above front x own) where
    -- a comma and an item
    comma_item : List A → At → Read A
    comma_item front s = mark_at 44 s >>= λ passed. item front passed.1

    abbrev CommaItem : (List A → A → List Lexeme → Type 0) → List A → A → List Lexeme → Type 0
    CommaItem S front = InTurn (MarkOf 44) (λ u. S front)

    -- another one begins
    abbrev goes : At → Bool
    goes s = not (marked close s) && not (is_end (next_at s).token)

    comma_tells : (front : List A) → Tells strict (comma_item front) (CommaItem Spells front) (CommaItem Above front) (n + length front)
    unfolding comma_item
    comma_tells front =
        turn_tells strict (mark_at 44) (λ u m. item front m) (MarkOf 44) (MarkOf 44) (λ u. Spells front) (λ u. Above front) (n + length front) (λ u. n + length front)
        (mark_tells strict 44 (n + length front)) (λ u. one front) (λ x own c. omega arith) (λ u few. some front few)

    comma_takes : (front : List A) (x : A) (own : List Lexeme) → CommaItem Spells front x own → 0 < length own
    comma_takes front x own c =
        let all = ap (λ (l : List Lexeme). length l) c.3 in
        let comma = ap (λ (l : List Lexeme). length l) c.4 in
        omega (arith, all, comma, length-append c.1 c.2)

    goes_same : (s t : At) → HaveSameToken strict s t → goes s ≡ goes t
    goes_same s t h =
        ap (λ (b : Bool). not b && not (is_end (next_at s).token)) ((mark_test strict close).same s t h)
        ∙ ap (λ (k : Token). not (marked close t) && not (is_end k)) h.next.token

    stops : (t : At) → (next_at t).token ≡ End → goes t ≡ false
    stops t h = rw h refl

    more_items : ItemTells strict goes comma_item (CommaItem Spells) (CommaItem Above) (λ front. length front) n
    more_items = record {
      one = comma_tells;
      same = goes_same;
      grows = λ front x own c. let some = comma_takes front x own c in omega (arith, some, length-append front (x ∷ []));
      takes = comma_takes;
      stops = stops;
    }

    -- the closing mark behind the items
    closing : List A × At → Read (List A)
    closing xs = mark_at close xs.1 >>= λ u. Ok (xs.0, u.1)

    abbrev further : ℕ → List A → At → Read (List A)
    further fuel front s = further_at fuel goes comma_item front s

    mark_closes : (s : At) (front : List A) → marked close s ≡ true → closing (front, s) ≡ Ok (front, behind s)
    unfolding closing mark_at
    mark_closes s front h = rw h refl

    bad_closes : (s : At) (front : List A) → marked close s ≡ false → closing (front, s) ≡ bad_at s
    unfolding closing mark_at
    bad_closes s front h = rw h refl

    end_closes : (s : At) → (next_at s).token ≡ End → marked close s ≡ false
    end_closes s h = rw h refl

    no_comma : (s : At) → (next_at s).token ≡ End → mark_at 44 s ≡ bad_at s
    unfolding mark_at
    no_comma s h = rw h refl

    further_stops : (fuel : ℕ) (front : List A) (s : At) → goes s ≡ false → further fuel front s ≡ Ok (front, s)
    unfolding further_at
    further_stops zero front s h = refl
    further_stops (suc fuel) front s h = rw h refl

    further_goes : (fuel : ℕ) (front : List A) (s : At) → goes s ≡ true → further (suc fuel) front s ≡ (comma_item front s >>= λ next. further fuel (front ++ next.0 ∷ []) next.1)
    unfolding further_at
    further_goes fuel front s h = rw h refl

    more_closes : (fuel : ℕ) (front : List A) (s : At) → marked close s ≡ true → more_at (suc fuel) close item front s ≡ Ok (front, behind s)
    unfolding more_at
    more_closes fuel front s h = rw h refl

    more_goes : (fuel : ℕ) (front : List A) (s : At) → marked close s ≡ false → more_at (suc fuel) close item front s ≡ (mark_at 44 s >>= λ passed. item front passed.1 >>= λ next. more_at fuel close item (front ++ next.0 ∷ []) next.1)
    unfolding more_at
    more_goes fuel front s h = rw h refl

    at_end : (fuel : ℕ) (front : List A) (s : At) → (next_at s).token ≡ End → more_at fuel close item front s ≡ bad_at s
    unfolding more_at
    at_end zero front s h = refl
    at_end (suc fuel) front s h = let close = end_closes s h in let comma = no_comma s h in rw (close, comma) refl

    ended : (fuel : ℕ) (front : List A) (s : At) → (next_at s).token ≡ End → more_at fuel close item front s ≡ (further fuel front s >>= closing)
    ended fuel front s h = at_end fuel front s h ∙ sym (bad_closes s front (end_closes s h)) ∙ sym (ap (λ (r : Read (List A)). r >>= closing) (further_stops fuel front s (stops s h)))

    -- behind a comma
    behind_comma : (fuel : ℕ) (front : List A) (s : At) → ((f : List A) (t : At) → length t.rest ≤ fuel → more_at fuel close item f t ≡ (further fuel f t >>= closing)) → length s.rest ≤ suc fuel
        → (c : Read (Unit {0})) → mark_at 44 s ≡ c → ((passed : Unit {0} × At) → c ≡ Ok passed → (r : Read A) → item front passed.1 ≡ r
        → (r >>= λ next. more_at fuel close item (front ++ next.0 ∷ []) next.1) ≡ ((r >>= λ next. further fuel (front ++ next.0 ∷ []) next.1) >>= closing))
        → (c >>= λ passed. item front passed.1 >>= λ next. more_at fuel close item (front ++ next.0 ∷ []) next.1)
        ≡ (((c >>= λ passed. item front passed.1) >>= λ next. further fuel (front ++ next.0 ∷ []) next.1) >>= closing)
    behind_comma fuel front s ih le (Err e) comma step = refl
    behind_comma fuel front s ih le (Ok passed) comma step = step passed refl (item front passed.1) refl

    behind_item : (fuel : ℕ) (front : List A) (s : At) → ((f : List A) (t : At) → length t.rest ≤ fuel → more_at fuel close item f t ≡ (further fuel f t >>= closing)) → length s.rest ≤ suc fuel
        → (passed : Unit {0} × At) → mark_at 44 s ≡ Ok passed → (r : Read A) → item front passed.1 ≡ r
        → (r >>= λ next. more_at fuel close item (front ++ next.0 ∷ []) next.1) ≡ ((r >>= λ next. further fuel (front ++ next.0 ∷ []) next.1) >>= closing)
    behind_item fuel front s ih le passed comma (Err e) read = refl
    behind_item fuel front s ih le passed comma (Ok next) read =
        let m = mark_found 44 s passed.0 passed.1 comma in
        let less = takes_some (mark 44) s m.0 in
        let k = (one front).known passed.1 next.0 next.1 read in
        let within = stand_within k.passed passed.1 next.1 k.stands in
        let same : length passed.1.rest ≡ length (behind s).rest = ap (λ (a : At). length a.rest) m.1 in
        ih (front ++ next.0 ∷ []) next.1 (omega (arith, less, within, same, le))

    going : (fuel : ℕ) (front : List A) (s : At) → ((f : List A) (t : At) → length t.rest ≤ fuel → more_at fuel close item f t ≡ (further fuel f t >>= closing)) → length s.rest ≤ suc fuel
        → marked close s ≡ false → is_end (next_at s).token ≡ false → more_at (suc fuel) close item front s ≡ (further (suc fuel) front s >>= closing)
    unfolding comma_item
    going fuel front s ih le not_so end =
        let goes_so : goes s ≡ true = rw (not_so, end) refl in
        more_goes fuel front s not_so
        ∙ behind_comma fuel front s ih le (mark_at 44 s) refl (λ passed comma r read. behind_item fuel front s ih le passed comma r read)
        ∙ sym (ap (λ (r : Read (List A)). r >>= closing) (further_goes fuel front s goes_so))

    by_next : (fuel : ℕ) (front : List A) (s : At) → ((f : List A) (t : At) → length t.rest ≤ fuel → more_at fuel close item f t ≡ (further fuel f t >>= closing)) → length s.rest ≤ suc fuel
        → (b e : Bool) → marked close s ≡ b → is_end (next_at s).token ≡ e → more_at (suc fuel) close item front s ≡ (further (suc fuel) front s >>= closing)
    by_next fuel front s ih le true e goes_so end =
        more_closes fuel front s goes_so ∙ sym (mark_closes s front goes_so) ∙ sym (ap (λ (r : Read (List A)). r >>= closing) (further_stops (suc fuel) front s (let not_so : goes s ≡ false = rw goes_so refl in not_so)))
    by_next fuel front s ih le false true not_so end = ended (suc fuel) front s (is_end_is (next_at s).token end)
    by_next fuel front s ih le false false not_so end = going fuel front s ih le not_so end

    as_further : (fuel : ℕ) (front : List A) (s : At) → length s.rest ≤ fuel → more_at fuel close item front s ≡ (further fuel front s >>= closing)
    as_further zero front s le = ended zero front s (end_of_rest s.rest le)
    as_further (suc fuel) front s le = by_next fuel front s (λ f t l. as_further fuel f t l) le (marked close s) (is_end (next_at s).token) refl refl

    -- ---- the rest of a list, and its closing mark

    abbrev rest_at : List A → At → Read (List A)
    rest_at front s = more_at (length s.rest) close item front s

    abbrev pub RestList : (List A → A → List Lexeme → Type 0) → List A → List A → List Lexeme → Type 0
    RestList S front ys ls = (xs : List A) × (inside : List Lexeme) × (ys ≡ front ++ xs) × SpellsFurther S front xs inside × (ls ≡ inside ++ mark close ∷ [])

    commas : (S : List A → A → List Lexeme → Type 0) (xs front : List A) (ls : List Lexeme) → SpellsEach (CommaItem S) front xs ls → SpellsFurther S front xs ls
    commas S [] front ls c = c
    commas S (x ∷ xs) front ls c =
        let d = c.3 in
        let own : c.0 ≡ mark 44 ∷ d.2 = d.3 ∙ ap (λ (l : List Lexeme). l ++ d.2) d.4 in
        (d.2, c.1, c.2 ∙ ap (λ (l : List Lexeme). l ++ c.1) own, d.5, commas S xs (front ++ x ∷ []) c.1 c.4)

    further_up : (xs front : List A) (ls : List Lexeme) → SpellsFurther Spells front xs ls → SpellsFurther Above front xs ls
    further_up [] front ls c = c
    further_up (x ∷ xs) front ls c = (c.0, c.1, c.2, (one front).up x c.0 c.3, further_up xs (front ++ x ∷ []) c.1 c.4)

    rest_up : (front ys : List A) (ls : List Lexeme) → RestList Spells front ys ls → RestList Above front ys ls
    rest_up front ys ls c = (c.0, c.1, c.2, further_up c.0 front c.1 c.3, c.4)

    abbrev Closing : List A → List A → List Lexeme → Type 0
    Closing xs ys ls = (ys ≡ xs) × (ls ≡ mark close ∷ [])

    closing_tells : (xs : List A) (k : ℕ) → Tells strict (λ m. mark_at close m >>= λ u. Ok (xs, u.1)) (Closing xs) (Closing xs) k
    closing_tells xs k = handed_tells strict (mark_at close) (λ u. xs) (MarkOf close) (MarkOf close) (Closing xs) (Closing xs) k (mark_tells strict close k) (λ u ls c. (refl, c)) (λ u ls c. (refl, c)) (λ y ls c. c)

    closed_tells : (front : List A) → Tells strict (λ s. further (length s.rest) front s >>= λ xs. mark_at close xs.1 >>= λ u. Ok (xs.0, u.1)) (InTurn (Rest (CommaItem Spells) front) Closing) (InTurn (Rest (CommaItem Above) front) Closing) (n + length front)
    closed_tells front =
        turn_tells strict (λ s. further (length s.rest) front s) (λ xs m. mark_at close m >>= λ u. Ok (xs, u.1)) (Rest (CommaItem Spells) front) (Rest (CommaItem Above) front) Closing Closing (n + length front) (λ xs. n + length front)
        (rest_tells strict goes comma_item (CommaItem Spells) (CommaItem Above) (λ own. length own) n more_items front) (λ xs. closing_tells xs (n + length front)) (λ x own c. omega arith) (λ xs few. (xs, mark close ∷ [], (refl, refl)))

    rest_spelled : (S : List A → A → List Lexeme → Type 0) (front ys : List A) (ls : List Lexeme) → InTurn (Rest (CommaItem S) front) Closing ys ls → RestList S front ys ls
    rest_spelled S front ys ls c =
        let r = c.4 in
        (r.0, c.1, c.5.0 ∙ r.1, commas S r.0 front c.1 r.2, c.3 ∙ ap (λ (l : List Lexeme). c.1 ++ l) c.5.1)

    pub rest_list_tells : (front : List A) → Tells strict (rest_at front) (RestList Spells front) (RestList Above front) (n + length front)
    unfolding closing
    rest_list_tells front =
        tells_as strict (rest_at front) (InTurn (Rest (CommaItem Spells) front) Closing) (InTurn (Rest (CommaItem Above) front) Closing) (RestList Spells front) (RestList Above front) (n + length front)
        (tells_equal (λ s. further (length s.rest) front s >>= λ xs. mark_at close xs.1 >>= λ u. Ok (xs.0, u.1)) (rest_at front) (InTurn (Rest (CommaItem Spells) front) Closing) (InTurn (Rest (CommaItem Above) front) Closing) (n + length front)
        (λ s. as_further (length s.rest) front s (omega arith)) (closed_tells front))
        (rest_spelled Spells front) (rest_spelled Above front) (rest_up front)

    -- ---- lists

    -- items and the closing mark
    abbrev pub ListOf : (List A → A → List Lexeme → Type 0) → List A → List Lexeme → Type 0
    ListOf S xs ls = (inside : List Lexeme) × (ls ≡ inside ++ mark close ∷ []) × SpellsItems S xs inside

    -- at least one
    abbrev pub SomeOf : (List A → A → List Lexeme → Type 0) → List A → List Lexeme → Type 0
    SomeOf S ys ls = (x : A) × (xs : List A) × (ys ≡ x ∷ xs) × ListOf S (x ∷ xs) ls

    some_spelled : (S : List A → A → List Lexeme → Type 0) (ys : List A) (ls : List Lexeme) → InTurn (S []) (λ x. RestList S (x ∷ [])) ys ls → SomeOf S ys ls
    some_spelled S ys ls c =
        let r = c.5 in
        (c.0, r.0, r.2, (c.1 ++ r.1, c.3 ∙ ap (λ (l : List Lexeme). c.1 ++ l) r.4 ∙ sym (append_assoc c.1 r.1 (mark close ∷ [])), (c.1, r.1, refl, c.4, r.3)))

    list_up : (xs : List A) (ls : List Lexeme) → ListOf Spells xs ls → ListOf Above xs ls
    list_up [] ls c = c
    list_up (x ∷ xs) ls c =
        let items = c.2 in
        (c.0, c.1, (items.0, items.1, items.2, (one []).up x items.0 items.3, further_up xs (x ∷ []) items.1 items.4))

    some_up : (ys : List A) (ls : List Lexeme) → SomeOf Spells ys ls → SomeOf Above ys ls
    some_up ys ls c = (c.0, c.1, c.2, list_up (c.0 ∷ c.1) ls c.3)

    pub some_tells : Tells strict (some_at close item) (SomeOf Spells) (SomeOf Above) n
    unfolding some_at
    some_tells =
        let start = n + length {A = A} [] in
        let t =
        tells_as strict (λ s. item [] s >>= λ x. rest_at (x.0 ∷ []) x.1) (InTurn (Spells []) (λ x. RestList Spells (x ∷ []))) (InTurn (Above []) (λ x. RestList Above (x ∷ []))) (SomeOf Spells) (SomeOf Above) start
        (turn_tells strict (item []) (λ x. rest_at (x ∷ [])) (Spells []) (Above []) (λ x. RestList Spells (x ∷ [])) (λ x. RestList Above (x ∷ [])) start (λ x. n + length (x ∷ []))
        (one []) (λ x. rest_list_tells (x ∷ [])) (λ x own c. let some = takes [] x own c in omega (arith, some)) (λ x few. (x ∷ [], mark close ∷ [], ([], [], refl, refl, refl))))
        (some_spelled Spells) (some_spelled Above) some_up in
        fewer strict (λ s. item [] s >>= λ x. rest_at (x.0 ∷ []) x.1) (SomeOf Spells) (SomeOf Above) start n (omega arith) t

    list_spelled : (S : List A → A → List Lexeme → Type 0) (xs : List A) (ls : List Lexeme) → EitherOf (Behind (mark close) (Nothing [])) (SomeOf S) xs ls → ListOf S xs ls
    list_spelled S xs ls (inl c) = subst (λ (l : List A). ListOf S l ls) (sym c.2.0) ([], c.1 ∙ ap (λ (l : List Lexeme). mark close ∷ l) c.2.1, refl)
    list_spelled S xs ls (inr c) = subst (λ (l : List A). ListOf S l ls) (sym c.2) c.3

    pub list_tells : Tells strict (list_at close item) (ListOf Spells) (ListOf Above) n
    unfolding list_at
    list_tells =
        tells_as strict (λ s. list_at close item s) (EitherOf (Behind (mark close) (Nothing [])) (SomeOf Spells)) (EitherOf (Behind (mark close) (Nothing [])) (SomeOf Above)) (ListOf Spells) (ListOf Above) n
        (choice_tells strict (marked close) (mark close) (mark_test strict close) (λ s. Ok ([], s)) (some_at close item) (Nothing []) (Nothing []) (SomeOf Spells) (SomeOf Above) n (nothing_tells strict [] n) some_tells)
        (list_spelled Spells) (list_spelled Above) list_up
