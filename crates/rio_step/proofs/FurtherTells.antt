-- Items one behind the other: what is read, and the first tokens that can't stand.
use Rattle.std.proofs.Common.{◌≡◌, ℕ, zero, suc, ◌+◌, ◌<◌, ◌≤◌, List, [], ◌∷◌, ◌++◌, length, Bool, true, false, Ok, Err, refl, sym, ◌∙◌, ap, subst, arith, append_assoc, length-append}
use Rattle.std.proofs.lemmas.List.{append-nil}
use Rattle.rio_num.specs.{At.{At}, Reading.{◌>>=◌}}
use Rattle.rio_token.specs.{declared.fault.TextFault.{TextFault}, declared.token.Token.TheVariants.{End}, Reading.{Read}, Tokens.{next_at}}
use Rattle.rio_model.specs.Lexemes.{Lexeme}
use Rattle.rio_model.proofs.{ItemLaws.{read_is}, LexemeLaws.{stand_joined, stand_within}, ItemTold.{end_of_rest}}
use Rattle.rio_step.specs.{CommandLaws.{HaveSameToken, IsFirstBadToken}, CommandSpelling.{SpellsEach, SpellsSome}, TreeGrammar.{further_at, items_at}}
use Rattle.rio_step.proofs.{AlikeLaws.{BeginBehind, IsKnown, Tells, alike_first, alike_split, bad_behind, bad_there}, TurnLaws.{InTurn, tells_as, turn_tells}}

-- further items behind some
abbrev pub Rest : {A : Type 0} → (List A → A → List Lexeme → Type 0) → List A → List A → List Lexeme → Type 0
Rest {A} S front ys ls = (xs : List A) × (ys ≡ front ++ xs) × SpellsEach S front xs ls

module _ (strict : Bool) where
  module _ {A : Type 0} (begins : At → Bool) (item : List A → At → Read A) (Spells Above : List A → A → List Lexeme → Type 0) (size : List A → ℕ) (n : ℕ) where
    -- what the reader of an item keeps to
    pub record ItemTells : Type 0 where
      pub one : (front : List A) → Tells strict (item front) (Spells front) (Above front) (n + size front)
      pub same : (s t : At) → HaveSameToken strict s t → begins s ≡ begins t
      pub grows : (front : List A) (x : A) (own : List Lexeme) → Spells front x own → size (front ++ x ∷ []) ≤ size front + length own
      pub takes : (front : List A) (x : A) (own : List Lexeme) → Spells front x own → 0 < length own
      pub stops : (t : At) → (next_at t).token ≡ End → begins t ≡ false

    module _ (i : ItemTells) where
      ended : (s : At) → length s.rest ≤ 0 → begins s ≡ false
      ended s le = i.stops s (end_of_rest s.rest le)

      -- an item leaves less
      less : (front : List A) (s : At) (x : A) (m : At) → item front s ≡ Ok (x, m) → length m.rest < length s.rest
      less front s x m h =
          let k = (i.one front).known s x m h in
          omega (arith, stand_within k.passed s m k.stands, i.takes front x k.passed k.spelled)

      stopped : (f : ℕ) (front : List A) (s : At) → begins s ≡ false → further_at f begins item front s ≡ Ok (front, s)
      unfolding further_at
      stopped zero front s not_so = refl
      stopped (suc f) front s not_so = rw not_so refl

      going : (f : ℕ) (front : List A) (s : At) → begins s ≡ true → further_at (suc f) begins item front s ≡ (item front s >>= λ next. further_at f begins item (front ++ next.0 ∷ []) next.1)
      unfolding further_at
      going f front s goes_so = rw goes_so refl

      -- enough is enough
      enough_behind : (f g : ℕ) (front : List A) (s : At) → ((front : List A) (t : At) → length t.rest ≤ f → length t.rest ≤ g → further_at f begins item front t ≡ further_at g begins item front t)
          → length s.rest ≤ suc f → length s.rest ≤ suc g → (r : Read A) → item front s ≡ r
          → (r >>= λ next. further_at f begins item (front ++ next.0 ∷ []) next.1) ≡ (r >>= λ next. further_at g begins item (front ++ next.0 ∷ []) next.1)
      enough_behind f g front s ih le le' (Ok x) one =
          let l = less front s x.0 x.1 one in
          ih (front ++ x.0 ∷ []) x.1 (omega (arith, l, le)) (omega (arith, l, le'))
      enough_behind f g front s ih le le' (Err e) one = refl

      enough_by : (f g : ℕ) (front : List A) (s : At) → ((front : List A) (t : At) → length t.rest ≤ f → length t.rest ≤ g → further_at f begins item front t ≡ further_at g begins item front t)
          → length s.rest ≤ suc f → length s.rest ≤ suc g → (b : Bool) → begins s ≡ b → further_at (suc f) begins item front s ≡ further_at (suc g) begins item front s
      enough_by f g front s ih le le' true goes_so = going f front s goes_so ∙ enough_behind f g front s ih le le' (item front s) refl ∙ sym (going g front s goes_so)
      enough_by f g front s ih le le' false not_so = stopped (suc f) front s not_so ∙ sym (stopped (suc g) front s not_so)

      enough : (f g : ℕ) (front : List A) (s : At) → length s.rest ≤ f → length s.rest ≤ g → further_at f begins item front s ≡ further_at g begins item front s
      enough zero g front s le le' = stopped zero front s (ended s le) ∙ sym (stopped g front s (ended s le))
      enough (suc f) zero front s le le' = stopped (suc f) front s (ended s le') ∙ sym (stopped zero front s (ended s le'))
      enough (suc f) (suc g) front s le le' = enough_by f g front s (λ fr t l l'. enough f g fr t l l') le le' (begins s) refl

      -- ---- what is left of the items behind some

      abbrev rest_of : List A → At → Read (List A)
      rest_of front s = further_at (length s.rest) begins item front s

      some_left : (k : ℕ) → 0 < k → (j : ℕ) × (k ≡ suc j)
      some_left zero lt = absurd (omega (arith, lt))
      some_left (suc j) lt = (j, refl)

      rest_going : (front : List A) (s : At) (x : A) (m : At) → begins s ≡ true → item front s ≡ Ok (x, m) → rest_of front s ≡ rest_of (front ++ x ∷ []) m
      rest_going front s x m goes_so one =
          let l = less front s x m one in
          let j = some_left (length s.rest) (omega (arith, l)) in
          ap (λ (f : ℕ). further_at f begins item front s) j.1 ∙ going j.0 front s goes_so ∙ ap (λ (r : Read A). r >>= λ next. further_at j.0 begins item (front ++ next.0 ∷ []) next.1) one
          ∙ enough j.0 (length m.rest) (front ++ x ∷ []) m (omega (arith, l, j.1)) (omega arith)

      rest_bad : (front : List A) (s : At) (e : TextFault) → begins s ≡ true → item front s ≡ Err e → rest_of front s ≡ Err e
      rest_bad front s e goes_so bad = by (length s.rest) refl
        where
          by : (k : ℕ) → length s.rest ≡ k → further_at k begins item front s ≡ Err e
          by zero is = let not_so = ended s (omega (arith, is)) in absurd (let never : false ≡ true = sym not_so ∙ goes_so in cc)
          by (suc j) is = going j front s goes_so ∙ ap (λ (r : Read A). r >>= λ next. further_at j begins item (front ++ next.0 ∷ []) next.1) bad

      each_up : (xs front : List A) (ls : List Lexeme) → SpellsEach Spells front xs ls → SpellsEach Above front xs ls
      each_up [] front ls c = c
      each_up (x ∷ xs) front ls c = (c.0, c.1, c.2, (i.one front).up x c.0 c.3, each_up xs (front ++ x ∷ []) c.1 c.4)

      one_more : (S : List A → A → List Lexeme → Type 0) (front ys : List A) (x : A) (own others : List Lexeme) → S front x own → Rest S (front ++ x ∷ []) ys others → Rest S front ys (own ++ others)
      one_more S front ys x own others c d = (x ∷ d.0, d.1 ∙ append_assoc front (x ∷ []) d.0, (own, others, refl, c, d.2))

      known_stopped : (front : List A) (s : At) (ys : List A) (m : At) → begins s ≡ false → rest_of front s ≡ Ok (ys, m) → IsKnown strict (rest_of front) (Rest Spells front) s ys m
      known_stopped front s ys m not_so h =
          let e = read_is front ys s m (sym (stopped (length s.rest) front s not_so) ∙ h) in
          record {
            passed = [];
            spelled = ([], sym e.0 ∙ sym (append-nil front), refl);
            stands = sym e.1;
            again = λ u v st.
                let here : begins u ≡ false = sym (i.same s u st.1) ∙ not_so in
                stopped (length u.rest) front u here ∙ rw (e.0, st.0) refl;
          }

      known_going : (front : List A) (s : At) (ys : List A) (m : At) (x : A) (k : At) → begins s ≡ true → item front s ≡ Ok (x, k)
          → IsKnown strict (rest_of (front ++ x ∷ [])) (Rest Spells (front ++ x ∷ [])) k ys m → IsKnown strict (rest_of front) (Rest Spells front) s ys m
      known_going front s ys m x k goes_so one o =
          let c = (i.one front).known s x k one in
          record {
            passed = c.passed ++ o.passed;
            spelled = one_more Spells front ys x c.passed o.passed c.spelled o.spelled;
            stands = stand_joined c.passed o.passed s k m c.stands o.stands;
            again = λ u v st.
                let p = alike_split strict c.passed o.passed s k u v c.stands st in
                let here : begins u ≡ true = sym (i.same s u (alike_first strict (c.passed ++ o.passed) s u v st)) ∙ goes_so in
                rest_going front u x p.0 here (c.again u p.0 p.1) ∙ o.again p.0 v p.2;
          }

      not_bad : (front ys : List A) (s m : At) (e : TextFault) → begins s ≡ true → item front s ≡ Err e → rest_of front s ≡ Ok (ys, m) → ⊥
      not_bad front ys s m e goes_so bad h = let never = sym (rest_bad front s e goes_so bad) ∙ h in cc

      known_by : (fuel : ℕ) (front : List A) (s : At) (ys : List A) (m : At)
          → ((f : List A) (t : At) → length t.rest ≤ fuel → rest_of f t ≡ Ok (ys, m) → IsKnown strict (rest_of f) (Rest Spells f) t ys m)
          → length s.rest ≤ suc fuel → rest_of front s ≡ Ok (ys, m) → (b : Bool) → begins s ≡ b → (r : Read A) → item front s ≡ r → IsKnown strict (rest_of front) (Rest Spells front) s ys m
      known_by fuel front s ys m ih le h false not_so r one = known_stopped front s ys m not_so h
      known_by fuel front s ys m ih le h true goes_so (Err e) one = absurd (not_bad front ys s m e goes_so one h)
      known_by fuel front s ys m ih le h true goes_so (Ok x) one =
          let l = less front s x.0 x.1 one in
          known_going front s ys m x.0 x.1 goes_so one (ih (front ++ x.0 ∷ []) x.1 (omega (arith, l, le)) (sym (rest_going front s x.0 x.1 goes_so one) ∙ h))

      rest_known : (fuel : ℕ) (front : List A) (s : At) (ys : List A) (m : At) → length s.rest ≤ fuel → rest_of front s ≡ Ok (ys, m) → IsKnown strict (rest_of front) (Rest Spells front) s ys m
      rest_known zero front s ys m le h = known_stopped front s ys m (ended s le) h
      rest_known (suc fuel) front s ys m le h = known_by fuel front s ys m (λ f t l k. rest_known fuel f t ys m l k) le h (begins s) refl (item front s) refl

      -- ---- and the first token that can't stand

      not_stopped : (front : List A) (s : At) (e : TextFault) → begins s ≡ false → rest_of front s ≡ Err e → ⊥
      not_stopped front s e not_so h = let never = sym (stopped (length s.rest) front s not_so) ∙ h in cc

      begin_item : (front : List A) (ls : List Lexeme) → BeginBehind (n + size front) (Above front) ls → BeginBehind (n + size front) (Rest Above front) ls
      begin_item front ls b few = let o = b few in (o.0, front ++ o.1 ∷ [], (o.1 ∷ [], refl, (ls ++ o.0, [], sym (append-nil (ls ++ o.0)), o.2, refl)))

      begin_more : (front : List A) (x : A) (own ls : List Lexeme) → Spells front x own → BeginBehind (n + size (front ++ x ∷ [])) (Rest Above (front ++ x ∷ [])) ls → BeginBehind (n + size front) (Rest Above front) (own ++ ls)
      begin_more front x own ls c b few =
          let o = b (omega (arith, few, length-append own ls, i.grows front x own c)) in
          (o.0, o.1, subst (Rest Above front o.1) (sym (append_assoc own ls o.0)) (one_more Above front o.1 x own (ls ++ o.0) ((i.one front).up x own c) o.2))

      told_by : (fuel : ℕ) (front : List A) (s : At) (e : TextFault)
          → ((f : List A) (t : At) → length t.rest ≤ fuel → rest_of f t ≡ Err e → IsFirstBadToken strict (rest_of f) (BeginBehind (n + size f) (Rest Above f)) t e)
          → length s.rest ≤ suc fuel → rest_of front s ≡ Err e → (b : Bool) → begins s ≡ b → (r : Read A) → item front s ≡ r → IsFirstBadToken strict (rest_of front) (BeginBehind (n + size front) (Rest Above front)) s e
      told_by fuel front s e ih le h false not_so r one = absurd (not_stopped front s e not_so h)
      told_by fuel front s e ih le h true goes_so (Err d) one =
          let same : d ≡ e = let k = sym (rest_bad front s d goes_so one) ∙ h in cc in
          bad_there strict (rest_of front) (item front) (BeginBehind (n + size front) (Above front)) (BeginBehind (n + size front) (Rest Above front)) s e
          (λ u alike g fault. rest_bad front u g (sym (i.same s u alike) ∙ goes_so) fault) (begin_item front)
          ((i.one front).told s e (one ∙ ap (λ (g : TextFault). let y : Read A = Err g in y) same))
      told_by fuel front s e ih le h true goes_so (Ok x) one =
          let l = less front s x.0 x.1 one in
          let c = (i.one front).known s x.0 x.1 one in
          bad_behind strict (rest_of front) (rest_of (front ++ x.0 ∷ [])) (BeginBehind (n + size (front ++ x.0 ∷ [])) (Rest Above (front ++ x.0 ∷ []))) (BeginBehind (n + size front) (Rest Above front)) c.passed s x.1 e c.stands
          (λ u v st g fault.
          let here : begins u ≡ true = sym (i.same s u (alike_first strict c.passed s u v st)) ∙ goes_so in
          rest_going front u x.0 v here (c.again u v st) ∙ fault)
          (λ ms b. begin_more front x.0 c.passed ms c.spelled b)
          (ih (front ++ x.0 ∷ []) x.1 (omega (arith, l, le)) (sym (rest_going front s x.0 x.1 goes_so one) ∙ h))

      rest_told : (fuel : ℕ) (front : List A) (s : At) (e : TextFault) → length s.rest ≤ fuel → rest_of front s ≡ Err e → IsFirstBadToken strict (rest_of front) (BeginBehind (n + size front) (Rest Above front)) s e
      rest_told zero front s e le h = absurd (not_stopped front s e (ended s le) h)
      rest_told (suc fuel) front s e le h = told_by fuel front s e (λ f t l k. rest_told fuel f t e l k) le h (begins s) refl (item front s) refl

      pub rest_tells : (front : List A) → Tells strict (rest_of front) (Rest Spells front) (Rest Above front) (n + size front)
      rest_tells front = record {
        known = λ s ys m h. rest_known (length s.rest) front s ys m (omega arith) h;
        up = λ ys ls c. (c.0, c.1, each_up c.0 front ls c.2);
        told = λ s e h. rest_told (length s.rest) front s e (omega arith) h;
      }

      -- ---- all items

      to_some : (S : List A → A → List Lexeme → Type 0) (ys : List A) (ls : List Lexeme) → InTurn (S []) (λ x. Rest S (x ∷ [])) ys ls → SpellsSome S ys ls
      to_some S ys ls c = subst (λ (l : List A). SpellsSome S l ls) (sym c.5.1) (c.1, c.2, c.3, c.4, c.5.2)

      some_up : (ys : List A) (ls : List Lexeme) → SpellsSome Spells ys ls → SpellsSome Above ys ls
      some_up [] ls c = c
      some_up (y ∷ ys) ls c = each_up (y ∷ ys) [] ls c

      pub items_tell : Tells strict (items_at begins item) (SpellsSome Spells) (SpellsSome Above) (n + size [])
      unfolding items_at
      items_tell =
          tells_as strict (λ u. item [] u >>= λ x. rest_of (x.0 ∷ []) x.1) (InTurn (Spells []) (λ x. Rest Spells (x ∷ []))) (InTurn (Above []) (λ x. Rest Above (x ∷ []))) (SpellsSome Spells) (SpellsSome Above) (n + size [])
          (turn_tells strict (item []) (λ x. rest_of (x ∷ [])) (Spells []) (Above []) (λ x. Rest Spells (x ∷ [])) (λ x. Rest Above (x ∷ [])) (n + size []) (λ x. n + size (x ∷ []))
          (i.one []) (λ x. rest_tells (x ∷ [])) (λ x own c. let g : size (x ∷ []) ≤ size [] + length own = i.grows [] x own c in omega (arith, g)) (λ x few. (x ∷ [], [], ([], refl, refl))))
          (to_some Spells) (to_some Above) some_up
