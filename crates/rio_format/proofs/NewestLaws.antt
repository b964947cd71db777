-- The newest class of a name, and one more class.
use Rattle.std.proofs.Common.{◌≡◌, ◌≢◌, ℕ, ℤ, suc, zero, ◌<◌, List, [], ◌∷◌, ◌++◌, length, get_or, set, take, Bool, true, false, if◌then◌else◌, ⊎_elim, Option, Some, None, refl, sym, ap, ◌∙◌, arith}
use Rattle.std.proofs.{lemmas.List.{length-append}, lemmas.Option.{slice_get-get_or, slice_get_within, get_or_from_slice_get, slice_get_past}}
use Rattle.std.proofs.{lemmas.Grind.{common_steps}, lemmas.Slice.Eq.{bytes_eq-Decides}, lemmas.Bool.{cases_Bool}}
use Rattle.std.specs.{Prelude.{int_le}, List.{slice_get}, Option.{option_and_then, option_map_or}, Str.{bytes_eq}}
use Rattle.rio_format.specs.{Classes.{newest_in, newer_of}, Index.{newest_place, NewestLead}, Places.{place, is_named}, declared.class.ClassDef.{ClassDef}}
use Rattle.rio_format.proofs.{LeadLaws.{slice_get-front, slice_get-last, one_name, place-push_failing, place-push_found, place-push_first}, PlaceLaws.{place_passes, no_place_fails}}

-- a class, if it is newer than the one before it, if there is one
abbrev pub newer_than : Option ClassDef → ClassDef → ClassDef
newer_than None c = c
newer_than (Some b) c = newer_of b (Some c)

-- the newest of a name, with one more class, of that name or not
abbrev pub newest_with : Bool → Option ClassDef → ClassDef → Option ClassDef
newest_with b newest c = if b then Some (newer_than newest c) else newest

newer_is : (b : Bool) (d x : ClassDef) → int_le x.version d.version ≡ b → newer_of d (Some x) ≡ (if b then d else x)
newer_is b d x e = ap (λ (t : Bool). if t then d else x) e

le_clash : (x y z : ℤ) → int_le x y ≡ true → int_le y z ≡ true → int_le x z ≡ false → true ≡ false
le_clash x y z p q r = grind (arith, common_steps)

gt_clash : (x y z : ℤ) → int_le x y ≡ false → int_le y z ≡ false → int_le x z ≡ true → true ≡ false
gt_clash x y z p q r = grind (arith, common_steps)

newer_three : (p q r : Bool) (d e c : ClassDef) → int_le c.version e.version ≡ p → int_le e.version d.version ≡ q → int_le c.version d.version ≡ r → newer_of d (Some (newer_of e (Some c))) ≡ newer_of (newer_of d (Some e)) (Some c)
newer_three true true true d e c p q r =
    ap (λ (x : ClassDef). newer_of d (Some x)) (newer_is true e c p) ∙ newer_is true d e q
    ∙ sym (ap (λ (x : ClassDef). newer_of x (Some c)) (newer_is true d e q) ∙ newer_is true d c r)
newer_three true true false d e c p q r =
    let clash = le_clash c.version e.version d.version p q r in absurd (cc clash)
newer_three true false r' d e c p q r =
    ap (λ (x : ClassDef). newer_of d (Some x)) (newer_is true e c p) ∙ newer_is false d e q
    ∙ sym (ap (λ (x : ClassDef). newer_of x (Some c)) (newer_is false d e q) ∙ newer_is true e c p)
newer_three false true r' d e c p q r =
    ap (λ (x : ClassDef). newer_of d (Some x)) (newer_is false e c p)
    ∙ sym (ap (λ (x : ClassDef). newer_of x (Some c)) (newer_is true d e q))
newer_three false false true d e c p q r =
    let clash = gt_clash c.version e.version d.version p q r in absurd (cc clash)
newer_three false false false d e c p q r =
    ap (λ (x : ClassDef). newer_of d (Some x)) (newer_is false e c p) ∙ newer_is false d c r
    ∙ sym (ap (λ (x : ClassDef). newer_of x (Some c)) (newer_is false d e q) ∙ newer_is false e c p)

newer_both : (d c : ClassDef) (newest : Option ClassDef) → newer_of d (Some (newer_than newest c)) ≡ newer_than (Some (newer_of d newest)) c
newer_both d c None = refl
newer_both d c (Some e) =
    newer_three (int_le c.version e.version) (int_le e.version d.version) (int_le c.version d.version) d e c refl refl refl

push_with : (b : Bool) (d c : ClassDef) (newest : Option ClassDef) → Some (newer_of d (newest_with b newest c)) ≡ newest_with b (Some (newer_of d newest)) c
push_with true d c newest = ap Some (newer_both d c newest)
push_with false d c newest = refl

push_if : (name : List ℕ) (b : Bool) (d c : ClassDef) (pushed newest : Option ClassDef) → pushed ≡ newest_with (bytes_eq c.name name) newest c → (if b then Some (newer_of d pushed) else pushed) ≡ newest_with (bytes_eq c.name name) (if b then Some (newer_of d newest) else newest) c
push_if name true d c pushed newest ih = ap (λ (o : Option ClassDef). Some (newer_of d o)) ih ∙ push_with (bytes_eq c.name name) d c newest
push_if name false d c pushed newest ih = ih

pub newest-push : (cs : List ClassDef) (c : ClassDef) (name : List ℕ) → newest_in (cs ++ c ∷ []) name ≡ newest_with (bytes_eq c.name name) (newest_in cs name) c
newest-push [] c name = refl
newest-push (d ∷ cs) c name = push_if name (bytes_eq d.name name) d c (newest_in (cs ++ c ∷ []) name) (newest_in cs name) (newest-push cs c name)

if_none : (b : Bool) (d : ClassDef) (o : Option ClassDef) → (if b then Some (newer_of d o) else o) ≡ None → (b ≡ false) × (o ≡ None)
if_none true d o e = absurd (cc)
if_none false d o e = (refl, e)

-- where there is no newest, none has the name
pub no_newest_fails : (cs : List ClassDef) (name : List ℕ) (k : ℕ) (x : ClassDef) → newest_in cs name ≡ None → slice_get cs k ≡ Some x → is_named name x ≡ false
no_newest_fails [] name k x e at = absurd (cc)
no_newest_fails (c ∷ cs) name zero x e at =
    let same : c ≡ x = cc in
    ap (is_named name) (sym same) ∙ (if_none (bytes_eq c.name name) c (newest_in cs name) e).0
no_newest_fails (c ∷ cs) name (suc k) x e at = no_newest_fails cs name k x (if_none (bytes_eq c.name name) c (newest_in cs name) e).1 at

-- and where none has it, there is no newest
pub none_named_no_newest : (cs : List ClassDef) (name : List ℕ) → ((k : ℕ) (x : ClassDef) → slice_get cs k ≡ Some x → is_named name x ≡ false) → newest_in cs name ≡ None
none_named_no_newest [] name none = refl
none_named_no_newest (c ∷ cs) name none =
    ap (λ (b : Bool). if b then Some (newer_of c (newest_in cs name)) else newest_in cs name) (none 0 c refl)
    ∙ none_named_no_newest cs name (λ k x e. none (suc k) x e)

pub no_place_no_newest : (cs : List ClassDef) (name : List ℕ) → place (is_named name) cs ≡ None → newest_in cs name ≡ None
no_place_no_newest cs name e = none_named_no_newest cs name (λ k x at. no_place_fails (is_named name) cs k x e at)

pub slice_get-set_other : {X : Type 0} (xs : List X) (i j : ℕ) (b : X) → j ≢ i → slice_get (set xs i b) j ≡ slice_get xs j
slice_get-set_other [] i j b ne = refl
slice_get-set_other (x ∷ xs) zero zero b ne = absurd (ne refl)
slice_get-set_other (x ∷ xs) zero (suc j) b ne = refl
slice_get-set_other (x ∷ xs) (suc i) zero b ne = refl
slice_get-set_other (x ∷ xs) (suc i) (suc j) b ne = slice_get-set_other xs i j b (λ e. ne (ap suc e))

pub slice_get-set_same : {X : Type 0} (xs : List X) (i : ℕ) (b : X) → i < length xs → slice_get (set xs i b) i ≡ Some b
slice_get-set_same [] i b lt = absurd (omega arith)
slice_get-set_same (x ∷ xs) zero b lt = refl
slice_get-set_same (x ∷ xs) (suc i) b lt = slice_get-set_same xs i b (omega arith)

pub slice_get-take : {X : Type 0} (xs : List X) (n k : ℕ) → k < n → slice_get (take n xs) k ≡ slice_get xs k
slice_get-take [] zero k lt = refl
slice_get-take [] (suc n) k lt = refl
slice_get-take (x ∷ xs) zero k lt = absurd (omega arith)
slice_get-take (x ∷ xs) (suc n) zero lt = refl
slice_get-take (x ∷ xs) (suc n) (suc k) lt = slice_get-take xs n k (omega arith)

pub place_below : (test : ClassDef → Bool) (cs : List ClassDef) (k : ℕ) → place test cs ≡ Some k → k < length cs
place_below test cs k e = let x = place_passes test cs k e in slice_get_within cs k x.0 x.1

module _ (cs : List ClassDef) (c : ClassDef) (newest : List ℕ) (f : ℕ) (lead : NewestLead cs newest) (one_each : length newest ≡ length cs) (named : place (is_named c.name) (cs ++ c ∷ []) ≡ Some f) where
  pushed : List ℕ
  pushed = newest ++ length cs ∷ []

  best : ℕ
  best = get_or pushed f 0

  new_at : slice_get pushed (length cs) ≡ Some (length cs)
  unfolding pushed
  new_at = ap (slice_get (newest ++ length cs ∷ [])) (sym one_each) ∙ slice_get-last newest (length cs)

  -- the class is the first of its name
  alone : place (is_named c.name) cs ≡ None → slice_get (cs ++ c ∷ []) (newest_place cs c best) ≡ newest_in (cs ++ c ∷ []) c.name
  unfolding pushed best
  alone none =
      let fresh : Some (length cs) ≡ Some f = sym (place-push_first (is_named c.name) cs c none ((bytes_eq-Decides c.name c.name).1 refl)) ∙ named in
      let goes : length cs ≡ f = cc in
      let at_f : slice_get pushed f ≡ Some f = ap (slice_get pushed) (sym goes) ∙ new_at ∙ ap Some goes in
      let is_f : best ≡ f = get_or_from_slice_get pushed f f 0 at_f in
      let past : slice_get cs best ≡ None = slice_get_past cs best (omega (arith, is_f, goes)) in
      let stays : newest_place cs c best ≡ best = ap (λ (o : Option ClassDef). if option_map_or (λ d. int_le c.version d.version) o true then best else length cs) past in
      ap (slice_get (cs ++ c ∷ [])) (stays ∙ is_f ∙ sym goes)
      ∙ slice_get-last cs c
      ∙ sym (newest-push cs c c.name
      ∙ ap (λ (b : Bool). newest_with b (newest_in cs c.name) c) ((bytes_eq-Decides c.name c.name).1 refl)
      ∙ ap (λ (o : Option ClassDef). Some (newer_than o c)) (no_place_no_newest cs c.name none))

  newer_by : (b : Bool) (q : ℕ) (d : ClassDef) → int_le c.version d.version ≡ b → slice_get cs q ≡ Some d → slice_get (cs ++ c ∷ []) (if b then q else length cs) ≡ Some (newer_of d (Some c))
  newer_by true q d e at = slice_get-front cs c q d at ∙ ap Some (sym (newer_is true d c e))
  newer_by false q d e at = slice_get-last cs c ∙ ap Some (sym (newer_is false d c e))

  -- there is a newest already
  beside : (o : Option ClassDef) (q : ℕ) → ((k : ℕ) (x : ClassDef) → slice_get cs k ≡ Some x → is_named c.name x ≡ true → o ≢ None) → place (is_named c.name) cs ≡ Some f → slice_get cs q ≡ o → newest_in cs c.name ≡ o → slice_get (cs ++ c ∷ []) (newest_place cs c q) ≡ newest_in (cs ++ c ∷ []) c.name
  beside None q some met at is =
      let x = place_passes (is_named c.name) cs f met in
      absurd (some f x.0 x.1 x.2 refl)
  beside (Some d) q some met at is =
      ap (λ (o : Option ClassDef). slice_get (cs ++ c ∷ []) (if option_map_or (λ d. int_le c.version d.version) o true then q else length cs)) at
      ∙ newer_by (int_le c.version d.version) q d refl at
      ∙ sym (newest-push cs c c.name
      ∙ ap (λ (b : Bool). newest_with b (newest_in cs c.name) c) ((bytes_eq-Decides c.name c.name).1 refl)
      ∙ ap (λ (o : Option ClassDef). Some (newer_than o c)) is)

  after_one : (j : ℕ) → place (is_named c.name) cs ≡ Some j → slice_get (cs ++ c ∷ []) (newest_place cs c best) ≡ newest_in (cs ++ c ∷ []) c.name
  unfolding pushed best
  after_one j met =
      let fresh : Some j ≡ Some f = sym (place-push_found (is_named c.name) cs c j met) ∙ named in
      let met_f : place (is_named c.name) cs ≡ Some f = met ∙ fresh in
      let lt : f < length newest = omega (arith, place_below (is_named c.name) cs f met_f, one_each) in
      let q = get_or newest f 0 in
      let at_f : slice_get newest f ≡ Some q = slice_get-get_or newest f 0 lt in
      let is_q : best ≡ q = get_or_from_slice_get pushed f q 0 (slice_get-front newest (length cs) f q at_f) in
      let is : slice_get cs q ≡ newest_in cs c.name = sym (ap (option_and_then (slice_get cs)) at_f) ∙ lead c.name f met_f in
      ap (λ (b : ℕ). slice_get (cs ++ c ∷ []) (newest_place cs c b)) is_q
      ∙ beside (newest_in cs c.name) q (λ k x at t none. let clash : true ≡ false = sym t ∙ no_newest_fails cs c.name k x none at in cc clash) met_f is refl

  here_by : (o : Option ℕ) → place (is_named c.name) cs ≡ o → slice_get (cs ++ c ∷ []) (newest_place cs c best) ≡ newest_in (cs ++ c ∷ []) c.name
  here_by None none = alone none
  here_by (Some j) met = after_one j met

  carried : (o : Option ClassDef) (q : ℕ) → o ≢ None → slice_get cs q ≡ o → slice_get (cs ++ c ∷ []) q ≡ o
  carried None q some at = absurd (some refl)
  carried (Some d) q some at = slice_get-front cs c q d at

  -- one more class, which is taken up as the newest of its name if it is
  pub newest_leads : NewestLead (cs ++ c ∷ []) (set (newest ++ length cs ∷ []) f (newest_place cs c (get_or (newest ++ length cs ∷ []) f 0)))
  unfolding pushed best
  newest_leads = λ name first met.
      let b = newest_place cs c best in
      let all = option_and_then (slice_get (cs ++ c ∷ [])) in
      ⊎_elim
      (λ t.
      let same : c.name ≡ name = (bytes_eq-Decides c.name name).0 t in
      let goes : Some first ≡ Some f = sym met ∙ ap (λ (m : List ℕ). place (is_named m) (cs ++ c ∷ [])) (sym same) ∙ named in
      let is_f : first ≡ f = cc in
      let lt : f < length pushed = omega (arith, place_below (is_named c.name) (cs ++ c ∷ []) f named, length-append cs (c ∷ []), length-append newest (length cs ∷ []), one_each) in
      ap (λ (k : ℕ). all (slice_get (set pushed f b) k)) is_f
      ∙ ap all (slice_get-set_same pushed f b lt)
      ∙ here_by (place (is_named c.name) cs) refl
      ∙ ap (newest_in (cs ++ c ∷ [])) same)
      (λ e.
      let met_cs : place (is_named name) cs ≡ Some first = sym (place-push_failing (is_named name) cs c e) ∙ met in
      let ne : first ≢ f = λ eq.
      let same : name ≡ c.name = one_name (cs ++ c ∷ []) name c.name f (met ∙ ap Some eq) named in
      let clash : true ≡ false = sym ((bytes_eq-Decides c.name c.name).1 refl) ∙ ap (bytes_eq c.name) (sym same) ∙ e in
      cc clash in
      let lt : first < length newest = omega (arith, place_below (is_named name) cs first met_cs, one_each) in
      let q = get_or newest first 0 in
      let at : slice_get newest first ≡ Some q = slice_get-get_or newest first 0 lt in
      let is : slice_get cs q ≡ newest_in cs name = sym (ap (option_and_then (slice_get cs)) at) ∙ lead name first met_cs in
      let x = place_passes (is_named name) cs first met_cs in
      let some : newest_in cs name ≢ None = λ none. let clash : true ≡ false = sym x.2 ∙ no_newest_fails cs name first x.0 none x.1 in cc clash in
      ap all (slice_get-set_other pushed f first b ne ∙ slice_get-front newest (length cs) first q at)
      ∙ carried (newest_in cs name) q some is
      ∙ sym (newest-push cs c name ∙ ap (λ (t : Bool). newest_with t (newest_in cs name) c) e))
      (cases_Bool (bytes_eq c.name name))
