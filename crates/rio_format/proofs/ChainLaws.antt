-- The classes of one name, from the last of them back.
use Rattle.std.proofs.Common.{◌≡◌, ◌≢◌, ◌≤◌, ◌<◌, ℕ, suc, zero, List, [], ◌∷◌, ◌++◌, length, drop, set, take, Bool, true, false, if◌then◌else◌, ◌⊎◌, inl, inr, ⊎_elim, Option, Some, None, refl, sym, ap, subst, ◌∙◌, arith}
use Rattle.std.proofs.{lemmas.List.{length-append, length-take-le}, lemmas.Option.{slice_get_within, slice_get_past}, lemmas.Slice.Eq.{bytes_eq-Decides}}
use Rattle.std.proofs.lemmas.Bool.{cases_Bool}
use Rattle.std.specs.{List.{slice_get}, Option.{option_and_then, option_map_or}, Str.{bytes_eq}}
use Rattle.rio_format.specs.{Chain.{BeforeLead, LastLead, last_before}, Classes.{newer_of, newest_in}, Places.{is_named, place}, declared.class.ClassDef.{ClassDef}}
use Rattle.rio_format.proofs.LeadLaws.{slice_get-front, slice_get-last, one_name, place-push_failing, place-push_first, place-push_found}
use Rattle.rio_format.proofs.{NewestLaws.{place_below, slice_get-set_other, slice_get-set_same, slice_get-take}, PlaceLaws.{no_place_fails}}

-- ---- the last that passes

-- behind which a walk back has been: from the end of this place on
abbrev pub end_of : Option ℕ → ℕ
end_of None = 0
end_of (Some k) = suc k

class_at : (cs : List ClassDef) (k : ℕ) (o : Option ClassDef) → slice_get cs k ≡ o → k < length cs → (x : ClassDef) × (slice_get cs k ≡ Some x)
class_at cs k None at lt = absurd (some_within cs k at lt)
  where
    some_within : (xs : List ClassDef) (i : ℕ) → slice_get xs i ≡ None → i < length xs → ⊥
    some_within [] i e h = absurd (omega arith)
    some_within (y ∷ ys) zero e h = absurd cc
    some_within (y ∷ ys) (suc i) e h = some_within ys i e (omega arith)
class_at cs k (Some x) at lt = (x, at)

module _ (test : ClassDef → Bool) where
  abbrev chosen : ℕ → Option ClassDef → Option ℕ → Option ℕ
  chosen k o rest = if option_map_or test o false then Some k else rest

  chosen_none : (k : ℕ) (o : Option ClassDef) (rest : Option ℕ) → ((x : ClassDef) → o ≡ Some x → test x ≡ false) → rest ≡ None → chosen k o rest ≡ None
  chosen_none k None rest fails is = is
  chosen_none k (Some x) rest fails is = ap (λ (b : Bool). if b then Some k else rest) (fails x refl) ∙ is

  pub last_none : (cs : List ClassDef) (e : ℕ) → ((k : ℕ) (x : ClassDef) → slice_get cs k ≡ Some x → test x ≡ false) → last_before test cs e ≡ None
  last_none cs zero fails = refl
  last_none cs (suc e) fails = chosen_none e (slice_get cs e) (last_before test cs e) (fails e) (last_none cs e fails)

  -- a class more at the end changes nothing before it
  pub last-front : (cs : List ClassDef) (c : ClassDef) (e : ℕ) → e ≤ length cs → last_before test (cs ++ c ∷ []) e ≡ last_before test cs e
  last-front cs c zero le = refl
  last-front cs c (suc e) le =
      let x = class_at cs e (slice_get cs e) refl (omega arith) in
      ap (λ (o : Option ClassDef). chosen e o (last_before test (cs ++ c ∷ []) e)) (slice_get-front cs c e x.0 x.1 ∙ sym x.1)
      ∙ ap (chosen e (slice_get cs e)) (last-front cs c e (omega arith))

  pub last-push : (cs : List ClassDef) (c : ClassDef) → last_before test (cs ++ c ∷ []) (length (cs ++ c ∷ [])) ≡ (if test c then Some (length cs) else last_before test cs (length cs))
  last-push cs c =
      let long : length (cs ++ c ∷ []) ≡ suc (length cs) = omega (arith, length-append cs (c ∷ [])) in
      ap (last_before test (cs ++ c ∷ [])) long
      ∙ ap (λ (o : Option ClassDef). chosen (length cs) o (last_before test (cs ++ c ∷ []) (length cs))) (slice_get-last cs c)
      ∙ ap (λ (o : Option ℕ). if test c then Some (length cs) else o) (last-front cs c (length cs) (omega arith))

  -- a class that passes stands there
  abbrev Found : List ClassDef → ℕ → ℕ → Type 0
  Found cs e k = (x : ClassDef) × (slice_get cs k ≡ Some x) × (test x ≡ true) × (k < e)

  found_by_test : (cs : List ClassDef) (e k : ℕ) (x : ClassDef) (b : Bool) (rest : Option ℕ) → slice_get cs e ≡ Some x → test x ≡ b → (rest ≡ Some k → Found cs e k) → (if b then Some e else rest) ≡ Some k → Found cs (suc e) k
  found_by_test cs e k x true rest here t earlier is =
      let same : e ≡ k = cc in
      (x, ap (slice_get cs) (sym same) ∙ here, t, omega (arith, same))
  found_by_test cs e k x false rest here t earlier is = let f = earlier is in (f.0, f.1, f.2, omega (arith, f.3))

  found_by_class : (cs : List ClassDef) (e k : ℕ) (o : Option ClassDef) (rest : Option ℕ) → slice_get cs e ≡ o → (rest ≡ Some k → Found cs e k) → chosen e o rest ≡ Some k → Found cs (suc e) k
  found_by_class cs e k None rest here earlier is = let f = earlier is in (f.0, f.1, f.2, omega (arith, f.3))
  found_by_class cs e k (Some x) rest here earlier is = found_by_test cs e k x (test x) rest here refl earlier is

  pub last_found : (cs : List ClassDef) (e k : ℕ) → last_before test cs e ≡ Some k → (x : ClassDef) × (slice_get cs k ≡ Some x) × (test x ≡ true) × (k < e)
  last_found cs zero k is = absurd cc
  last_found cs (suc e) k is = found_by_class cs e k (slice_get cs e) (last_before test cs e) refl (last_found cs e k) is

  back_by_test : {X : Type 0} (F : ℕ → X) (e : ℕ) (b : Bool) (rest : Option ℕ) → (b ≡ false → F e ≡ F (suc e)) → F (end_of rest) ≡ F e → F (end_of (if b then Some e else rest)) ≡ F (suc e)
  back_by_test F e true rest stays before = refl
  back_by_test F e false rest stays before = before ∙ stays refl

  -- what a class that fails doesn't change is the same behind the last that passes
  pub walk_back : {X : Type 0} (F : ℕ → X) (cs : List ClassDef) → ((k : ℕ) (x : ClassDef) → slice_get cs k ≡ Some x → test x ≡ false → F k ≡ F (suc k)) → (e : ℕ) → e ≤ length cs → F (end_of (last_before test cs e)) ≡ F e
  walk_back F cs stays zero le = refl
  walk_back F cs stays (suc e) le =
      let x = class_at cs e (slice_get cs e) refl (omega arith) in
      ap (λ (o : Option ClassDef). F (end_of (chosen e o (last_before test cs e)))) x.1
      ∙ back_by_test F e (test x.0) (last_before test cs e) (stays e x.0 x.1) (walk_back F cs stays e (omega arith))

  last_stays : (cs : List ClassDef) (k : ℕ) (x : ClassDef) → slice_get cs k ≡ Some x → test x ≡ false → last_before test cs k ≡ last_before test cs (suc k)
  last_stays cs k x here fails =
      sym (ap (λ (o : Option ClassDef). chosen k o (last_before test cs k)) here ∙ ap (λ (b : Bool). if b then Some k else last_before test cs k) fails)

  -- so a walk back that begins at the last goes on from the last before it
  pub walk_goes : (cs : List ClassDef) (e : ℕ) → e ≤ length cs → last_before test cs e ≡ last_before test cs (end_of (last_before test cs e))
  walk_goes cs e le = sym (walk_back (last_before test cs) cs (last_stays cs) e le)

  pub walk_falls : (cs : List ClassDef) (e : ℕ) → end_of (last_before test cs e) ≤ e
  walk_falls cs e = falls_by (last_before test cs e) refl
    where
      falls_by : (o : Option ℕ) → last_before test cs e ≡ o → end_of o ≤ e
      falls_by None is = omega arith
      falls_by (Some k) is = let f = last_found cs e k is in omega (arith, f.3)

-- ---- newest on the way back

pub drop_at : (cs : List ClassDef) (k : ℕ) (x : ClassDef) → slice_get cs k ≡ Some x → drop k cs ≡ x ∷ drop (suc k) cs
drop_at [] k x here = absurd cc
drop_at (c ∷ cs) zero x here = let same : c ≡ x = cc in ap (λ (y : ClassDef). y ∷ cs) same
drop_at (c ∷ cs) (suc k) x here = drop_at cs k x here

module _ (cs : List ClassDef) (name : List ℕ) where
  newest_stays : (k : ℕ) (x : ClassDef) → slice_get cs k ≡ Some x → is_named name x ≡ false → newest_in (drop k cs) name ≡ newest_in (drop (suc k) cs) name
  newest_stays k x here other = rw (drop_at cs k x here, other) refl

  pub newest_here : (k : ℕ) (x : ClassDef) → slice_get cs k ≡ Some x → is_named name x ≡ true → newest_in (drop k cs) name ≡ Some (newer_of x (newest_in (drop (suc k) cs) name))
  newest_here k x here named = rw (drop_at cs k x here, named) refl

  pub newest_back : (e : ℕ) → e ≤ length cs → newest_in (drop (end_of (last_before (is_named name) cs e)) cs) name ≡ newest_in (drop e cs) name
  newest_back e le = walk_back (is_named name) (λ k. newest_in (drop k cs) name) cs newest_stays e le

  pub newest_begins : newest_in (drop (end_of (last_before (is_named name) cs (length cs))) cs) name ≡ None
  newest_begins = newest_back (length cs) (omega arith) ∙ ap (λ (xs : List ClassDef). newest_in xs name) (drop_all cs)
    where
      drop_all : (xs : List ClassDef) → drop (length xs) xs ≡ []
      drop_all [] = refl
      drop_all (x ∷ xs) = drop_all xs

pub drop_none : (cs : List ClassDef) → drop 0 cs ≡ cs
drop_none [] = refl
drop_none (c ∷ cs) = refl

-- the classes of the name are looked through from the last of them back to the end of this place, and that is the newest of them
pub record IsWalked (cs : List ClassDef) (name : List ℕ) (at best : Option ℕ) : Type 0 where
  pub goes : at ≡ last_before (is_named name) cs (end_of at)
  pub newest : option_and_then (slice_get cs) best ≡ newest_in (drop (end_of at) cs) name
  pub within : end_of at ≤ length cs

module _ (cs : List ClassDef) (name : List ℕ) where
  walked_to : (e : ℕ) (at best : Option ℕ) → e ≤ length cs → at ≡ last_before (is_named name) cs e → option_and_then (slice_get cs) best ≡ newest_in (drop e cs) name → IsWalked cs name at best
  walked_to e at best le is new = record {
    goes = subst (λ (o : Option ℕ). o ≡ last_before (is_named name) cs (end_of o)) (sym is) (walk_goes (is_named name) cs e le);
    newest = new ∙ sym (newest_back cs name e le) ∙ ap (λ (o : Option ℕ). newest_in (drop (end_of o) cs) name) (sym is);
    within = let falls = walk_falls (is_named name) cs e in subst (λ (o : Option ℕ). end_of o ≤ length cs) (sym is) (omega (arith, falls));
  }

  pub walk_begins : (last : List (Option ℕ)) (first : ℕ) (at : Option ℕ) → LastLead cs last → place (is_named name) cs ≡ Some first → at ≡ option_and_then (λ place. place) (slice_get last first) → IsWalked cs name at None
  walk_begins last first at lead met is =
      let none : newest_in (drop (length cs) cs) name ≡ None = sym (newest_back cs name (length cs) (omega arith)) ∙ newest_begins cs name in
      walked_to (length cs) at None (omega arith) (is ∙ ap (option_and_then (λ place. place)) (lead name first met)) (sym none)

  -- the class that the walk stands at has the name
  pub walk_named : (k : ℕ) (x : ClassDef) (best : Option ℕ) → IsWalked cs name (Some k) best → slice_get cs k ≡ Some x → is_named name x ≡ true
  walk_named k x best walked here =
      let f = last_found (is_named name) cs (suc k) k (sym walked.goes) in
      let same : f.0 ≡ x = cc (f.1, here) in
      ap (is_named name) (sym same) ∙ f.2

  next_is : (before : List (Option ℕ)) (k : ℕ) (x : ClassDef) (best next : Option ℕ) → BeforeLead cs before → IsWalked cs name (Some k) best → slice_get cs k ≡ Some x → next ≡ option_and_then (λ place. place) (slice_get before k) → next ≡ last_before (is_named name) cs k
  next_is before k x best next lead walked here is =
      is
      ∙ ap (option_and_then (λ place. place)) (lead k x here)
      ∙ ap (λ (n : List ℕ). last_before (is_named n) cs k) ((bytes_eq-Decides x.name name).0 (walk_named k x best walked here))

  pub walk_steps : (before : List (Option ℕ)) (k new : ℕ) (x : ClassDef) (best next : Option ℕ) → BeforeLead cs before → IsWalked cs name (Some k) best → slice_get cs k ≡ Some x → next ≡ option_and_then (λ place. place) (slice_get before k) → slice_get cs new ≡ Some (newer_of x (option_and_then (slice_get cs) best)) → IsWalked cs name next (Some new)
  walk_steps before k new x best next lead walked here is newer =
      walked_to k next (Some new) (omega (arith, walked.within)) (next_is before k x best next lead walked here is)
      (newer ∙ ap (λ (o : Option ClassDef). Some (newer_of x o)) walked.newest ∙ sym (newest_here cs name k x here (walk_named k x best walked here)))

  pub walk_ends_sooner : (before : List (Option ℕ)) (k : ℕ) (x : ClassDef) (best next : Option ℕ) → BeforeLead cs before → IsWalked cs name (Some k) best → slice_get cs k ≡ Some x → next ≡ option_and_then (λ place. place) (slice_get before k) → end_of next < suc k
  walk_ends_sooner before k x best next lead walked here is =
      let falls = walk_falls (is_named name) cs k in
      subst (λ (o : Option ℕ). end_of o < suc k) (sym (next_is before k x best next lead walked here is)) (omega (arith, falls))

  pub walked_all : (best : Option ℕ) → IsWalked cs name None best → option_and_then (slice_get cs) best ≡ newest_in cs name
  walked_all best walked = walked.newest ∙ ap (λ (xs : List ClassDef). newest_in xs name) (drop_none cs)

-- ---- one more class

which : (cs : List ClassDef) (c : ClassDef) (k : ℕ) (x : ClassDef) → slice_get (cs ++ c ∷ []) k ≡ Some x → (slice_get cs k ≡ Some x) ⊎ ((k ≡ length cs) × (x ≡ c))
which [] c zero x e = inr (refl, cc)
which [] c (suc k) x e = absurd cc
which (d ∷ cs) c zero x e = inl e
which (d ∷ cs) c (suc k) x e = ⊎_elim (λ h. inl h) (λ h. inr (ap suc h.0, h.1)) (which cs c k x e)

module _ (cs : List ClassDef) (c : ClassDef) (f : ℕ) (last before : List (Option ℕ)) (last_leads : LastLead cs last) (before_leads : BeforeLead cs before) (one_last : length last ≡ length cs) (one_before : length before ≡ length cs) (named : place (is_named c.name) (cs ++ c ∷ []) ≡ Some f) where
  -- what stands at the first of its name is the one before it
  pub put_before : option_and_then (λ place. place) (slice_get last f) ≡ last_before (is_named c.name) cs (length cs)
  put_before = by_place (place (is_named c.name) cs) refl
    where
      by_place : (o : Option ℕ) → place (is_named c.name) cs ≡ o → option_and_then (λ place. place) (slice_get last f) ≡ last_before (is_named c.name) cs (length cs)
      by_place None none =
          let goes : Some (length cs) ≡ Some f = sym (place-push_first (is_named c.name) cs c none ((bytes_eq-Decides c.name c.name).1 refl)) ∙ named in
          let is_f : length cs ≡ f = cc in
          ap (option_and_then (λ place. place)) (slice_get_past last f (omega (arith, is_f, one_last)))
          ∙ sym (last_none (is_named c.name) cs (length cs) (λ k x here. no_place_fails (is_named c.name) cs k x none here))
      by_place (Some j) met =
          let goes : Some j ≡ Some f = sym (place-push_found (is_named c.name) cs c j met) ∙ named in
          ap (option_and_then (λ place. place)) (last_leads c.name f (met ∙ goes))

  pub put_within : f < length (last ++ None ∷ [])
  put_within = omega (arith, place_below (is_named c.name) (cs ++ c ∷ []) f named, length-append cs (c ∷ []), length-append last (None ∷ []), one_last)

  pub put_last : LastLead (cs ++ c ∷ []) (set (last ++ None ∷ []) f (Some (length cs)))
  put_last = λ name first met.
      let pushed : List (Option ℕ) = last ++ None ∷ [] in
      let new : Option ℕ = Some (length cs) in
      ⊎_elim
      (λ t.
      let same : c.name ≡ name = (bytes_eq-Decides c.name name).0 t in
      let goes : Some first ≡ Some f = sym met ∙ ap (λ (m : List ℕ). place (is_named m) (cs ++ c ∷ [])) (sym same) ∙ named in
      let is_f : first ≡ f = cc in
      ap (slice_get (set pushed f new)) is_f
      ∙ slice_get-set_same pushed f new put_within
      ∙ ap Some (sym (last-push (is_named name) cs c ∙ ap (λ (b : Bool). if b then Some (length cs) else last_before (is_named name) cs (length cs)) t)))
      (λ e.
      let met_cs : place (is_named name) cs ≡ Some first = sym (place-push_failing (is_named name) cs c e) ∙ met in
      let ne : first ≢ f = λ eq.
      let same : name ≡ c.name = one_name (cs ++ c ∷ []) name c.name f (met ∙ ap Some eq) named in
      let clash : true ≡ false = sym ((bytes_eq-Decides c.name c.name).1 refl) ∙ ap (bytes_eq c.name) (sym same) ∙ e in
      cc clash in
      slice_get-set_other pushed f first new ne
      ∙ slice_get-front last None first (last_before (is_named name) cs (length cs)) (last_leads name first met_cs)
      ∙ ap Some (sym (last-push (is_named name) cs c ∙ ap (λ (b : Bool). if b then Some (length cs) else last_before (is_named name) cs (length cs)) e)))
      (cases_Bool (bytes_eq c.name name))

  pub put_befores : BeforeLead (cs ++ c ∷ []) (before ++ last_before (is_named c.name) cs (length cs) ∷ [])
  put_befores = λ k x here.
      let new = last_before (is_named c.name) cs (length cs) in
      ⊎_elim
      (λ old.
      let lt : k < length cs = slice_get_within cs k x old in
      slice_get-front before new k (last_before (is_named x.name) cs k) (before_leads k x old)
      ∙ ap Some (sym (last-front (is_named x.name) cs c k (omega arith))))
      (λ own.
      ap (slice_get (before ++ new ∷ [])) (own.0 ∙ sym one_before)
      ∙ slice_get-last before new
      ∙ ap Some (sym (last-front (is_named c.name) cs c (length cs) (omega arith)))
      ∙ ap (λ (k : ℕ). Some (last_before (is_named c.name) (cs ++ c ∷ []) k)) (sym own.0)
      ∙ ap (λ (y : ClassDef). Some (last_before (is_named y.name) (cs ++ c ∷ []) k)) (sym own.1))
      (which cs c k x here)

-- ---- one class less

module _ (cs : List ClassDef) (c : ClassDef) (last before : List (Option ℕ)) (last_leads : LastLead (cs ++ c ∷ []) last) (before_leads : BeforeLead (cs ++ c ∷ []) before) (one_last : length last ≡ length (cs ++ c ∷ [])) where
  pub kept_before : option_and_then (λ place. place) (slice_get before (length cs)) ≡ last_before (is_named c.name) cs (length cs)
  kept_before =
      ap (option_and_then (λ place. place)) (before_leads (length cs) c (slice_get-last cs c))
      ∙ last-front (is_named c.name) cs c (length cs) (omega arith)

  pub back_befores : BeforeLead cs (take (length cs) before)
  back_befores = λ k x here.
      let lt : k < length cs = slice_get_within cs k x here in
      slice_get-take before (length cs) k lt
      ∙ before_leads k x (slice_get-front cs c k x here)
      ∙ ap Some (last-front (is_named x.name) cs c k (omega arith))

  back_length : length (take (length cs) last) ≡ length cs
  back_length = length-take-le (length cs) last (omega (arith, one_last, length-append cs (c ∷ [])))

  back_other : (name : List ℕ) (first : ℕ) → bytes_eq c.name name ≡ false → place (is_named name) cs ≡ Some first → slice_get (take (length cs) last) first ≡ Some (last_before (is_named name) cs (length cs))
  back_other name first e met =
      slice_get-take last (length cs) first (place_below (is_named name) cs first met)
      ∙ last_leads name first (place-push_found (is_named name) cs c first met)
      ∙ ap Some (last-push (is_named name) cs c ∙ ap (λ (b : Bool). if b then Some (length cs) else last_before (is_named name) cs (length cs)) e)

  pub back_last_alone : place (is_named c.name) cs ≡ None → LastLead cs (take (length cs) last)
  back_last_alone none = λ name first met.
      ⊎_elim
      (λ t. let same : c.name ≡ name = (bytes_eq-Decides c.name name).0 t in
      let clash : Some first ≡ None = sym met ∙ ap (λ (m : List ℕ). place (is_named m) cs) (sym same) ∙ none in absurd (cc clash))
      (λ e. back_other name first e met)
      (cases_Bool (bytes_eq c.name name))

  pub back_within : (f : ℕ) → place (is_named c.name) cs ≡ Some f → f < length (take (length cs) last)
  back_within f named = omega (arith, back_length, place_below (is_named c.name) cs f named)

  pub back_last_beside : (f : ℕ) → place (is_named c.name) cs ≡ Some f → LastLead cs (set (take (length cs) last) f (last_before (is_named c.name) cs (length cs)))
  back_last_beside f named = λ name first met.
      let rest = take (length cs) last in
      let kept = last_before (is_named c.name) cs (length cs) in
      ⊎_elim
      (λ t. let same : c.name ≡ name = (bytes_eq-Decides c.name name).0 t in
      let goes : Some first ≡ Some f = sym met ∙ ap (λ (m : List ℕ). place (is_named m) cs) (sym same) ∙ named in
      let is_f : first ≡ f = cc in
      ap (slice_get (set rest f kept)) is_f
      ∙ slice_get-set_same rest f kept (back_within f named)
      ∙ ap (λ (m : List ℕ). Some (last_before (is_named m) cs (length cs))) same)
      (λ e.
      let ne : first ≢ f = λ eq.
      let same : name ≡ c.name = one_name cs name c.name f (met ∙ ap Some eq) named in
      let clash : true ≡ false = sym ((bytes_eq-Decides c.name c.name).1 refl) ∙ ap (bytes_eq c.name) (sym same) ∙ e in
      cc clash in
      slice_get-set_other rest f first kept ne ∙ back_other name first e met)
      (cases_Bool (bytes_eq c.name name))
