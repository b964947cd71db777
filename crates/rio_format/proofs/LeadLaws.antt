-- What the maps of an index lead to, before and after one more class.
use Rattle.std.proofs.Common.{◌≡◌, ℕ, ℤ, pos, cond, suc, zero, List, [], ◌∷◌, ◌++◌, length, Bool, true, false, ◌&&◌, if◌then◌else◌, ◌⊎◌, inl, inr, ⊎_elim, Option, Some, None, refl, sym, ap, ◌∙◌, eqb}
use Rattle.std.proofs.{lemmas.Slice.Eq.{bytes_eq-Decides}, lemmas.Bool.{and_parts, cases_Bool, Decides.{Decides-eqb, Decides-int_eq, same_from_decides}}}
use Rattle.std.specs.{List.{slice_get, find}, Option.{option_or}, Ordering.{int_eq}, Str.{bytes_eq}}
use Rattle.rio_format.specs.{Index.{passing, has_number, NamesLead, NumbersLead}, Places.{place, is_named}, declared.class.ClassDef.{ClassDef}}
use Rattle.rio_num.proofs.{BytesEq.{bytes_eq-sym}, Cases.{or_none, pos_same}}
use Rattle.rio_format.proofs.PlaceLaws.{last_place, place_passes, no_place_fails, place-push, passing_none, passing_some}

-- ---- lists with one more class

pub slice_get-front : {X : Type 0} (cs : List X) (c : X) (k : ℕ) (x : X) → slice_get cs k ≡ Some x → slice_get (cs ++ c ∷ []) k ≡ Some x
slice_get-front [] c k x e = absurd (cc)
slice_get-front (d ∷ cs) c zero x e = e
slice_get-front (d ∷ cs) c (suc k) x e = slice_get-front cs c k x e

pub slice_get-last : {X : Type 0} (cs : List X) (c : X) → slice_get (cs ++ c ∷ []) (length cs) ≡ Some c
slice_get-last [] c = refl
slice_get-last (d ∷ cs) c = slice_get-last cs c

-- it stood there before, or is the last
pub slice_get-either : (cs : List ClassDef) (c : ClassDef) (k : ℕ) (x : ClassDef) → slice_get (cs ++ c ∷ []) k ≡ Some x → (slice_get cs k ≡ Some x) ⊎ (x ≡ c)
slice_get-either [] c zero x e = inr (cc)
slice_get-either [] c (suc k) x e = absurd (cc)
slice_get-either (d ∷ cs) c zero x e = inl e
slice_get-either (d ∷ cs) c (suc k) x e = slice_get-either cs c k x e

-- ---- tests

pub int_self : (z : ℤ) → int_eq z z ≡ true
int_self z = (Decides-int_eq z z).1 refl

pub int_eq-sym : (a b : ℤ) → int_eq a b ≡ int_eq b a
int_eq-sym a b =
    let other = Decides-int_eq b a in
    same_from_decides (int_eq a b) (int_eq b a) (Decides-int_eq a b) (λ e. sym (other.0 e), λ e. other.1 (sym e))

-- ---- places

module _ (test : ClassDef → Bool) where
  -- a last class that fails changes nothing
  pub place-push_failing : (cs : List ClassDef) (c : ClassDef) → test c ≡ false → place test (cs ++ c ∷ []) ≡ place test cs
  place-push_failing cs c e =
      place-push test cs c ∙ ap (λ (b : Bool). option_or (place test cs) (if b then Some (length cs) else None)) e ∙ or_none (place test cs)

  -- nor where one passes before it
  pub place-push_found : (cs : List ClassDef) (c : ClassDef) (k : ℕ) → place test cs ≡ Some k → place test (cs ++ c ∷ []) ≡ Some k
  place-push_found cs c k e = place-push test cs c ∙ ap (λ (o : Option ℕ). option_or o (last_place test cs c)) e

  -- a last class that is the first to pass
  pub place-push_first : (cs : List ClassDef) (c : ClassDef) → place test cs ≡ None → test c ≡ true → place test (cs ++ c ∷ []) ≡ Some (length cs)
  place-push_first cs c e t =
      place-push test cs c
      ∙ ap (λ (o : Option ℕ). option_or o (last_place test cs c)) e
      ∙ ap (λ (b : Bool). option_or None (if b then Some (length cs) else None)) t

  found_by : (cs : List ClassDef) (o found : Option ℕ) → place test cs ≡ found → ((k : ℕ) → found ≡ Some k → o ≡ Some k) → passing test cs o ≡ found
  found_by cs o None e lead = passing_none test cs o e
  found_by cs o (Some k) e lead = ap (passing test cs) (lead k refl) ∙ passing_some test cs k e

  -- a map that leads to the first that passes, if there is one, gives its place
  pub passing_is_place : (cs : List ClassDef) (o : Option ℕ) → ((k : ℕ) → place test cs ≡ Some k → o ≡ Some k) → passing test cs o ≡ place test cs
  passing_is_place cs o lead = found_by cs o (place test cs) refl lead

  some_if : (b : Bool) (j k : ℕ) → (if b then Some j else None) ≡ Some k → j ≡ k
  some_if true j k e = cc
  some_if false j k e = absurd (cc)

  -- which is given is what the map gave
  pub passing_gave : (cs : List ClassDef) (o : Option ℕ) (k : ℕ) → passing test cs o ≡ Some k → o ≡ Some k
  passing_gave cs None k e = absurd (cc)
  passing_gave cs (Some j) k e = ap Some (some_if _ j k e)

-- one class has one name
pub one_name : (cs : List ClassDef) (a b : List ℕ) (k : ℕ) → place (is_named a) cs ≡ Some k → place (is_named b) cs ≡ Some k → a ≡ b
one_name cs a b k e f =
    let x = place_passes (is_named a) cs k e in
    let y = place_passes (is_named b) cs k f in
    let same : x.0 ≡ y.0 = cc (x.1, y.1) in
    sym ((bytes_eq-Decides x.0.name a).0 x.2) ∙ ap (λ (c : ClassDef). c.name) same ∙ (bytes_eq-Decides y.0.name b).0 y.2

-- ---- names

pub name_is_found : (cs : List ClassDef) (at : List ℕ → Option ℕ) (name : List ℕ) → NamesLead cs at → passing (is_named name) cs (at name) ≡ place (is_named name) cs
name_is_found cs at name lead = passing_is_place (is_named name) cs (at name) (λ k e.
    let x = place_passes (is_named name) cs k e in
    let same : x.0.name ≡ name = (bytes_eq-Decides x.0.name name).0 x.2 in
    ap at (sym same) ∙ lead k x.0 x.1 ∙ ap (λ (n : List ℕ). place (is_named n) cs) same ∙ e)

-- a map that changes at a name of no class leads to the classes as before
pub names-stay : (cs : List ClassDef) (at at' : List ℕ → Option ℕ) (name : List ℕ) → NamesLead cs at → place (is_named name) cs ≡ None → ((q : List ℕ) → bytes_eq q name ≡ false → at' q ≡ at q) → NamesLead cs at'
names-stay cs at at' name lead none others = λ k x e.
    others x.name (no_place_fails (is_named name) cs k x none e) ∙ lead k x e

-- one more class, to the first of whose name the map leads
pub names-push : (cs : List ClassDef) (c : ClassDef) (at at' : List ℕ → Option ℕ) → NamesLead cs at → ((q : List ℕ) → bytes_eq q c.name ≡ false → at' q ≡ at q) → at' c.name ≡ place (is_named c.name) (cs ++ c ∷ []) → NamesLead (cs ++ c ∷ []) at'
names-push cs c at at' lead others here = λ k x e.
    ⊎_elim
    (λ t. let same : x.name ≡ c.name = (bytes_eq-Decides x.name c.name).0 t in
    ap at' same ∙ here ∙ ap (λ (n : List ℕ). place (is_named n) (cs ++ c ∷ [])) (sym same))
    (λ f. ⊎_elim
    (λ before. others x.name f ∙ lead k x before ∙ sym (place-push_failing (is_named x.name) cs c (bytes_eq-sym c.name x.name ∙ f)))
    (λ last. let clash : true ≡ false = sym ((bytes_eq-Decides c.name c.name).1 refl) ∙ ap (λ (d : ClassDef). bytes_eq d.name c.name) (sym last) ∙ f in absurd (cc clash))
    (slice_get-either cs c k x e))
    (cases_Bool (bytes_eq x.name c.name))

-- ---- names and numbers

sum_same : (a b : ℕ) → int_eq (pos a) (pos b) ≡ eqb a b
sum_same a b =
    let one = Decides-eqb a b in
    let other = Decides-int_eq (pos a) (pos b) in
    same_from_decides (int_eq (pos a) (pos b)) (eqb a b) other (λ e. ap pos (one.0 e), λ e. one.1 (pos_same a b e))

pub find_sum_same : (cs : List ClassDef) (name : List ℕ) (sum : ℕ) → find (λ c. bytes_eq c.name name && int_eq (pos c.sum) (pos sum)) cs ≡ find (λ c. bytes_eq c.name name && eqb c.sum sum) cs
find_sum_same [] name sum = refl
find_sum_same (c ∷ cs) name sum =
    ap (λ (b : Bool). cond (bytes_eq c.name name && b) (Some c) (find (λ d. bytes_eq d.name name && int_eq (pos d.sum) (pos sum)) cs)) (sum_same c.sum sum)
    ∙ ap (λ (o : Option ClassDef). cond (bytes_eq c.name name && eqb c.sum sum) (Some c) o) (find_sum_same cs name sum)

module _ (number : ClassDef → ℤ) where
  pub no_name_no_number : (cs : List ClassDef) (name : List ℕ) (n : ℤ) → place (is_named name) cs ≡ None → place (has_number number name n) cs ≡ None
  no_name_no_number cs name n none = none_by (place (has_number number name n) cs) refl
    where
      none_by : (o : Option ℕ) → place (has_number number name n) cs ≡ o → o ≡ None
      none_by None e = refl
      none_by (Some k) e =
          let x = place_passes (has_number number name n) cs k e in
          let named = (and_parts (bytes_eq x.0.name name) (int_eq (number x.0) n) x.2).0 in
          absurd (cc (named, no_place_fails (is_named name) cs k x.0 none x.1))

  pub number_is_found : (cs : List ClassDef) (at : ℕ → ℤ → Option ℕ) (name : List ℕ) (n : ℤ) (first : ℕ) → NumbersLead number cs at → place (is_named name) cs ≡ Some first → passing (has_number number name n) cs (at first n) ≡ place (has_number number name n) cs
  number_is_found cs at name n first lead named = passing_is_place (has_number number name n) cs (at first n) (λ k e.
      let x = place_passes (has_number number name n) cs k e in
      let two = and_parts (bytes_eq x.0.name name) (int_eq (number x.0) n) x.2 in
      let same : x.0.name ≡ name = (bytes_eq-Decides x.0.name name).0 two.0 in
      let equal : number x.0 ≡ n = (Decides-int_eq (number x.0) n).0 two.1 in
      ap (at first) (sym equal)
      ∙ lead k x.0 first x.1 (ap (λ (m : List ℕ). place (is_named m) cs) same ∙ named)
      ∙ ap (λ (m : List ℕ). place (has_number number m (number x.0)) cs) same
      ∙ ap (λ (z : ℤ). place (has_number number name z) cs) equal
      ∙ e)

  -- which class a key of the map is about, among the classes that come
  key_apart : (cs : List ClassDef) (c x : ClassDef) (first f : ℕ) (test : Bool) → place (is_named c.name) (cs ++ c ∷ []) ≡ Some f → place (is_named x.name) (cs ++ c ∷ []) ≡ Some first → (eqb first f && int_eq (number x) (number c)) ≡ test → (bytes_eq x.name c.name && int_eq (number x) (number c)) ≡ false → test ≡ false
  key_apart cs c x first f false named met is apart = refl
  key_apart cs c x first f true named met is apart =
      let two = and_parts (eqb first f) (int_eq (number x) (number c)) is in
      let same : x.name ≡ c.name = one_name (cs ++ c ∷ []) x.name c.name f (met ∙ ap Some ((Decides-eqb first f).0 two.0)) named in
      let alike : bytes_eq x.name c.name ≡ true = (bytes_eq-Decides x.name c.name).1 same in
      let clash : true ≡ false = sym two.1 ∙ ap (λ (b : Bool). b && int_eq (number x) (number c)) (sym alike) ∙ apart in
      absurd (cc clash)

  -- a map that changes at the key of a class that is to come, and has no equal yet, leads to the classes as before
  pub numbers-stay : (cs : List ClassDef) (c : ClassDef) (f : ℕ) (at at' : ℕ → ℤ → Option ℕ) → NumbersLead number cs at → place (is_named c.name) (cs ++ c ∷ []) ≡ Some f → place (has_number number c.name (number c)) cs ≡ None → ((a : ℕ) (z : ℤ) → (eqb a f && int_eq z (number c)) ≡ false → at' a z ≡ at a z) → NumbersLead number cs at'
  numbers-stay cs c f at at' lead named none others = λ k x first e met.
      let later = place-push_found (is_named x.name) cs c first met in
      others first (number x) (key_apart cs c x first f _ named later refl (no_place_fails (has_number number c.name (number c)) cs k x none e))
      ∙ lead k x first e met

  found_before : (cs : List ClassDef) (c x : ClassDef) (k first : ℕ) (o : Option ℕ) → slice_get cs k ≡ Some x → place (is_named x.name) cs ≡ o → place (is_named x.name) (cs ++ c ∷ []) ≡ Some first → o ≡ Some first
  found_before cs c x k first None at none met =
      absurd (cc ((bytes_eq-Decides x.name x.name).1 refl, no_place_fails (is_named x.name) cs k x none at))
  found_before cs c x k first (Some j) at some met = sym (place-push_found (is_named x.name) cs c j some) ∙ met

  pub numbers-push : (cs : List ClassDef) (c : ClassDef) (f : ℕ) (at at' : ℕ → ℤ → Option ℕ) → NumbersLead number cs at → place (is_named c.name) (cs ++ c ∷ []) ≡ Some f → ((a : ℕ) (z : ℤ) → (eqb a f && int_eq z (number c)) ≡ false → at' a z ≡ at a z) → at' f (number c) ≡ place (has_number number c.name (number c)) (cs ++ c ∷ []) → NumbersLead number (cs ++ c ∷ []) at'
  numbers-push cs c f at at' lead named others here = λ k x first e met.
      let P : List ℕ → ℤ → Option ℕ = λ m z. place (has_number number m z) (cs ++ c ∷ []) in
      ⊎_elim
      (λ t. let two = and_parts (bytes_eq x.name c.name) (int_eq (number x) (number c)) t in
      let same : x.name ≡ c.name = (bytes_eq-Decides x.name c.name).0 two.0 in
      let equal : number x ≡ number c = (Decides-int_eq (number x) (number c)).0 two.1 in
      let first_is : Some first ≡ Some f = sym met ∙ ap (λ (m : List ℕ). place (is_named m) (cs ++ c ∷ [])) same ∙ named in
      let goes : first ≡ f = cc in
      ap (λ (a : ℕ). at' a (number x)) goes ∙ ap (at' f) equal ∙ here ∙ ap (λ (m : List ℕ). P m (number c)) (sym same) ∙ ap (P x.name) (sym equal))
      (λ apart. ⊎_elim
      (λ before.
      others first (number x) (key_apart cs c x first f _ named met refl apart)
      ∙ lead k x first before (found_before cs c x k first _ before refl met)
      ∙ sym (place-push_failing (has_number number x.name (number x)) cs c
      (ap (λ (b : Bool). b && int_eq (number c) (number x)) (bytes_eq-sym c.name x.name) ∙ ap (λ (b : Bool). bytes_eq x.name c.name && b) (int_eq-sym (number c) (number x)) ∙ apart)))
      (λ last.
      let clash : true ≡ false =
      sym (int_self (number c))
      ∙ ap (λ (b : Bool). b && int_eq (number c) (number c)) (sym ((bytes_eq-Decides c.name c.name).1 refl))
      ∙ ap (λ (d : ClassDef). bytes_eq d.name c.name && int_eq (number d) (number c)) (sym last)
      ∙ apart in
      absurd (cc clash))
      (slice_get-either cs c k x e))
      (cases_Bool (bytes_eq x.name c.name && int_eq (number x) (number c)))
