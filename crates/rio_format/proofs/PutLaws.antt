-- The maps of an index once a class comes behind the others.
use Rattle.std.proofs.Common.{◌≡◌, ℕ, ℤ, List, [], ◌∷◌, ◌++◌, length, Bool, true, false, ◌&&◌, if◌then◌else◌, Option, Some, None, refl, sym, ap, ◌∙◌, eqb}
use Rattle.std.proofs.{lemmas.Bool.Decides.{Decides-eqb}, lemmas.Slice.Eq.{bytes_eq-Decides}}
use Rattle.std.specs.{Ordering.{int_eq}, Str.{bytes_eq}}
use Rattle.rio_format.specs.{Index.{passing, has_number, NamesLead, NumbersLead}, Places.{place, is_named}, declared.class.ClassDef.{ClassDef}}
use Rattle.rio_format.proofs.PlaceLaws.{passing_none}
use Rattle.rio_format.proofs.LeadLaws.{int_self, name_is_found, names-stay, names-push, no_name_no_number, number_is_found, numbers-stay, numbers-push, passing_gave, place-push_found, place-push_first}

module _ (cs : List ClassDef) (c : ClassDef) where
  -- the map that a put of the class's name leaves
  abbrev pub NamesMoved : (List ℕ → Option ℕ) → (List ℕ → Option ℕ) → Type 0
  NamesMoved at at' = (q : List ℕ) → at' q ≡ (if bytes_eq q c.name then Some (length cs) else at q)

  module _ (at : List ℕ → Option ℕ) (lead : NamesLead cs at) where
    pub met_place : (k : ℕ) → passing (is_named c.name) cs (at c.name) ≡ Some k → place (is_named c.name) (cs ++ c ∷ []) ≡ Some k
    met_place k found = place-push_found (is_named c.name) cs c k (sym (name_is_found cs at c.name lead) ∙ found)

    pub met_leads : (k : ℕ) → passing (is_named c.name) cs (at c.name) ≡ Some k → NamesLead (cs ++ c ∷ []) at
    met_leads k found =
        names-push cs c at at lead (λ q apart. refl) (passing_gave (is_named c.name) cs (at c.name) k found ∙ sym (met_place k found))

    no_place : passing (is_named c.name) cs (at c.name) ≡ None → place (is_named c.name) cs ≡ None
    no_place none = sym (name_is_found cs at c.name lead) ∙ none

    pub new_place : passing (is_named c.name) cs (at c.name) ≡ None → place (is_named c.name) (cs ++ c ∷ []) ≡ Some (length cs)
    new_place none = place-push_first (is_named c.name) cs c (no_place none) ((bytes_eq-Decides c.name c.name).1 refl)

    others : (at' : List ℕ → Option ℕ) → NamesMoved at at' → (q : List ℕ) → bytes_eq q c.name ≡ false → at' q ≡ at q
    others at' moved q apart = moved q ∙ ap (λ (b : Bool). if b then Some (length cs) else at q) apart

    pub new_stays : (at' : List ℕ → Option ℕ) → passing (is_named c.name) cs (at c.name) ≡ None → NamesMoved at at' → NamesLead cs at'
    new_stays at' none moved = names-stay cs at at' c.name lead (no_place none) (others at' moved)

    pub new_leads : (at' : List ℕ → Option ℕ) → passing (is_named c.name) cs (at c.name) ≡ None → NamesMoved at at' → NamesLead (cs ++ c ∷ []) at'
    new_leads at' none moved =
        names-push cs c at at' lead (others at' moved)
        (moved c.name ∙ ap (λ (b : Bool). if b then Some (length cs) else at c.name) ((bytes_eq-Decides c.name c.name).1 refl) ∙ sym (new_place none))

  module _ (number : ClassDef → ℤ) (f : ℕ) (named : place (is_named c.name) (cs ++ c ∷ []) ≡ Some f) where
    abbrev has_it : ClassDef → Bool
    has_it = has_number number c.name (number c)

    -- the map that a put at the class and its number leaves
    abbrev pub NumbersMoved : (ℕ → ℤ → Option ℕ) → (ℕ → ℤ → Option ℕ) → Type 0
    NumbersMoved at at' = (a : ℕ) (z : ℤ) → at' a z ≡ (if eqb a f && int_eq z (number c) then Some (length cs) else at a z)

    module _ (at : ℕ → ℤ → Option ℕ) (lead : NumbersLead number cs at) where
      found_by : (o : Option ℕ) → place (is_named c.name) cs ≡ o → passing has_it cs (at f (number c)) ≡ place has_it cs
      found_by None none =
          let nowhere = no_name_no_number number cs c.name (number c) none in
          passing_none has_it cs (at f (number c)) nowhere ∙ sym nowhere
      found_by (Some j) met =
          let same : Some j ≡ Some f = sym (place-push_found (is_named c.name) cs c j met) ∙ named in
          number_is_found number cs at c.name (number c) f lead (met ∙ same)

      finds : passing has_it cs (at f (number c)) ≡ place has_it cs
      finds = found_by (place (is_named c.name) cs) refl

      pub number_met : (k : ℕ) → passing has_it cs (at f (number c)) ≡ Some k → NumbersLead number (cs ++ c ∷ []) at
      number_met k found =
          numbers-push number cs c f at at lead named (λ a z apart. refl)
          (passing_gave has_it cs (at f (number c)) k found ∙ sym (place-push_found has_it cs c k (sym finds ∙ found)))

      apart : (at' : ℕ → ℤ → Option ℕ) → NumbersMoved at at' → (a : ℕ) (z : ℤ) → (eqb a f && int_eq z (number c)) ≡ false → at' a z ≡ at a z
      apart at' moved a z e = moved a z ∙ ap (λ (b : Bool). if b then Some (length cs) else at a z) e

      pub number_stays : (at' : ℕ → ℤ → Option ℕ) → passing has_it cs (at f (number c)) ≡ None → NumbersMoved at at' → NumbersLead number cs at'
      number_stays at' none moved = numbers-stay number cs c f at at' lead named (sym finds ∙ none) (apart at' moved)

      here : (eqb f f && int_eq (number c) (number c)) ≡ true
      here = ap (λ (b : Bool). b && int_eq (number c) (number c)) ((Decides-eqb f f).1 refl) ∙ int_self (number c)

      has_self : has_it c ≡ true
      has_self = ap (λ (b : Bool). b && int_eq (number c) (number c)) ((bytes_eq-Decides c.name c.name).1 refl) ∙ int_self (number c)

      pub number_leads : (at' : ℕ → ℤ → Option ℕ) → passing has_it cs (at f (number c)) ≡ None → NumbersMoved at at' → NumbersLead number (cs ++ c ∷ []) at'
      number_leads at' none moved =
          numbers-push number cs c f at at' lead named (apart at' moved)
          (moved f (number c)
          ∙ ap (λ (b : Bool). if b then Some (length cs) else at f (number c)) here
          ∙ sym (place-push_first has_it cs c (sym finds ∙ none) has_self))
