-- The parts of an object that fits its class are found by the names of its bases and members.
use Rattle.std.proofs.Common.{◌≡◌, ◌&&◌, ◌||◌, ◌==◌, ℕ, List, [], ◌∷◌, ◌++◌, length, map, Bool, true, false, cond, not, Some, None, Ok, if◌then◌else◌, refl, sym, ap, ◌∙◌, append_assoc}
use Rattle.std.proofs.lemmas.{Bool.{and_parts, not-true}, Slice.Eq.{bytes_eq-Decides}}
use Rattle.std.specs.{Prelude.{find}, List.{list_any}, Option.{option_map}, Str.{bytes_eq}}
use Rattle.rio_num.specs.{Reading.{◌>>=◌}, Word.{is_name_text}}
use Rattle.rio_format.specs.{declared.class.Base.{Base}, declared.class.ClassDef.{ClassDef}, declared.class.Member.{Member}, declared.value.Part.{Part}, declared.value.Value.{Value, out-Value}, Bodies.{part}}
use Rattle.rio_model.specs.Mapping.{Mapped, base_mapped, base_part_of, class_named, each_mapped, member_mapped, member_part_of}
use Rattle.rio_model.specs.{ClassGrammar.{has_base_named, has_member}, Stated.{are_stated_bases, are_stated_members, is_stated_base, is_stated_member}}
use Rattle.rio_map.specs.Versions.{base_found, converted, found_of_kind, has_base, if_there, is_base_part, kind_in, mapped_in, mapping_of_part, member_found}
use Rattle.rio_map.proofs.MappingLaws.{base_by_found, member_by_found}

-- ---- the first of a list that passes

passes_on : {X : Type 0} (test : X → Bool) (front rest : List X) → list_any test front ≡ false → find test (front ++ rest) ≡ find test rest
passes_on test [] rest none = refl
passes_on test (x ∷ front) rest none = by (test x) none (passes_on test front rest)
  where
    by : (b : Bool) → (b || list_any test front) ≡ false → (list_any test front ≡ false → find test (front ++ rest) ≡ find test rest) → cond b (Some x) (find test (front ++ rest)) ≡ find test rest
    by true none later = absurd cc
    by false none later = later none

first_passes : {X : Type 0} (test : X → Bool) (front : List X) (x : X) (rest : List X) → list_any test front ≡ false → test x ≡ true → find test (front ++ x ∷ rest) ≡ Some x
first_passes test front x rest none here =
    passes_on test front (x ∷ rest) none ∙ ap (λ (b : Bool). cond b (Some x) (find test rest)) here

any_passes : {X : Type 0} (test : X → Bool) (front : List X) (x : X) (rest : List X) → test x ≡ true → list_any test (front ++ x ∷ rest) ≡ true
any_passes test [] x rest here = ap (λ (b : Bool). b || list_any test rest) here
any_passes test (y ∷ front) x rest here = ap (λ (b : Bool). test y || b) (any_passes test front x rest here) ∙ or_true (test y)
  where
    or_true : (b : Bool) → (b || true) ≡ true
    or_true true = refl
    or_true false = refl

or_none : (a b : Bool) → (a || b) ≡ false → (a ≡ false) × (b ≡ false)
or_none false b e = (refl, e)
or_none true b e = absurd cc

none_both : (a b : Bool) → a ≡ false → b ≡ false → (a || b) ≡ false
none_both false b a e = e
none_both true b a e = absurd cc

and_none : (a b : Bool) → b ≡ false → (a && b) ≡ false
and_none true b e = e
and_none false b e = refl

same_bytes : (class : List ℕ) → bytes_eq class class ≡ true
same_bytes class = (bytes_eq-Decides class class).1 refl

module _ (classes : List ClassDef) (c : ClassDef) where
  abbrev had : Value → Mapped Value
  had = mapped_in classes c

  -- ---- bases and their parts, members and theirs

  abbrev pub AreBases : List Base → List Part → Type 0
  AreBases [] [] = Unit {0}
  AreBases [] (p ∷ ps) = ⊥
  AreBases (b ∷ bs) [] = ⊥
  AreBases (b ∷ bs) (p ∷ ps) = (p.name ≡ []) × (class_named (out-Value p.value) ≡ b.name) × (had p.value ≡ Ok p.value) × AreBases bs ps

  abbrev pub AreMembers : List Member → List Part → Type 0
  AreMembers [] [] = Unit {0}
  AreMembers [] (p ∷ ps) = ⊥
  AreMembers (m ∷ ms) [] = ⊥
  AreMembers (m ∷ ms) (p ∷ ps) = (p.name ≡ m.name) × (converted had m.kind m p.value ≡ Ok p.value) × AreMembers ms ps

  base_behind : (bs : List Base) (ps : List Part) (b : Base) (p : Part) → AreBases bs ps → AreBases (b ∷ []) (p ∷ []) → AreBases (bs ++ b ∷ []) (ps ++ p ∷ [])
  base_behind [] [] b p are one = one
  base_behind [] (q ∷ ps) b p are one = absurd are
  base_behind (d ∷ bs) [] b p are one = absurd are
  base_behind (d ∷ bs) (q ∷ ps) b p are one = (are.0, are.1, are.2, base_behind bs ps b p are.3 one)

  member_behind : (ms : List Member) (ps : List Part) (m : Member) (p : Part) → AreMembers ms ps → AreMembers (m ∷ []) (p ∷ []) → AreMembers (ms ++ m ∷ []) (ps ++ p ∷ [])
  member_behind [] [] m p are one = one
  member_behind [] (q ∷ ps) m p are one = absurd are
  member_behind (n ∷ ms) [] m p are one = absurd are
  member_behind (n ∷ ms) (q ∷ ps) m p are one = (are.0, are.1, member_behind ms ps m p are.2 one)

  -- no base of another name is the one that is looked for
  no_base_part : (name : List ℕ) (bs : List Base) (ps : List Part) → AreBases bs ps → has_base_named bs name ≡ false → list_any (is_base_part name) ps ≡ false
  no_base_part name [] [] are none = refl
  no_base_part name [] (p ∷ ps) are none = absurd are
  no_base_part name (b ∷ bs) [] are none = absurd are
  no_base_part name (b ∷ bs) (p ∷ ps) are none =
      let n = or_none (bytes_eq b.name name) (has_base_named bs name) none in
      none_both (is_base_part name p) (list_any (is_base_part name) ps)
      (and_none (length p.name == 0) (bytes_eq (class_named (out-Value p.value)) name) (ap (λ (s : List ℕ). bytes_eq s name) are.1 ∙ n.0))
      (no_base_part name bs ps are.3 n.1)

  no_named_member : (name : List ℕ) (ms : List Member) (ps : List Part) → AreMembers ms ps → has_member ms name ≡ false → list_any (λ p. bytes_eq p.name name) ps ≡ false
  no_named_member name [] [] are none = refl
  no_named_member name [] (p ∷ ps) are none = absurd are
  no_named_member name (m ∷ ms) [] are none = absurd are
  no_named_member name (m ∷ ms) (p ∷ ps) are none =
      let n = or_none (bytes_eq m.name name) (has_member ms name) none in
      none_both (bytes_eq p.name name) (list_any (λ q. bytes_eq q.name name) ps) (ap (λ (s : List ℕ). bytes_eq s name) are.0 ∙ n.0) (no_named_member name ms ps are.2 n.1)

  -- ---- bases

  module _ (ps : List Part) where
    abbrev base_value : Base → Mapped Value
    base_value b = base_mapped classes b (base_part_of c.bases (map (mapping_of_part classes c) ps) b.name)

    base_had : (done bs : List Base) (front rest : List Part) (b : Base) (p : Part) → c.bases ≡ done ++ b ∷ bs → ps ≡ front ++ p ∷ rest → AreBases done front → AreBases (b ∷ []) (p ∷ []) → has_base_named done b.name ≡ false → base_value b ≡ Ok p.value
    base_had done bs front rest b p own parts are one new =
        let listed : has_base c.bases b.name ≡ true = ap (λ (l : List Base). has_base l b.name) own ∙ any_passes (λ d. bytes_eq d.name b.name) done b bs (same_bytes b.name) in
        let here : is_base_part b.name p ≡ true = (λ i. (length (one.0 i) == 0) && bytes_eq (one.1 i) b.name) ∙ same_bytes b.name in
        let first : find (is_base_part b.name) ps ≡ Some p = ap (find (is_base_part b.name)) parts ∙ first_passes (is_base_part b.name) front p rest (no_base_part b.name done front are new) here in
        let found : base_found had c.bases ps b ≡ Ok (Some p.value) =
        (λ i. if listed i then if_there (λ (q : Part). had q.value) (first i) else Ok None)
        ∙ ap (λ (r : Mapped Value). r >>= λ y. Ok (Some y)) one.2 in
        base_by_found classes c b c.bases ps (Ok (Some p.value)) found

    pub bases_had : (done bs : List Base) (front own rest : List Part) → c.bases ≡ done ++ bs → ps ≡ front ++ (own ++ rest) → AreBases done front → AreBases bs own → are_stated_bases done bs ≡ true → each_mapped (λ b. []) base_value bs ≡ Ok own
    bases_had done [] front [] rest listed parts are these stated = refl
    bases_had done [] front (p ∷ own) rest listed parts are these stated = absurd these
    bases_had done (b ∷ bs) front [] rest listed parts are these stated = absurd these
    bases_had done (b ∷ bs) front (p ∷ own) rest listed parts are these stated =
        let s = and_parts (is_stated_base done b) (are_stated_bases (done ++ b ∷ []) bs) stated in
        let new : has_base_named done b.name ≡ false = not-true (has_base_named done b.name) (and_parts (is_name_text b.name) (not (has_base_named done b.name)) s.0).1 in
        let value : base_value b ≡ Ok p.value = base_had done bs front (own ++ rest) b p listed parts are (these.0, these.1, these.2, tt) new in
        let others : each_mapped (λ b. []) base_value bs ≡ Ok own =
        bases_had (done ++ b ∷ []) bs (front ++ p ∷ []) own rest (listed ∙ sym (append_assoc done (b ∷ []) bs)) (parts ∙ sym (append_assoc front (p ∷ []) (own ++ rest)))
        (base_behind done front b p are (these.0, these.1, these.2, tt)) these.3 s.1 in
        ap (λ (r : Mapped Value). r >>= λ v. each_mapped (λ d. []) base_value bs >>= λ qs. Ok (part [] v ∷ qs)) value
        ∙ ap (λ (r : Mapped (List Part)). r >>= λ qs. Ok (part [] p.value ∷ qs)) others
        ∙ ap (λ (n : List ℕ). let r : Mapped (List Part) = Ok (part n p.value ∷ own) in r) (sym these.0)

    -- ---- members

    abbrev member_value : Member → Mapped Value
    member_value m = member_mapped classes m (member_part_of c.members (map (mapping_of_part classes c) ps) m.name)

    member_had : (done ms : List Member) (front rest : List Part) (m : Member) (p : Part) → c.members ≡ done ++ m ∷ ms → ps ≡ front ++ p ∷ rest → list_any (λ q. bytes_eq q.name m.name) front ≡ false → AreMembers (m ∷ []) (p ∷ []) → has_member done m.name ≡ false → member_value m ≡ Ok p.value
    member_had done ms front rest m p listed parts none one new =
        let kind : kind_in c.members m.name ≡ Some m.kind =
        ap (λ (l : List Member). kind_in l m.name) listed ∙ ap (option_map (λ (n : Member). n.kind)) (first_passes (λ (n : Member). bytes_eq n.name m.name) done m ms new (same_bytes m.name)) in
        let here : bytes_eq p.name m.name ≡ true = ap (λ (n : List ℕ). bytes_eq n m.name) one.0 ∙ same_bytes m.name in
        let first : find (λ (q : Part). bytes_eq q.name m.name) ps ≡ Some p = ap (find (λ (q : Part). bytes_eq q.name m.name)) parts ∙ first_passes (λ (q : Part). bytes_eq q.name m.name) front p rest none here in
        let found : member_found had c.members ps m ≡ Ok (Some p.value) =
        ap (found_of_kind had m ps) kind
        ∙ ap (if_there (λ (q : Part). converted had m.kind m q.value)) first
        ∙ ap (λ (r : Mapped Value). r >>= λ y. Ok (Some y)) one.1 in
        member_by_found classes c m c.members ps (Ok (Some p.value)) found

    pub members_had : (done ms : List Member) (front own : List Part) → c.members ≡ done ++ ms → ps ≡ front ++ own → AreMembers done front → AreMembers ms own → are_stated_members done ms ≡ true → each_mapped (λ m. m.name) member_value ms ≡ Ok own
    members_had done [] front [] listed parts are these stated = refl
    members_had done [] front (p ∷ own) listed parts are these stated = absurd these
    members_had done (m ∷ ms) front [] listed parts are these stated = absurd these
    members_had done (m ∷ ms) front (p ∷ own) listed parts are these stated =
        let s = and_parts (is_stated_member done m ms) (are_stated_members (done ++ m ∷ []) ms) stated in
        let words = (and_parts _ _ (and_parts _ _ s.0).0).0 in
        let name = and_parts (is_name_text m.name) (not (has_member done m.name)) words in
        let new : has_member done m.name ≡ false = not-true (has_member done m.name) name.1 in
        let none : list_any (λ (q : Part). bytes_eq q.name m.name) front ≡ false = no_named_member m.name done front are new in
        let value : member_value m ≡ Ok p.value = member_had done ms front own m p listed parts none (these.0, these.1, tt) new in
        let others : each_mapped (λ n. n.name) member_value ms ≡ Ok own =
        members_had (done ++ m ∷ []) ms (front ++ p ∷ []) own (listed ∙ sym (append_assoc done (m ∷ []) ms))
        (parts ∙ sym (append_assoc front (p ∷ []) own))
        (member_behind done front m p are (these.0, these.1, tt)) these.2 s.1 in
        ap (λ (r : Mapped Value). r >>= λ v. each_mapped (λ n. n.name) member_value ms >>= λ qs. Ok (part m.name v ∷ qs)) value
        ∙ ap (λ (r : Mapped (List Part)). r >>= λ qs. Ok (part m.name p.value ∷ qs)) others
        ∙ ap (λ (n : List ℕ). let r : Mapped (List Part) = Ok (part n p.value ∷ own) in r) (sym these.0)
