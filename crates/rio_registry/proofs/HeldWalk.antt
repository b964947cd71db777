-- The classes of one name are walked through from the last of them back, and what they hold is put among names.
use Rattle.std.proofs.Common.{◌≡◌, ◌≤◌, ◌<◌, ℕ, suc, List, [], ◌∷◌, ◌++◌, length, drop, Bool, true, false, ◌||◌, ◌&&◌, Option, Some, None, refl, sym, ap, subst, ◌∙◌, arith}
use Rattle.std.proofs.{Math.Bool.{or-false}, lemmas.List.{append-nil, append_assoc}}
use Rattle.std.specs.{List.{slice_get}, Cmp.Lexicographic.{same_text}}
use Rattle.rio_num.specs.Word.{is_among}
use Rattle.rio_format.specs.{Chain.{last_before}, Places.{is_named}, declared.class.ClassDef.{ClassDef}}
use Rattle.rio_format.proofs.ChainLaws.{drop_at, drop_none, end_of, last_found, walk_back, walk_falls, walk_goes}
use Rattle.rio_model.specs.Declaring.{has_within, holds}
use Rattle.rio_registry.specs.Reaching.{IsGrown}

-- ---- names that are added one behind the other

pub grown_same : (old new : List (List ℕ)) (f g : List ℕ → Bool) → ((n : List ℕ) → f n ≡ g n) → IsGrown old new f → IsGrown old new g
grown_same old new f g alike grown = record {
  kept = grown.kept;
  names = λ n. grown.names n ∙ ap (λ (b : Bool). is_among old n || b) (alike n);
  distinct = grown.distinct;
}

grown_none : (old : List (List ℕ)) → IsGrown old old (λ n. false)
grown_none old = record {
  kept = ([], sym (append-nil old));
  names = λ n. sym (or-false (is_among old n));
  distinct = λ d. d;
}

or_moved : (a b c : Bool) → ((a || b) || c) ≡ (a || (c || b))
or_moved true b c = refl
or_moved false true true = refl
or_moved false true false = refl
or_moved false false true = refl
or_moved false false false = refl

-- the later ones are put first in the test
grown_then : (old mid new : List (List ℕ)) (f g : List ℕ → Bool) → IsGrown old mid f → IsGrown mid new g → IsGrown old new (λ n. g n || f n)
grown_then old mid new f g first later = record {
  kept = (first.kept.0 ++ later.kept.0, later.kept.1 ∙ ap (λ (xs : List (List ℕ)). xs ++ later.kept.0) first.kept.1 ∙ append_assoc old first.kept.0 later.kept.0);
  names = λ n. later.names n ∙ ap (λ (b : Bool). b || g n) (first.names n) ∙ or_moved (is_among old n) (f n) (g n);
  distinct = λ d. later.distinct (first.distinct d);
}

-- ---- the walk

-- what the classes of the name from the end of this place on hold is added
pub record IsAdded (cs : List ClassDef) (outer : List ℕ) (old names : List (List ℕ)) (at : Option ℕ) : Type 0 where
  pub goes : at ≡ last_before (is_named outer) cs (end_of at)
  pub grown : IsGrown old names (holds (drop (end_of at) cs) outer)
  pub within : end_of at ≤ length cs

module _ (cs : List ClassDef) (outer : List ℕ) where
  holds_stays : (n : List ℕ) (k : ℕ) (x : ClassDef) → slice_get cs k ≡ Some x → is_named outer x ≡ false → holds (drop k cs) outer n ≡ holds (drop (suc k) cs) outer n
  holds_stays n k x here other =
      ap (λ (xs : List ClassDef). holds xs outer n) (drop_at cs k x here)
      ∙ ap (λ (b : Bool). (b && has_within x n) || holds (drop (suc k) cs) outer n) other

  holds_here : (n : List ℕ) (k : ℕ) (x : ClassDef) → slice_get cs k ≡ Some x → is_named outer x ≡ true → (has_within x n || holds (drop (suc k) cs) outer n) ≡ holds (drop k cs) outer n
  holds_here n k x here named =
      sym (ap (λ (xs : List ClassDef). holds xs outer n) (drop_at cs k x here)
      ∙ ap (λ (b : Bool). (b && has_within x n) || holds (drop (suc k) cs) outer n) named)

  holds_back : (n : List ℕ) (e : ℕ) → e ≤ length cs → holds (drop (end_of (last_before (is_named outer) cs e)) cs) outer n ≡ holds (drop e cs) outer n
  holds_back n e le = walk_back (is_named outer) (λ k. holds (drop k cs) outer n) cs (holds_stays n) e le

  added_to : (old names : List (List ℕ)) (e : ℕ) (at : Option ℕ) → e ≤ length cs → at ≡ last_before (is_named outer) cs e → IsGrown old names (holds (drop e cs) outer) → IsAdded cs outer old names at
  added_to old names e at le is grown = record {
    goes = subst (λ (o : Option ℕ). o ≡ last_before (is_named outer) cs (end_of o)) (sym is) (walk_goes (is_named outer) cs e le);
    grown = grown_same old names (holds (drop e cs) outer) (holds (drop (end_of at) cs) outer)
        (λ n. sym (ap (λ (o : Option ℕ). holds (drop (end_of o) cs) outer n) is ∙ holds_back n e le)) grown;
    within = let falls = walk_falls (is_named outer) cs e in subst (λ (o : Option ℕ). end_of o ≤ length cs) (sym is) (omega (arith, falls));
  }

  drop_all : (xs : List ClassDef) → drop (length xs) xs ≡ []
  drop_all [] = refl
  drop_all (x ∷ xs) = drop_all xs

  pub add_begins : (old : List (List ℕ)) (at : Option ℕ) → at ≡ last_before (is_named outer) cs (length cs) → IsAdded cs outer old old at
  add_begins old at is =
      added_to old old (length cs) at (omega arith) is
      (grown_same old old (λ n. false) (holds (drop (length cs) cs) outer) (λ n. sym (ap (λ (xs : List ClassDef). holds xs outer n) (drop_all cs))) (grown_none old))

  add_named : (old names : List (List ℕ)) (k : ℕ) (x : ClassDef) → IsAdded cs outer old names (Some k) → slice_get cs k ≡ Some x → is_named outer x ≡ true
  add_named old names k x added here =
      let f = last_found (is_named outer) cs (suc k) k (sym added.goes) in
      let same : f.0 ≡ x = cc (f.1, here) in
      ap (is_named outer) (sym same) ∙ f.2

  module _ (old names : List (List ℕ)) (k : ℕ) (x : ClassDef) (next : Option ℕ) (added : IsAdded cs outer old names (Some k)) (here : slice_get cs k ≡ Some x) (is : next ≡ last_before (is_named x.name) cs k) where
    next_is : next ≡ last_before (is_named outer) cs k
    next_is = is ∙ ap (λ (n : List ℕ). last_before (is_named n) cs k) (same_text x.name outer (sym (add_named old names k x added here)))

    pub add_steps : (new : List (List ℕ)) → IsGrown names new (has_within x) → IsAdded cs outer old new next
    add_steps new grown =
        added_to old new k next (omega (arith, added.within)) next_is
        (grown_same old new (λ n. has_within x n || holds (drop (suc k) cs) outer n) (holds (drop k cs) outer)
        (λ n. holds_here n k x here (add_named old names k x added here))
        (grown_then old names new (holds (drop (suc k) cs) outer) (has_within x) added.grown grown))

    pub add_falls : end_of next < suc k
    add_falls =
        let falls = walk_falls (is_named outer) cs k in
        subst (λ (o : Option ℕ). end_of o < suc k) (sym next_is) (omega (arith, falls))

  pub add_ends : (old names : List (List ℕ)) → IsAdded cs outer old names None → IsGrown old names (holds cs outer)
  add_ends old names added =
      grown_same old names (holds (drop 0 cs) outer) (holds cs outer) (λ n. ap (λ (xs : List ClassDef). holds xs outer n) (drop_none cs)) added.grown
