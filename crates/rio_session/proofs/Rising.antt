-- Lists in an order are equal where they have the same elements.
use Rattle.std.proofs.Common.{◌≡◌, ◌⊎◌, inl, inr, List, [], ◌∷◌, refl, sym, subst, ◌∙◌}
use Rattle.rio_state.proofs.Members.{In}

module _ {A : Type 0} (Before : A → A → Type 0) where
  -- each of these comes behind one
  abbrev pub AllBehind : A → List A → Type 0
  AllBehind x [] = Unit {0}
  AllBehind x (y ∷ ys) = Before x y × AllBehind x ys

  abbrev pub AreRising : List A → Type 0
  AreRising [] = Unit {0}
  AreRising (x ∷ xs) = AllBehind x xs × AreRising xs

  behind_in : (x z : A) (xs : List A) → AllBehind x xs → In z xs → Before x z
  behind_in x z [] are i = absurd i
  behind_in x z (y ∷ ys) are (inl same) = subst (Before x) same are.0
  behind_in x z (y ∷ ys) are (inr i) = behind_in x z ys are.1 i

  module _ (one_way : (a b : A) → Before a b → Before b a → ⊥) where
    -- what is among both behind the same first element
    rest_in : (x y : A) (xs ys : List A) → AllBehind x xs → y ≡ x → ((z : A) → In z (x ∷ xs) → In z (y ∷ ys)) → (z : A) → In z xs → In z ys
    rest_in x y xs ys are same into z i = by (into z (inr i))
      where
        by : (y ≡ z) ⊎ In z ys → In z ys
        by (inl there) =
            let own : Before x x = subst (Before x) (sym there ∙ same) (behind_in x z xs are i) in
            absurd (one_way x x own own)
        by (inr j) = j

    pub same_rising : (xs ys : List A) → AreRising xs → AreRising ys → ((z : A) → In z xs → In z ys) → ((z : A) → In z ys → In z xs) → xs ≡ ys
    same_rising [] [] a b into back = refl
    same_rising [] (y ∷ ys) a b into back = absurd (back y (inl refl))
    same_rising (x ∷ xs) [] a b into back = absurd (into x (inl refl))
    same_rising (x ∷ xs) (y ∷ ys) a b into back =
        let first : y ≡ x = by (into x (inl refl)) (back y (inl refl)) in
        let rest = same_rising xs ys a.1 b.1 (rest_in x y xs ys a.0 first into) (rest_in y x ys xs b.0 (sym first) back) in
        λ i. sym first i ∷ rest i
      where
        by : (y ≡ x) ⊎ In x ys → (x ≡ y) ⊎ In y xs → y ≡ x
        by (inl same) j = same
        by (inr i) (inl same) = sym same
        by (inr i) (inr j) = absurd (one_way x y (behind_in x y xs a.0 j) (behind_in y x ys b.0 i))
