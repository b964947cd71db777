-- Two lists of the same keys in order are the same.
use Rattle.std.proofs.Common.{◌≡◌, inl, inr, true, List, [], ◌∷◌, ◌∙◌, refl, sym, subst}
use Rattle.rio_key.specs.declared.head.KeyHead.{KeyHead}
use Rattle.rio_dir.specs.Table.{AreBehind, AreOrdered, comes_before}
use Rattle.rio_dir.proofs.TableOrder.{before_itself, before_trans}
use Rattle.rio_state.specs.{DirectoryKeys.{AreKeysOf}, KeyedRecords.{KeyedRecord}}
use Rattle.rio_state.proofs.Members.{In, contains_in, in_contained}

-- the one comes before the other
abbrev Before : KeyHead → KeyHead → Type 0
Before h k = comes_before h.name h.cycle k.name k.cycle ≡ true

not_itself : (h : KeyHead) → Before h h → ⊥
not_itself h e = let none = before_itself h.name h.cycle in cc

behind_in : (h k : KeyHead) (ks : List KeyHead) → AreBehind h.name h.cycle ks → In k ks → Before h k
behind_in h k [] behind i = absurd i
behind_in h k (x ∷ ks) behind (inl e) = subst (Before h) e behind.0
behind_in h k (x ∷ ks) behind (inr i) = behind_in h k ks behind.1 i

module _ (h k : KeyHead) (hs ks : List KeyHead) (one : AreOrdered (h ∷ hs)) (other : AreOrdered (k ∷ ks)) where
  same_first : In h (k ∷ ks) → In k (h ∷ hs) → h ≡ k
  same_first (inl e) j = sym e
  same_first (inr i) (inl e) = e
  same_first (inr i) (inr j) =
      absurd (not_itself h (before_trans h.name h.cycle k.name k.cycle h.name h.cycle (behind_in h k hs one.0 j) (behind_in k h ks other.0 i)))

  later : h ≡ k → (x : KeyHead) → In x hs → In x (k ∷ ks) → In x ks
  later same x i (inl e) = absurd (not_itself h (subst (Before h) (sym e ∙ sym same) (behind_in h x hs one.0 i)))
  later same x i (inr j) = j

ordered_one : (hs ks : List KeyHead) → AreOrdered hs → AreOrdered ks → ((x : KeyHead) → In x hs → In x ks) → ((x : KeyHead) → In x ks → In x hs) → hs ≡ ks
ordered_one [] [] one other there back = refl
ordered_one [] (k ∷ ks) one other there back = absurd (back k (inl refl))
ordered_one (h ∷ hs) [] one other there back = absurd (there h (inl refl))
ordered_one (h ∷ hs) (k ∷ ks) one other there back =
    let same : h ≡ k = same_first h k hs ks one other (there h (inl refl)) (back k (inl refl)) in
    let rest : hs ≡ ks = ordered_one hs ks one.1 other.1 (λ x i. later h k hs ks one other same x i (there x (inr i))) (λ x i. later k h ks hs other one (sym same) x i (back x (inr i))) in
    λ i. same i ∷ rest i

-- a file's records have one list of keys
pub keys_one : (records : List KeyedRecord) (hs ks : List KeyHead) → AreKeysOf records hs → AreKeysOf records ks → hs ≡ ks
keys_one records hs ks one other =
    ordered_one hs ks one.ordered other.ordered
    (λ x i. in_contained x ks ((other.each x).1 ((one.each x).0 (contains_in x hs i))))
    (λ x i. in_contained x hs ((one.each x).1 ((other.each x).0 (contains_in x ks i))))
