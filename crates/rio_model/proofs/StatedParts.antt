-- What is read of members and bases, and of lists of them.
use Rattle.std.proofs.Common.{◌≡◌, inl, inr, ℕ, zero, suc, List, [], ◌∷◌, ◌++◌, length, true, false, ◌&&◌, not, Ok, refl, sym, ap, subst, append_assoc}
use Rattle.std.proofs.{lemmas.Bool.{and_parts, not-true}, lemmas.List.{append-nil}}
use Rattle.rio_num.specs.{At.{At}, Reading.{◌>>=◌}, Word.{is_name_text}}
use Rattle.rio_num.proofs.ReadLaws.{bind_ok, chosen, ok_is}
use Rattle.rio_format.specs.{declared.class.Base.{Base}, declared.class.Member.{Member}, Bodies.{member}}
use Rattle.rio_token.specs.{Tokens.{behind}, Reading.{Read, list_at, mark_at, marked, more_at, some_at, word_that_at}}
use Rattle.rio_model.specs.ClassGrammar.{base, base_at, bases_at, has_base_named, has_member, kind_at, member_at}
use Rattle.rio_model.proofs.StatedKinds.{is_raw_kind, kind_ok, word_that_ok}

-- ---- lists

-- each item keeps to what is said of it and of those before it
abbrev pub AllKeep : {A : Type 0} → (List A → A → Type 0) → List A → List A → Type 0
AllKeep P before [] = Unit {0}
AllKeep P before (x ∷ xs) = P before x × AllKeep P (before ++ x ∷ []) xs

keeps_last : {A : Type 0} (P : List A → A → Type 0) (before xs : List A) (x : A) → AllKeep P before xs → P (before ++ xs) x → AllKeep P before (xs ++ x ∷ [])
keeps_last {A} P before [] x all h = (subst (λ (l : List A). P l x) (append-nil before) h, tt)
keeps_last {A} P before (y ∷ ys) x all h = (all.0, keeps_last P (before ++ y ∷ []) ys x all.1 (subst (λ (l : List A). P l x) (sym (append_assoc before (y ∷ []) ys)) h))

module _ {A : Type 0} (close : ℕ) (item : List A → At → Read A) (P : List A → A → Type 0) (each : (before : List A) (s : At) (y : A × At) → item before s ≡ Ok y → P before y.0) where
  more_keeps : (left : ℕ) (xs : List A) (s : At) (y : List A × At) → AllKeep P [] xs → more_at left close item xs s ≡ Ok y → AllKeep P [] y.0
  unfolding more_at
  more_keeps zero xs s y all h = absurd (cc)
  more_keeps (suc left) xs s y all h =
      let goes_on = mark_at 44 s >>= λ comma. item xs comma.1 >>= λ next. more_at left close item (xs ++ next.0 ∷ []) next.1 in
      elim (chosen (marked close s) (Ok (xs, behind s)) goes_on (Ok y) h) [
        | inl p ↦ subst (λ (l : List A). AllKeep P [] l) (ap (λ (q : List A × At). q.0) (ok_is (xs, behind s) y p.1)) all
        | inr p ↦
            let a = bind_ok (mark_at 44 s) (λ comma. item xs comma.1 >>= λ next. more_at left close item (xs ++ next.0 ∷ []) next.1) y p.1 in
            let b = bind_ok (item xs a.0.1) (λ next. more_at left close item (xs ++ next.0 ∷ []) next.1) y a.2 in
            more_keeps left (xs ++ b.0.0 ∷ []) b.0.1 y (keeps_last P [] xs b.0.0 all (each xs a.0.1 b.0 b.1)) b.2
      ]

  some_keeps : (s : At) (y : List A × At) → some_at close item s ≡ Ok y → AllKeep P [] y.0
  unfolding some_at
  some_keeps s y h =
      let a = bind_ok (item [] s) (λ first. more_at (length first.1.rest) close item (first.0 ∷ []) first.1) y h in
      more_keeps (length a.0.1.rest) (a.0.0 ∷ []) a.0.1 y (each [] s a.0 a.1, tt) a.2

  list_keeps : (s : At) (y : List A × At) → list_at close item s ≡ Ok y → AllKeep P [] y.0
  unfolding list_at
  list_keeps s y h =
      elim (chosen (marked close s) (Ok ([], behind s)) (some_at close item s) (Ok y) h) [
        | inl p ↦ subst (λ (l : List A). AllKeep P [] l) (ap (λ (q : List A × At). q.0) (ok_is ([], behind s) y p.1)) tt
        | inr p ↦ some_keeps s y p.1
      ]

-- ---- members

-- a member as it is read
pub record RawMember (before : List Member) (m : Member) : Type 0 where
  pub named : is_name_text m.name ≡ true
  pub new : has_member before m.name ≡ false
  pub raw : is_raw_kind before m.kind ≡ true
  pub untitled : m.title ≡ []

member_ok : (before : List Member) (s : At) (y : Member × At) → member_at before s ≡ Ok y → RawMember before y.0
unfolding member_at
member_ok before s y h =
    let a = bind_ok (word_that_at (λ word. is_name_text word && not (has_member before word)) s) (λ name. mark_at 58 name.1 >>= λ colon. kind_at before colon.1 >>= λ kind. Ok (member name.0 kind.0, kind.1)) y h in
    let b = bind_ok (mark_at 58 a.0.1) (λ colon. kind_at before colon.1 >>= λ kind. Ok (member a.0.0 kind.0, kind.1)) y a.2 in
    let c = bind_ok (kind_at before b.0.1) (λ kind. Ok (member a.0.0 kind.0, kind.1)) y b.2 in
    let parts = and_parts (is_name_text a.0.0) (not (has_member before a.0.0)) (word_that_ok (λ word. is_name_text word && not (has_member before word)) s a.0 a.1) in
    let same : member a.0.0 c.0.0 ≡ y.0 = ap (λ (q : Member × At). q.0) (ok_is (member a.0.0 c.0.0, c.0.1) y c.2) in
    let raw : RawMember before (member a.0.0 c.0.0) = record { named = parts.0; new = not-true (has_member before a.0.0) parts.1; raw = kind_ok before b.0.1 c.0 c.1; untitled = refl } in
    subst (λ (m : Member). RawMember before m) same raw

pub members_ok : (s : At) (y : List Member × At) → list_at 125 member_at s ≡ Ok y → AllKeep RawMember [] y.0
members_ok s y h = list_keeps 125 member_at RawMember member_ok s y h

-- ---- bases

-- a base as it is read
pub record RawBase (before : List Base) (b : Base) : Type 0 where
  pub named : is_name_text b.name ≡ true
  pub new : has_base_named before b.name ≡ false
  pub plain : base b.name ≡ b

base_ok : (before : List Base) (s : At) (y : Base × At) → base_at before s ≡ Ok y → RawBase before y.0
unfolding base_at
base_ok before s y h =
    let a = bind_ok (word_that_at (λ word. is_name_text word && not (has_base_named before word)) s) (λ name. Ok (base name.0, name.1)) y h in
    let parts = and_parts (is_name_text a.0.0) (not (has_base_named before a.0.0)) (word_that_ok (λ word. is_name_text word && not (has_base_named before word)) s a.0 a.1) in
    let same : base a.0.0 ≡ y.0 = ap (λ (q : Base × At). q.0) (ok_is (base a.0.0, a.0.1) y a.2) in
    let raw : RawBase before (base a.0.0) = record { named = parts.0; new = not-true (has_base_named before a.0.0) parts.1; plain = refl } in
    subst (λ (b : Base). RawBase before b) same raw

pub bases_ok : (s : At) (y : List Base × At) → bases_at s ≡ Ok y → AllKeep RawBase [] y.0
unfolding bases_at
bases_ok s y h =
    elim (chosen (marked 58 s) (some_at 123 base_at (behind s)) (mark_at 123 s >>= λ opening. Ok ([], opening.1)) (Ok y) h) [
      | inl p ↦ some_keeps 123 base_at RawBase base_ok (behind s) y p.1
      | inr p ↦
          let a = bind_ok (mark_at 123 s) (λ opening. Ok ([], opening.1)) y p.1 in
          subst (λ (l : List Base). AllKeep RawBase [] l) (ap (λ (q : List Base × At). q.0) (ok_is ([], a.0.1) y a.2)) tt
    ]
