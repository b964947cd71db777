-- The members and bases that are printed are read again.
use Rattle.std.proofs.Common.{◌≡◌, ◌⊎◌, inl, inr, ℕ, ◌+◌, List, ◌∷◌, ◌++◌, codes, length, true, false, ◌&&◌, not, Ok, refl, ◌∙◌, ap, arith, append_assoc, length-append}
use Rattle.rio_num.specs.{At.{At}, Word.{is_name_text}}
use Rattle.rio_format.specs.{declared.class.Base.{Base}, declared.class.Member.{Member}, declared.kind.Kind.{Kind}, Bodies.{member}}
use Rattle.rio_token.specs.{declared.token.Token.{Token, TheVariants.{Mark}}, Tokens.{next_at, scan_of}}
use Rattle.rio_token.specs.Reading.{is_mark, is_word, mark_at, marked, word_that_at}
use Rattle.rio_token.proofs.{SeparatedLaws.{Ends, IsBack}, StandLaws.{at, blank_alike, name_is_word, word_that_back}}
use Rattle.rio_model.specs.{ClassGrammar.{base, base_at, has_base_named, has_member, kind_at, member_at}, ClassText.{base_text, kind_text, member_text}}
use Rattle.rio_model.proofs.{ReadAlike.{word_that_alike}, ReadKinds.{IsEnd, is_read_kind, kind_back}, ReadWords.{name_as_it_is}}

-- ---- one member

kind_behind_blank : (before : List Member) (p : ℕ) (xs : List ℕ) → kind_at before (at p (32 ∷ xs)) ≡ kind_at before (at (p + 1) xs)
unfolding kind_at
kind_behind_blank before p xs = rw (word_that_alike (at p (32 ∷ xs)) (at (p + 1) xs) (blank_alike p xs) is_name_text) refl

pub member_behind_blank : (before : List Member) (p : ℕ) (xs : List ℕ) → member_at before (at p (32 ∷ xs)) ≡ member_at before (at (p + 1) xs)
unfolding member_at
member_behind_blank before p xs = rw (word_that_alike (at p (32 ∷ xs)) (at (p + 1) xs) (blank_alike p xs) (λ word. is_name_text word && not (has_member before word))) refl

pub base_behind_blank : (before : List Base) (p : ℕ) (xs : List ℕ) → base_at before (at p (32 ∷ xs)) ≡ base_at before (at (p + 1) xs)
unfolding base_at
base_behind_blank before p xs = rw (word_that_alike (at p (32 ∷ xs)) (at (p + 1) xs) (blank_alike p xs) (λ word. is_name_text word && not (has_base_named before word))) refl

colon_back : (p : ℕ) (xs : List ℕ) → mark_at 58 (at p (58 ∷ xs)) ≡ Ok (tt, at (p + 1) xs)
unfolding mark_at scan_of
colon_back p xs = refl

pub member_back : (before : List Member) (name : List ℕ) (kind : Kind) → is_name_text name ≡ true → has_member before name ≡ false → is_read_kind before kind ≡ true → IsBack 125 member_at member_text IsEnd before (member name kind)
unfolding member_at
member_back before name kind named new readable p q rest f e =
    let k = kind_text kind in
    let plain = name_as_it_is name named in
    let text : member_text (member name kind) ++ rest ≡ name ++ (58 ∷ 32 ∷ (k ++ rest)) = rw plain (simp append_assoc) in
    let size : length (member_text (member name kind)) ≡ length ((name ++ codes ": ") ++ k) = rw plain refl in
    let name_end = p + length name in
    let place : q ≡ name_end + 1 + 1 + length k = omega (arith, e, size, length-append (name ++ codes ": ") k, length-append name (codes ": ")) in
    let test : (is_name_text name && not (has_member before name)) ≡ true = rw (named, new) refl in
    let word = word_that_back p name_end name (58 ∷ 32 ∷ (k ++ rest)) (name_is_word name named) refl refl (λ word. is_name_text word && not (has_member before word)) test in
    let kinds : kind_at before (at (name_end + 1) (32 ∷ (k ++ rest))) ≡ Ok (kind, at q rest) = kind_behind_blank before (name_end + 1) (k ++ rest) ∙ kind_back before kind readable (name_end + 1 + 1) q rest f place in
    rw (text, word, colon_back name_end (32 ∷ (k ++ rest)), kinds) refl

pub base_back : (before : List Base) (name : List ℕ) → is_name_text name ≡ true → has_base_named before name ≡ false → IsBack 123 base_at base_text IsEnd before (base name)
unfolding base_at
base_back before name named new p q rest f e =
    let plain = name_as_it_is name named in
    let place : q ≡ p + length name = e ∙ ap (λ (t : List ℕ). p + length t) plain in
    let test : (is_name_text name && not (has_base_named before name)) ≡ true = rw (named, new) refl in
    let word = word_that_back p q name rest (name_is_word name named) f.stops place (λ word. is_name_text word && not (has_base_named before word)) test in
    rw (plain, word) refl

-- ---- what ends their lists

word_or_no_brace : (mark : ℕ) (token : Token) → (is_mark mark token ≡ false) ⊎ (is_word token ≡ false)
word_or_no_brace mark (Mark b) = inr refl
word_or_no_brace mark other = inl refl

member_wants_word : (before : List Member) (s : At) (x : Member × At) → is_word (next_at s).token ≡ false → member_at before s ≡ Ok x → marked 125 s ≡ false
unfolding member_at word_that_at
member_wants_word before s x none h = absurd (let bad = rw none at h in cc)

member_begins : (before : List Member) (s : At) (x : Member × At) → member_at before s ≡ Ok x → marked 125 s ≡ false
member_begins before s x h = elim (word_or_no_brace 125 (next_at s).token) [ inl free ↦ free | inr none ↦ member_wants_word before s x none h ]

base_wants_word : (before : List Base) (s : At) (x : Base × At) → is_word (next_at s).token ≡ false → base_at before s ≡ Ok x → marked 123 s ≡ false
unfolding base_at word_that_at
base_wants_word before s x none h = absurd (let bad = rw none at h in cc)

base_begins : (before : List Base) (s : At) (x : Base × At) → base_at before s ≡ Ok x → marked 123 s ≡ false
base_begins before s x h = elim (word_or_no_brace 123 (next_at s).token) [ inl free ↦ free | inr none ↦ base_wants_word before s x none h ]

pub member_ends : (rest : List ℕ) → Ends 125 member_at member_text IsEnd (32 ∷ 125 ∷ rest) 2 rest
unfolding scan_of
member_ends rest = record {
  comma = λ xs. record { stops = refl; no_star = λ p. refl; no_bracket = λ p. refl };
  last = record { stops = refl; no_star = λ p. refl; no_bracket = λ p. refl };
  closes = λ p. refl;
  passes = λ p. refl;
  some = omega arith;
  goes = λ p xs. refl;
  blank = λ front p xs. member_behind_blank front p xs;
  begins = λ front s x h. member_begins front s x h;
}

pub base_ends : (rest : List ℕ) → Ends 123 base_at base_text IsEnd (32 ∷ 123 ∷ rest) 2 rest
unfolding scan_of
base_ends rest = record {
  comma = λ xs. record { stops = refl; no_star = λ p. refl; no_bracket = λ p. refl };
  last = record { stops = refl; no_star = λ p. refl; no_bracket = λ p. refl };
  closes = λ p. refl;
  passes = λ p. refl;
  some = omega arith;
  goes = λ p xs. refl;
  blank = λ front p xs. base_behind_blank front p xs;
  begins = λ front s x h. base_begins front s x h;
}
