-- A file has one list of segments or one first break, and never both.
use Rattle.std.proofs.Common.{◌≡◌, ℕ, ◌+◌, ◌-◌, ◌^◌, List, [], ◌∷◌, length, refl, sym, ap, subst, ◌∙◌, arith}
use Rattle.rio_chain.specs.Segments.{Link, RecordAt, GapAt, link_length, end_from, chain_end, HoldsRecord, HoldsGap, HoldsLink, HoldsLinks, HoldsEnd, IsChain, BreaksAt}
use Rattle.rio_chain.proofs.Words.{has_same, word_one, held_word, held_positive}

-- a record's word is no gap's
not_both : (file : List ℕ) (place : ℕ) (bytes : List ℕ) (n : ℕ) → HoldsRecord file place bytes → HoldsGap file place n → ⊥
not_both file place bytes n r g =
    let e = word_one file place (length bytes) (2 ^ 32 - n) (held_word file place bytes r) g.word in
    let p = held_positive file place bytes r in omega (arith, e, p.1, g.small, g.some)

pub link_one : (file : List ℕ) (place : ℕ) (a b : Link) → HoldsLink file place a → HoldsLink file place b → a ≡ b
link_one file place (RecordAt p xs) (RecordAt q ys) a b =
    let e = word_one file place (length xs) (length ys) (held_word file place xs a.1) (held_word file place ys b.1) in
    let same = has_same file place xs ys e a.1.there b.1.there in
    λ i. RecordAt ((a.0 ∙ sym b.0) i) (same i)
link_one file place (RecordAt p xs) (GapAt q n) a b = absurd (not_both file place xs n a.1 b.1)
link_one file place (GapAt p n) (RecordAt q ys) a b = absurd (not_both file place ys n b.1 a.1)
link_one file place (GapAt p m) (GapAt q n) a b =
    let e = word_one file place (2 ^ 32 - m) (2 ^ 32 - n) a.1.word b.1.word in
    let same : m ≡ n = omega (arith, e, a.1.small, b.1.small) in
    λ i. GapAt ((a.0 ∙ sym b.0) i) (same i)

pub not_end : (file : List ℕ) (place : ℕ) (a : Link) → HoldsLink file place a → ¬ HoldsEnd file place
not_end file place (RecordAt p xs) a e =
    let z = word_one file place (length xs) 0 (held_word file place xs a.1) e.zero_word in
    let p = held_positive file place xs a.1 in omega (arith, z, p.0)
not_end file place (GapAt p n) a e = let z = word_one file place (2 ^ 32 - n) 0 a.1.word e.zero_word in omega (arith, z, a.1.some, a.1.small)

-- neither a segment nor END
abbrev pub IsStuck : List ℕ → ℕ → Type 0
IsStuck file place = ((link : Link) → ¬ HoldsLink file place link) × (¬ HoldsEnd file place)

module _ (file : List ℕ) where
  pub links_one : (xs ys : List Link) (place : ℕ) → HoldsLinks file place xs → HoldsEnd file (end_from place xs) → HoldsLinks file place ys → HoldsEnd file (end_from place ys) → xs ≡ ys
  links_one [] [] place a ea b eb = refl
  links_one [] (y ∷ ys) place a ea b eb = absurd (not_end file place y b.0 ea)
  links_one (x ∷ xs) [] place a ea b eb = absurd (not_end file place x a.0 eb)
  links_one (x ∷ xs) (y ∷ ys) place a ea b eb =
      let same = link_one file place x y a.0 b.0 in
      let next : HoldsLinks file (place + link_length x) ys = subst (λ (l : Link). HoldsLinks file (place + link_length l) ys) (sym same) b.1 in
      let end : HoldsEnd file (end_from (place + link_length x) ys) = subst (λ (l : Link). HoldsEnd file (end_from (place + link_length l) ys)) (sym same) eb in
      let rest = links_one xs ys (place + link_length x) a.1 ea next end in
      λ i. same i ∷ rest i

  -- segments up to END don't get stuck
  links_end : (xs ys : List Link) (place : ℕ) → HoldsLinks file place xs → HoldsEnd file (end_from place xs) → HoldsLinks file place ys → IsStuck file (end_from place ys) → ⊥
  links_end [] [] place a ea b stuck = stuck.1 ea
  links_end [] (y ∷ ys) place a ea b stuck = not_end file place y b.0 ea
  links_end (x ∷ xs) [] place a ea b stuck = stuck.0 x a.0
  links_end (x ∷ xs) (y ∷ ys) place a ea b stuck =
      let same = link_one file place x y a.0 b.0 in
      links_end xs ys (place + link_length x) a.1 ea
      (subst (λ (l : Link). HoldsLinks file (place + link_length l) ys) (sym same) b.1)
      (subst (λ (l : Link). IsStuck file (end_from (place + link_length l) ys)) (sym same) stuck)

  -- segments get stuck at one place
  links_stuck : (xs ys : List Link) (place : ℕ) → HoldsLinks file place xs → IsStuck file (end_from place xs) → HoldsLinks file place ys → IsStuck file (end_from place ys) → end_from place xs ≡ end_from place ys
  links_stuck [] [] place a sa b sb = refl
  links_stuck [] (y ∷ ys) place a sa b sb = absurd (sa.0 y b.0)
  links_stuck (x ∷ xs) [] place a sa b sb = absurd (sb.0 x a.0)
  links_stuck (x ∷ xs) (y ∷ ys) place a sa b sb =
      let same = link_one file place x y a.0 b.0 in
      let rest = links_stuck xs ys (place + link_length x) a.1 sa
      (subst (λ (l : Link). HoldsLinks file (place + link_length l) ys) (sym same) b.1)
      (subst (λ (l : Link). IsStuck file (end_from (place + link_length l) ys)) (sym same) sb) in
      rest ∙ ap (λ (l : Link). end_from (place + link_length l) ys) same

  pub chain_one : (xs ys : List Link) → IsChain xs file → IsChain ys file → xs ≡ ys
  chain_one xs ys a b = links_one xs ys 100 a.links_are a.ends b.links_are b.ends

  stuck_of : (place : ℕ) (b : BreaksAt place file) → IsStuck file (chain_end b.before)
  stuck_of place b = subst (IsStuck file) b.reached (b.no_link, b.no_end)

  pub break_one : (p q : ℕ) → BreaksAt p file → BreaksAt q file → p ≡ q
  break_one p q a b = a.reached ∙ links_stuck a.before b.before 100 a.links_are (stuck_of p a) b.links_are (stuck_of q b) ∙ sym b.reached

  pub never_both : (links : List Link) (place : ℕ) → IsChain links file → BreaksAt place file → ⊥
  never_both links place a b = links_end links b.before 100 a.links_are a.ends b.links_are (stuck_of place b)
