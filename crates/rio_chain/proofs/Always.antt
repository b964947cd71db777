-- A file of bytes has its segments, or a place where they break.
use Rattle.std.proofs.Common.{◌≡◌, ◌≢◌, ◌⊎◌, inl, inr, ℕ, zero, suc, ◌+◌, ◌-◌, ◌%◌, ◌^◌, ◌<◌, ◌≤◌, pos, Bool, true, false, List, [], ◌∷◌, ◌++◌, length, length-take, length-drop, take, drop, codes, Option, Some, None, Result, Ok, Err, refl, sym, ap, subst, ◌∙◌, arith}
use Rattle.std.proofs.{lemmas.Bool.{cases_lt}, lemmas.Option.{none-some, same_Some}}
use Rattle.std.specs.{Prelude.{MatchBool}, Cmp.Lexicographic.{told_text}}
use Rattle.byteorder.specs.{Endian.{big_number}, Numbers.{big_from-lt}}
use Rattle.rio_num.specs.{At.{At, AreBytes}, Meanings.{Reading, Standing}, declared.cursor.Short.{Short}, Plain.{IsSpelledIn, plain}}
use Rattle.rio_num.proofs.{ReadLaws.{IsBytes, IsBytes-drop, IsBytes-take, ok_is}, Plain.{standing}, Cases.{pos_same}}
use Rattle.rio_key.specs.{Key.{SpellsKey, key_head_at}, declared.head.KeyHead.{KeyHead}, declared.fault.KeyFault.{KeyFault}}
use Rattle.rio_key.proofs.{KeyAgain.{key_again}, KeyParts.{parts_of_key}, KeyRead.{is_found}}
use Rattle.rio_chain.specs.Segments.{Link, RecordAt, GapAt, link_length, chain_end, texts_end_at, BreaksAt, HasWord, HoldsEnd, HoldsLink, HoldsLinks, IsChain, IsFirst, IsPositive, IsRecord}
use Rattle.rio_chain.specs.Found.{FindsKey, segment_length_of}
use Rattle.rio_chain.proofs.Words.{has_own, has_same, held_long, held_positive, held_word, word_one, word_some, word_within}
use Rattle.rio_chain.proofs.{Links.{IsBadLength, bad_length, large_length, no_first_gap, small_length}, Chains.{end-append}, SoFar.{links-append}}
use Rattle.rio_chain.proofs.OneChain.{IsStuck}

-- it holds, or it doesn't
abbrev Either : Type 0 → Type 0
Either P = P ⊎ (¬ P)

same_or_not : (m n : ℕ) → Either (m ≡ n)
same_or_not m n = elim (cases_lt m n) [ inl lt ↦ inr (λ e. omega (arith, e, lt)) | inr le ↦ elim (cases_lt n m) [ inl lt ↦ inr (λ e. omega (arith, e, lt)) | inr ge ↦ inl (omega (arith, le, ge)) ] ]

low_or_not : (m n : ℕ) → Either (m ≤ n)
low_or_not m n = elim (cases_lt n m) [ inl lt ↦ inr (λ le. omega (arith, le, lt)) | inr le ↦ inl le ]

text_or_not : (xs ys : List ℕ) → Either (xs ≡ ys)
text_or_not xs ys = by _ (told_text xs ys _ refl)
  where
    by : (r : Bool) → MatchBool r (xs ≡ ys) (xs ≢ ys) → Either (xs ≡ ys)
    by true is = inl is
    by false no' = inr no'

both : {P Q : Type 0} → Either P → Either Q → Either (P × Q)
both (inl p) (inl q) = inl (p, q)
both (inl p) (inr q) = inr (λ r. q r.1)
both (inr p) q = inr (λ r. p r.0)

-- ---- a key

abbrev some_head : KeyHead → Option KeyHead
some_head h = Some h

pub key_or_none : (bytes : List ℕ) → IsBytes bytes → (found : Option KeyHead) × FindsKey bytes found
key_or_none bytes fits = by (key_head_at (standing 0 bytes)) refl
  where
    again : (h : KeyHead) (s : IsSpelledIn (SpellsKey h) bytes) → key_head_at (standing 0 bytes) ≡ Ok (h, plain (standing (0 + length s.0) s.1))
    again h s = ap (λ (b : List ℕ). key_head_at (standing 0 b)) s.2 ∙ key_again h s.0 0 s.1 s.3

    by : (r : Reading (Unit {0}) KeyFault KeyHead) → key_head_at (standing 0 bytes) ≡ r → (found : Option KeyHead) × FindsKey bytes found
    by (Ok x) is = (
      Some x.0,
      record {
        found_is = is_found (standing 0 bytes) x.1.at (Ok x.0) fits is;
        only = λ h s. ap (λ (y : KeyHead × Standing (Unit {0})). some_head y.0) (ok_is {E = KeyFault} x (h, plain (standing (0 + length s.0) s.1)) (sym is ∙ again h s));
      },
    )
    by (Err e) is = (None, record { found_is = tt; only = λ h s. absurd (let clash = sym is ∙ again h s in cc) })

-- ---- a record

-- what a record asks of its key
abbrev IsRecordOf : KeyHead → ℕ → List ℕ → Type 0
IsRecordOf h place bytes = (h.version ≤ 1000) × ((h.seek ≡ place) × ((h.nbytes ≡ pos (length bytes)) × ((h.keylen + h.objlen ≡ length bytes) × (length bytes % 4 ≡ 0))))

record_or_not : (place : ℕ) (bytes : List ℕ) → IsBytes bytes → Either (IsRecord place bytes)
record_or_not place bytes fits = by (key_or_none bytes fits).0 (key_or_none bytes fits).1
  where
    by : (found : Option KeyHead) → FindsKey bytes found → Either (IsRecord place bytes)
    by None f = inr (λ r. none-some r.head (f.only r.head r.key))
    by (Some h) f =
        let key = f.found_is in
        let parts = parts_of_key h key.0 key.3 in
        let nbytes : h.nbytes ≡ pos parts.fields.nbytes = parts.length_is in
        let tests = both (low_or_not h.version 1000) (both (same_or_not h.seek place) (both (same_or_not parts.fields.nbytes (length bytes)) (both (same_or_not (h.keylen + h.objlen) (length bytes)) (same_or_not (length bytes % 4) 0)))) in
        elim tests [
          | inl t ↦ inl (record { head = h; key = key; small = t.0; seek = t.1.0; nbytes = nbytes ∙ ap (λ (k : ℕ). pos k) t.1.1.0; parts = t.1.1.1.0; aligned = t.1.1.1.1 })
          | inr t ↦ inr (λ r.
              let same = same_Some h r.head (f.only r.head r.key) in
              let as_h : IsRecordOf h place bytes = subst (λ (k : KeyHead). IsRecordOf k place bytes) (sym same) (r.small, (r.seek, (r.nbytes, (r.parts, r.aligned)))) in
              t (as_h.0, (as_h.1.0, (pos_same parts.fields.nbytes (length bytes) (sym nbytes ∙ as_h.1.1.0), (as_h.1.1.1.0, as_h.1.1.1.1)))))
        ]

-- ---- a first record

word_or_not : (file : List ℕ) (place n : ℕ) → Either (HasWord file place n)
word_or_not file place n = elim (cases_lt (length file) (place + 4)) [
  | inl short ↦ inr (λ w. let le = word_within file place n w in omega (arith, le, short))
  | inr within ↦
      let w = word_some file place within in
      elim (same_or_not (big_number 4 (take 4 (drop place file))) n) [
        | inl is ↦ inl (subst (HasWord file place) is w)
        | inr other ↦ inr (λ v. other (word_one file place _ n w v))
      ]
]

first_or_not : (file bytes : List ℕ) → IsBytes bytes → Either (IsFirst file bytes)
first_or_not file bytes fits = by (key_or_none bytes fits).0 (key_or_none bytes fits).1
  where
    by : (found : Option KeyHead) → FindsKey bytes found → Either (IsFirst file bytes)
    by None f = inr (λ r. none-some r.head (f.only r.head r.key))
    by (Some h) f = at (texts_end_at h.keylen bytes) refl
      where
        at : (r : Result At Short) → texts_end_at h.keylen bytes ≡ r → Either (IsFirst file bytes)
        at (Err e) is = inr (λ r.
            let same = same_Some h r.head (f.only r.head r.key) in
            let texts = ap (λ (k : KeyHead). texts_end_at k.keylen bytes) same ∙ r.texts in
            let clash = sym is ∙ texts in cc)
        at (Ok d) is =
            elim (both (text_or_not h.class (codes "TFile")) (both (low_or_not 60 (length d.rest)) (both (low_or_not (big_number 2 d.rest) 1000) (word_or_not file 28 d.place)))) [
              | inl t ↦ inl (record { head = h; key = f.found_is; class = t.0; directory = d; texts = is; room = t.1.0; small = t.1.1.0; nbytes_name = t.1.1.1 })
              | inr t ↦ inr (λ r.
                  let same = same_Some h r.head (f.only r.head r.key) in
                  let texts = ap (λ (k : KeyHead). texts_end_at k.keylen bytes) same ∙ r.texts in
                  let there : d ≡ r.directory = ok_is {E = Short} d r.directory (sym is ∙ texts) in
                  t (ap (λ (k : KeyHead). k.class) same ∙ r.class, (omega (arith, r.room, ap (λ (s : At). length s.rest) there), (omega (arith, r.small, ap (λ (s : At). big_number 2 s.rest) there), subst (λ (s : At). HasWord file 28 s.place) (sym there) r.nbytes_name))))
            ]

-- ---- a place

abbrev Next : List ℕ → ℕ → Type 0
Next file place = ((link : Link) × HoldsLink file place link) ⊎ (HoldsEnd file place ⊎ IsStuck file place)

module _ (file : List ℕ) (fits : IsBytes file) (place : ℕ) (low : 100 ≤ place) where
  -- no word stands there
  no_word : length file < place + 4 → IsStuck file place
  no_word short = (no_link, λ e. let le = word_within file place 0 e.zero_word in omega (arith, le, short))
    where
      no_link : (link : Link) → ¬ HoldsLink file place link
      no_link (RecordAt p bytes) h = let le = word_within file place (length bytes) (held_word file place bytes h.1) in omega (arith, le, short)
      no_link (GapAt p n) h = let le = word_within file place (2 ^ 32 - n) h.1.word in omega (arith, le, short)

  module _ (word : ℕ) (has : HasWord file place word) where
    stuck : word ≢ 0 → ((link : Link) → ¬ HoldsLink file place link) → IsStuck file place
    stuck some none = (none, λ e. some (word_one file place word 0 has e.zero_word))

    -- a record, or none
    at_record : 0 < word → word < 2 ^ 31 → place + word ≤ length file → Next file place
    at_record some small within =
        let bytes = take word (drop place file) in
        let long : length bytes ≡ word = omega (arith, within, length-take word (drop place file), length-drop place file) in
        let fit = IsBytes-take word (drop place file) (IsBytes-drop place file fits) in
        let there = has_own file place word in
        let first : Either (place ≡ 100 → IsFirst file bytes) = elim (same_or_not place 100) [
          | inr later ↦ inl (λ is. absurd (later is))
          | inl is ↦ elim (first_or_not file bytes fit) [ inl f ↦ inl (λ e. f) | inr none ↦ inr (λ f. none (f is)) ]
        ] in
        elim (both (record_or_not place bytes fit) first) [
          | inl t ↦ inl (RecordAt place bytes, (refl, record { there = there; whole = t.0; first = t.1 }))
          | inr t ↦ inr (inr (stuck (λ e. omega (arith, e, some)) (no_link t)))
        ]
      where
        no_link : ¬ (IsRecord place (take word (drop place file)) × (place ≡ 100 → IsFirst file (take word (drop place file)))) → (link : Link) → ¬ HoldsLink file place link
        no_link none (RecordAt p others) h =
            let size = word_one file place (length others) word (held_word file place others h.1) has in
            let same : others ≡ take word (drop place file) = has_same file place others (take word (drop place file)) (omega (arith, size, within, length-take word (drop place file), length-drop place file)) h.1.there (has_own file place word) in
            none (subst (λ (b : List ℕ). IsRecord place b × (place ≡ 100 → IsFirst file b)) same (h.1.whole, h.1.first))
        no_link none (GapAt p n) h = let same = word_one file place (2 ^ 32 - n) word h.1.word has in omega (arith, same, small, h.1.small, h.1.some)

    -- a gap, or none
    at_gap : 2 ^ 31 ≤ word → word < 2 ^ 32 → 100 < place → 4 ≤ 2 ^ 32 - word → (2 ^ 32 - word) % 4 ≡ 0 → place + (2 ^ 32 - word) ≤ length file → Next file place
    at_gap large under later some aligned within =
        elim (alone_or_not (place + (2 ^ 32 - word))) [
          | inl alone ↦ inl (
            GapAt place (2 ^ 32 - word),
            (
              refl,
              record {
                later = later;
                word = subst (HasWord file place) (let e : word ≡ 2 ^ 32 - (2 ^ 32 - word) = omega (arith, under) in e) has;
                some = some;
                small = omega (arith, large);
                aligned = aligned;
                within = within;
                alone = alone;
              },
            ),
          )
          | inr beside ↦ inr (inr (stuck (λ e. omega (arith, e, large)) (no_link beside)))
        ]
      where
        alone_or_not : (p : ℕ) → Either ((w : ℕ) → HasWord file p w → IsPositive w)
        alone_or_not p = elim (cases_lt (length file) (p + 4)) [
          | inl short ↦ inl (λ w h. absurd (let le = word_within file p w h in omega (arith, le, short)))
          | inr le ↦
              let w = word_some file p le in
              let n = big_number 4 (take 4 (drop p file)) in
              elim (both (low_or_not 1 n) (low_or_not (n + 1) 2147483648)) [
                | inl t ↦ inl (λ v h. let same = word_one file p v n h w in (omega (arith, same, t.0), omega (arith, same, t.1)))
                | inr t ↦ inr (λ alone. let p = alone n w in t (omega (arith, p.0), omega (arith, p.1)))
              ]
        ]

        no_link : ¬ ((w : ℕ) → HasWord file (place + (2 ^ 32 - word)) w → IsPositive w) → (link : Link) → ¬ HoldsLink file place link
        no_link beside (RecordAt p others) h =
            let size = word_one file place (length others) word (held_word file place others h.1) has in
            let positive = held_positive file place others h.1 in omega (arith, size, positive.1, large)
        no_link beside (GapAt p n) h =
            let same = word_one file place (2 ^ 32 - n) word h.1.word has in
            let size : n ≡ 2 ^ 32 - word = omega (arith, same, h.1.small) in
            beside (subst (λ (k : ℕ). (w : ℕ) → HasWord file (place + k) w → IsPositive w) size h.1.alone)

  -- a length that no segment has
  bad_or_good : (n : ℕ) → IsBadLength file place n ⊎ ((4 ≤ n) × ((n % 4 ≡ 0) × (place + n ≤ length file)))
  bad_or_good n = elim (low_or_not 4 n) [
    | inr small ↦ inl (inl (elim (cases_lt n 4) [ inl lt ↦ lt | inr le ↦ absurd (small le) ]))
    | inl some ↦ elim (same_or_not (n % 4) 0) [
      | inr odd ↦ inl (inr (inl odd))
      | inl aligned ↦ elim (cases_lt (length file) (place + n)) [ inl past ↦ inl (inr (inr past)) | inr within ↦ inr (some, (aligned, within)) ]
    ]
  ]

  by_word : (word : ℕ) → HasWord file place word → word < 2 ^ 32 → Next file place
  by_word word has under = elim (same_or_not word 0) [
    | inl is ↦ elim (cases_lt 100 place) [
      | inl later ↦ inr (inl (record { later = later; zero_word = subst (HasWord file place) is has }))
      | inr first ↦
          let none : segment_length_of word ≡ 0 = small_length word (omega (arith, is)) ∙ is in
          inr (inr (bad_length file place word has (inl (omega (arith, none))), λ e. omega (arith, first, e.later)))
    ]
    | inr some ↦ elim (bad_or_good (segment_length_of word)) [
      | inl bad ↦ inr (inr (stuck word has some (bad_length file place word has bad)))
      | inr good ↦ elim (cases_lt word 2147483648) [
        | inl small ↦ let size = small_length word small in at_record word has (omega (arith, good.0, size)) small (omega (arith, good.1.1, size))
        | inr large ↦
            let size = large_length word large in
            elim (cases_lt 100 place) [
              | inl later ↦ at_gap word has large under later (omega (arith, good.0, size)) (subst (λ (n : ℕ). n % 4 ≡ 0) size good.1.0) (omega (arith, good.1.1, size))
              | inr first ↦
                  let is : place ≡ 100 = omega (arith, first, low) in
                  let none : (link : Link) → ¬ HoldsLink file place link = subst (λ (p : ℕ). (link : Link) → ¬ HoldsLink file p link) (sym is) (no_first_gap file word (subst (λ (p : ℕ). HasWord file p word) is has) large) in
                  inr (inr (stuck word has some none))
            ]
      ]
    ]
  ]

  next_at : Next file place
  next_at = elim (cases_lt (length file) (place + 4)) [
    | inl short ↦ inr (inr (no_word short))
    | inr within ↦
        let bytes = take 4 (drop place file) in
        let under : big_number 4 bytes < 256 ^ 4 = big_from-lt 0 4 bytes (IsBytes-take 4 (drop place file) (IsBytes-drop place file fits)) in
        by_word (big_number 4 bytes) (word_some file place within) (omega (arith, under))
  ]

-- ---- the whole file

abbrev Outcome : List ℕ → Type 0
Outcome file = ((links : List Link) × IsChain links file) ⊎ ((place : ℕ) × BreaksAt place file)

long_link : (file : List ℕ) (place : ℕ) (link : Link) → HoldsLink file place link → 4 ≤ link_length link
long_link file place (RecordAt p bytes) h = held_long file place bytes h.1
long_link file place (GapAt p n) h = h.1.some

walk_on : (file : List ℕ) → IsBytes file → (fuel : ℕ) (links : List Link) (place : ℕ) → 100 ≤ place → HoldsLinks file 100 links → place ≡ chain_end links → length file ≤ place + fuel → Outcome file
walk_on file fits zero links place low stand reached enough =
    let stuck = no_word file fits place low (omega (arith, enough)) in inr (place, record { before = links; links_are = stand; reached = reached; no_link = stuck.0; no_end = stuck.1 })
walk_on file fits (suc fuel) links place low stand reached enough = by (walk_on file fits fuel) (next_at file fits place low)
  where
    by : ((more : List Link) (p : ℕ) → 100 ≤ p → HoldsLinks file 100 more → p ≡ chain_end more → length file ≤ p + fuel → Outcome file) → Next file place → Outcome file
    by on (inl found) = on (links ++ found.0 ∷ []) (place + link_length found.0) (omega (arith, low))
        (links-append file 100 links (found.0 ∷ []) stand (subst (λ (p : ℕ). HoldsLink file p found.0) reached found.1, tt))
        (ap (λ (p : ℕ). p + link_length found.0) reached ∙ sym (end-append 100 links (found.0 ∷ [])))
        (omega (arith, enough, long_link file place found.0 found.1))
    by on (inr (inl end)) = inl (links, record { links_are = stand; ends = subst (HoldsEnd file) reached end })
    by on (inr (inr stuck)) = inr (place, record { before = links; links_are = stand; reached = reached; no_link = stuck.0; no_end = stuck.1 })

pub always : (file : List ℕ) → AreBytes file → ((links : List Link) × IsChain links file) ⊎ ((place : ℕ) × BreaksAt place file)
always file fits = walk_on file fits (length file) [] 100 (omega arith) tt refl (omega arith)
