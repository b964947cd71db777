-- Reading does not care for blanks before the first token.
use Rattle.std.proofs.Common.{◌≡◌, ℕ, zero, suc, ◌+◌, List, [], ◌∷◌, Bool, true, false, ◌==◌, ◌&&◌, if◌then◌else◌, Option, Some, None, Ok, Err, refl}
use Rattle.rio_num.specs.{At.{At}, Reading.{◌>>=◌}, Word.{is_name_text}}
use Rattle.rio_format.specs.declared.value.Value.{Value}
use Rattle.rio_token.specs.{declared.token.Token.{Token, TheVariants.{Word, Text, Mark, Cut}}, Tokens.{behind, next_at}}
use Rattle.rio_token.specs.Reading.{Read, bad_at, list_at, mark_at, num_between_at, some_at, string_at, string_by, taken_at, word_at, word_that_at}
use Rattle.rio_token.proofs.StandLaws.{Alike, at, blank_alike}
use Rattle.rio_model.specs.ValueGrammar.{Enclosed, Reader, enclosed_at, enclosed_by, listed, object_at, object_of, opens_object, part_at, pointer_at, text_value_at, value_by, value_in_text, values_at, word_value, word_value_at, worded}

module _ (s t : At) (alike : Alike s t) where
  bad_alike : {A : Type 0} → bad_at {A = A} s ≡ bad_at t
  bad_alike = rw alike.place refl

  taken_alike : {A : Type 0} (o : Option A) → taken_at o s ≡ taken_at o t
  taken_alike None = bad_alike
  taken_alike (Some x) = rw alike.behind refl

  word_alike : word_at s ≡ word_at t
  unfolding word_at
  word_alike = rw (alike.token, alike.bytes) (taken_alike _)

  pub word_that_alike : (test : List ℕ → Bool) → word_that_at test s ≡ word_that_at test t
  unfolding word_that_at
  word_that_alike test = rw (alike.token, alike.bytes) (taken_alike _)

  string_by_alike : (token : Token) → string_by token s ≡ string_by token t
  string_by_alike Text = rw (alike.bytes, alike.behind) refl
  string_by_alike Cut = rw alike.end refl
  string_by_alike other = bad_alike

  string_alike : string_at s ≡ string_at t
  unfolding string_at
  string_alike = rw alike.token (string_by_alike (next_at t).token)

  pub num_between_alike : (low high : ℕ) → num_between_at low high s ≡ num_between_at low high t
  unfolding num_between_at
  num_between_alike low high = rw (alike.token, alike.bytes) (taken_alike _)

  pub list_alike : {A : Type 0} (close : ℕ) (item : List A → At → Read A) → item [] s ≡ item [] t → list_at close item s ≡ list_at close item t
  unfolding list_at some_at
  list_alike close item same = rw (alike.token, alike.behind, same) refl

  pub some_alike : {A : Type 0} (close : ℕ) (item : List A → At → Read A) → item [] s ≡ item [] t → some_at close item s ≡ some_at close item t
  unfolding some_at
  some_alike close item same = rw same refl

  pub mark_alike : (mark : ℕ) → mark_at mark s ≡ mark_at mark t
  unfolding mark_at
  mark_alike mark = rw alike.token (taken_alike _)

  worded_alike : (value : Option Value) (name : Bool) (next : At) → worded value name s next ≡ worded value name t next
  worded_alike (Some v) name next = refl
  worded_alike None true next = refl
  worded_alike None false next = bad_alike

  chosen_alike : (object : Bool) (x : Read Value) (value : Option Value) (name : Bool) (next : At) → (if object then x else worded value name s next) ≡ (if object then x else worded value name t next)
  chosen_alike true x value name next = refl
  chosen_alike false x value name next = worded_alike value name next

  module _ (E : Reader) (enclosed : (what : Enclosed) → E what s ≡ E what t) where
    behind_word : (word : Read (List ℕ)) →
        (word >>= λ word. if is_name_text word.0 && opens_object word.1 then object_at E word.0 word.1 else worded (word_value word.0) (is_name_text word.0) s word.1)
        ≡ (word >>= λ word. if is_name_text word.0 && opens_object word.1 then object_at E word.0 word.1 else worded (word_value word.0) (is_name_text word.0) t word.1)
    behind_word (Ok w) = chosen_alike (is_name_text w.0 && opens_object w.1) (object_at E w.0 w.1) (word_value w.0) (is_name_text w.0) w.1
    behind_word (Err e) = refl

    word_value_alike : word_value_at E s ≡ word_value_at E t
    unfolding word_value_at
    word_value_alike = rw word_alike (behind_word (word_at t))

    text_value_alike : text_value_at s ≡ text_value_at t
    unfolding text_value_at
    text_value_alike = rw string_alike refl

    marked_by : (mark : ℕ) (list pointer : Bool) →
        (if list then E listed s else if pointer then pointer_at E (behind s) else bad_at s) ≡ (if list then E listed t else if pointer then pointer_at E (behind t) else bad_at t)
    marked_by mark true pointer = enclosed listed
    marked_by mark false true = rw alike.behind refl
    marked_by mark false false = bad_alike

    by_alike : (token : Token) → value_by E token s ≡ value_by E token t
    by_alike Word = word_value_alike
    by_alike (Mark mark) = marked_by mark (mark == 91) (mark == 64)
    by_alike other = text_value_alike

    pub value_alike : value_in_text E s ≡ value_in_text E t
    unfolding value_in_text
    value_alike = rw alike.token (by_alike (next_at t).token)

    pub part_alike : part_at E s ≡ part_at E t
    unfolding part_at
    part_alike = rw (word_that_alike is_name_text) refl

  by_alike_in : (E : Reader) (what : Enclosed) → enclosed_by E what s ≡ enclosed_by E what t
  unfolding enclosed_by values_at
  by_alike_in E listed = rw (mark_alike 91) refl
  by_alike_in E (object_of class version) = rw (mark_alike 123) refl

  pub enclosed_alike : (levels : ℕ) (what : Enclosed) → enclosed_at levels what s ≡ enclosed_at levels what t
  unfolding enclosed_at
  enclosed_alike zero what = bad_alike
  enclosed_alike (suc levels) what = by_alike_in (enclosed_at levels) what

-- a value and a part behind a blank
pub value_behind_blank : (levels p : ℕ) (xs : List ℕ) → value_in_text (enclosed_at levels) (at p (32 ∷ xs)) ≡ value_in_text (enclosed_at levels) (at (p + 1) xs)
value_behind_blank levels p xs = let alike = blank_alike p xs in value_alike (at p (32 ∷ xs)) (at (p + 1) xs) alike (enclosed_at levels) (enclosed_alike (at p (32 ∷ xs)) (at (p + 1) xs) alike levels)

pub part_behind_blank : (levels p : ℕ) (xs : List ℕ) → part_at (enclosed_at levels) (at p (32 ∷ xs)) ≡ part_at (enclosed_at levels) (at (p + 1) xs)
part_behind_blank levels p xs = let alike = blank_alike p xs in part_alike (at p (32 ∷ xs)) (at (p + 1) xs) alike (enclosed_at levels) (enclosed_alike (at p (32 ∷ xs)) (at (p + 1) xs) alike levels)
