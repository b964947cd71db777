-- Reading texts from left to right, token after token, up to the first token that can't stand.
use Rattle.std.specs.Prelude.{ℕ, zero, suc, List, [], ◌∷◌, ◌++◌, length, Result, Ok, Err, Option, Some, None, option_and_then, Bool, true, false, ◌==◌, if◌then◌else◌}
use Rattle.std.specs.Str.{bytes_eq}
use Rattle.rio_num.specs.{Answers.{GivesUnless, ReadsUnless, TakesUnless}, At.{At, end_place}, Reading.{◌>>=◌}, Word.{is_name_text, is_item_text}}
pub use Rattle.rio_num.specs.Reading.{some_if}
use Rattle.rio_token.specs.declared.fault.TextFault.{TextFault, TheVariants.{BadText, NoMemory}}
use Rattle.rio_token.specs.{declared.token.Token.{Token, TheVariants.{Word, Text, Mark, Cut, End}}, Marks.{comma}, Tokens.{next_at, token_place, behind}}
use Rattle.rio_token.specs.Words.{num_of, num_between_of}

-- what was read and where reading stands, or the first token that can't stand
abbrev pub Read : Type 0 → Type 0
Read A = Result (A × At) TextFault

-- the next token can't stand
abbrev pub bad_at : {A : Type 0} → At → Read A
bad_at s = Err (BadText (token_place s))

-- Where a string may stand, one that isn't ended is no token that can't stand: the text ends too early. Its length is told.
abbrev pub cut_at : {A : Type 0} → At → Read A
cut_at s = Err (BadText (end_place s))

-- what the next token says, if it may stand
abbrev pub taken_at : {A : Type 0} → Option A → At → Read A
taken_at None s = bad_at s
taken_at (Some x) s = Ok (x, behind s)

-- ---- single tokens

abbrev pub is_word : Token → Bool
is_word Word = true
is_word other = false

abbrev pub is_mark : ℕ → Token → Bool
is_mark mark (Mark b) = b == mark
is_mark mark other = false

abbrev pub is_end : Token → Bool
is_end End = true
is_end other = false

-- whether this byte of punctuation comes next
abbrev pub marked : ℕ → At → Bool
marked mark s = is_mark mark (next_at s).token

-- the next word, if a word comes next
abbrev pub next_word : At → Option (List ℕ)
next_word s = some_if (is_word (next_at s).token) (next_at s).bytes

-- this byte of punctuation
unfoldable pub mark_at : ℕ → At → Read (Unit {0})
mark_at mark s = taken_at (some_if (marked mark s) tt) s

unfoldable pub word_at : At → Read (List ℕ)
word_at s = taken_at (next_word s) s

-- a word that passes a test
unfoldable pub word_that_at : (List ℕ → Bool) → At → Read (List ℕ)
word_that_at test s = taken_at (option_and_then (λ word. some_if (test word) word) (next_word s)) s

-- the name of a class, a member or a leaf
abbrev pub name_at : At → Read (List ℕ)
name_at = word_that_at is_name_text

-- the name of an object or a tree
abbrev pub item_at : At → Read (List ℕ)
item_at = word_that_at is_item_text

-- this word
abbrev pub keyword_at : List ℕ → At → Read (List ℕ)
keyword_at keyword = word_that_at (λ word. bytes_eq word keyword)

-- a number up to 4,294,967,295
unfoldable pub num_at : At → Read ℕ
num_at s = taken_at (option_and_then num_of (next_word s)) s

-- a number between two bounds
unfoldable pub num_between_at : ℕ → ℕ → At → Read ℕ
num_between_at low high s = taken_at (option_and_then (num_between_of low high) (next_word s)) s

-- the version of a class
abbrev pub version_at : At → Read ℕ
version_at = num_between_at 1 32767

abbrev pub string_by : Token → At → Read (List ℕ)
string_by Text s = Ok ((next_at s).bytes, behind s)
string_by Cut s = cut_at s
string_by other s = bad_at s

-- a string: what it spells
unfoldable pub string_at : At → Read (List ℕ)
string_at s = string_by (next_at s).token s

-- nothing but blanks is left
unfoldable pub end_at : At → Read (Unit {0})
end_at s = taken_at (some_if (is_end (next_at s).token) tt) s

-- ---- lists with commas between their items, up to a closing mark

-- What is left of a list behind those of its items that were read, and so much of the text is left. An item is read in knowledge of those before it.
unfoldable pub more_at : {A : Type 0} → ℕ → ℕ → (List A → At → Read A) → List A → At → Read (List A)
more_at zero close item items s = bad_at s
more_at (suc left) close item items s =
    if marked close s then Ok (items, behind s)
    else (mark_at comma s >>= λ passed. item items passed.1 >>= λ next. more_at left close item (items ++ next.0 ∷ []) next.1)

-- at least one item, and the closing mark; each further item takes some of the text that is left
unfoldable pub some_at : {A : Type 0} → ℕ → (List A → At → Read A) → At → Read (List A)
some_at close item s = item [] s >>= λ first. more_at (length first.1.rest) close item (first.0 ∷ []) first.1

-- items, if there are any, and the closing mark
unfoldable pub list_at : {A : Type 0} → ℕ → (List A → At → Read A) → At → Read (List A)
list_at close item s = if marked close s then Ok ([], behind s) else some_at close item s

-- ---- what a reader does

-- what was returned is what reading gives, and reading stands at new then
abbrev pub Reads : {X Y : Type 0} → (X → Y) → Result X TextFault → Read Y → At → Type 0
Reads view = ReadsUnless NoMemory view

-- the same, of a reader that stays where it was when it refuses
abbrev pub TakesInMemory : {X Y : Type 0} → (X → Y) → Result X TextFault → Read Y → At → At → Type 0
TakesInMemory view = TakesUnless NoMemory view

-- The answer is this one, unless memory ran out.
abbrev pub AnswersText : {Y : Type 0} → Result Y TextFault → Result Y TextFault → Type 0
AnswersText = GivesUnless NoMemory (λ x. x)
