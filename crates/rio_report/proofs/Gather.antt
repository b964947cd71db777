-- A text that is gathered goes on, is said, or is given up.
use Rattle.std.proofs.{Common.{◌≡◌, ◌++◌, ℕ, List, [], true, Option, Some, Result, Ok, Err, IsErr, refl, sym, ap, subst, ◌∙◌, append_assoc}, lemmas.List.{append-nil}}
use Rattle.rio_host.specs.{Host.{Becomes, IsLawful, Longer, Rose, View}, Image.{Same}, OnlyReads.{OnlyReads, OnlySaysPieces, SaysPieces}}
use Rattle.rio_host.proofs.Images.{becomes_as, becomes_join, same_becomes}
use Rattle.rio_host.proofs.PiecesLaws.{Texts, part_front, part_join, pieces_as, pieces_join, pieces_part, reads_part, reads_pieces}
use Rattle.rio_report.specs.Gathered.{CutShort, Gathered, Gathers, LongerByLines, SaysByLine, SaysLines, ends_line}
use Rattle.rio_report.proofs.WholeLines.{ends_both}

-- ---- whole lines that were said

-- a text was said, and lines behind what is held of it
lines_join : (f held first lines : List ℕ) → f ++ held ≡ first ++ lines → ends_line lines ≡ true → (a b c : Option (List ℕ))
    → Becomes (Longer f) a b → Becomes (LongerByLines held) b c → Becomes (LongerByLines first) a c
lines_join f held first lines same ends a b c = becomes_join (Longer f) (LongerByLines held) (LongerByLines first) a b c
    (λ x y z p q. (
      lines ++ q.0,
      ends_both lines q.0 ends q.1,
      q.2 ∙ ap (λ (t : List ℕ). t ++ (held ++ q.0)) p ∙ append_assoc x f (held ++ q.0)
          ∙ ap (λ (t : List ℕ). x ++ t) (sym (append_assoc f held q.0) ∙ ap (λ (t : List ℕ). t ++ q.0) same ∙ append_assoc first lines q.0),
    ))

-- looking at the file says no line
pub nothing_said : {a b : View} → OnlyReads a b → SaysLines [] a b
nothing_said {a} {b} calls = λ none file told.
    becomes_as Same (LongerByLines []) a.said b.said (λ x y same. ([], refl, same ∙ sym (append-nil x))) (same_becomes a.said b.said calls.said)

reads_lines : (a b c : View) (first : List ℕ) → OnlyReads a b → SaysLines first b c → SaysLines first a c
reads_lines a b c first calls two = λ none file told.
    subst (λ (o : Option (List ℕ)). Becomes (LongerByLines first) o c.said) calls.said
    (two (λ rose. none (subst (λ (n : ℕ). Rose n c.say_faults) calls.say_faults rose)) file (calls.holds ∙ told))

-- ---- calls that fail

pub cut_reads : {a b : View} (t : Texts) → OnlyReads a b → CutShort [] t a b
cut_reads t calls = record {
  part = reads_part t calls;
  lines = nothing_said calls;
}

-- all that was held was said
pub cut_behind : {a b : View} (first : List ℕ) (t : Texts) → SaysPieces (λ file. first) a b → CutShort first t a b
cut_behind {a} {b} first t says = record {
  part = part_front (λ file. first) t (pieces_part (λ file. first) says);
  lines = λ none file told. becomes_as (Longer first) (LongerByLines first) a.said b.said (λ x y is. ([], refl, is ∙ ap (λ (l : List ℕ). x ++ l) (sym (append-nil first)))) (says.extent_said file told);
}

-- saying failed
pub cut_unsaid : {a b : View} (first : List ℕ) (t : Texts) → OnlySaysPieces (λ file. first ++ t file) a b → Rose a.say_faults b.say_faults → CutShort first t a b
cut_unsaid first t part rose = record {
  part = part;
  lines = λ none file told. absurd (none rose);
}

-- behind bytes that are lines themselves
pub cut_first : {a b : View} (first : List ℕ) (t more whole : Texts) → ends_line first ≡ true
    → ((file : List ℕ) → a.holds ≡ Some file → (first ++ t file) ++ more file ≡ whole file) → CutShort first t a b → CutShort [] whole a b
cut_first {a} {b} first t more whole ends same cut = record {
  part = pieces_as (λ file. (first ++ t file) ++ more file) whole same (part_front (λ file. first ++ t file) more cut.part);
  lines = λ none file told. becomes_as (LongerByLines first) (LongerByLines []) a.said b.said (λ x y p. (first ++ p.0, ends_both first p.0 ends p.1, p.2)) (cut.lines none file told);
}

pub reads_cut : (a b c : View) → IsLawful a → IsLawful b → (first : List ℕ) (t : Texts) → OnlyReads a b → CutShort first t b c → CutShort first t a c
reads_cut a b c lawful_a lawful_b first t calls cut = record {
  part = part_join (λ file. []) (λ file. first ++ t file) lawful_a lawful_b (reads_pieces calls) cut.part;
  lines = reads_lines a b c first calls cut.lines;
}

-- ---- calls that say a text

module _ {X F : Type 0} (a b : View) where
  pub says_as : (f g : Texts) → ((file : List ℕ) → a.holds ≡ Some file → f file ≡ g file) → (r : Result X F) → SaysByLine f a b r → SaysByLine g a b r
  says_as f g same (Ok x) says = pieces_as f g same says
  says_as f g same (Err e) says = record {
    part = pieces_as f g same says.part;
    lines = says.lines;
  }

  module _ (c : View) (lawful_a : IsLawful a) (lawful_b : IsLawful b) where
    -- behind calls that only look at the file
    pub reads_then_piece : (g : Texts) → OnlyReads a b → (r : Result X F) → SaysByLine g b c r → SaysByLine g a c r
    reads_then_piece g calls (Ok x) says = pieces_join (λ file. []) g lawful_a lawful_b (reads_pieces calls) says
    reads_then_piece g calls (Err e) says = reads_cut a b c lawful_a lawful_b [] g calls says

    -- a line that was read is held
    pub line_read : (first line held : List ℕ) (t : Texts) → OnlyReads a b → ((file : List ℕ) → a.holds ≡ Some file → line ≡ t file)
        → (r : Result X F) → Gathers first (λ file. line) held b c r → Gathers first t held a c r
    line_read first line held t calls same (Ok x) two = record {
      front = two.front;
      said = pieces_join (λ file. []) two.front lawful_a lawful_b (reads_pieces calls) two.said;
      rest = λ file told. two.rest file (calls.holds ∙ told) ∙ ap (λ (l : List ℕ). first ++ l) (same file told);
    }
    line_read first line held t calls same (Err e) two =
        let cut = reads_cut a b c lawful_a lawful_b first (λ file. line) calls two in
        record {
          part = pieces_as (λ file. first ++ line) (λ file. first ++ t file) (λ file told. ap (λ (l : List ℕ). first ++ l) (same file told)) cut.part;
          lines = cut.lines;
        }

-- ---- texts that are gathered

-- calls that only look say nothing, and all is held
pub gathered_reads : {a b : View} (f : Texts) (held : List ℕ) → OnlyReads a b → ((file : List ℕ) → a.holds ≡ Some file → held ≡ f file) → Gathered f held a b
gathered_reads f held calls same = record {
  front = λ file. [];
  said = reads_pieces calls;
  rest = same;
}

-- all that was held was said
pub gathered_none : {a b : View} (held : List ℕ) → SaysPieces (λ file. held) a b → Gathered (λ file. held) [] a b
gathered_none held says = record {
  front = λ file. held;
  said = says;
  rest = λ file told. append-nil held;
}

-- a line that is held behind others, which are then said or not
pub line_held : {X F : Type 0} (a b : View) (first line all more : List ℕ) → all ≡ first ++ line → (r : Result X F) → Gathers [] (λ file. all) more a b r
    → (IsErr r → Rose a.say_faults b.say_faults) → Gathers first (λ file. line) more a b r
line_held a b first line all more is (Ok x) says unsaid = subst (λ (l : List ℕ). Gathered (λ file. l) more a b) is says
line_held a b first line all more is (Err e) says unsaid =
    cut_unsaid first (λ file. line) (subst (λ (l : List ℕ). OnlySaysPieces (λ file. l) a b) is says.part) (unsaid refl)

-- a text behind what is held
behind_held : {a b : View} (f : Texts) (held : List ℕ) (one : Gathered f held a b) (g : Texts) (file : List ℕ) → a.holds ≡ Some file → one.front file ++ (held ++ g file) ≡ f file ++ g file
behind_held f held one g file told = sym (append_assoc (one.front file) held (g file)) ∙ ap (λ (l : List ℕ). l ++ g file) (one.rest file told)

module _ (a b c : View) (lawful_a : IsLawful a) (lawful_b : IsLawful b) (f : Texts) (held : List ℕ) (one : Gathered f held a b) where
  module _ (t whole : Texts) (same : (file : List ℕ) → a.holds ≡ Some file → one.front file ++ t file ≡ whole file) where
    pub gathered_on : (more : List ℕ) → Gathered t more b c → Gathered whole more a c
    gathered_on more two = record {
      front = λ file. one.front file ++ two.front file;
      said = pieces_join one.front two.front lawful_a lawful_b one.said two.said;
      rest = λ file told.
          append_assoc (one.front file) (two.front file) more
          ∙ ap (λ (l : List ℕ). one.front file ++ l) (two.rest file (one.said.holds ∙ told))
          ∙ same file told;
    }

    pub cut_on : OnlySaysPieces t b c → OnlySaysPieces whole a c
    cut_on two = pieces_as (λ file. one.front file ++ t file) whole same (part_join one.front t lawful_a lawful_b one.said two)

    pub said_on : SaysPieces t b c → SaysPieces whole a c
    said_on two = pieces_as (λ file. one.front file ++ t file) whole same (pieces_join one.front t lawful_a lawful_b one.said two)

  -- a count of faults that rose later rose
  rose_on : Rose b.say_faults c.say_faults → Rose a.say_faults c.say_faults
  rose_on rose = subst (λ (n : ℕ). Rose n c.say_faults) one.said.say_faults rose

  -- lines behind what is held, where the text up to there is what was held first and lines
  pub lines_on : (first : List ℕ) (lines : Texts) → ((file : List ℕ) → f file ≡ first ++ lines file) → ((file : List ℕ) → ends_line (lines file) ≡ true) → SaysLines held b c → SaysLines first a c
  lines_on first lines is ends two = λ none file told.
      lines_join (one.front file) held first (lines file) (one.rest file told ∙ is file) (ends file) a.said b.said c.said
      (one.said.extent_said file told) (two (λ rose. none (rose_on rose)) file (one.said.holds ∙ told))

  -- what is held is said
  pub says_held : {X F : Type 0} (r : Result X F) → SaysByLine (λ file. held) b c r → (IsErr r → Rose b.say_faults c.say_faults) → SaysByLine f a c r
  says_held (Ok x) two unsaid = said_on (λ file. held) f one.rest two
  says_held (Err e) two unsaid = cut_unsaid [] f (cut_on (λ file. held) f one.rest two.part) (rose_on (unsaid refl))

-- another text behind what is held
module _ (a b c : View) (lawful_a : IsLawful a) (lawful_b : IsLawful b) (first : List ℕ) (lines : Texts) (held : List ℕ) (one : Gathered (λ file. first ++ lines file) held a b) where
  pub gathered_behind : (g : Texts) (more : List ℕ) → Gathered (λ file. held ++ g file) more b c → Gathered (λ file. first ++ (lines file ++ g file)) more a c
  gathered_behind g more two = gathered_on a b c lawful_a lawful_b (λ file. first ++ lines file) held one (λ file. held ++ g file) (λ file. first ++ (lines file ++ g file))
      (λ file told. behind_held (λ file. first ++ lines file) held one g file told ∙ append_assoc first (lines file) (g file)) more two

  pub cut_gathered : (g : Texts) → ((file : List ℕ) → ends_line (lines file) ≡ true) → CutShort held g b c → CutShort first (λ file. lines file ++ g file) a c
  cut_gathered g ends two = record {
    part = cut_on a b c lawful_a lawful_b (λ file. first ++ lines file) held one (λ file. held ++ g file) (λ file. first ++ (lines file ++ g file))
        (λ file told. behind_held (λ file. first ++ lines file) held one g file told ∙ append_assoc first (lines file) (g file)) two.part;
    lines = lines_on a b c lawful_a lawful_b (λ file. first ++ lines file) held one first lines (λ file. refl) ends two.lines;
  }
