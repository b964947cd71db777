-- A text that is said piece by piece, with calls between that only look at the file.
use Rattle.std.proofs.Common.{◌≡◌, ◌⊎◌, ◌++◌, ◌+◌, [], take, length, ap, inl, inr, ⊎_elim, ℕ, ◌≤◌, min, List, Option, Some, Result, Ok, Err, subst, sym, ◌∙◌, append_assoc, arith}
use Rattle.std.proofs.{lemmas.List.{append-nil, take_min, take-append-le}, Math.Seq.{take-append-add}}
use Rattle.rio_host.specs.Host.{View, Leaves, Elapses, IsLawful, Speaking, Unwritten, Becomes, Longer, LongerByPart}
use Rattle.rio_host.specs.{OnlyReads.{Grown, OnlyReads, OnlySaysPieces, Pieces, Says, SaysPieces}, Image.{Same}}
use Rattle.rio_host.proofs.{Images.{becomes_as, becomes_join, becomes_some, same_becomes}, ReadsLaws.{reads_says, speaks_unwritten, said_grows, said_all}}

abbrev pub Texts : Type 0
Texts = List ℕ → List ℕ

-- how much of a text was said
abbrev Extents : Type 1
Extents = List ℕ → List ℕ → List ℕ → Type 0

-- how many calls on the text failed
abbrev Faults : Type 1
Faults = ℕ → ℕ → Type 0

-- ---- one piece

-- looking says no piece
pub reads_pieces : {old new : View} → OnlyReads old new → SaysPieces (λ file. []) old new
reads_pieces {old} {new} calls =
    let says = reads_says (λ file. []) calls in
    record {
      holds = calls.holds;
      images = says.images;
      text = says.text;
      extent_said = λ file told. becomes_as Same (Longer []) old.said new.said (λ x y same. same ∙ sym (append-nil x)) (same_becomes old.said new.said calls.said);
      time = λ file said told text. says.time file told;
      reads = calls.reads;
      disk_faults = calls.disk_faults;
      say_faults = calls.say_faults;
    }

-- the same text in other words
pub pieces_as : {extent : Extents} {faults : Faults} {old new : View} (f g : Texts) → ((file : List ℕ) → old.holds ≡ Some file → f file ≡ g file) → Pieces extent faults f old new → Pieces extent faults g old new
pieces_as {extent} {faults} {old} {new} f g same says = record {
  holds = says.holds;
  images = says.images;
  text = says.text;
  extent_said = λ file told. subst (λ (t : List ℕ). Becomes (extent t) old.said new.said) (same file told) (says.extent_said file told);
  time = λ file said told text. subst (λ (t : List ℕ). Elapses old new (Speaking t old)) (same file told) (says.time file said told text);
  reads = says.reads;
  disk_faults = says.disk_faults;
  say_faults = says.say_faults;
}

-- all of a text is a front of it
pub pieces_part : {old new : View} (f : Texts) → SaysPieces f old new → OnlySaysPieces f old new
pieces_part {old} {new} f says = record {
  holds = says.holds;
  images = says.images;
  text = says.text;
  extent_said = λ file told. said_all (f file) old.said new.said (says.extent_said file told);
  time = says.time;
  reads = says.reads;
  disk_faults = says.disk_faults;
  say_faults = omega (arith, says.say_faults);
}

module _ {b c : View} (piece : List ℕ) (time : Elapses b c (Speaking piece b)) (holds : c.holds ≡ b.holds) (reads : c.reads ≡ b.reads) (disk_faults : c.disk_faults ≡ b.disk_faults) where
  one_piece : {extent : Extents} {faults : Faults} → Becomes Grown b.said c.said → Becomes (extent piece) b.said c.said → faults b.say_faults c.say_faults → Pieces extent faults (λ file. piece) b c
  one_piece grown said counted = record {
    holds = holds;
    images = speaks_unwritten piece time;
    text = grown;
    extent_said = λ file told. said;
    time = λ file all told text. time;
    reads = omega (arith, reads);
    disk_faults = omega (arith, disk_faults);
    say_faults = counted;
  }

  -- a say that was done
  pub piece_said : Becomes (Longer piece) b.said c.said → c.say_faults ≡ b.say_faults → SaysPieces (λ file. piece) b c
  piece_said said counted = one_piece (said_grows piece b.said c.said (said_all piece b.said c.said said)) said counted

  -- one that failed
  pub piece_cut : Becomes (LongerByPart piece) b.said c.said → b.say_faults ≤ c.say_faults → OnlySaysPieces (λ file. piece) b c
  piece_cut said counted = one_piece (said_grows piece b.said c.said said) said counted

-- ---- pieces behind pieces

front_of : (f g : List ℕ) (k : ℕ) → take k f ≡ take (min k (length f)) (f ++ g)
front_of f g k = sym (take-append-le (min k (length f)) f g (omega arith) ∙ take_min k f)

-- a front of a text is a front of one that goes on
longer_front : (a : View) (f g i s : List ℕ) → Speaking f a i s → Speaking (f ++ g) a i s
longer_front a f g i s speaks = (speaks.0, speaks.1, (min speaks.2.0 (length f), speaks.2.1 ∙ ap (λ (t : List ℕ). speaks.0 ++ t) (front_of f g speaks.2.0)))

speaks_on : {a b : View} (f g : List ℕ) → Elapses a b (Speaking f a) → Elapses a b (Speaking (f ++ g) a)
speaks_on {a} f g one = record {
  later = one.later;
  nothing_else = λ t i s le left. ⊎_elim (λ was. inl was) (λ speaks. inr (longer_front a f g i s speaks)) (one.nothing_else t i s le left);
  keeps = one.keeps;
}

-- what is left between two pieces might have been left before with a text
left_then : {a b : View} (P : List ℕ → List ℕ → Type 0) → IsLawful b → Elapses a b P → (i s : List ℕ) → Leaves b i s → Leaves a i s ⊎ P i s
left_then {a} {b} P law one i s left = one.nothing_else a.now i s (omega arith) (law.earlier a.now b.now i s one.later left)

module _ (a b c : View) (lawful_a : IsLawful a) (lawful_b : IsLawful b) where
  unwritten_join : Unwritten a b → Unwritten b c → Unwritten a c
  unwritten_join one two = record {
    later = omega (arith, one.later, two.later);
    nothing_else = λ t i s le left. ⊎_elim
        (λ was. one.nothing_else t i s le was)
        (λ here. inr (⊎_elim (λ was. (here.0, was)) (λ before. before) (left_then (λ (image said : List ℕ). (before : List ℕ) × Leaves a image before) lawful_b one i here.0 here.1)))
        (two.nothing_else t i s (omega (arith, le, one.later)) left);
    keeps = λ t i s le left. two.keeps t i s (omega (arith, le, one.later)) (one.keeps t i s le left);
  }

  module _ (f g said : List ℕ) (told : a.said ≡ Some said) (then : b.said ≡ Some (said ++ f)) where
    -- the whole of the first text was said, and a front of the second
    both : (i s : List ℕ) → Elapses a b (Speaking f a) → Speaking g b i s → Speaking (f ++ g) a i s
    both i s one speaks =
        let all : speaks.0 ≡ said ++ f = lawful_b.text i speaks.0 (said ++ f) speaks.1 then in
        let is : s ≡ said ++ take (length f + speaks.2.0) (f ++ g) =
        speaks.2.1 ∙ ap (λ (t : List ℕ). t ++ take speaks.2.0 g) all ∙ append_assoc said f (take speaks.2.0 g)
        ∙ ap (λ (t : List ℕ). said ++ t) (sym (take-append-add f g speaks.2.0)) in
        ⊎_elim
        (λ was. (said, subst (λ (t : List ℕ). Leaves a i t) (lawful_a.text i speaks.0 said was told) was, (length f + speaks.2.0, is)))
        (λ first. (said, subst (λ (t : List ℕ). Leaves a i t) (lawful_a.text i first.0 said first.1 told) first.1, (length f + speaks.2.0, is)))
        (left_then (Speaking f a) lawful_b one i speaks.0 speaks.1)

    time_join : Elapses a b (Speaking f a) → Elapses b c (Speaking g b) → Elapses a c (Speaking (f ++ g) a)
    time_join one two = record {
      later = omega (arith, one.later, two.later);
      nothing_else = λ t i s le left. ⊎_elim
          (λ was. ⊎_elim (λ before. inl before) (λ speaks. inr (longer_front a f g i s speaks)) (one.nothing_else t i s le was))
          (λ speaks. inr (both i s one speaks))
          (two.nothing_else t i s (omega (arith, le, one.later)) left);
      keeps = λ t i s le left. two.keeps t i s (omega (arith, le, one.later)) (one.keeps t i s le left);
    }

pub grown_join : (a b c : Option (List ℕ)) → Becomes Grown a b → Becomes Grown b c → Becomes Grown a c
grown_join a b c = becomes_join Grown Grown Grown a b c (λ x y z p q. (p.0 ++ q.0, q.1 ∙ ap (λ (t : List ℕ). t ++ q.0) p.1 ∙ append_assoc x p.0 q.0))

longer_join : (f g : List ℕ) (a b c : Option (List ℕ)) → Becomes (Longer f) a b → Becomes (Longer g) b c → Becomes (Longer (f ++ g)) a c
longer_join f g a b c = becomes_join (Longer f) (Longer g) (Longer (f ++ g)) a b c (λ x y z p q. q ∙ ap (λ (t : List ℕ). t ++ g) p ∙ append_assoc x f g)

longer_by_part_join : (f g : List ℕ) (a b c : Option (List ℕ)) → Becomes (Longer f) a b → Becomes (LongerByPart g) b c → Becomes (LongerByPart (f ++ g)) a c
longer_by_part_join f g a b c = becomes_join (Longer f) (LongerByPart g) (LongerByPart (f ++ g)) a b c
    (λ x y z p q. (length f + q.0, q.1 ∙ ap (λ (t : List ℕ). t ++ take q.0 g) p ∙ append_assoc x f (take q.0 g) ∙ ap (λ (t : List ℕ). x ++ t) (sym (take-append-add f g q.0))))

part_on : (f g : List ℕ) (a b : Option (List ℕ)) → Becomes (LongerByPart f) a b → Becomes (LongerByPart (f ++ g)) a b
part_on f g a b = becomes_as (LongerByPart f) (LongerByPart (f ++ g)) a b (λ x y p. (min p.0 (length f), p.1 ∙ ap (λ (t : List ℕ). x ++ t) (front_of f g p.0)))

-- what was said where all of a text was
said_then : (f said : List ℕ) (a b : Option (List ℕ)) → a ≡ Some said → Becomes (Longer f) a b → b ≡ Some (said ++ f)
said_then f said a b told longer =
    let after = becomes_some (Longer f) a b said told longer in
    after.1 ∙ ap (λ (t : List ℕ). Some t) after.2

-- a text that is said further
pub part_front : {a b : View} (f g : Texts) → OnlySaysPieces f a b → OnlySaysPieces (λ file. f file ++ g file) a b
part_front {a} {b} f g one = record {
  holds = one.holds;
  images = one.images;
  text = one.text;
  extent_said = λ file told. part_on (f file) (g file) a.said b.said (one.extent_said file told);
  time = λ file said told text. speaks_on (f file) (g file) (one.time file said told text);
  reads = one.reads;
  disk_faults = one.disk_faults;
  say_faults = one.say_faults;
}

module _ {a b c : View} (f g : Texts) (lawful_a : IsLawful a) (lawful_b : IsLawful b) (one : SaysPieces f a b) where
  join : {extent : Extents} {faults : Faults} → Pieces extent faults g b c → ((file : List ℕ) → a.holds ≡ Some file → Becomes (extent (f file ++ g file)) a.said c.said) → faults a.say_faults c.say_faults → Pieces extent faults (λ file. f file ++ g file) a c
  join two said counted = record {
    holds = two.holds ∙ one.holds;
    images = unwritten_join a b c lawful_a lawful_b one.images two.images;
    text = grown_join a.said b.said c.said one.text two.text;
    extent_said = said;
    time = λ file said told text.
        let then = said_then (f file) said a.said b.said text (one.extent_said file told) in
        time_join a b c lawful_a lawful_b (f file) (g file) said text then (one.time file said told text) (two.time file (said ++ f file) (one.holds ∙ told) then);
    reads = omega (arith, one.reads, two.reads);
    disk_faults = omega (arith, one.disk_faults, two.disk_faults);
    say_faults = counted;
  }

  -- all of one text and then all of another
  pub pieces_join : SaysPieces g b c → SaysPieces (λ file. f file ++ g file) a c
  pieces_join two =
      join two (λ file told. longer_join (f file) (g file) a.said b.said c.said (one.extent_said file told) (two.extent_said file (one.holds ∙ told))) (two.say_faults ∙ one.say_faults)

  -- all of one text and then a front of another
  pub part_join : OnlySaysPieces g b c → OnlySaysPieces (λ file. f file ++ g file) a c
  part_join two =
      join two (λ file told. longer_by_part_join (f file) (g file) a.said b.said c.said (one.extent_said file told) (two.extent_said file (one.holds ∙ told))) (omega (arith, one.say_faults, two.say_faults))

-- only looking says a front of any text
pub reads_part : {old new : View} (f : Texts) → OnlyReads old new → OnlySaysPieces f old new
reads_part f calls = part_front (λ file. []) f (pieces_part (λ file. []) (reads_pieces calls))

-- ---- calls that say a text

module _ {X F : Type 0} (a b : View) where
  pub says_as : (f g : Texts) → ((file : List ℕ) → a.holds ≡ Some file → f file ≡ g file) → (r : Result X F) → Says f a b r → Says g a b r
  says_as f g same (Ok x) says = pieces_as f g same says
  says_as f g same (Err e) says = pieces_as f g same says

  module _ (c : View) (lawful_a : IsLawful a) (lawful_b : IsLawful b) where
    -- behind a text that was said
    pub says_behind : (f g : Texts) → SaysPieces f a b → (r : Result X F) → Says g b c r → Says (λ file. f file ++ g file) a c r
    says_behind f g one (Ok x) two = pieces_join f g lawful_a lawful_b one two
    says_behind f g one (Err e) two = part_join f g lawful_a lawful_b one two

    -- behind calls that only look at the file
    pub reads_then_piece : (g : Texts) → OnlyReads a b → (r : Result X F) → Says g b c r → Says g a c r
    reads_then_piece g calls r says = says_behind (λ file. []) g (reads_pieces calls) r says
