-- Calls that only look at the file, one after the other, and a say behind them.
use Rattle.std.proofs.Common.{◌≡◌, ◌++◌, [], take, length, ap, inl, inr, ⊎_elim, ℕ, ◌≤◌, List, Option, Some, subst, sym, refl, ◌∙◌, arith}
use Rattle.std.proofs.lemmas.List.{append-nil, take_all}
use Rattle.rio_host.specs.{Image.{Same}, Host.{View, Leaves, Elapses, OnDisk, IsLawful, Rose, Speaking, Unwritten, Becomes, Longer, LongerByPart}}
use Rattle.rio_host.specs.OnlyReads.{Grown, OnlyReads, OnlySays}
use Rattle.rio_host.proofs.Images.{becomes_as, same_becomes}

pub reads_none : (v : View) → OnlyReads v v
reads_none v = record {
  time = record { later = omega arith; nothing_else = λ t i s le left. inl left; keeps = λ t i s le left. left };
  holds = refl;
  said = refl;
  reads = omega arith;
  disk_faults = omega arith;
  say_faults = refl;
}

-- one call
pub reads_one : {old new : View} → OnDisk Same old new → new.holds ≡ old.holds → Rose old.reads new.reads → OnlyReads old new
reads_one {old} {new} call holds rose = record {
  time = record {
    later = call.time.later;
    nothing_else = λ t i s le left. ⊎_elim (λ was. inl was) (λ after. inr (subst (λ (f : List ℕ). Leaves old f s) (sym after.2) after.1)) (call.time.nothing_else t i s le left);
    keeps = call.time.keeps;
  };
  holds = holds;
  said = call.said;
  reads = rose.0;
  disk_faults = call.disk_faults;
  say_faults = call.say_faults;
}

-- what is left now might have been left before
pub left_before : {old new : View} → IsLawful new → OnlyReads old new → (i s : List ℕ) → Leaves new i s → Leaves old i s
left_before {old} {new} law calls i s left =
    ⊎_elim (λ was. was) (λ was. was) (calls.time.nothing_else old.now i s (omega arith) (law.earlier old.now new.now i s calls.time.later left))

-- calls behind calls
pub reads_join : {a b c : View} → IsLawful b → OnlyReads a b → OnlyReads b c → OnlyReads a c
reads_join {a} {b} {c} law one two = record {
  time = record {
    later = omega (arith, one.time.later, two.time.later);
    nothing_else = λ t i s le left. ⊎_elim (λ was. one.time.nothing_else t i s le was) (λ was. inr (left_before law one i s was)) (two.time.nothing_else t i s (omega (arith, le, one.time.later)) left);
    keeps = λ t i s le left. two.time.keeps t i s (omega (arith, le, one.time.later)) (one.time.keeps t i s le left);
  };
  holds = two.holds ∙ one.holds;
  said = two.said ∙ one.said;
  reads = omega (arith, one.reads, two.reads);
  disk_faults = omega (arith, one.disk_faults, two.disk_faults);
  say_faults = two.say_faults ∙ one.say_faults;
}

-- then something is said
pub reads_speaks : {a b c : View} (text : List ℕ) → IsLawful b → OnlyReads a b → Elapses b c (Speaking text b) → Elapses a c (Speaking text a)
reads_speaks {a} {b} {c} text law calls says = record {
  later = omega (arith, calls.time.later, says.later);
  nothing_else = λ t i s le left. ⊎_elim
      (λ was. ⊎_elim (λ before. inl before) (λ here. inr (s, here, (0, sym (append-nil s)))) (calls.time.nothing_else t i s le was))
      (λ speaks. inr (speaks.0, left_before law calls i speaks.0 speaks.1, speaks.2))
      (says.nothing_else t i s (omega (arith, le, calls.time.later)) left);
  keeps = λ t i s le left. says.keeps t i s (omega (arith, le, calls.time.later)) (calls.time.keeps t i s le left);
}

-- what only looks writes nothing
pub reads_unwritten : {old new : View} → OnlyReads old new → Unwritten old new
reads_unwritten calls = record {
  later = calls.time.later;
  nothing_else = λ t i s le left. ⊎_elim (λ was. inl was) (λ here. inr (s, here)) (calls.time.nothing_else t i s le left);
  keeps = calls.time.keeps;
}

-- nor does what only says
pub speaks_unwritten : {old new : View} (text : List ℕ) → Elapses old new (Speaking text old) → Unwritten old new
speaks_unwritten text says = record {
  later = says.later;
  nothing_else = λ t i s le left. ⊎_elim (λ was. inl was) (λ speaks. inr (speaks.0, speaks.1)) (says.nothing_else t i s le left);
  keeps = says.keeps;
}

-- ---- what is said

-- no more is said
pub said_nothing : (text : List ℕ) (old new : Option (List ℕ)) → new ≡ old → Becomes (LongerByPart text) old new
said_nothing text old new same = becomes_as Same (LongerByPart text) old new (λ x y is. (0, is ∙ sym (append-nil x))) (same_becomes old new same)

-- all of a text is a front of it
pub said_all : (text : List ℕ) (old new : Option (List ℕ)) → Becomes (Longer text) old new → Becomes (LongerByPart text) old new
said_all text old new = becomes_as (Longer text) (LongerByPart text) old new (λ x y is. (length text, is ∙ ap (λ (t : List ℕ). x ++ t) (sym (take_all (length text) text (omega arith)))))

-- a front of a text is some text
pub said_grows : (text : List ℕ) (old new : Option (List ℕ)) → Becomes (LongerByPart text) old new → Becomes Grown old new
said_grows text old new = becomes_as (LongerByPart text) Grown old new (λ x y part. (take part.0 text, part.1))

-- only looking says nothing, whatever text belongs to the file
pub reads_says : {old new : View} (text_of : List ℕ → List ℕ) → OnlyReads old new → OnlySays text_of old new
reads_says {old} {new} text_of calls = record {
  holds = calls.holds;
  images = reads_unwritten calls;
  text = said_grows [] old.said new.said (said_nothing [] old.said new.said calls.said);
  part = λ file told. said_nothing (text_of file) old.said new.said calls.said;
  time = λ file told. record {
    later = calls.time.later;
    nothing_else = λ t i s le left. ⊎_elim (λ was. inl was) (λ here. inr (s, here, (0, sym (append-nil s)))) (calls.time.nothing_else t i s le left);
    keeps = calls.time.keeps;
  };
  reads = calls.reads;
  disk_faults = calls.disk_faults;
  say_faults = omega (arith, calls.say_faults);
}

-- looking, and then a say of the text that belongs to the file
pub reads_then_says : {a b c : View} (text_of : List ℕ → List ℕ) (text : List ℕ) → IsLawful b → OnlyReads a b → ((file : List ℕ) → a.holds ≡ Some file → text ≡ text_of file) → Becomes (LongerByPart text) b.said c.said → Elapses b c (Speaking text b) → c.holds ≡ b.holds
    → b.reads ≤ c.reads → b.disk_faults ≤ c.disk_faults → b.say_faults ≤ c.say_faults → OnlySays text_of a c
reads_then_says {a} {b} {c} text_of text law calls is part time holds reads disk say =
    let whole : Elapses a c (Speaking text a) = reads_speaks text law calls time in
    record {
      holds = holds ∙ calls.holds;
      images = speaks_unwritten text whole;
      text = subst (λ (o : Option (List ℕ)). Becomes Grown o c.said) calls.said (said_grows text b.said c.said part);
      part = λ file told. subst (λ (t : List ℕ). Becomes (LongerByPart t) a.said c.said) (is file told) (subst (λ (o : Option (List ℕ)). Becomes (LongerByPart text) o c.said) calls.said part);
      time = λ file told. subst (λ (t : List ℕ). Elapses a c (Speaking t a)) (is file told) whole;
      reads = omega (arith, calls.reads, reads);
      disk_faults = omega (arith, calls.disk_faults, disk);
      say_faults = omega (arith, calls.say_faults, say);
    }
