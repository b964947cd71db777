-- What a stop leaves while fields of header and directory record are written, and then END.
use Rattle.std.proofs.Common.{◌≡◌, ◌⊎◌, inl, inr, ⊎_elim, ℕ, ◌+◌, ◌<◌, ◌≤◌, List, length, Some, subst, sym, ◌∙◌, arith}
use Rattle.byteorder.specs.Endian.{big_bytes}
use Rattle.rio_host.specs.{Host.{Becomes, Elapses, IsLawful, IsQuiet, OnDisk, View}, Image.{Put, PutOrNot, Same, Torn}}
use Rattle.rio_host.proofs.{Images.{becomes_some, has_keeps}, Moments.{Outcomes, Run, begins, elapses_as, stays, writes, writes_word}}
use Rattle.rio_close.specs.Fields.{FieldsThenEnd, IsFieldsOrNot, IsFieldsThenEnd, IsOutsideFields, KeepsAllButFields, WritesFields}

-- ---- ranges

-- n bytes at a place are among the fields
abbrev pub IsField : ℕ → ℕ → ℕ → Type 0
IsField place p n = (i : ℕ) → IsOutsideFields place i → (i < p) ⊎ (p + n ≤ i)

free_range : (place n : ℕ) → n ≡ 12 → IsField place 16 n
free_range place n is i at = ⊎_elim (λ low. inl low) (λ high. inr (omega (arith, high, is))) at.0

info_range : (place n : ℕ) → n ≡ 8 → IsField place 37 n
info_range place n is i at = ⊎_elim (λ low. inl low) (λ high. inr (omega (arith, high, is))) at.1

directory_range : (place n : ℕ) → n ≡ 24 → IsField place place n
directory_range place n is i at = ⊎_elim (λ low. inl low) (λ high. inr (omega (arith, high, is))) at.2

-- ---- three writes

module _ (v0 : View) (file free info : List ℕ) (place : ℕ) (directory : List ℕ) (holds : v0.holds ≡ Some file) (quiet : IsQuiet v0) (law0 : IsLawful v0)
    (later : 100 ≤ place) (n1 : length free ≡ 12) (n2 : length info ≡ 8) (n3 : length directory ≡ 24) where
  abbrev Half : Outcomes
  Half = IsFieldsOrNot v0 place file

  started : Run v0 v0 Half Half
  started = begins v0 Half Half (λ i s left. record {
    others = subst (KeepsAllButFields place file) (sym (quiet i s file left holds)) (λ k x at was. was);
    text = λ all told. law0.text i s all left told;
  })

  one_write : (old new : View) (p n : ℕ) → IsField place p n → IsLawful new → Run v0 old Half Half → OnDisk (Torn p n) old new → Run v0 new Half Half
  one_write old new p n range law run call = writes p n Half law run call
      (λ d i s q torn. record { others = λ k x at was. torn.outside k x (range k at) (q.others k x at was); text = q.text })
      (λ i s q. q)

  module _ (v1 v2 v3 v4 : View) (law1 : IsLawful v1) (law2 : IsLawful v2) (law3 : IsLawful v3) (law4 : IsLawful v4) where
    first : OnDisk (Torn 16 (length free)) v0 v1 → Run v0 v1 Half Half
    first call = one_write v0 v1 16 (length free) (free_range place (length free) n1) law1 started call

    second : OnDisk (Torn 16 (length free)) v0 v1 → OnDisk (Torn 37 (length info)) v1 v2 → Run v0 v2 Half Half
    second call1 call2 = one_write v1 v2 37 (length info) (info_range place (length info) n2) law2 (first call1) call2

    third : OnDisk (Torn 16 (length free)) v0 v1 → OnDisk (Torn 37 (length info)) v1 v2 → OnDisk (Torn place (length directory)) v2 v3 → Run v0 v3 Half Half
    third call1 call2 call3 = one_write v2 v3 place (length directory) (directory_range place (length directory) n3) law3 (second call1 call2) call3

    pub first_time : OnDisk (Torn 16 (length free)) v0 v1 → Elapses v0 v1 Half
    first_time call1 = (first call1).time

    pub second_time : OnDisk (Torn 16 (length free)) v0 v1 → OnDisk (Torn 37 (length info)) v1 v2 → Elapses v0 v2 Half
    second_time call1 call2 = (second call1 call2).time

    pub third_time : OnDisk (Torn 16 (length free)) v0 v1 → OnDisk (Torn 37 (length info)) v1 v2 → OnDisk (Torn place (length directory)) v2 v3 → Elapses v0 v3 Half
    third_time call1 call2 call3 = (third call1 call2 call3).time

    pub synced_time : OnDisk (Torn 16 (length free)) v0 v1 → OnDisk (Torn 37 (length info)) v1 v2 → OnDisk (Torn place (length directory)) v2 v3 → OnDisk Same v3 v4 → Elapses v0 v4 Half
    synced_time call1 call2 call3 call4 = (stays law4 (third call1 call2 call3) call4 (λ i s q. q)).time

  written : (f1 f2 f3 : List ℕ) → Put 16 free file f1 → Put 37 info f1 f2 → Put place directory f2 f3 → WritesFields free info place directory file f3
  written f1 f2 f3 p1 p2 p3 = record {
    others = λ k x at was.
        p3.outside k x (directory_range place (length directory) n3 k at) (p2.outside k x (info_range place (length info) n2 k at) (p1.outside k x (free_range place (length free) n1 k at) was));
    free_there = has_keeps f2 f3 16 free (λ i x a b was. p3.outside i x (inl (omega (arith, b, n1, later))) was) (has_keeps f1 f2 16 free (λ i x a b was. p2.outside i x (inl (omega (arith, b, n1))) was) p1.written);
    info_there = has_keeps f2 f3 37 info (λ i x a b was. p3.outside i x (inl (omega (arith, b, n2, later))) was) p2.written;
    directory_there = p3.written;
  }

  -- the file as the writes leave it
  pub fields_held : (v1 v2 v3 v4 : View) → Becomes (Put 16 free) v0.holds v1.holds → Becomes (Put 37 info) v1.holds v2.holds → Becomes (Put place directory) v2.holds v3.holds → v4.holds ≡ v3.holds
      → (new : List ℕ) × (v4.holds ≡ Some new) × WritesFields free info place directory file new
  fields_held v1 v2 v3 v4 b1 b2 b3 same =
      let f1 = becomes_some (Put 16 free) v0.holds v1.holds file holds b1 in
      let f2 = becomes_some (Put 37 info) v1.holds v2.holds f1.0 f1.1 b2 in
      let f3 = becomes_some (Put place directory) v2.holds v3.holds f2.0 f2.1 b3 in
      (f3.0, same ∙ f3.1, written f1.0 f2.0 f3.0 f1.2 f2.2 f3.2)

-- ---- and then END

module _ (v0 v1 : View) (file free info : List ℕ) (place : ℕ) (directory : List ℕ) (end : ℕ) (time1 : Elapses v0 v1 (IsFieldsOrNot v0 place file)) where
  abbrev All : Outcomes
  All = IsFieldsThenEnd v0 free info place directory end file

  half_all : (i s : List ℕ) → IsFieldsOrNot v0 place file i s → All i s
  half_all i s q = record { image_is = inl q.others; text = q.text }

  pub half_time : Elapses v0 v1 All
  half_time = elapses_as All (IsFieldsOrNot v0 place file) time1 half_all

  module _ (staged : List ℕ) (told : v1.holds ≡ Some staged) (writes_them : WritesFields free info place directory file staged) (quiet : IsQuiet v1) (same : v1.said ≡ v0.said) (law1 : IsLawful v1) where
    abbrev Staged : Outcomes
    Staged image said = (image ≡ staged) × ((all : List ℕ) → v0.said ≡ Some all → said ≡ all)

    there : Run v0 v1 All Staged
    there = record { time = half_time; here = λ i s left. (quiet i s staged left told, λ all was. law1.text i s all left (same ∙ was)) }

    ends : (d i s : List ℕ) → Staged d s → PutOrNot 12 (big_bytes 4 end) d i → All i s
    ends d i s q makes = record {
      image_is = ⊎_elim
          (λ is. inl (subst (KeepsAllButFields place file) (sym (is ∙ q.0)) writes_them.others))
          (λ put. inr (staged, writes_them, subst (λ (f : List ℕ). Put 12 (big_bytes 4 end) f i) q.0 put))
          makes;
      text = q.1;
    }

    worded : (v2 : View) → IsLawful v2 → OnDisk (PutOrNot 12 (big_bytes 4 end)) v1 v2 → Run v0 v2 All All
    worded v2 law2 call = writes_word 12 (big_bytes 4 end) All law2 there call ends (λ i s q. q)

    pub worded_time : (v2 : View) → IsLawful v2 → OnDisk (PutOrNot 12 (big_bytes 4 end)) v1 v2 → Elapses v0 v2 All
    worded_time v2 law2 call = (worded v2 law2 call).time

    pub ended_time : (v2 v3 : View) → IsLawful v2 → IsLawful v3 → OnDisk (PutOrNot 12 (big_bytes 4 end)) v1 v2 → OnDisk Same v2 v3 → Elapses v0 v3 All
    ended_time v2 v3 law2 law3 call2 call3 = (stays law3 (worded v2 law2 call2) call3 (λ i s q. q)).time

    pub end_held : (v2 v3 : View) → Becomes (Put 12 (big_bytes 4 end)) v1.holds v2.holds → v3.holds ≡ v2.holds → (new : List ℕ) × (v3.holds ≡ Some new) × FieldsThenEnd free info place directory end file new
    end_held v2 v3 becomes stays_same =
        let new = becomes_some (Put 12 (big_bytes 4 end)) v1.holds v2.holds staged told becomes in
        (new.0, stays_same ∙ new.1, (staged, writes_them, new.2))
