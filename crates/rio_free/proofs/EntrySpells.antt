-- One entry of a free record: what is spelled is read, and what is read is spelled.
use Rattle.std.proofs.Common.{◌≡◌, ℕ, ◌+◌, ◌-◌, ◌^◌, ◌<◌, ◌≤◌, ◌&&◌, Bool, true, false, cond, ltb, List, [], ◌++◌, length, drop, Option, Some, Result, Ok, nat_le, refl, sym, ap, subst, ◌∙◌, append_assoc, arith}
use Rattle.std.proofs.{lemmas.Bool.{and_parts, le-ltb, Decides.{nat_tests}}, lemmas.List.{append-nil, drop_at, length-append}}
use Rattle.byteorder.specs.{Endian.{big_bytes}, Numbers.{length-bytes_high_first}}
use Rattle.rio_num.specs.{At.{AreBytes, place_len_of}, Layout.{Layout, done, met, must, note, number, ◌>>=◌}, Meanings.{HasTaken, read, stand}, Room.{is_padding}}
use Rattle.rio_num.proofs.Agree.{read_is_spelled, spelled_is_read}
use Rattle.rio_num.proofs.Intro.{IsSo, done_is, first_is, here_then, met_then, note_then, number_then, so_by, still_then}
use Rattle.rio_num.proofs.ReadLaws.{IsBytes-drop, bind_ok, ok_is}
use Rattle.rio_free.specs.{declared.entry.FreeEntry.{FreeEntry}, declared.fault.FreeFault.{FreeFault, TheVariants.{BadOrder, Short}}}
use Rattle.rio_free.specs.{Entry.{is_above, next_entry}, Record.{entry_bytes}, Spelling.{HasEntry}}
use Rattle.rio_free.proofs.EntryReads.{Behind}

-- ---- how long an entry is

place_some : (version : ℕ) → 4 ≤ place_len_of version
place_some version = by (ltb 1000 version)
  where
    by : (b : Bool) → 4 ≤ cond b 8 4
    by true = omega arith
    by false = omega arith

pub entry_long : (version : ℕ) (e : FreeEntry) → 10 ≤ length (entry_bytes version e)
entry_long version e =
    let n = place_len_of version in
    omega (arith, place_some version, length-append (big_bytes 2 version) (big_bytes n e.first ++ big_bytes n e.last), length-append (big_bytes n e.first) (big_bytes n e.last), length-bytes_high_first 2 version, length-bytes_high_first n e.first, length-bytes_high_first n e.last)

pub rest_shorter : (before : Option ℕ) (e : FreeEntry) (bytes rest : List ℕ) → HasEntry before e bytes rest → length rest + 10 ≤ length bytes
rest_shorter before e bytes rest h = omega (arith, ap length h.parts, length-append (entry_bytes h.version e) rest, entry_long h.version e)

pub goes_on_behind : (bytes : List ℕ) → 4 ≤ length bytes → is_padding bytes ≡ false
goes_on_behind bytes le = let long : ltb (length bytes) 4 ≡ false = le-ltb _ _ le in rw long refl

-- ---- what is spelled is read

entry_is : (p : ℕ) (before : Option ℕ) (e : FreeEntry) (bytes rest : List ℕ) (h : HasEntry before e bytes rest) → IsSo next_entry 0 p before e (entry_bytes h.version e) (Some e.last)
unfolding next_entry
entry_is p before e bytes rest h =
    let n = place_len_of h.version in
    let in_order : nat_le e.first e.last ≡ true = grind (arith, nat_tests, h.in_order) in
    let test : (is_above before e.first && nat_le e.first e.last) ≡ true = rw (h.above, in_order) refl in
    let own : entry_bytes h.version e ≡ big_bytes 2 h.version ++ (big_bytes n e.first ++ (big_bytes n e.last ++ [])) = ap (λ (b : List ℕ). big_bytes 2 h.version ++ (big_bytes n e.first ++ b)) (sym (append-nil (big_bytes n e.last))) in
    so_by (here_then (number_then h.version h.version_fits (number_then e.first h.first_fits (number_then e.last h.last_fits (met_then (still_then tt (first_is _ test done_is) (note_then done_is))))))) refl own refl

pub entry_again : (p : ℕ) (before : Option ℕ) (e : FreeEntry) (bytes rest : List ℕ) → HasEntry before e bytes rest → read next_entry (stand p bytes before) ≡ Ok (e, stand (p + (length bytes - length rest)) rest (Some e.last))
entry_again p before e bytes rest h =
    let b = entry_bytes h.version e in
    let end : p + length b ≡ p + (length bytes - length rest) = omega (arith, ap length h.parts, length-append b rest) in
    let one = spelled_is_read next_entry 0 p before e b rest (Some e.last) (omega arith) (entry_is p before e bytes rest h).so in
    ap (λ (d : List ℕ). read next_entry (stand p d before)) h.parts ∙ one ∙ ap (λ (q : ℕ). let r : Result (FreeEntry × Behind) FreeFault = Ok (e, stand q rest (Some e.last)) in r) end

-- ---- what is read is spelled

abbrev Rules : Type 1
Rules = Layout (Option ℕ) FreeFault FreeEntry

abbrev entry_for : ℕ → ℕ → FreeEntry
entry_for first last = record { first = first; last = last }

abbrev rule_behind : ℕ → ℕ → ℕ → Rules
rule_behind place first last = met >>= λ before. must (is_above before first && nat_le first last) (BadOrder place) >>= λ ruled. note (Some last) >>= λ noted. done (entry_for first last)

abbrev last_behind : ℕ → ℕ → ℕ → Rules
last_behind place version first = number Short (place_len_of version) >>= rule_behind place first

abbrev first_behind : ℕ → ℕ → Rules
first_behind place version = number Short (place_len_of version) >>= last_behind place version

abbrev version_behind : ℕ → Rules
version_behind place = number Short 2 >>= first_behind place

-- a number, and what is behind it
record NumberThen (n : ℕ) (k : ℕ → Rules) (s : Behind) (e : FreeEntry) (s' : Behind) : Type 0 where
  x : ℕ
  next : Behind
  parts : s.at.rest ≡ big_bytes n x ++ next.at.rest
  place : next.at.place ≡ s.at.place + n
  words : next.words ≡ s.words
  small : x < 256 ^ n
  fits : AreBytes next.at.rest
  then : read (k x) next ≡ Ok (e, s')

number_and : (n : ℕ) (k : ℕ → Rules) (s : Behind) (e : FreeEntry) (s' : Behind) → AreBytes s.at.rest → read (number Short n >>= k) s ≡ Ok (e, s') → NumberThen n k s e s'
number_and n k s e s' fits h =
    let a = bind_ok (read {F = FreeFault} (number Short n) s) (λ x. read (k x.0) x.1) (e, s') h in
    let t : HasTaken {F = FreeFault} (number Short n) s a.0.0 a.0.1 = read_is_spelled (number Short n) s a.0.0 a.0.1 fits a.1 in
    let bytes : s.at.rest ≡ big_bytes n a.0.0 ++ a.0.1.at.rest = t.parts ∙ ap (λ (b : List ℕ). b ++ a.0.1.at.rest) t.spelled.1 in
    record {
      x = a.0.0;
      next = a.0.1;
      parts = bytes;
      place = omega (arith, t.place, ap length t.spelled.1, length-bytes_high_first n a.0.0);
      words = t.spelled.2;
      small = t.spelled.0;
      fits = subst AreBytes (ap (drop (length t.front)) t.parts ∙ drop_at t.front a.0.1.at.rest (length t.front) refl) (IsBytes-drop (length t.front) s.at.rest fits);
      then = a.2;
    }

record Ruled (first last : ℕ) (s : Behind) (e : FreeEntry) (s' : Behind) (b : Bool) : Type 0 where
  holds : b ≡ true
  entry : entry_for first last ≡ e
  same : record s { words = Some last } ≡ s'

ruled : (place first last : ℕ) (s : Behind) (e : FreeEntry) (s' : Behind) (b : Bool) → (is_above s.words first && nat_le first last) ≡ b → read (rule_behind place first last) s ≡ Ok (e, s') → Ruled first last s e s' b
ruled place first last s e s' true is h =
    let same = ok_is {E = FreeFault} (entry_for first last, record s { words = Some last }) (e, s') (rw is at h) in
    record { holds = refl; entry = ap (λ (q : FreeEntry × Behind). q.0) same; same = ap (λ (q : FreeEntry × Behind). q.1) same }
ruled place first last s e s' false is h = absurd (let no = rw is at h in cc)

pub record EntryFound (s : Behind) (e : FreeEntry) (s' : Behind) : Type 0 where
  pub has : HasEntry s.words e s.at.rest s'.at.rest
  pub place : s'.at.place ≡ s.at.place + (length s.at.rest - length s'.at.rest)
  pub words : s'.words ≡ Some e.last

pub entry_found : (s : Behind) (e : FreeEntry) (s' : Behind) → AreBytes s.at.rest → read next_entry s ≡ Ok (e, s') → EntryFound s e s'
unfolding next_entry
entry_found s e s' fits h =
    let v = number_and 2 (first_behind s.at.place) s e s' fits h in
    let n = place_len_of v.x in
    let f = number_and n (last_behind s.at.place v.x) v.next e s' v.fits v.then in
    let l = number_and n (rule_behind s.at.place f.x) f.next e s' f.fits f.then in
    let r = ruled s.at.place f.x l.x l.next e s' _ refl l.then in
    let words : l.next.words ≡ s.words = l.words ∙ f.words ∙ v.words in
    let tests = and_parts (is_above l.next.words f.x) (nat_le f.x l.x) r.holds in
    let places : v.next.at.rest ≡ (big_bytes n f.x ++ big_bytes n l.x) ++ l.next.at.rest = f.parts ∙ ap (λ (b : List ℕ). big_bytes n f.x ++ b) l.parts ∙ sym (append_assoc (big_bytes n f.x) (big_bytes n l.x) l.next.at.rest) in
    let whole : s.at.rest ≡ entry_bytes v.x (entry_for f.x l.x) ++ l.next.at.rest = v.parts ∙ ap (λ (b : List ℕ). big_bytes 2 v.x ++ b) places ∙ sym (append_assoc (big_bytes 2 v.x) (big_bytes n f.x ++ big_bytes n l.x) l.next.at.rest) in
    let made : EntryFound s (entry_for f.x l.x) (record l.next { words = Some l.x }) = record {
      has = record {
        version = v.x;
        version_fits = v.small;
        first_fits = f.small;
        last_fits = l.small;
        parts = whole;
        above = ap (λ (b : Option ℕ). is_above b f.x) (sym words) ∙ tests.0;
        in_order = grind (arith, nat_tests, tests.1);
      };
      place = omega (arith, v.place, f.place, l.place, ap length v.parts, ap length f.parts, ap length l.parts, length-append (big_bytes 2 v.x) v.next.at.rest, length-append (big_bytes n f.x) f.next.at.rest, length-append (big_bytes n l.x) l.next.at.rest, length-bytes_high_first 2 v.x, length-bytes_high_first n f.x, length-bytes_high_first n l.x);
      words = refl;
    } in
    subst (λ (q : FreeEntry × Behind). EntryFound s q.0 q.1) (λ i. (r.entry i, r.same i)) made
