-- A closed file is read as it is spelled.
use Rattle.std.proofs.Common.{◌≡◌, ◌≢◌, inl, inr, ℕ, ◌≤◌, Bool, true, false, cond, ltb, eqb, List, [], length, drop, Result, Ok, Err, refl, sym, ap, subst, ◌∙◌}
use Rattle.std.proofs.lemmas.Bool.{le-ltb, ltb-false, eq-eqb, ne_eqb, eqb-true, eqb-false}
use Rattle.std.specs.Int.{w32, cast_unsigned}
use Rattle.rio_num.specs.{Meanings.{Reading, Standing}, Reading.{◌>>=◌}, Plain.{IsSpelledIn, value_of}}
use Rattle.rio_num.proofs.{ReadLaws.{IsBytes, IsBytes-drop, IsBytes-take, bind_is, bind_ok, guard_ok, ok_is}, Plain.{standing, value_ok}}
use Rattle.rio_key.specs.{declared.head.KeyHead.{KeyHead}, declared.fault.ListFault.{ListFault}, Key.{SpellsKey, key_at, key_head_at}, KeyList.{SpellsKeyList, key_list_at}}
use Rattle.rio_key.proofs.{KeyAgain.{key_again, key_found}, KeyListLaws.{key_list_again, key_list_found}}
use Rattle.rio_head.specs.{declared.head.FileHead.{FileHead}, declared.dir.DirRecord.{DirRecord}, declared.fault.HeadFault.{HeadFault}}
use Rattle.rio_head.specs.{declared.fault.FileFault.TheVariants.{NotClosed, BadDir, BadKeyList}, Head.{fault_at, head_at, BeginsAsHead}, Dir.{dir_at}}
use Rattle.rio_head.proofs.{HeadAgain.{head_only, header_found}, DirLaws.{dir_found, dir_only}}
use Rattle.rio_dir.specs.declared.closed.Closed.{Closed}
use Rattle.rio_dir.specs.Closed.{file_at, dir_place, closed_head, closed_dir, closed_keys, closed_file, data_at, heads_of, listed_at, or_bad_list, or_fault}
use Rattle.rio_dir.specs.{Grammar.{IsKeyList, HasKeys, IsClosedFile, ClosedIsSpelled, SpelledIsClosed, IsListedOnce}, Listing.{key_lines}}

-- ---- what is spelled is read

head_again : (file : List ℕ) (h : FileHead) → BeginsAsHead h file → h.end ≤ length file → closed_head file ≡ Ok h
unfolding closed_head
head_again file h begins le =
    let within : ltb (length file) h.end ≡ false = le-ltb _ _ le in
    bind_is (head_at file) h (λ head. cond (ltb (length file) head.end) (Err (fault_at 12 NotClosed)) (Ok head)) (head_only h 0 file begins) ∙ rw within refl

key_there : (p : ℕ) (bytes : List ℕ) (h : KeyHead) → IsSpelledIn (SpellsKey h) bytes → key_at (record { place = p; rest = bytes }) ≡ Ok h
key_there p bytes h is = ap (λ (b : List ℕ). key_at (standing p b)) is.2 ∙ ap value_of (key_again h is.0 p is.1 is.3)

list_there : (q p : ℕ) (bytes : List ℕ) (hs : List KeyHead) → IsSpelledIn (SpellsKeyList hs) bytes → or_bad_list q (key_list_at (record { place = p; rest = bytes })) ≡ Ok hs
list_there q p bytes hs is = ap (λ (b : List ℕ). or_bad_list q (key_list_at (standing p b))) is.2 ∙ ap (or_bad_list q) (key_list_again hs is.0 p is.1 is.3)

pub keys_again : (file : List ℕ) (place : ℕ) (keys : List KeyHead) → HasKeys file place keys → closed_keys file place ≡ Ok keys
unfolding listed_at
keys_again file place keys (inl none) =
    let zero : eqb place 0 ≡ true = eq-eqb place 0 none.0 in
    rw (zero, none.1) refl
keys_again file place keys (inr is) =
    let some : eqb place 0 ≡ false = ne_eqb place 0 is.somewhere in
    let key = ap (or_fault (fault_at place BadKeyList)) (key_there place (drop place file) is.key is.key_spelled) in
    let behind = data_at file place is.key in
    rw some (bind_is (or_fault (fault_at place BadKeyList) (key_at (file_at file place))) is.key (λ k. heads_of place k (data_at file place k)) key ∙ list_there place behind.place behind.rest keys is.list_spelled)

abbrev Read : Type 0
Read = Result Closed HeadFault

abbrev to_end : FileHead → DirRecord → List KeyHead → Read
to_end head dir keys = Ok (record { head = head; dir = dir; keys = keys })

abbrev to_keys : List ℕ → FileHead → DirRecord → Read
to_keys file head dir = closed_keys file dir.seek_keys >>= to_end head dir

abbrev to_dir : List ℕ → FileHead → Read
to_dir file head = closed_dir file (dir_place head) >>= to_keys file head

pub spelled_is_read : SpelledIsClosed
unfolding closed_file
spelled_is_read file closed is =
    let place = dir_place closed.head in
    bind_is (closed_head file) closed.head (to_dir file) (head_again file closed.head is.head is.end)
    ∙ bind_is (closed_dir file place) closed.dir (to_keys file closed.head) (ap (or_fault (fault_at place BadDir)) (dir_only closed.dir place (drop place file) is.dir))
    ∙ bind_is (closed_keys file closed.dir.seek_keys) closed.keys (to_end closed.head closed.dir) (keys_again file closed.dir.seek_keys closed.keys is.keys)

-- ---- what is read is spelled

record IsHeadOf (file : List ℕ) (h : FileHead) : Type 0 where
  begins : BeginsAsHead h file
  within : h.end ≤ length file

head_is : (file : List ℕ) (h : FileHead) → IsBytes file → closed_head file ≡ Ok h → IsHeadOf file h
unfolding closed_head
head_is file h fits e =
    let x = bind_ok (head_at file) (λ head. cond (ltb (length file) head.end) (Err (fault_at 12 NotClosed)) (Ok head)) h e in
    let g = guard_ok (ltb (length file) x.0.end) (fault_at 12 NotClosed) x.0 h x.2 in
    let made : IsHeadOf file x.0 = record { begins = header_found (file_at file 0) x.0 fits x.1; within = ltb-false _ _ g.0 } in
    subst (IsHeadOf file) g.1 made

or_fault_ok : {A E : Type 0} (fault : HeadFault) (r : Result A E) (x : A) → or_fault fault r ≡ Ok x → r ≡ Ok x
or_fault_ok {A} {E} fault (Ok y) x e = ap (λ (z : A). let read : Result A E = Ok z in read) (ok_is {E = HeadFault} y x e)
or_fault_ok fault (Err f) x e = absurd cc

list_ok : (place : ℕ) (r : Reading (Unit {0}) ListFault (List KeyHead)) (hs : List KeyHead) → or_bad_list place r ≡ Ok hs → (t : Standing (Unit {0})) × (r ≡ Ok (hs, t))
list_ok place (Ok x) hs e = (x.1, ap (λ (y : List KeyHead). let read : Reading (Unit {0}) ListFault (List KeyHead) = Ok (y, x.1) in read) (ok_is {E = HeadFault} x.0 hs e))
list_ok place (Err f) hs e = absurd cc

listed_is : (file : List ℕ) (place : ℕ) (keys : List KeyHead) → IsBytes file → place ≢ 0 → listed_at file place ≡ Ok keys → IsKeyList file place keys
unfolding listed_at SpellsKey SpellsKeyList
listed_is file place keys fits somewhere e =
    let k = bind_ok (or_fault (fault_at place BadKeyList) (key_at (file_at file place))) (λ key. heads_of place key (data_at file place key)) keys e in
    let v = value_ok (key_head_at (file_at file place)) k.0 (or_fault_ok (fault_at place BadKeyList) (key_at (file_at file place)) k.0 k.1) in
    let l = list_ok place (key_list_at (data_at file place k.0)) keys k.2 in
    let in_file = IsBytes-drop place file fits in
    let in_record = IsBytes-drop k.0.keylen _ (IsBytes-take (cast_unsigned w32 k.0.nbytes) (drop place file) in_file) in
    let key = key_found (file_at file place) k.0 v.0.at in_file v.1 in
    let list = key_list_found (data_at file place k.0) keys l.0.at in_record l.1 in
    record {
      somewhere = somewhere;
      key = k.0;
      key_spelled = (key.bytes, v.0.at.rest, key.parts, key.spelled);
      list_spelled = (list.bytes, l.0.at.rest, list.parts, list.spelled);
    }

keys_by : (file : List ℕ) (place : ℕ) (keys : List KeyHead) (none : Bool) → IsBytes file → eqb place 0 ≡ none → cond none (Ok []) (listed_at file place) ≡ Ok keys → HasKeys file place keys
keys_by file place keys true fits is e = inl (eqb-true _ _ is, sym (ok_is {E = HeadFault} [] keys e))
keys_by file place keys false fits is e = inr (listed_is file place keys fits (eqb-false _ _ is) e)

pub read_is_spelled : ClosedIsSpelled
unfolding closed_file
read_is_spelled file closed fits e =
    let h = bind_ok (closed_head file) (to_dir file) closed e in
    let d = bind_ok (closed_dir file (dir_place h.0)) (to_keys file h.0) closed h.2 in
    let k = bind_ok (closed_keys file d.0.seek_keys) (to_end h.0 d.0) closed d.2 in
    let head = head_is file h.0 fits h.1 in
    let place = dir_place h.0 in
    let made : IsClosedFile file (record { head = h.0; dir = d.0; keys = k.0 }) = record {
      head = head.begins;
      end = head.within;
      dir = dir_found (file_at file place) d.0 (IsBytes-drop place file fits) (or_fault_ok (fault_at place BadDir) (dir_at (file_at file place)) d.0 d.1);
      keys = keys_by file d.0.seek_keys k.0 (eqb d.0.seek_keys 0) fits refl k.1;
    } in
    subst (IsClosedFile file) (ok_is {E = HeadFault} _ closed k.2) made

-- ---- one reading

pub listed_once : IsListedOnce
listed_once file a b one other =
    let same : a ≡ b = ok_is {E = HeadFault} a b (sym (spelled_is_read file a one) ∙ spelled_is_read file b other) in
    (same, ap (λ (c : Closed). key_lines c.keys) same)
