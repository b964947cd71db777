-- A key list in the bytes of its record.
use Rattle.std.proofs.{Common.{◌≡◌, ℕ, false, ltb, ◌+◌, ◌-◌, ◌<◌, List, [], length, drop, Ok, Err, refl, ap, ◌∙◌, arith}, lemmas.List.{drop_all}}
use Rattle.std.proofs.lemmas.Bool.{le-ltb}
use Rattle.rio_num.specs.{At.{standing_at}, Plain.{value_of}, Reading.{◌>>=◌}}
use Rattle.rio_num.proofs.Plain.{standing, value_err}
use Rattle.std.specs.Prelude.{unwrap_or}
use Rattle.rio_key.specs.{declared.head.KeyHead.{KeyHead}, Key.{key_at}, KeyList.{key_list_at, key_list_layout}, declared.fault.ListFault.{ListFault}}
use Rattle.rio_head.specs.{declared.fault.FileFault.TheVariants.{BadKeyList}, Head.{fault_at}}
use Rattle.rio_dir.specs.Closed.{heads_of, or_bad_list, or_fault}
use Rattle.rio_close.specs.Opens.{listed_in}
use Rattle.rio_close.proofs.Records.{Keyed}

-- a key that ends behind the bytes leaves no count
no_count : (place keylen : ℕ) (bytes : List ℕ) → length bytes < keylen → or_bad_list place (key_list_at (standing (place + keylen) (drop keylen bytes))) ≡ Err (fault_at place BadKeyList)
unfolding key_list_layout
no_count place keylen bytes lt =
    let none : drop keylen bytes ≡ [] = drop_all keylen bytes (omega (arith, lt)) in
    ap (λ (b : List ℕ). or_bad_list place (key_list_at (standing (place + keylen) b))) none ∙ refl

pub listed_past : (place : ℕ) (bytes : List ℕ) (h : KeyHead) → key_at (standing place bytes) ≡ Ok h → length bytes < h.keylen → listed_in place bytes ≡ Err (fault_at place BadKeyList)
unfolding listed_in
listed_past place bytes h is lt =
    ap (λ (k : Keyed). or_fault (fault_at place BadKeyList) k >>= λ key. heads_of place key (standing (place + key.keylen) (drop key.keylen bytes))) is ∙ no_count place h.keylen bytes lt

pub standing_here : (place : ℕ) (bytes : List ℕ) → standing_at place place bytes ≡ standing place bytes
standing_here place bytes =
    let here : ltb place place ≡ false = le-ltb place place (omega arith) in
    let none : place - place ≡ 0 = omega arith in
    rw (here, none) refl

-- a list that breaks breaks where it says, or with its count
pub listed_broken : (place : ℕ) (bytes : List ℕ) (h : KeyHead) (e : ListFault) → key_at (standing place bytes) ≡ Ok h → value_of (key_list_at (standing (place + h.keylen) (drop h.keylen bytes))) ≡ Err e
    → listed_in place bytes ≡ Err (fault_at (unwrap_or e.head place) BadKeyList)
unfolding listed_in
listed_broken place bytes h e is broken =
    ap (λ (k : Keyed). or_fault (fault_at place BadKeyList) k >>= λ key. heads_of place key (standing (place + key.keylen) (drop key.keylen bytes))) is
    ∙ ap (or_bad_list place) (value_err (key_list_at (standing (place + h.keylen) (drop h.keylen bytes))) e broken)
