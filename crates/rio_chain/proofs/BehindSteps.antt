-- What a stop leaves while bytes and then a word are written.
use Rattle.std.proofs.Common.{◌≡◌, inl, inr, ⊎_elim, ℕ, ◌+◌, List, length, Some, subst, sym, ◌∙◌}
use Rattle.rio_host.specs.{Image.{Torn, Put, PutOrNot, Same}, Host.{View, Elapses, OnDisk, IsLawful, IsQuiet, Becomes}}
use Rattle.rio_host.proofs.{Images.{becomes_some}, Moments.{Outcomes, Run, begins, writes, writes_word, stays, settles}}
use Rattle.rio_chain.specs.Stops.{BodyThenWord, IsBodyBehind, IsSaidText, IsWordOrNot}

module _ (v0 : View) (file : List ℕ) (place : ℕ) (tail word : List ℕ) (holds : v0.holds ≡ Some file) (quiet : IsQuiet v0) (law0 : IsLawful v0) where
  abbrev pub All : Outcomes
  All = IsBodyBehind v0 file place tail word

  -- the first write alone
  abbrev pub First : Outcomes
  First image said = Torn (place + 4) (length tail) file image × IsSaidText v0 said

  first_is : (image said : List ℕ) → First image said → All image said
  first_is image said q = record { image_is = inl q.0; text = q.1 }

  pub wrote : (v1 : View) → IsLawful v1 → OnDisk (Torn (place + 4) (length tail)) v0 v1 → Run v0 v1 All First
  wrote v1 law call =
      writes (place + 4) (length tail) First law
      (begins v0 All (λ i s. (i ≡ file) × IsSaidText v0 s) (λ i s left. (quiet i s file left holds, λ all told. law0.text i s all left told)))
      call (λ d i s q torn. (subst (λ f. Torn (place + 4) (length tail) f i) q.0 torn, q.1)) first_is

  pub synced : (v1 v2 : View) → IsLawful v1 → IsLawful v2 → OnDisk (Torn (place + 4) (length tail)) v0 v1 → OnDisk Same v1 v2 → Run v0 v2 All First
  synced v1 v2 law1 law2 call1 call2 = stays law2 (wrote v1 law1 call1) call2 first_is

  module _ (v1 v2 v3 : View) (law1 : IsLawful v1) (law2 : IsLawful v2) (law3 : IsLawful v3) (call1 : OnDisk (Torn (place + 4) (length tail)) v0 v1) (call2 : OnDisk Same v1 v2)
      (same : v2.holds ≡ v1.holds) (quiet2 : IsQuiet v2) (becomes : Becomes (Put (place + 4) tail) v0.holds v1.holds) where
    new : (f : List ℕ) × (v1.holds ≡ Some f) × Put (place + 4) tail file f
    new = becomes_some (Put (place + 4) tail) v0.holds v1.holds file holds becomes

    pub worded : OnDisk (PutOrNot place word) v2 v3 → Run v0 v3 All All
    worded call3 = writes_word place word All law3 (settles new.0 (synced v1 v2 law1 law2 call1 call2) quiet2 (same ∙ new.1)) call3
        (λ d i s q makes. ⊎_elim
        (λ is. first_is i s (subst (λ f. First f s) (sym is) q.1))
        (λ put. record { image_is = inr (new.0, new.2, subst (λ f. Put place word f i) q.0 put); text = q.1.1 })
        makes)
        (λ i s q. q)

    pub ended : (v4 : View) → Becomes (Put place word) v2.holds v3.holds → v4.holds ≡ v3.holds → (f : List ℕ) × (v4.holds ≡ Some f) × BodyThenWord file place tail word f
    ended v4 becomes3 same4 =
        let then = becomes_some (Put place word) v2.holds v3.holds new.0 (same ∙ new.1) becomes3 in (then.0, same4 ∙ then.1, (new.0, new.2, then.2))

pub wrote_time : (v0 v1 : View) (file : List ℕ) (place : ℕ) (tail word : List ℕ) → v0.holds ≡ Some file → IsQuiet v0 → IsLawful v0 → IsLawful v1 → OnDisk (Torn (place + 4) (length tail)) v0 v1 → Elapses v0 v1 (IsBodyBehind v0 file place tail word)
wrote_time v0 v1 file place tail word holds quiet law0 law1 call = (wrote v0 file place tail word holds quiet law0 v1 law1 call).time

pub synced_time : (v0 v1 v2 : View) (file : List ℕ) (place : ℕ) (tail word : List ℕ) → v0.holds ≡ Some file → IsQuiet v0 → IsLawful v0 → IsLawful v1 → IsLawful v2 → OnDisk (Torn (place + 4) (length tail)) v0 v1 → OnDisk Same v1 v2 → Elapses v0 v2 (IsBodyBehind v0 file place tail word)
synced_time v0 v1 v2 file place tail word holds quiet law0 law1 law2 call1 call2 = (synced v0 file place tail word holds quiet law0 v1 v2 law1 law2 call1 call2).time

pub worded_time : (v0 v1 v2 v3 : View) (file : List ℕ) (place : ℕ) (tail word : List ℕ) → v0.holds ≡ Some file → IsQuiet v0 → IsLawful v0 → IsLawful v1 → IsLawful v2 → IsLawful v3
    → OnDisk (Torn (place + 4) (length tail)) v0 v1 → OnDisk Same v1 v2 → v2.holds ≡ v1.holds → IsQuiet v2 → Becomes (Put (place + 4) tail) v0.holds v1.holds → OnDisk (PutOrNot place word) v2 v3 → Elapses v0 v3 (IsBodyBehind v0 file place tail word)
worded_time v0 v1 v2 v3 file place tail word holds quiet law0 law1 law2 law3 call1 call2 same quiet2 becomes call3 = (worded v0 file place tail word holds quiet law0 v1 v2 v3 law1 law2 law3 call1 call2 same quiet2 becomes call3).time

pub ended_time : (v0 v1 v2 v3 v4 : View) (file : List ℕ) (place : ℕ) (tail word : List ℕ) → v0.holds ≡ Some file → IsQuiet v0 → IsLawful v0 → IsLawful v1 → IsLawful v2 → IsLawful v3 → IsLawful v4
    → OnDisk (Torn (place + 4) (length tail)) v0 v1 → OnDisk Same v1 v2 → v2.holds ≡ v1.holds → IsQuiet v2 → Becomes (Put (place + 4) tail) v0.holds v1.holds → OnDisk (PutOrNot place word) v2 v3 → OnDisk Same v3 v4 → Elapses v0 v4 (IsBodyBehind v0 file place tail word)
ended_time v0 v1 v2 v3 v4 file place tail word holds quiet law0 law1 law2 law3 law4 call1 call2 same quiet2 becomes call3 call4 = (stays law4 (worded v0 file place tail word holds quiet law0 v1 v2 v3 law1 law2 law3 call1 call2 same quiet2 becomes call3) call4 (λ i s q. q)).time

-- ---- a word alone

module _ (v0 : View) (file : List ℕ) (place : ℕ) (word : List ℕ) (holds : v0.holds ≡ Some file) (quiet : IsQuiet v0) (law0 : IsLawful v0) where
  abbrev pub Wordly : Outcomes
  Wordly = IsWordOrNot v0 file place word

  pub one_word : (v1 : View) → IsLawful v1 → OnDisk (PutOrNot place word) v0 v1 → Run v0 v1 Wordly Wordly
  one_word v1 law call =
      writes_word place word Wordly law
      (begins v0 Wordly (λ i s. (i ≡ file) × IsSaidText v0 s) (λ i s left. (quiet i s file left holds, λ all told. law0.text i s all left told)))
      call (λ d i s q makes. record { image_is = subst (λ (f : List ℕ). PutOrNot place word f i) q.0 makes; text = q.1 }) (λ i s q. q)

pub one_word_time : (v0 v1 : View) (file : List ℕ) (place : ℕ) (word : List ℕ) → v0.holds ≡ Some file → IsQuiet v0 → IsLawful v0 → IsLawful v1 → OnDisk (PutOrNot place word) v0 v1 → Elapses v0 v1 (IsWordOrNot v0 file place word)
one_word_time v0 v1 file place word holds quiet law0 law1 call = (one_word v0 file place word holds quiet law0 v1 law1 call).time

pub word_synced_time : (v0 v1 v2 : View) (file : List ℕ) (place : ℕ) (word : List ℕ) → v0.holds ≡ Some file → IsQuiet v0 → IsLawful v0 → IsLawful v1 → IsLawful v2 → OnDisk (PutOrNot place word) v0 v1 → OnDisk Same v1 v2 → Elapses v0 v2 (IsWordOrNot v0 file place word)
word_synced_time v0 v1 v2 file place word holds quiet law0 law1 law2 call1 call2 = (stays law2 (one_word v0 file place word holds quiet law0 v1 law1 call1) call2 (λ i s q. q)).time
