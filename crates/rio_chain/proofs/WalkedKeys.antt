-- The keys that a walk finds.
use Rattle.std.proofs.Common.{◌≢◌, ℕ, List, [], ◌∷◌, ◌++◌, Option, Some, None, Result, Ok, Err}
use Rattle.std.specs.Prelude.{IfOk, IfSome, is_some}
use Rattle.rio_key.specs.declared.head.KeyHead.{KeyHead}
use Rattle.rio_host.specs.{Host.{View}, Reading.{Told}}
use Rattle.rio_chain.specs.{declared.segment.Segment.{Segment, TheVariants.{Record, Gap}}, declared.fault.WalkFault.{WalkFault}}
use Rattle.rio_chain.specs.{Found.{FindsRecord, FindsWhole}, Keyed.{AreKeyed, HasKeyAt, IsKeyed, IsRecordKey, IsWalkedKey, keys_in}}
use Rattle.rio_chain.proofs.Links.{whole_elsewhere}

-- ---- at another place than 100

pub whole_there : (v : View) (place n : ℕ) (r : Result (Option KeyHead) WalkFault) → place ≢ 100 → IfOk r (λ key. Told v (FindsRecord place n (is_some key)))
    → IfOk r (λ key. Told v (FindsWhole place n (is_some key)))
whole_there v place n (Ok key) ne finds = λ file told. whole_elsewhere file place n (is_some key) ne (finds file told)
whole_there v place n (Err e) ne finds = tt

walked_key : (place n : ℕ) (key : Option KeyHead) → place ≢ 100 → IfSome key (IsRecordKey place n) → IfSome key (IsWalkedKey place n)
walked_key place n (Some head) ne is = (is, λ e. absurd (ne e))
walked_key place n None ne is = tt

pub walked_elsewhere : (place n : ℕ) (r : Result (Option KeyHead) WalkFault) → place ≢ 100 → IfOk r (λ key. IfSome key (IsRecordKey place n)) → IfOk r (λ key. IfSome key (IsWalkedKey place n))
walked_elsewhere place n (Ok key) ne is = walked_key place n key ne is
walked_elsewhere place n (Err e) ne is = tt

-- ---- one segment after the other

pub keyed_more : (Holds : ℕ → ℕ → KeyHead → Type 0) (segments : List Segment) (heads : List KeyHead) (s : Segment) (key : Option KeyHead) → AreKeyed Holds segments heads → IsKeyed Holds s key
    → AreKeyed Holds (segments ++ s ∷ []) (heads ++ keys_in key)
keyed_more Holds [] [] (Record p n) (Some head) all one = (one, tt)
keyed_more Holds [] [] (Record p n) None all one = absurd one
keyed_more Holds [] [] (Gap p n) (Some head) all one = absurd one
keyed_more Holds [] [] (Gap p n) None all one = tt
keyed_more Holds [] (h ∷ heads) s key all one = absurd all
keyed_more Holds (Record p n ∷ segments) [] s key all one = absurd all
keyed_more Holds (Record p n ∷ segments) (h ∷ heads) s key all one = (all.0, keyed_more Holds segments heads s key all.1 one)
keyed_more Holds (Gap p n ∷ segments) heads s key all one = keyed_more Holds segments heads s key all one

-- the keys of the segments so far
pub record KeysSoFar (v : View) (segments : List Segment) (heads : List KeyHead) : Type 0 where
  pub walked : AreKeyed IsWalkedKey segments heads
  pub stand : Told v (λ file. AreKeyed (λ p n head. HasKeyAt head p n file) segments heads)
