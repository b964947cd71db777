-- What was said, whatever was told before.
use Rattle.std.proofs.{Common.{◌≡◌, ℕ, List, [], ◌++◌, length, take, Option, Some, None, refl, sym, ap, ◌∙◌}, Math.Seq.{take-length}, lemmas.List.{append-nil}}
use Rattle.rio_host.specs.{Host.{Becomes, Elapses, Leaves, Longer, LongerByPart, Speaking, View}, OnlyReads.{Grown, OnlyReads}}
use Rattle.rio_host.proofs.{Images.{becomes_as, becomes_some}, Moments.{elapses_as}}
use Rattle.rio_session.specs.Behind.{SaysPart, Stays}

-- ---- how it grows

pub grows_whole : (text : List ℕ) (a b : Option (List ℕ)) → Becomes (Longer text) a b → Becomes Grown a b
grows_whole text a b is = becomes_as (Longer text) Grown a b (λ x y same. (text, same)) is

pub grows_none : (a b : Option (List ℕ)) → b ≡ a → Becomes Grown a b
grows_none (Some x) b same = (x, same, ([], sym (append-nil x)))
grows_none None b same = same

abbrev some_text : List ℕ → Option (List ℕ)
some_text l = Some l

-- an empty text makes it no longer
pub same_if_empty : (a b : Option (List ℕ)) → Becomes (Longer []) a b → b ≡ a
same_if_empty (Some x) b is = is.1 ∙ ap some_text (is.2 ∙ append-nil x)
same_if_empty None b is = is

pub empty_if_same : (a : Option (List ℕ)) → Becomes (Longer []) a a
empty_if_same (Some x) = (x, refl, sym (append-nil x))
empty_if_same None = refl

-- ---- fronts of a reply

pub front_whole : (old new : View) (said text reply : List ℕ) → old.said ≡ Some said → text ≡ reply → Becomes (Longer text) old.said new.said → SaysPart new said reply
front_whole old new said text reply told same is =
    let grown = becomes_some (Longer text) old.said new.said said told is in
    (length reply, grown.1 ∙ ap some_text (grown.2 ∙ ap (λ (l : List ℕ). said ++ l) (same ∙ sym (take-length reply))))

pub front_part : (old new : View) (said text reply : List ℕ) → old.said ≡ Some said → text ≡ reply → Becomes (LongerByPart text) old.said new.said → SaysPart new said reply
front_part old new said text reply told same is =
    let grown = becomes_some (LongerByPart text) old.said new.said said told is in
    (grown.2.0, grown.1 ∙ ap some_text (grown.2.1 ∙ ap (λ (l : List ℕ). said ++ take grown.2.0 l) same))

pub front_none : (old new : View) (said reply : List ℕ) → old.said ≡ Some said → new.said ≡ old.said → SaysPart new said reply
front_none old new said reply told same = (0, same ∙ told ∙ ap some_text (sym (append-nil said)))

-- ---- nothing written

pub speaking_stays : (text : List ℕ) (old new : View) → new.holds ≡ old.holds → Elapses old new (Speaking text old) → Stays old new
speaking_stays text old new same time = (same, elapses_as (λ image said. (before : List ℕ) × Leaves old image before) (Speaking text old) time (λ i t spoken. (spoken.0, spoken.1)))

pub reads_stay : (old new : View) → OnlyReads old new → Stays old new
reads_stay old new calls = (calls.holds, elapses_as (λ image said. (before : List ℕ) × Leaves old image before) (Leaves old) calls.time (λ i t left. (t, left)))
