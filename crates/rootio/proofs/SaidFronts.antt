-- What a run has said, whatever it answers: a front of all that it says.
use Rattle.std.proofs.{Common.{◌≡◌, ⊎_elim, ℕ, List, Option, Some, sym, ap, ◌∙◌}, lemmas.List.{append-nil}}
use Rattle.rio_host.specs.{Host.{Any, Becomes, Elapses, IsLawful, View}, OnlyReads.{Grown}}
use Rattle.rio_host.proofs.{Images.{becomes_some}, Moments.{leaves_back}}
use Rattle.rio_session.specs.Behind.{SaysPart}
use Rattle.rootio.specs.Headline.{IsStopOf, ScriptRun, all_texts}

abbrev some_said : List ℕ → Option (List ℕ)
some_said l = Some l

-- what was said is what a stop leaves of it
pub said_front : (old new : View) (file text : List ℕ) (r : ScriptRun) → IsLawful old → IsLawful new → old.holds ≡ Some file → old.said ≡ Some text → Elapses old new (IsStopOf r file text)
    → Becomes Any old.holds new.holds → Becomes Grown old.said new.said → SaysPart new text (all_texts r)
said_front old new file text r law law' here before time told said =
    let image = becomes_some Any old.holds new.holds file here told in
    let now = becomes_some Grown old.said new.said text before said in
    let left = law'.as_read image.0 image.1 in
    let same : left.0 ≡ now.0 = law'.text image.0 left.0 now.0 left.1 now.1 in
    ⊎_elim
    (λ was. (0, now.1 ∙ ap some_said (sym same ∙ law.text image.0 left.0 text was before ∙ sym (append-nil text))))
    (λ stop. (stop.replies.bytes, now.1 ∙ ap some_said (sym same ∙ stop.replies.text)))
    (leaves_back law' time image.0 left.0 left.1)
