-- The line of a closed file is made and said.
use Rattle.std.proofs.Common.{◌≡◌, ◌∙◌, ℕ, List, take, Option, Some, Ok, Err, subst, sym, ap}
use Rattle.std.proofs.lemmas.List.{append-nil}
use Rattle.rio_gen.specs.{Generated.{tree_name}, Summary.{summary_text}}
use Rattle.rio_head.specs.declared.fault.HeadFault.{HeadFault}
use Rattle.rio_num.specs.Room.{Room}
use Rattle.rio_num.proofs.ReadLaws.{ok_is}
use Rattle.rio_report.specs.{Summary.{summarized_file}, declared.summary.TreeSummary.{TreeSummary}}
use Rattle.rio_host.specs.{Host.{Becomes, Elapses, IsLawful, Leaves, Longer, LongerByPart, Rose, Speaking, View}, OnlyReads.{Grown, OnlyReads}, Reading.{Told}}
use Rattle.rio_host.proofs.{Images.{becomes_as}, Moments.{elapses_as}, ReadsLaws.{reads_speaks}}
use Rattle.rio_session.specs.Causes.{IsSessionCause}
use Rattle.rio_session.specs.declared.fault.SessionFault.{SessionFault, TheVariants.{HostFault, SayFault, NoMemory}}
use Rattle.rio_session.proofs.Spoken.{grows_none, grows_whole}
use Rattle.rootio.specs.Generating.{IsLineOf, IsLookCause, MakesLine, SaysLine, SaysSummary}

-- the line of a tree's summary
abbrev pub line_by : ℕ → TreeSummary → List ℕ
line_by entries s = summary_text (record { entries = entries; baskets = s.baskets; sum = s.sum })

-- what was read of the file makes its line
pub makes_line : (entries : ℕ) (file line : List ℕ) (tree : TreeSummary) → summarized_file tree_name file ≡ Ok tree → line ≡ line_by entries tree → MakesLine entries file line
makes_line entries file line tree is made s e = made ∙ ap (line_by entries) (ok_is {E = HeadFault} tree s (sym is ∙ e))

-- a line of what the file sums up to is the one that was made
line_one : (entries : ℕ) (file line made : List ℕ) → MakesLine entries file made → IsLineOf entries file line → line ≡ made
line_one entries file line made makes is = is.2 ∙ sym (makes is.0 is.1)

-- looking says nothing
silent : (v0 v1 : View) (calls : OnlyReads v0 v1) (line : List ℕ) → Elapses v0 v1 (Speaking line v0)
silent v0 v1 calls line = elapses_as (Speaking line v0) (Leaves v0) calls.time (λ image said left. (said, left, (0, sym (append-nil said))))

pub not_made : (entries : ℕ) (v0 v1 : View) → IsLawful v0 → (calls : OnlyReads v0 v1) (e : SessionFault) → IsLookCause {X = Room} v0 v1 (Err e) → SaysSummary entries v0 v1 (Err e)
not_made entries v0 v1 law calls e cause = record {
  holds = calls.holds;
  grows = grows_none v0.said v1.said calls.said;
  time = λ file line here is. silent v0 v1 calls line;
  said = λ file line here is. by line e cause;
  cause = why e cause;
}
  where
    by : (line : List ℕ) (f : SessionFault) → IsLookCause {X = Room} v0 v1 (Err f) → SaysLine line v0 v1 (Err f)
    by line HostFault c = calls.said
    by line SayFault c = absurd c
    by line NoMemory c = calls.said

    why : (f : SessionFault) → IsLookCause {X = Room} v0 v1 (Err f) → IsSessionCause {X = Unit {0}} v0 v1 (Err f)
    why HostFault c = (c, calls.say_faults)
    why SayFault c = absurd c
    why NoMemory c = (c, calls.say_faults)

module _ (entries : ℕ) (v0 v1 v2 : View) (law1 : IsLawful v1) (calls : OnlyReads v0 v1) (calm : v1.disk_faults ≡ v0.disk_faults) (made bytes : List ℕ) (same : bytes ≡ made)
    (makes : Told v0 (λ file. MakesLine entries file made)) (speaks : Elapses v1 v2 (Speaking bytes v1)) (holds : v2.holds ≡ v1.holds) (disk : v2.disk_faults ≡ v1.disk_faults) where
  is_bytes : (file line : List ℕ) → v0.holds ≡ Some file → IsLineOf entries file line → bytes ≡ line
  is_bytes file line here is = same ∙ sym (line_one entries file line made (makes file here) is)

  time_all : (file line : List ℕ) → v0.holds ≡ Some file → IsLineOf entries file line → Elapses v0 v2 (Speaking line v0)
  time_all file line here is = subst (λ (l : List ℕ). Elapses v0 v2 (Speaking l v0)) (is_bytes file line here is) (reads_speaks bytes law1 calls speaks)

  pub said_all : Becomes (Longer bytes) v1.said v2.said → v2.say_faults ≡ v1.say_faults → SaysSummary entries v0 v2 (Ok tt)
  said_all longer say = record {
    holds = holds ∙ calls.holds;
    grows = subst (λ (o : Option (List ℕ)). Becomes Grown o v2.said) calls.said (grows_whole bytes v1.said v2.said longer);
    time = time_all;
    said = λ file line here is. subst (λ (l : List ℕ). Becomes (Longer l) v0.said v2.said) (is_bytes file line here is) (subst (λ (o : Option (List ℕ)). Becomes (Longer bytes) o v2.said) calls.said longer);
    cause = (disk ∙ calm, say ∙ calls.say_faults);
  }

  pub said_part : Becomes (LongerByPart bytes) v1.said v2.said → Rose v1.say_faults v2.say_faults → SaysSummary entries v0 v2 (Err SayFault)
  said_part part rose = record {
    holds = holds ∙ calls.holds;
    grows = subst (λ (o : Option (List ℕ)). Becomes Grown o v2.said) calls.said (becomes_as (LongerByPart bytes) Grown v1.said v2.said (λ x y grown. (take grown.0 bytes, grown.1)) part);
    time = time_all;
    said = λ file line here is. subst (λ (l : List ℕ). Becomes (LongerByPart l) v0.said v2.said) (is_bytes file line here is) (subst (λ (o : Option (List ℕ)). Becomes (LongerByPart bytes) o v2.said) calls.said part);
    cause = (disk ∙ calm, rw (← calls.say_faults) rose);
  }
