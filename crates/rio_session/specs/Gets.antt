-- What it is to print an object.
use Rattle.std.specs.Prelude.{◌≡◌, ℕ, ℤ, List, drop, Contains, Option, Some, None, Result, Ok, Err, IfOk}
use Rattle.rio_host.specs.Host.{View}
use Rattle.rio_key.specs.declared.head.KeyHead.{KeyHead}
use Rattle.rio_format.specs.{Objects.{value_at}, declared.class.ClassDef.{ClassDef}}
use Rattle.rio_model.specs.{Mapping.{Mapped}, declared.map_fault.MapFault.TheVariants.{KindChanged as Changed, NoVersion as Missing, NoMemory}}
use Rattle.rio_machine.specs.{declared.command.Outcome.{Outcome, TheVariants.{Accepted, Refused}}, declared.refusal.Refusal.TheVariants.{KindChanged, NoVersion}}
use Rattle.rio_chain.specs.{Chains.{HasChain}, Segments.{Link, RecordAt}, Walks.{Told}, declared.segment.Segment.{Segment}}
use Rattle.rio_step.specs.{ReplyText.{text_of}, Step.{refused}}
use Rattle.rio_reply.specs.Told.{record_told_as, told_of}
use Rattle.rio_session.specs.{Causes.{IsSaid}, Replying.{Replies, printed_of}, Says.{SaysReply}, Session.{SessionState}, declared.fault.SessionFault.{SessionFault}}

-- ---- what is told

-- What is told of a record with this key and these bytes, as it is or in a version of its class: a text, or why the object can't be had in
-- the version.
abbrev pub record_told : List ClassDef → KeyHead → Option ℤ → List ℕ → Mapped (List ℕ)
record_told classes head None bytes = Ok (told_of head (value_at classes head.class head.keylen (drop head.keylen bytes)))
record_told classes head (Some version) bytes = record_told_as classes head version (value_at classes head.class head.keylen (drop head.keylen bytes))

-- the record at the place has these bytes, where the host tells them
abbrev pub HoldsRecord : View → List Segment → ℕ → List ℕ → Type 0
HoldsRecord v segments place bytes = Told v (λ file. (links : List Link) → HasChain links segments file → Contains links (RecordAt place bytes))

-- ---- what is said

-- the text is the reply, or the refusal, and that becomes of the command
abbrev pub IsReplyTo : Mapped (List ℕ) → List ℕ → Outcome → Type 0
IsReplyTo (Ok told) text outcome = (text ≡ told) × (outcome ≡ Accepted)
IsReplyTo (Err (Changed member)) text outcome = (text ≡ text_of (refused (KindChanged member))) × (outcome ≡ Refused (KindChanged member))
IsReplyTo (Err Missing) text outcome = (text ≡ text_of (refused NoVersion)) × (outcome ≡ Refused NoVersion)
IsReplyTo (Err NoMemory) text outcome = ⊥

-- what is told is printed, or omitted
pub record PrintsTold (replies : Replies) (told : Mapped (List ℕ)) (old new : View) (before after : SessionState) (answer : Result Outcome SessionFault) : Type 0 where
  pub text : List ℕ
  pub outcome : Outcome
  pub reply : IsSaid answer → IsReplyTo told text outcome
  pub says : SaysReply (printed_of replies text) 0 old new before after answer
  pub outcome_is : IfOk answer (λ o. o ≡ outcome)

-- what is told of the object of this key, by the bytes of its record, is printed or omitted
pub record TellsObject (replies : Replies) (head : KeyHead) (asked : Option ℤ) (old new : View) (before after : SessionState) (answer : Result Outcome SessionFault) : Type 0 where
  pub bytes : List ℕ
  pub there : IsSaid answer → HoldsRecord old before.segments head.seek bytes
  pub prints : PrintsTold replies (record_told before.classes head asked bytes) old new before after answer
