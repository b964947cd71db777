-- What a get prints, by what is told of the object.
use Rattle.std.proofs.Common.{◌≡◌, ℕ, ℤ, List, Option, Result, Ok, Err, IfOk, refl, sym, subst}
use Rattle.rio_host.specs.{Host.{IsLawful, View}, OnlyReads.{OnlyReads}}
use Rattle.rio_key.specs.declared.head.KeyHead.{KeyHead}
use Rattle.rio_machine.specs.{declared.command.Outcome.{Outcome, TheVariants.{Accepted, Refused}}, declared.refusal.Refusal.{Refusal}}
use Rattle.rio_model.specs.{Mapping.{Mapped}, declared.map_fault.MapFault.{MapFault}}
use Rattle.rio_step.specs.{ReplyText.{text_of}, Step.{refused}}
use Rattle.rio_session.specs.Gets.{HoldsRecord, IsReplyTo, PrintsTold, TellsObject, record_told}
use Rattle.rio_session.specs.{Replying.{Replies, printed_of, reply_text}, Says.{SaysReply}, SessionState.{SessionState}, declared.fault.SessionFault.{SessionFault}}
use Rattle.rio_session.proofs.OnlyReplies.{reads_then_says}

module _ (replies : Replies) (told : Mapped (List ℕ)) (old new : View) (before after : SessionState) (answer : Result Outcome SessionFault) where
  pub prints_text : (text shown : List ℕ) → told ≡ Ok text → shown ≡ text → SaysReply (printed_of replies shown) 0 old new before after answer → IfOk answer (λ o. o ≡ Accepted)
      → PrintsTold replies told old new before after answer
  prints_text text shown is same says became = record {
    text = text;
    outcome = Accepted;
    reply = λ spoken. subst (λ (t : Mapped (List ℕ)). IsReplyTo t text Accepted) (sym is) (refl, refl);
    says = subst (λ (l : List ℕ). SaysReply (printed_of replies l) 0 old new before after answer) same says;
    outcome_is = became;
  }

  -- the object can't be had in the version
  pub prints_refusal : (fault : MapFault) (refusal : Refusal) → told ≡ Err fault → IsReplyTo (Err fault) (text_of (refused refusal)) (Refused refusal) → SaysReply (reply_text replies (refused refusal)) 0 old new before after answer
      → IfOk answer (λ o. o ≡ Refused refusal) → PrintsTold replies told old new before after answer
  prints_refusal fault refusal is reply says became = record {
    text = text_of (refused refusal);
    outcome = Refused refusal;
    reply = λ spoken. subst (λ (t : Mapped (List ℕ)). IsReplyTo t (text_of (refused refusal)) (Refused refusal)) (sym is) reply;
    says = says;
    outcome_is = became;
  }

-- what is printed of an object that was read
module _ (replies : Replies) (head : KeyHead) (asked : Option ℤ) (old mid : View) (s : SessionState) (calls : OnlyReads old mid) where
  pub tells_what_is_read : (new : View) (after : SessionState) (answer : Result Outcome SessionFault) (bytes : List ℕ) → IsLawful mid → mid.disk_faults ≡ old.disk_faults → HoldsRecord old s.segments head.seek bytes
      → PrintsTold replies (record_told s.classes head asked bytes) mid new s after answer → TellsObject replies head asked old new s after answer
  tells_what_is_read new after answer bytes law disk there p = record {
    bytes = bytes;
    there = λ spoken. there;
    prints = record {
      text = p.text;
      outcome = p.outcome;
      reply = p.reply;
      says = reads_then_says (printed_of replies p.text) old mid new law calls disk 0 s after answer p.says;
      outcome_is = p.outcome_is;
    };
  }
