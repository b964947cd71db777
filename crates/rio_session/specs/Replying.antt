-- What is printed of the replies of commands.
use Rattle.std.specs.Prelude.{ℕ, List, []}
use Rattle.rio_step.specs.{ReplyText.{text_of}, Step.{Reply}}
use Rattle.rio_session.specs.declared.replies.Replies.TheVariants.{Printed, Omitted}
pub use Rattle.rio_session.specs.declared.replies.Replies.{Replies}

-- what is printed of a text
abbrev pub printed_of : Replies → List ℕ → List ℕ
printed_of Printed text = text
printed_of Omitted text = []

-- and of a reply
abbrev pub reply_text : Replies → Reply → List ℕ
reply_text replies reply = printed_of replies (text_of reply)
