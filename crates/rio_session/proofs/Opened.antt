-- Files that are open, and images that keep their front.
use Rattle.std.proofs.Common.{ℕ, ◌≤◌, List, length, subst, arith}
use Rattle.rio_chain.specs.{Segments.{HasWord, IsChain, Link, chain_end}, Stops.{KeepsFront}}
use Rattle.rio_chain.proofs.Words.{word_keeps, word_one, word_within}
use Rattle.rio_close.proofs.{Numbers.{word_of_number}, SmallHead.{small_head}}
use Rattle.rio_machine.specs.State.{State}
use Rattle.rio_state.specs.{KeyedRecords.{keyed_records}, Left.{HasOpenHead, IsMarkedOpen, open_end}, Reads.{AreRecordsOf}}
use Rattle.rio_step.specs.Runs.{saved_of}
use Rattle.rio_effect.specs.Laws.{ReadsByHead}
use Rattle.rio_effect.proofs.Fronts.{front_tells}
use Rattle.rio_session.specs.Session.{IsOpenAs}

-- what an open file's header says
pub open_word : (file : List ℕ) (n : ℕ) → 63 ≤ length file → HasOpenHead file n → IsMarkedOpen file
open_word file n long h =
    let numbers = small_head file h.head long h.head_is h.small in
    subst (λ (w : ℕ). HasWord file 12 w) h.end (word_of_number file 12 h.head.end numbers.end)

pub chain_long : (links : List Link) (file : List ℕ) → IsChain links file → 63 ≤ length file
chain_long links file chain = omega (arith, chain.ends.later, word_within file (chain_end links) 0 chain.ends.zero_word)

pub keeps_own : (file : List ℕ) → KeepsFront file file
keeps_own file i x low at = at

-- an image with the front of an open file, whose records stand for a state
pub record IsOpenImage (n : ℕ) (m : State) (image : List ℕ) : Type 0 where
  pub head : HasOpenHead image n
  pub reads : IsOpenAs m image

pub open_image : (file image : List ℕ) (n : ℕ) (before after : List Link) (m : State) → HasOpenHead file n → IsChain before file → KeepsFront file image
    → IsChain after image → AreRecordsOf (keyed_records after) (saved_of m) → IsOpenImage n m image
open_image file image n before after m h chain keeps links records =
    let told : ReadsByHead image h.head (saved_of m) = front_tells file image before after h.head (saved_of m) chain h.head_is h.small keeps links records in
    let word : IsMarkedOpen image = word_keeps file image 12 open_end (λ i x low high at. keeps i x (omega (arith, high)) at) (open_word file n (chain_long before file chain) h) in
    record {
      head = record { head = h.head; head_is = told.head_is; small = h.small; end = h.end; name = h.name };
      reads = record {
        left = record { reads = told.reads; closed = λ other root there apart. absurd (apart (word_one image 12 other open_end there word)) };
        marked = word;
      };
    }

-- an open file itself
pub reads_open : (file : List ℕ) (n : ℕ) (links : List Link) (m : State) → HasOpenHead file n → IsChain links file → AreRecordsOf (keyed_records links) (saved_of m) → IsOpenAs m file
reads_open file n links m h chain records = (open_image file file n links links m h chain (keeps_own file) chain records).reads
