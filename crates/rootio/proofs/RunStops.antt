-- What a stop leaves of a run: between two commands, within one, and within the close.
use Rattle.std.proofs.Common.{◌≡◌, inl, inr, ℕ, zero, suc, ◌+◌, ◌<◌, ◌≤◌, List, [], ◌∷◌, ◌++◌, length, length-append, length-take, take, drop, get_or, Some, sym, refl, ap, ◌∙◌, arith, append_assoc}
use Rattle.std.proofs.{lemmas.Bool.{cases_lt}, lemmas.List.{append-nil, take_all, take-append-le, take_more}}
use Rattle.std.specs.List.{slice_get}
use Rattle.rio_machine.specs.{State.{State}, declared.command.Command.{Command, TheVariants.{Ls}}}
use Rattle.rio_step.proofs.RunLaws.{drop_later, each_says, replies_say_something, runs_begin_alike, said_in_parts}
use Rattle.rio_step.specs.{ReplyText.{text_of}, Runs.{Marks, first_step, later_marks, said_of, saved_of, state_after, states_of_run}, Step.{Stepped}}
use Rattle.rio_state.specs.Left.{IsLeftAs}
use Rattle.rio_session.specs.{Replying.{printed_of, reply_text}, Session.{ClosesAs}, declared.replies.Replies.{Replies, TheVariants.{Printed, Omitted}}}
use Rattle.rootio.specs.Headline.{HasSaid, HoldsPrefix, IsClosedWhereListed, IsPrinted, IsStopOf, ScriptRun, all_replies, all_texts, replies}

-- ---- what is printed

printed_join : (p : Replies) (front back all : List ℕ) → all ≡ front ++ back → printed_of p all ≡ printed_of p front ++ printed_of p back
printed_join Printed front back all is = is
printed_join Omitted front back all is = refl

pub printed_none : (p : Replies) → printed_of p [] ≡ []
printed_none Printed = refl
printed_none Omitted = refl

-- ---- one command more

-- the state behind one command more
state_push : (m : State) (cs : List Command) (c : Command) (marks : Marks)
    → state_after m (cs ++ c ∷ []) marks ≡ (first_step (state_after m cs marks) c (drop (length cs) marks)).state
unfolding state_after
state_push m [] c marks = refl
state_push m (d ∷ cs) c marks =
    let next = first_step m d marks in
    state_push next.state cs c (later_marks marks)
    ∙ ap (λ left. (first_step (state_after next.state cs (later_marks marks)) c left).state) (drop_later (length cs) marks)

-- the states behind all commands are those of the close
pub states_end : (m : State) (cs : List Command) (marks : Marks) (k : ℕ)
    → slice_get (states_of_run m cs marks) (length cs + k) ≡ slice_get (states_of_run (state_after m cs marks) [] []) k
unfolding states_of_run state_after
states_end m [] marks k = let e : 0 + k ≡ k = omega arith in ap (slice_get (states_of_run m [] marks)) e
states_end m (c ∷ cs) marks k =
    let e : length (c ∷ cs) + k ≡ suc (length cs + k) = omega arith in
    ap (slice_get (states_of_run m (c ∷ cs) marks)) e ∙ states_end (first_step m c marks).state cs (later_marks marks) k

take-append_add : (front back : List ℕ) (j n : ℕ) → n ≡ length front + j → take n (front ++ back) ≡ front ++ take j back
take-append_add [] back j n is = ap (λ m. take m back) (let e : n ≡ j = omega (arith, is) in e)
take-append_add (x ∷ front) back j zero is = absurd (omega (arith, is))
take-append_add (x ∷ front) back j (suc n) is = ap (λ l. x ∷ l) (take-append_add front back j n (omega (arith, is)))

-- ---- a run

-- the state behind the first k commands
abbrev pub behind : ScriptRun → ℕ → State
behind r k = state_after r.start (take k r.commands) r.marks

-- the next command, done there
abbrev pub step_at : ScriptRun → ℕ → Command → Stepped
step_at r k c = first_step (behind r k) c (drop k r.marks)

-- this command is the next one
pub record IsNext (r : ScriptRun) (k : ℕ) (c : Command) : Type 0 where
  pub within : k < length r.commands
  pub is : get_or r.commands k Ls ≡ c

module _ (r : ScriptRun) (k : ℕ) (c : Command) (next : IsNext r k c) where
  pub pushed : take (k + 1) r.commands ≡ take k r.commands ++ c ∷ []
  pushed = take_more r.commands k Ls next.within ∙ ap (λ x. take k r.commands ++ x ∷ []) next.is

  front_length : length (take k r.commands) ≡ k
  front_length = omega (arith, length-take k r.commands, next.within)

  pub behind_next : behind r (k + 1) ≡ (step_at r k c).state
  behind_next =
      ap (λ cs. state_after r.start cs r.marks) pushed
      ∙ state_push r.start (take k r.commands) c r.marks
      ∙ ap (λ n. (first_step (behind r k) c (drop n r.marks)).state) front_length

  said_next : said_of r.start (take (k + 1) r.commands) r.marks ≡ said_of r.start (take k r.commands) r.marks ++ text_of (step_at r k c).reply
  said_next =
      ap (λ cs. said_of r.start cs r.marks) pushed
      ∙ each_says r.start (take k r.commands) c r.marks
      ∙ ap (λ n. said_of r.start (take k r.commands) r.marks ++ text_of (first_step (behind r k) c (drop n r.marks)).reply) front_length

  pub replies_next : replies r (k + 1) ≡ replies r k ++ reply_text r.replies (step_at r k c).reply
  replies_next =
      printed_join r.replies (said_of r.start (take k r.commands) r.marks) (text_of (step_at r k c).reply) (said_of r.start (take (k + 1) r.commands) r.marks) said_next

  pub replies_longer : length (replies r (k + 1)) ≡ length (replies r k) + length (reply_text r.replies (step_at r k c).reply)
  replies_longer = ap length replies_next ∙ length-append (replies r k) (reply_text r.replies (step_at r k c).reply)

-- what is said behind the first k replies
abbrev later_texts : ScriptRun → ℕ → List ℕ
later_texts r k = printed_of r.replies (said_of (behind r k) (drop k r.commands) (drop k r.marks)) ++ r.listing

texts_front : (r : ScriptRun) (k : ℕ) → all_texts r ≡ replies r k ++ later_texts r k
texts_front r k =
    let later = said_of (behind r k) (drop k r.commands) (drop k r.marks) in
    ap (λ l. l ++ r.listing)
    (printed_join r.replies (said_of r.start (take k r.commands) r.marks) later (said_of r.start r.commands r.marks) (said_in_parts r.start r.commands r.marks k))
    ∙ append_assoc (replies r k) (printed_of r.replies later) r.listing

take_replies : (r : ScriptRun) (k j : ℕ) → take (length (replies r k) + j) (all_texts r) ≡ replies r k ++ take j (later_texts r k)
take_replies r k j =
    ap (λ l. take (length (replies r k) + j) l) (texts_front r k)
    ∙ take-append_add (replies r k) (later_texts r k) j (length (replies r k) + j) refl

-- no reply that is printed is empty
pub replies_grow : (r : ScriptRun) → IsPrinted r → (k : ℕ) → k < length r.commands → length (replies r k) < length (replies r (k + 1))
replies_grow r printed k within =
    let next : IsNext r k (get_or r.commands k Ls) = record { within = within; is = refl } in
    let text = text_of (step_at r k (get_or r.commands k Ls)).reply in
    let some = replies_say_something (step_at r k (get_or r.commands k Ls)).reply in
    let whole : length (printed_of r.replies text) ≡ length text = ap (λ (p : Replies). length (printed_of p text)) printed in
    omega (arith, some, whole, replies_longer r k (get_or r.commands k Ls) next)

-- more replies aren't shorter
pub replies_keep : (r : ScriptRun) (k : ℕ) → k < length r.commands → length (replies r k) ≤ length (replies r (k + 1))
replies_keep r k within =
    let next : IsNext r k (get_or r.commands k Ls) = record { within = within; is = refl } in
    omega (arith, replies_longer r k (get_or r.commands k Ls) next)

-- the first replies aren't longer than all of them
replies_most : (r : ScriptRun) (k : ℕ) → length (replies r k) ≤ length (all_replies r)
replies_most r k =
    let later = said_of (behind r k) (drop k r.commands) (drop k r.marks) in
    let whole : all_replies r ≡ replies r k ++ printed_of r.replies later =
    printed_join r.replies (said_of r.start (take k r.commands) r.marks) later (said_of r.start r.commands r.marks) (said_in_parts r.start r.commands r.marks k) in
    omega (arith, ap length whole ∙ length-append (replies r k) (printed_of r.replies later))

-- ---- at a stop

-- nothing of the listing was said
pub not_listed : (r : ScriptRun) (before image said : List ℕ) → length said ≤ length before + length (all_replies r) → IsClosedWhereListed r before image said
not_listed r before image said short long = absurd (omega (arith, short, long))

pub prefix_at : (r : ScriptRun) (file image : List ℕ) (k : ℕ) → k ≤ length r.commands → IsLeftAs (saved_of (behind r k)) image → HoldsPrefix r file image k
prefix_at r file image k within left = record {
  state = behind r k;
  state_is = runs_begin_alike r.start r.commands r.marks k within;
  reads = left.reads;
  closed = λ before. left.closed;
}

-- the first k replies were said, and the next one isn't begun
said_between : (r : ScriptRun) (before said : List ℕ) (k : ℕ) → k ≤ length r.commands → said ≡ before ++ replies r k → HasSaid r before said k
said_between r before said k within is = record {
  bytes = length (replies r k) + 0;
  text = is ∙ ap (λ l. before ++ l) (sym (append-nil (replies r k)) ∙ sym (take_replies r k 0));
  commands = within;
  whole = omega arith;
  part = λ printed lt. omega (arith, replies_grow r printed k lt);
}

-- between two commands
pub stop_between : (r : ScriptRun) (file before image said : List ℕ) (k : ℕ) → k ≤ length r.commands
    → HoldsPrefix r file image k → said ≡ before ++ replies r k → IsStopOf r file before image said
stop_between r file before image said k within prefix is = record {
  j = k;
  k = k;
  replies = said_between r before said k within is;
  prefix = prefix;
  holds = omega arith;
  next = λ printed lt. omega arith;
  listed = not_listed r before image said (omega (arith, ap length is ∙ length-append before (replies r k), replies_most r k));
}

module _ (r : ScriptRun) (k : ℕ) (c : Command) (next : IsNext r k c) where
  abbrev reply : List ℕ
  reply = reply_text r.replies (step_at r k c).reply

  -- a front of the reply stands behind the replies before it
  take_within : (q : ℕ) → q ≤ length reply → take (length (replies r k) + q) (all_texts r) ≡ replies r k ++ take q reply
  take_within q short =
      ap (λ l. take (length (replies r k) + q) l) (texts_front r (k + 1) ∙ ap (λ l. l ++ later_texts r (k + 1)) (replies_next r k c next) ∙ append_assoc (replies r k) reply (later_texts r (k + 1)))
      ∙ take-append_add (replies r k) (reply ++ later_texts r (k + 1)) q (length (replies r k) + q) refl
      ∙ ap (λ l. replies r k ++ l) (take-append-le q reply (later_texts r (k + 1)) short)

  said_within : (before said : List ℕ) (q : ℕ) → q < length reply → said ≡ (before ++ replies r k) ++ take q reply → HasSaid r before said k
  said_within before said q short is = record {
    bytes = length (replies r k) + q;
    text = is ∙ append_assoc before (replies r k) (take q reply) ∙ ap (λ l. before ++ l) (sym (take_within q (omega (arith, short))));
    commands = omega (arith, next.within);
    whole = omega arith;
    part = λ printed lt. omega (arith, short, replies_longer r k c next);
  }

  within_replies : (before said : List ℕ) (q : ℕ) → q < length reply → said ≡ (before ++ replies r k) ++ take q reply → length said ≤ length before + length (all_replies r)
  within_replies before said q short is =
      let parts : length said ≡ length before + length (replies r k) + length (take q reply) =
      ap length is ∙ length-append (before ++ replies r k) (take q reply) ∙ ap (λ n. n + length (take q reply)) (length-append before (replies r k)) in
      omega (arith, parts, length-take q reply, short, replies_longer r k c next, replies_most r (k + 1))

  -- while the reply is said
  pub stop_within : (file before image said : List ℕ) (q : ℕ) → HoldsPrefix r file image (k + 1)
      → said ≡ (before ++ replies r k) ++ take q reply → IsStopOf r file before image said
  stop_within file before image said q prefix is = elim (cases_lt q (length reply)) [
    | inl short ↦ record {
      j = k;
      k = k + 1;
      replies = said_within before said q short is;
      prefix = prefix;
      holds = omega arith;
      next = λ printed lt. omega arith;
      listed = not_listed r before image said (within_replies before said q short is);
    }
    | inr whole ↦
        stop_between r file before image said (k + 1) (omega (arith, next.within)) prefix
        (is ∙ ap (λ l. (before ++ replies r k) ++ l) (take_all q reply whole) ∙ append_assoc before (replies r k) reply
        ∙ ap (λ l. before ++ l) (sym (replies_next r k c next)))
  ]

-- ---- within the close

pub replies_whole : (r : ScriptRun) → replies r (length r.commands) ≡ all_replies r
replies_whole r = ap (λ cs. printed_of r.replies (said_of r.start cs r.marks)) (take_all (length r.commands) r.commands (omega arith))

-- the state behind all commands
pub end_of_commands : (r : ScriptRun) → slice_get (states_of_run r.start r.commands r.marks) (length r.commands) ≡ Some (state_after r.start r.commands r.marks)
end_of_commands r =
    runs_begin_alike r.start r.commands r.marks (length r.commands) (omega arith)
    ∙ ap (λ (cs : List Command). Some (state_after r.start cs r.marks)) (take_all (length r.commands) r.commands (omega arith))

pub stop_closing : (r : ScriptRun) (file before image said : List ℕ)
    → ClosesAs (state_after r.start r.commands r.marks) (before ++ all_replies r) image said → IsStopOf r file before image said
stop_closing r file before image said closes = record {
  j = length r.commands;
  k = length r.commands + closes.k;
  replies = said_between r before said (length r.commands) (omega arith) (closes.text_is ∙ ap (λ l. before ++ l) (sym (replies_whole r)));
  prefix = record {
    state = closes.state;
    state_is = states_end r.start r.commands r.marks closes.k ∙ closes.state_is;
    reads = closes.left.reads;
    closed = λ start. closes.left.closed;
  };
  holds = omega arith;
  next = λ printed lt. absurd (omega (arith, lt));
  listed = not_listed r before image said (omega (arith, ap length closes.text_is ∙ length-append before (all_replies r)));
}
