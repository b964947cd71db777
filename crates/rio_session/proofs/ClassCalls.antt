-- The facts that declaring a class needs, by the command's judgement and what a session keeps.
use Rattle.std.proofs.Common.{◌≡◌, ℕ, ◌+◌, ◌^◌, ◌<◌, ◌≤◌, Bool, List, [], ◌∷◌, ◌++◌, length, Option, Result, Ok, Err, IfOk, Some, None, true, false, refl, sym, ap, subst, ◌∙◌, arith}
use Rattle.std.proofs.lemmas.{Bool.{leb-false}, List.{length-append}}
use Rattle.std.specs.{Prelude.{IfSome, if◌then◌else◌, nat_le}, Option.{option_or}}
use Rattle.rio_host.specs.Host.{IsLawful, View}
use Rattle.rio_format.specs.{declared.class.ClassDef.{ClassDef}, WrittenBytes.{length_limit}}
use Rattle.rio_key.specs.declared.head.KeyHead.{KeyHead}
use Rattle.rio_model.specs.{Declaring.{rule_fault}, StateClasses.{StateClasses}, Stated.{is_stated_class}}
use Rattle.rio_model.specs.declared.declare.DeclareFault.{DeclareFault, TheVariants.{TooMany}}
use Rattle.rio_chain.specs.{NewRecords.{IsNewRecord}, Placing.{file_end, place_of, with_segment}, Record.{FitsWords, key_size}, declared.key_words.KeyWords.{KeyWords}}
use Rattle.rio_chain.proofs.Records.{are_new_records}
use Rattle.rio_machine.specs.{State.{State, empty_state}, declared.command.Command.{Command, TheVariants.{Bad, Class, Put, Batch, Delete, Tree, Fill, Save, Get, Scan, Ls}}}
use Rattle.rio_machine.specs.{declared.command.Outcome.{Outcome, TheVariants.{Accepted, Refused}}, declared.refusal.Refusal.TheVariants.{Full}}
use Rattle.rio_state.specs.Closing.{end_limit, is_full, padded_length}
use Rattle.rio_step.specs.{Costs.{info_size}, Refusing.{refusal_of, with_class}, ReplyText.{text_of}, Step.{Stepped, class_declared, outcome_of, refused}}
use Rattle.rio_step.proofs.DeclaredLaws.{classes_stay_declared}
use Rattle.rio_effect.specs.ClassRecord.{list_data, list_key_size, list_record, list_words, next_list_cycle}
use Rattle.rio_effect.proofs.PutEffect.{padded_as}
use Rattle.rio_judge.specs.{Judging.{CanBeDeclared, WorkCanBeDone}, declared.work.{AnyWork.TheVariants.{Item}, NewClass.{NewClass}, Work.TheVariants.{Class as Declaring}}}
use Rattle.rio_recover.specs.Classes.{HasListCycle}
use Rattle.rio_session.specs.{Behind.{IsOfKeys}, Changing.{ChangesFile}, Due.{need_with}, Doable.{CanBeDone, IsToDo}, Does.{Does}, Effects.{IsChangeOf, TakesEffect}}
use Rattle.rio_session.specs.{Lists.{CanBeListedAt, listing_at, with_new}, Replying.{Replies, reply_text}, Says.{SaysReply}, Sound.{IsSoundState}}
use Rattle.rio_session.specs.{Session.{HoldsState, IsReady, LacksRoomIfFull, SessionState, StandsFor, next_of, with_cost}, SessionState.{baskets_of}, declared.fault.SessionFault.{SessionFault}}
use Rattle.rio_session.proofs.{Changed.{does_change}, ClassEffects.{class_takes_effect_on}, Refused.{step_accepted}, OnlyReplies.{does_says}, States.{of_keys}}
use Rattle.rio_session.proofs.ClassSteps.{class_full_lacks, class_full_outcome, class_full_still, class_full_told, class_is_change}

-- ---- which command it is

is_class : (classes : List ClassDef) (heads : List KeyHead) (c : Command) (d : NewClass) → WorkCanBeDone classes heads c (Declaring d) → (class : ClassDef) × (c ≡ Class class)
is_class classes heads (Bad line place) d can = absurd can
is_class classes heads (Class class) d can = (class, refl)
is_class classes heads (Put name v) d can = absurd can
is_class classes heads (Batch puts) d can = absurd can
is_class classes heads (Delete name cycle) d can = absurd can
is_class classes heads (Tree name branches) d can = absurd can
is_class classes heads (Fill name row) d can = absurd can
is_class classes heads (Save name) d can = absurd can
is_class classes heads (Get name asked version) d can = absurd can
is_class classes heads (Scan name class) d can = absurd can
is_class classes heads Ls d can = absurd can

-- ---- it can be declared

-- the longer list of classes is one that commands declare
classes_after : (classes : List ClassDef) (class : ClassDef) (d : NewClass) → CanBeDeclared classes class d → is_stated_class class ≡ true → StateClasses classes → StateClasses (classes ++ d.class ∷ [])
classes_after classes class d can stated are =
    let m : State = record empty_state { classes = classes } in
    let after = ap (λ (t : Stepped). t.state.classes) (step_accepted m (Class class) None (can.free m refl)) in
    subst StateClasses (after ∙ ap (λ (k : ClassDef). classes ++ k ∷ []) (sym can.class)) (classes_stay_declared m (Class class) None stated are)

pub can_declare : (s : SessionState) (c : Command) (d : NewClass) → IsToDo s c (Item (Declaring d)) → IsSoundState s → CanBeDone s (Declaring d)
can_declare s c d todo sound =
    let p = is_class s.classes s.heads c d todo.can.0 in
    let to : IsToDo s (Class p.0) (Item (Declaring d)) = subst (λ (x : Command). IsToDo s x (Item (Declaring d))) p.1 todo in
    let can : CanBeDeclared s.classes p.0 d = to.can.0 in
    record {
      stays = can.stays;
      fault = can.fault;
      after = classes_after s.classes p.0 d can to.statable sound.classes;
      size_is = can.written;
      size_short = can.short;
    }

-- ---- the list with the class

few_if : (first : Option DeclareFault) (many : Bool) → option_or first (if many then Some TooMany else None) ≡ None → many ≡ false
few_if None false e = refl
few_if None true e = absurd cc
few_if (Some fault) many e = absurd cc

low_cycle : (info : Option KeyHead) (n : ℕ) → IfSome info (λ h. h.cycle ≤ n + 1) → next_list_cycle info ≤ n + 2
low_cycle None n low = omega arith
low_cycle (Some h) n low = omega (arith, low)

module _ (s : SessionState) (d : NewClass) (can : CanBeDone s (Declaring d)) (listed : HasListCycle s.info s.classes) where
  few : length s.classes < 4096
  few = leb-false 4096 (length s.classes) (few_if (rule_fault s.classes d.class) (nat_le 4096 (length s.classes)) can.fault)

  -- its record is as long at each place
  module _ (place : ℕ) (low : place < 2 ^ 32) (soon : s.datime < 2 ^ 32) where
    abbrev words : KeyWords
    words = list_words place s.datime (next_list_cycle s.info)

    abbrev contents : List ℕ
    contents = list_data (list_words place s.datime (next_list_cycle s.info)) (s.classes ++ d.class ∷ [])

    data_size : length contents ≡ d.length
    data_size = sym (can.size_is (key_size words))

    key_long : key_size words ≡ 64
    key_long = refl

    fits : FitsWords words (length contents)
    fits = record {
      place = low;
      directory = omega arith;
      datime = soon;
      cycle = omega (arith, low_cycle s.info (length s.classes) listed, few);
      key = omega (arith, key_long);
      whole = omega (arith, key_long, data_size, can.size_short);
    }

    new : IsNewRecord words contents
    new = are_new_records words contents fits

    list_long : length (list_record place s.datime (next_list_cycle s.info) (s.classes ++ d.class ∷ [])) ≡ padded_length (list_key_size + d.length)
    unfolding list_record
    list_long = new.size ∙ padded_as (key_size words) (length contents) d.length data_size

  module _ (n need : ℕ) (n_is : n ≡ padded_length (list_key_size + d.length)) (need_is : need ≡ need_with s.name s.heads (2 + length s.heads + length (baskets_of s)) s.trees) where
    sized : n ≡ padded_length (list_key_size + info_size (s.classes ++ d.class ∷ []))
    sized = n_is ∙ ap (λ (k : ℕ). padded_length (list_key_size + k)) (can.size_is 0)

    -- a list with it can be written at the place of the rule
    pub can_be_listed : (place : ℕ) → place < 2 ^ 32 → place ≡ place_of s.segments n → file_end (with_segment (place_of s.segments n) n s.segments) + need ≤ end_limit → CanBeListedAt (with_new s d) place
    can_be_listed place low at fits = record {
      place_is = at ∙ ap (place_of s.segments) sized;
      low = low;
      short = λ start. subst (λ (k : ℕ). k ≤ length_limit) (can.size_is start) can.size_short;
      cycle = omega (arith, low_cycle s.info (length s.classes) listed, length-append s.classes (d.class ∷ []));
      room = subst (λ (x : ℕ × (ℕ × ℕ)). file_end (with_segment x.0 x.1.0 s.segments) + x.1.1 ≤ end_limit) (λ i. (sym at i, (sized i, need_is i))) fits;
    }

-- ---- what the command does

module _ (replies : Replies) (s : SessionState) (d : NewClass) (can : CanBeDone s (Declaring d)) (sound : IsSoundState s) (listed : HasListCycle s.info s.classes)
    (old new : View) (s' : SessionState) (law : IsLawful old) (law' : IsLawful new) (ready : IsReady old s) (fresh : s.failed ≡ false) (soon : s.datime < 2 ^ 32) (answer : Result Outcome SessionFault)
    (cost : ℕ) (cost_is : cost ≡ 100 + d.length) where
  module _ (class : ClassDef) (stated : is_stated_class class ≡ true) (its : CanBeDeclared s.classes class d) where
    free : (m : State) → IsOfKeys s m → refusal_of m (Class class) None ≡ None
    free m keys = its.free m keys.classes

    written : d.length ≡ info_size (with_class s.classes class)
    written = its.written 0 ∙ ap (λ (k : ClassDef). info_size (s.classes ++ k ∷ [])) its.class

    class_does : (place : ℕ) (text : List ℕ) → place < 2 ^ 32 → text ≡ reply_text replies (class_declared d.class.name d.class.version) → place ≡ place_of s.segments (padded_length (list_key_size + d.length))
        → is_full s.segments (padded_length (list_key_size + d.length) ∷ []) (need_with s.name s.heads (2 + length s.heads + length (baskets_of s)) s.trees) ≡ false
        → ChangesFile (listing_at (with_new s d) place text cost) old new s s' answer → IfOk answer (λ outcome. outcome ≡ Accepted) → Does replies old new s s' (Class class) answer
    class_does place text low text_is at room changes is =
        does_change replies (listing_at (with_new s d) place (text_of (class_declared d.class.name d.class.version)) cost) old new s s' law ready (Class class) answer fresh fresh law'
        (subst (λ (l : List ℕ). ChangesFile (listing_at (with_new s d) place l cost) old new s s' answer) text_is changes) refl is_change takes is
      where
        long : length (list_record place s.datime (next_list_cycle s.info) (with_class s.classes class)) ≡ padded_length (list_key_size + d.length)
        long =
            ap (λ (k : ClassDef). length (list_record place s.datime (next_list_cycle s.info) (s.classes ++ k ∷ []))) (sym its.class)
            ∙ list_long s d can listed place low soon

        said : text_of (class_declared d.class.name d.class.version) ≡ text_of (class_declared class.name class.version)
        said = ap (λ (k : ClassDef). text_of (class_declared k.name k.version)) its.class

        is_change : (m : State) → IsOfKeys s m → IsChangeOf (listing_at (with_new s d) place (text_of (class_declared d.class.name d.class.version)) cost) s m (Class class)
        is_change m keys =
            let full : List ℕ = text_of (class_declared d.class.name d.class.version) in
            subst (λ (k : ClassDef). IsChangeOf (listing_at (record s { classes = s.classes ++ k ∷ [] }) place full cost) s m (Class class)) (sym its.class)
            (class_is_change s m keys (sound.kept fresh).closable.sized class (free m keys) d.length written place long room at full cost said cost_is)

        takes : (m : State) (file : List ℕ) (h : HoldsState s m file) → TakesEffect s m (Class class) h.links
        takes m file h = class_takes_effect_on s m file h sound fresh soon class stated (is_change m (of_keys s m file h)).free

    module _ (full : is_full s.segments (padded_length (list_key_size + d.length) ∷ []) (need_with s.name s.heads (2 + length s.heads + length (baskets_of s)) s.trees) ≡ true) where
      outcome_is : (m : State) → IsOfKeys s m → outcome_of (next_of s m (Class class)).reply ≡ Refused (Full (file_end s.segments) (padded_length (list_key_size + d.length)))
      outcome_is m keys = class_full_outcome s m keys (sound.kept fresh).closable.sized class (free m keys) d.length written full

      same_full : (a : Result Outcome SessionFault) → IfOk a (λ outcome. outcome ≡ Refused (Full (file_end s.segments) (padded_length (list_key_size + d.length))))
          → IfOk a (λ outcome. (m : State) → IsOfKeys s m → outcome ≡ outcome_of (next_of s m (Class class)).reply)
      same_full (Ok outcome) is = λ m keys. is ∙ sym (outcome_is m keys)
      same_full (Err e) is = tt

      lacks_full : (m : State) (said : List ℕ) → StandsFor old s m said → LacksRoomIfFull (with_cost cost s) (outcome_of (next_of s m (Class class)).reply)
      lacks_full m said st =
          let lacks = class_full_lacks s m st.file st.state (sound.kept fresh) d.length full cost cost_is in
          subst (LacksRoomIfFull (with_cost cost s)) (sym (outcome_is m (of_keys s m st.file st.state))) lacks

      class_full_does : SaysReply (reply_text replies (refused (Full (file_end s.segments) (padded_length (list_key_size + d.length))))) cost old new s s' answer
          → IfOk answer (λ outcome. outcome ≡ Refused (Full (file_end s.segments) (padded_length (list_key_size + d.length)))) → Does replies old new s s' (Class class) answer
      class_full_does says is =
          does_says replies old new s s' (text_of (refused (Full (file_end s.segments) (padded_length (list_key_size + d.length))))) cost law law' ready (Class class) answer fresh says
          (λ spoken m keys. class_full_still s m keys (sound.kept fresh).closable.sized class (free m keys) d.length written full cost cost_is)
          (λ spoken m said st. let keys = of_keys s m st.file st.state in class_full_told s m keys (sound.kept fresh).closable.sized class (free m keys) d.length written full)
          (same_full answer is) (λ spoken. lacks_full)

  -- ---- by the work

  module _ (n need : ℕ) (n_is : n ≡ padded_length (list_key_size + d.length)) (need_is : need ≡ need_with s.name s.heads (2 + length s.heads + length (baskets_of s)) s.trees) (c : Command) (todo : IsToDo s c (Item (Declaring d))) where
    abbrev asked : ClassDef
    asked = (is_class s.classes s.heads c d todo.can.0).0

    is : c ≡ Class (is_class s.classes s.heads c d todo.can.0).0
    is = (is_class s.classes s.heads c d todo.can.0).1

    to : IsToDo s (Class (is_class s.classes s.heads c d todo.can.0).0) (Item (Declaring d))
    to = subst (λ (x : Command). IsToDo s x (Item (Declaring d))) is todo

    room_is : (b : Bool) → is_full s.segments (n ∷ []) need ≡ b → is_full s.segments (padded_length (list_key_size + d.length) ∷ []) (need_with s.name s.heads (2 + length s.heads + length (baskets_of s)) s.trees) ≡ b
    room_is b room = subst (λ (x : ℕ × ℕ). is_full s.segments (x.0 ∷ []) x.1 ≡ b) (λ i. (n_is i, need_is i)) room

    pub class_is_done : (place : ℕ) (text : List ℕ) → place < 2 ^ 32 → text ≡ reply_text replies (class_declared d.class.name d.class.version) → place ≡ place_of s.segments n → is_full s.segments (n ∷ []) need ≡ false
        → ChangesFile (listing_at (with_new s d) place text cost) old new s s' answer → IfOk answer (λ outcome. outcome ≡ Accepted) → Does replies old new s s' c answer
    class_is_done place text low text_is at room changes outcome =
        subst (λ (x : Command). Does replies old new s s' x answer) (sym is)
        (class_does asked to.statable to.can.0 place text low text_is (at ∙ ap (place_of s.segments) n_is) (room_is false room) changes outcome)

    pub class_full_is_said : (end wanted : ℕ) → end ≡ file_end s.segments → wanted ≡ n → is_full s.segments (n ∷ []) need ≡ true → SaysReply (reply_text replies (refused (Full end wanted))) cost old new s s' answer
        → IfOk answer (λ outcome. outcome ≡ Refused (Full end wanted)) → Does replies old new s s' c answer
    class_full_is_said end wanted end_is wanted_is room says outcome =
        subst (λ (x : Command). Does replies old new s s' x answer) (sym is)
        (class_full_does asked to.statable to.can.0 (room_is true room)
        (subst (λ (x : ℕ × ℕ). SaysReply (reply_text replies (refused (Full x.0 x.1))) cost old new s s' answer) (λ i. (end_is i, (wanted_is ∙ n_is) i)) says)
        (subst (λ (x : ℕ × ℕ). IfOk answer (λ outcome. outcome ≡ Refused (Full x.0 x.1))) (λ i. (end_is i, (wanted_is ∙ n_is) i)) outcome))
