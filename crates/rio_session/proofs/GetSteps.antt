-- A get is its step: it prints the object, as it is or in the version that is asked, or why it can't be had so.
use Rattle.std.proofs.Common.{◌≡◌, ◌==◌, ℕ, ℤ, List, [], ◌∷◌, drop, Option, Some, None, Ok, Err, Bool, true, false, not, refl, sym, ap, subst, ◌∙◌}
use Rattle.std.proofs.{lemmas.Bool.{and_parts, eqb-true}, lemmas.Slice.Eq.{bytes_eq-Decides}}
use Rattle.std.specs.{Prelude.{IsSome, option_and_then, unwrap_or}, FinMap.{get}, List.{Contains}, Option.{option_map_or}, Str.{bytes_eq}}
use Rattle.rio_num.specs.Reading.{◌>>=◌}
use Rattle.rio_format.specs.{declared.class.ClassDef.{ClassDef}, declared.value.Value.{Value, Null}, Objects.{value_at}}
use Rattle.rio_key.specs.declared.head.KeyHead.{KeyHead}
use Rattle.rio_dir.specs.Table.{head_of, is_at_cycle}
use Rattle.rio_chain.specs.Segments.{RecordAt}
use Rattle.rio_machine.specs.{State.{State}, declared.command.Command.{TheVariants.{Get}}, declared.command.Outcome.{Outcome, TheVariants.{Accepted, Refused}}}
use Rattle.rio_machine.specs.declared.refusal.Refusal.{Refusal, TheVariants.{KindChanged, NoVersion}}
use Rattle.rio_model.specs.{Mapping.{Mapped, as_version}, Resolving.{is_known_version}, declared.map_fault.MapFault.TheVariants.{KindChanged as Changed, NoVersion as Missing, NoMemory}}
use Rattle.rio_reply.specs.Told.{record_told_as, told_as}
use Rattle.rio_reply.proofs.{Listings.{told_is}, Versions.{IsHadByVersion, had_by_version}}
use Rattle.rio_step.specs.Refusing.{change_in, first_of, is_version_missing, kind_change, lacks_version, meant_cycle, meant_object, object_class, refusal_of, refused_if, seen_in}
use Rattle.rio_step.specs.{ReplyText.{text_of}, Runs.{saved_of}, Step.{object_told, or_unmapped, outcome_of, refused, told_value}}
use Rattle.rio_effect.proofs.KeyReads.{keys_have_records}
use Rattle.rio_state.proofs.Members.{Found, contains_in, found}
use Rattle.rio_judge.specs.Judging.{refused_by_object}
use Rattle.rio_session.specs.{Behind.{IsOfKeys, IsToldByKeys}, Due.{IsClosableWith}, Gets.{IsReplyTo, record_told}, Marks.{command_lengths}, Session.{HoldsState, LacksRoomIfFull, SessionState, next_of}}
use Rattle.rio_session.proofs.OtherSteps.{accepted_outcome, accepted_still, accepted_told, one_record, refused_lacks, refused_outcome, refused_still, refused_told}
use Rattle.rio_session.proofs.{KeyClasses.{key_class}, Refused.{cost_accepted}, OnlyReplies.{IsStill}, States.{of_keys, saved_objects}}

-- this is said of it, and that becomes of it
abbrev pub IsSaidOf : SessionState → State → List ℕ → Option ℕ → Option ℤ → List ℕ → Outcome → Type 0
IsSaidOf s m name asked version text outcome =
    (text ≡ text_of (next_of s m (Get name asked version)).reply) × (outcome ≡ outcome_of (next_of s m (Get name asked version)).reply)

-- ---- whether it is refused or not, it changes nothing and costs nothing

module _ (s : SessionState) (m : State) (keys : IsOfKeys s m) (kept : IsClosableWith s.segments s.heads s.trees s.info s.name) (name : List ℕ) (asked : Option ℕ) (version : Option ℤ) where
  pub get_still : IsStill s m (Get name asked version) 0
  unfolding command_lengths
  get_still = by (refusal_of m (Get name asked version) None) refl
    where
      by : (o : Option Refusal) → refusal_of m (Get name asked version) None ≡ o → IsStill s m (Get name asked version) 0
      by (Some refusal) is = refused_still s m (Get name asked version) refusal is
      by None free = accepted_still s m keys kept (Get name asked version) free refl refl refl refl refl refl (cost_accepted m (Get name asked version) free)

  -- want of room never refuses it
  pub get_lacks : (after : SessionState) → LacksRoomIfFull after (outcome_of (next_of s m (Get name asked version)).reply)
  unfolding command_lengths
  get_lacks after = by (refusal_of m (Get name asked version) None) refl
    where
      by : (o : Option Refusal) → refusal_of m (Get name asked version) None ≡ o → LacksRoomIfFull after (outcome_of (next_of s m (Get name asked version)).reply)
      by (Some refusal) is =
          subst (λ (o : Outcome). LacksRoomIfFull after o) (sym (refused_outcome s m (Get name asked version) refusal is)) (refused_lacks s m (Get name asked version) refusal is after)
      by None free =
          subst (λ (o : Outcome). LacksRoomIfFull after o) (sym (accepted_outcome s m keys kept (Get name asked version) free refl refl refl refl refl)) tt

  pub get_outcome : refusal_of m (Get name asked version) None ≡ None → outcome_of (next_of s m (Get name asked version)).reply ≡ Accepted
  unfolding command_lengths
  get_outcome free = accepted_outcome s m keys kept (Get name asked version) free refl refl refl refl refl

  refused_said : (refusal : Refusal) → refusal_of m (Get name asked version) None ≡ Some refusal → (text : List ℕ) (outcome : Outcome) → text ≡ text_of (refused refusal) → outcome ≡ Refused refusal
      → IsSaidOf s m name asked version text outcome
  refused_said refusal is text outcome text_is outcome_is =
      (text_is ∙ refused_told s m (Get name asked version) refusal is, outcome_is ∙ sym (refused_outcome s m (Get name asked version) refusal is))

  accepted_said : refusal_of m (Get name asked version) None ≡ None → (text : List ℕ) (outcome : Outcome) → text ≡ text_of (object_told name (meant_cycle m name asked) (told_value m name asked version)) → outcome ≡ Accepted
      → IsSaidOf s m name asked version text outcome
  unfolding command_lengths
  accepted_said free text outcome text_is outcome_is =
      (accepted_told s m keys kept (Get name asked version) free refl refl refl refl text text_is, outcome_is ∙ sym (get_outcome free))

  -- without a version the object is printed
  pub get_plain : (head : KeyHead) (bytes : List ℕ) → IsToldByKeys (Get name asked version) → (text : List ℕ) (outcome : Outcome) → IsReplyTo (record_told s.classes head version bytes) text outcome
      → refusal_of m (Get name asked version) None ≡ refused_by_object m (Get name asked version) → outcome ≡ outcome_of (next_of s m (Get name asked version)).reply
  get_plain head bytes told text outcome reply free = by version get_outcome told reply free
    where
      by : (asked_in : Option ℤ) → (refusal_of m (Get name asked asked_in) None ≡ None → outcome_of (next_of s m (Get name asked asked_in)).reply ≡ Accepted) → IsToldByKeys (Get name asked asked_in) → IsReplyTo (record_told s.classes head asked_in bytes) text outcome
          → refusal_of m (Get name asked asked_in) None ≡ refused_by_object m (Get name asked asked_in) → outcome ≡ outcome_of (next_of s m (Get name asked asked_in)).reply
      by None accepts told reply free = reply.1 ∙ sym (accepts free)
      by (Some own) accepts told reply free = absurd told

-- ---- what is said of the object

pub some_of : {A : Type 0} (o : Option A) → IsSome o → (x : A) × (o ≡ Some x)
some_of None i = absurd cc
some_of (Some x) i = (x, refl)

-- why an object is refused by what is had of it, and by whether its class is known in the version
abbrev refusal_by : Mapped Value → Bool → Option Refusal
refusal_by mapped known = first_of (change_in mapped ∷ refused_if (not known) NoVersion ∷ [])

module _ (s : SessionState) (m : State) (file : List ℕ) (h : HoldsState s m file) (kept : IsClosableWith s.segments s.heads s.trees s.info s.name) (name : List ℕ) (asked : Option ℕ) (number : ℕ) (head : KeyHead) (bytes : List ℕ)
    (number_is : number ≡ meant_cycle m name asked) (key : head_of name (Some number) s.heads ≡ Some head) (among : Contains h.links (RecordAt head.seek bytes)) (v : Value) (object : meant_object m name asked ≡ Some v) where
  its : Found (is_at_cycle name number) head s.heads
  its = found (is_at_cycle name number) head s.heads key

  parts : (bytes_eq head.name name ≡ true) × ((head.cycle == number) ≡ true)
  parts = and_parts (bytes_eq head.name name) (head.cycle == number) its.passes

  name_is : head.name ≡ name
  name_is = (bytes_eq-Decides head.name name).0 parts.0

  cycle_is : head.cycle ≡ meant_cycle m name asked
  cycle_is = eqb-true head.cycle number parts.1 ∙ number_is

  held : get m.objects (head.name, head.cycle) ≡ Some v
  held = ap (λ (x : List ℕ × ℕ). get m.objects x) (λ i. (name_is i, cycle_is i)) ∙ object

  held_saved : get (saved_of m).objects (head.name, head.cycle) ≡ Some v
  held_saved = (λ i. get (saved_objects m i) (head.name, head.cycle)) ∙ held

  read : value_at s.classes head.class head.keylen (drop head.keylen bytes) ≡ Ok v
  unfolding saved_of
  read =
      let r = keys_have_records file h.links s.heads (saved_of m) head v h.chain.chain h.keys h.records (contains_in head s.heads its.among) held_saved in
      let same : bytes ≡ r.bytes = one_record file head.seek bytes r.bytes h.links h.chain.chain.links_are among r.there in
      ap (λ (x : List ClassDef × List ℕ). value_at x.0 head.class head.keylen (drop head.keylen x.1)) (λ i. (sym h.stands.classes i, same i)) ∙ r.read

  class_is : object_class v ≡ Some head.class
  class_is = key_class h.links s.heads (saved_of m) head v h.keys h.records held_saved (contains_in head s.heads its.among)

  text_is : (version : Option ℤ) (w : Value) → told_value m name asked version ≡ w → text_of (object_told head.name head.cycle w) ≡ text_of (object_told name (meant_cycle m name asked) (told_value m name asked version))
  text_is version w is = ap (λ (x : List ℕ × (ℕ × Value)). text_of (object_told x.0 x.1.0 x.1.1)) (λ i. (name_is i, (cycle_is i, sym is i)))

  -- as it is
  plain_said : refusal_of m (Get name asked None) None ≡ None → (text : List ℕ) (outcome : Outcome) → IsReplyTo (record_told s.classes head None bytes) text outcome → IsSaidOf s m name asked None text outcome
  plain_said free text outcome reply =
      accepted_said s m (of_keys s m file h) kept name asked None free text outcome
      (reply.0 ∙ told_is head (value_at s.classes head.class head.keylen (drop head.keylen bytes)) v read ∙ text_is None v (ap (λ (o : Option Value). unwrap_or o Null) object)) reply.1

  -- in a version of its class
  module _ (version : ℤ) where
    abbrev mapped : Mapped Value
    mapped = as_version m.classes head.class version v

    abbrev is_known : Bool
    is_known = is_known_version m.classes head.class version

    seen : seen_in m.classes (Some version) v ≡ as_version m.classes head.class version v
    seen = ap (λ (o : Option (List ℕ)). as_version m.classes (unwrap_or o []) version v) class_is

    change : kind_change m (Get name asked (Some version)) ≡ change_in (as_version m.classes head.class version v)
    change = ap (option_and_then (λ (w : Value). change_in (seen_in m.classes (Some version) w))) object ∙ ap change_in seen

    missing : lacks_version m (Get name asked (Some version)) ≡ not (is_known_version m.classes head.class version)
    missing =
        ap (λ (o : Option Value). option_map_or (is_version_missing m.classes (Some version)) o false) object
        ∙ ap (λ (o : Option (List ℕ)). option_map_or (λ class. not (is_known_version m.classes class version)) o false) class_is

    refuses : refused_by_object m (Get name asked (Some version)) ≡ refusal_by (as_version m.classes head.class version v) (is_known_version m.classes head.class version)
    refuses = λ i. first_of (change i ∷ refused_if (missing i) NoVersion ∷ [])

    told : told_value m name asked (Some version) ≡ or_unmapped v (as_version m.classes head.class version v)
    told = ap (λ (o : Option Value). or_unmapped (unwrap_or o Null) (seen_in m.classes (Some version) (unwrap_or o Null))) object ∙ ap (or_unmapped v) seen

    record_is : record_told s.classes head (Some version) bytes ≡ told_as m.classes head version v
    record_is = ap (record_told_as s.classes head version) read ∙ ap (λ (classes : List ClassDef). told_as classes head version v) (sym h.stands.classes)

    by_mapped : (r : Mapped Value) → as_version m.classes head.class version v ≡ r → IsHadByVersion (is_known_version m.classes head.class version) r
        → refusal_of m (Get name asked (Some version)) None ≡ refused_by_object m (Get name asked (Some version))
        → (text : List ℕ) (outcome : Outcome) → IsReplyTo (r >>= λ w. Ok (text_of (object_told head.name head.cycle w))) text outcome → IsSaidOf s m name asked (Some version) text outcome
    by_mapped (Ok w) is had free text outcome reply =
        accepted_said s m (of_keys s m file h) kept name asked (Some version) (free ∙ refuses ∙ (λ i. refusal_by (is i) (had i))) text outcome
        (reply.0 ∙ text_is (Some version) w (told ∙ ap (or_unmapped v) is)) reply.1
    by_mapped (Err (Changed member)) is had free text outcome reply =
        refused_said s m (of_keys s m file h) kept name asked (Some version) (KindChanged member) (free ∙ refuses ∙ ap (λ (r : Mapped Value). refusal_by r is_known) is) text outcome reply.0 reply.1
    by_mapped (Err Missing) is had free text outcome reply =
        refused_said s m (of_keys s m file h) kept name asked (Some version) NoVersion (free ∙ refuses ∙ (λ i. refusal_by (is i) (had i))) text outcome reply.0 reply.1
    by_mapped (Err NoMemory) is had free text outcome reply = absurd had

  pub get_said : (version : Option ℤ) → refusal_of m (Get name asked version) None ≡ refused_by_object m (Get name asked version) → (text : List ℕ) (outcome : Outcome) → IsReplyTo (record_told s.classes head version bytes) text outcome
      → IsSaidOf s m name asked version text outcome
  get_said None free text outcome reply = plain_said free text outcome reply
  get_said (Some version) free text outcome reply =
      by_mapped version (as_version m.classes head.class version v) refl (had_by_version m.classes head.class version v) free text outcome
      (subst (λ (t : Mapped (List ℕ)). IsReplyTo t text outcome) (record_is version) reply)
