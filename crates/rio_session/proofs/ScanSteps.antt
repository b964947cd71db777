-- A scan is its step: it prints the rows, as they are or in the version of the class that is asked, or why they can't be had so.
use Rattle.std.proofs.Common.{◌≡◌, ℕ, ℤ, List, [], ◌∷◌, length, Option, Some, None, Ok, Err, Bool, true, false, not, refl, sym, ap, subst, ◌∙◌}
use Rattle.std.specs.{Prelude.{option_and_then}, FinMap.{get}, Option.{option_map_or}}
use Rattle.rio_num.specs.Reading.{◌>>=◌}
use Rattle.rio_format.specs.{declared.class.Base.{Base}, declared.class.ClassDef.{ClassDef}, declared.value.Value.{Value}}
use Rattle.rio_machine.specs.{State.{Row, State, Tree}, declared.command.Command.{TheVariants.{Scan}}, declared.command.Outcome.{Outcome, TheVariants.{Accepted, Refused}}}
use Rattle.rio_machine.specs.declared.refusal.Refusal.{Refusal, TheVariants.{KindChanged}}
use Rattle.rio_model.specs.{Mapping.{Mapped, as_version}, Resolving.{is_known_version}, declared.map_fault.MapFault.TheVariants.{KindChanged as Changed, NoVersion as Missing, NoMemory}}
use Rattle.rio_reply.proofs.Versions.{IsHadByVersion, had_by_version}
use Rattle.rio_step.specs.Refusing.{change_in, kind_change, refusal_of, row_seen_by, row_seen_in, rows_of_tree, rows_seen_in}
use Rattle.rio_step.specs.{ReplyText.{text_of}, Step.{or_unmapped, outcome_of, refused, rows_told, told_rows}}
use Rattle.rio_judge.specs.{Judging.{refused_by_object}, Trees.{IsVersionKnown}}
use Rattle.rio_session.specs.{Behind.{IsOfKeys, IsToldByKeys}, Due.{IsClosableWith}, Gets.{IsReplyTo}, Marks.{command_lengths}, Scans.{rows_printed}, Session.{LacksRoomIfFull, SessionState, next_of}}
use Rattle.rio_session.proofs.OtherSteps.{accepted_outcome, accepted_still, accepted_told, refused_lacks, refused_outcome, refused_still, refused_told}
use Rattle.rio_session.proofs.{Refused.{cost_accepted}, OnlyReplies.{IsStill}}

-- this is said of it, and that becomes of it
abbrev pub IsScanSaid : SessionState → State → List ℕ → Option Base → List ℕ → Outcome → Type 0
IsScanSaid s m name class text outcome =
    (text ≡ text_of (next_of s m (Scan name class)).reply) × (outcome ≡ outcome_of (next_of s m (Scan name class)).reply)

-- ---- whether it is refused or not, it changes nothing and costs nothing

module _ (s : SessionState) (m : State) (keys : IsOfKeys s m) (kept : IsClosableWith s.segments s.heads s.trees s.info s.name) (name : List ℕ) (class : Option Base) where
  pub scan_still : IsStill s m (Scan name class) 0
  unfolding command_lengths
  scan_still = by (refusal_of m (Scan name class) None) refl
    where
      by : (o : Option Refusal) → refusal_of m (Scan name class) None ≡ o → IsStill s m (Scan name class) 0
      by (Some refusal) is = refused_still s m (Scan name class) refusal is
      by None free = accepted_still s m keys kept (Scan name class) free refl refl refl refl refl refl (cost_accepted m (Scan name class) free)

  -- want of room never refuses it
  pub scan_lacks : (after : SessionState) → LacksRoomIfFull after (outcome_of (next_of s m (Scan name class)).reply)
  unfolding command_lengths
  scan_lacks after = by (refusal_of m (Scan name class) None) refl
    where
      by : (o : Option Refusal) → refusal_of m (Scan name class) None ≡ o → LacksRoomIfFull after (outcome_of (next_of s m (Scan name class)).reply)
      by (Some refusal) is =
          subst (λ (o : Outcome). LacksRoomIfFull after o) (sym (refused_outcome s m (Scan name class) refusal is)) (refused_lacks s m (Scan name class) refusal is after)
      by None free =
          subst (λ (o : Outcome). LacksRoomIfFull after o) (sym (accepted_outcome s m keys kept (Scan name class) free refl refl refl refl refl)) tt

  pub scan_outcome : refusal_of m (Scan name class) None ≡ None → outcome_of (next_of s m (Scan name class)).reply ≡ Accepted
  unfolding command_lengths
  scan_outcome free = accepted_outcome s m keys kept (Scan name class) free refl refl refl refl refl

  refused_said : (refusal : Refusal) → refusal_of m (Scan name class) None ≡ Some refusal → (text : List ℕ) (outcome : Outcome) → text ≡ text_of (refused refusal) → outcome ≡ Refused refusal
      → IsScanSaid s m name class text outcome
  refused_said refusal is text outcome text_is outcome_is =
      (text_is ∙ refused_told s m (Scan name class) refusal is, outcome_is ∙ sym (refused_outcome s m (Scan name class) refusal is))

  accepted_said : refusal_of m (Scan name class) None ≡ None → (text : List ℕ) (outcome : Outcome) → text ≡ text_of (rows_told name (told_rows m name class)) → outcome ≡ Accepted
      → IsScanSaid s m name class text outcome
  unfolding command_lengths
  accepted_said free text outcome text_is outcome_is =
      (accepted_told s m keys kept (Scan name class) free refl refl refl refl text text_is, outcome_is ∙ sym (scan_outcome free))

-- ---- rows in a version

-- what is had, or what has changed its kind
abbrev pub IsHad : {A : Type 0} → Mapped A → Type 0
IsHad (Ok x) = Unit {0}
IsHad (Err (Changed member)) = Unit {0}
IsHad (Err Missing) = ⊥
IsHad (Err NoMemory) = ⊥

then_had : {A B : Type 0} (x : Mapped A) (f : A → Mapped B) → IsHad x → ((a : A) → IsHad (f a)) → IsHad (x >>= f)
then_had (Ok x) f had each = each x
then_had (Err (Changed member)) f had each = tt
then_had (Err Missing) f had each = absurd had
then_had (Err NoMemory) f had each = absurd had

known_had : {A : Type 0} (known : Bool) (x : Mapped A) → known ≡ true → IsHadByVersion known x → IsHad x
known_had known (Ok x) is had = tt
known_had known (Err (Changed member)) is had = tt
known_had known (Err Missing) is had = absurd cc
known_had known (Err NoMemory) is had = absurd had

values_had : (see : Value → Mapped Value) → ((v : Value) → IsHad (see v)) → (row : Row) → IsHad (row_seen_by see row)
values_had see had [] = tt
values_had see had (v ∷ vs) = then_had (see v) (λ w. row_seen_by see vs >>= λ ws. Ok (w ∷ ws)) (had v) (λ w. then_had (row_seen_by see vs) (λ ws. Ok (w ∷ ws)) (values_had see had vs) (λ ws. tt))

row_had : (classes : List ClassDef) (class : Option Base) → IsVersionKnown classes class → (row : Row) → IsHad (row_seen_in classes class row)
row_had classes None known row = tt
row_had classes (Some asked) known row =
    values_had (as_version classes asked.name asked.version)
    (λ v. known_had (is_known_version classes asked.name asked.version) (as_version classes asked.name asked.version v) known (had_by_version classes asked.name asked.version v)) row

-- where the class is known in the version, rows are had so, or a kind has changed
pub rows_had : (classes : List ClassDef) (class : Option Base) → IsVersionKnown classes class → (rows : List Row) → IsHad (rows_seen_in classes class rows)
rows_had classes class known [] = tt
rows_had classes class known (r ∷ rows) =
    then_had (row_seen_in classes class r) (λ s. rows_seen_in classes class rows >>= λ ss. Ok (s ∷ ss)) (row_had classes class known r)
    (λ s. then_had (rows_seen_in classes class rows) (λ ss. Ok (s ∷ ss)) (rows_had classes class known rows) (λ ss. tt))

-- as they are they are had
seen_plain : (classes : List ClassDef) (rows : List Row) → rows_seen_in classes None rows ≡ Ok rows
seen_plain classes [] = refl
seen_plain classes (r ∷ rows) = ap (λ (o : Mapped (List Row)). o >>= λ ss. Ok (r ∷ ss)) (seen_plain classes rows)

-- ---- what is said of the rows

module _ (s : SessionState) (m : State) (keys : IsOfKeys s m) (kept : IsClosableWith s.segments s.heads s.trees s.info s.name) (name : List ℕ) (class : Option Base) (known : IsVersionKnown s.classes class)
    (free : refusal_of m (Scan name class) None ≡ refused_by_object m (Scan name class)) (x : Tree) (there : get m.trees name ≡ Some x) where
  refuses : refusal_of m (Scan name class) None ≡ change_in (rows_seen_in m.classes class (rows_of_tree x))
  refuses = free ∙ ap (option_and_then (λ (t : Tree). change_in (rows_seen_in m.classes class (rows_of_tree t)))) there

  told : told_rows m name class ≡ or_unmapped (rows_of_tree x) (rows_seen_in m.classes class (rows_of_tree x))
  told = ap (λ (o : Option Tree). or_unmapped (option_map_or rows_of_tree o []) (rows_seen_in m.classes class (option_map_or rows_of_tree o []))) there

  by_seen : (r : Mapped (List Row)) → rows_seen_in m.classes class (rows_of_tree x) ≡ r → IsHad r → (text : List ℕ) (outcome : Outcome) → IsReplyTo (r >>= λ seen. Ok (text_of (rows_told name seen))) text outcome
      → IsScanSaid s m name class text outcome
  by_seen (Ok seen) is had text outcome reply =
      accepted_said s m keys kept name class (refuses ∙ ap change_in is) text outcome
      (reply.0 ∙ ap (λ (rows : List Row). text_of (rows_told name rows)) (sym (told ∙ ap (or_unmapped (rows_of_tree x)) is))) reply.1
  by_seen (Err (Changed member)) is had text outcome reply = refused_said s m keys kept name class (KindChanged member) (refuses ∙ ap change_in is) text outcome reply.0 reply.1
  by_seen (Err Missing) is had text outcome reply = absurd had
  by_seen (Err NoMemory) is had text outcome reply = absurd had

  pub scan_said : (text : List ℕ) (outcome : Outcome) → IsReplyTo (rows_printed s.classes class name (rows_of_tree x)) text outcome → IsScanSaid s m name class text outcome
  scan_said text outcome reply =
      by_seen (rows_seen_in m.classes class (rows_of_tree x)) refl (subst (λ (classes : List ClassDef). IsHad (rows_seen_in classes class (rows_of_tree x))) (sym keys.classes) (rows_had s.classes class known (rows_of_tree x))) text outcome
      (subst (λ (classes : List ClassDef). IsReplyTo (rows_printed classes class name (rows_of_tree x)) text outcome) (sym keys.classes) reply)

  -- without a class the rows are printed
  pub scan_plain : IsToldByKeys (Scan name class) → outcome_of (next_of s m (Scan name class)).reply ≡ Accepted
  scan_plain by_keys = by class by_keys refuses (scan_outcome s m keys kept name class)
    where
      by : (asked : Option Base) → IsToldByKeys (Scan name asked) → refusal_of m (Scan name asked) None ≡ change_in (rows_seen_in m.classes asked (rows_of_tree x))
          → (refusal_of m (Scan name asked) None ≡ None → outcome_of (next_of s m (Scan name asked)).reply ≡ Accepted) → outcome_of (next_of s m (Scan name asked)).reply ≡ Accepted
      by None by_keys by_rows accepts = accepts (by_rows ∙ ap change_in (seen_plain m.classes (rows_of_tree x)))
      by (Some asked) by_keys by_rows accepts = absurd by_keys
