-- With the record that a class command writes the records stand for the state after the command.
use Rattle.std.proofs.Common.{◌≡◌, ℕ, ◌+◌, ◌^◌, ◌<◌, ◌≤◌, List, [], ◌∷◌, ◌++◌, length, true, false, Option, Some, None, refl, sym, ap, subst, arith}
use Rattle.std.proofs.lemmas.{Bool.{leb-false, ltb-false}, List.{length-append}}
use Rattle.rio_format.specs.{declared.class.ClassDef.{ClassDef}, WrittenBytes.{length_limit, written_list}, Growth.{PicksStay}}
use Rattle.rio_model.specs.{Declaring.{declared}, StateClasses.{HasShortList, StateClasses}, Stated.{is_stated_class}}
use Rattle.rio_machine.specs.{State.{State}, declared.command.Command.TheVariants.{Class}, declared.refusal.Refusal.{Refusal, TheVariants.{TooLarge, TooMany}}}
use Rattle.rio_chain.specs.{Changes.{with_record}, Segments.{IsChain, Link}}
use Rattle.rio_state.specs.{Contents.{HasStateClasses, described_classes, state_classes}, Left.{info_head}}
use Rattle.rio_state.specs.{KeyedRecords.{KeyedRecord, begins_at, info_key, keyed_records, top_keys}, Reads.{AreRecordsOf}}
use Rattle.rio_step.proofs.{ApartLaws.{none_at, not_refused}, DeclaredLaws.{classes_stay_declared}}
use Rattle.rio_step.specs.{Refusing.{has_too_many, is_too_large, refusal_of, refusals, with_class}, Runs.{saved_of}, Step.{by_refusal, step}}
use Rattle.rio_effect.specs.ClassRecord.{list_key, list_record, next_list_cycle}
use Rattle.rio_effect.specs.Classes.{ClassTakesEffect, ClassesHaveRecords, ClassesIgnorePending, IsClassRecord, IsDeclared, list_in}
use Rattle.rio_effect.proofs.{ClassEffect.{IsNextList, appended, described_longer, list_keys_stay, next_list_takes_effect}, OldLists.{info_among, list_is_later, list_unreferred, place_apart}}
use Rattle.rio_effect.proofs.{ListPut.{CanBeListed, counts, is_list, keeps_one, list_long, list_unnamed, more, new_list, newer, r as list, words_fit}, PutEffect.{classes_of_records}}
use Rattle.rio_effect.proofs.{TreesGrow.{LeavesTrees, one_class_more}}

-- ---- what an accepted command knows

module _ (m : State) (class : ClassDef) (e : refusal_of m (Class class) None ≡ None) where
  abbrev all : List ClassDef
  all = with_class m.classes class

  accepted : is_stated_class class ≡ true → StateClasses m.classes → StateClasses all
  unfolding step
  accepted stated are = subst (λ (r : Option Refusal). StateClasses (by_refusal m (Class class) r).state.classes) e (classes_stay_declared m (Class class) None stated are)

  short : HasShortList all
  unfolding refusal_of
  short = ltb-false length_limit (length (written_list 0 all)) (not_refused (is_too_large m (Class class)) TooLarge (none_at (refusals m (Class class) None) 15 e))

  few : length m.classes < 4096
  unfolding refusal_of
  few = leb-false 4096 (length m.classes) (not_refused (has_too_many m (Class class)) TooMany (none_at (refusals m (Class class) None) 17 e))

-- ---- cycles

-- a class list's cycle is at most two more than there are classes
low_cycle : (info : Option KeyedRecord) (n : ℕ) → HasStateClasses info → length (state_classes info) ≡ n → next_list_cycle (info_head info) ≤ n + 2
low_cycle None n has e = omega arith
low_cycle (Some r) n has e = let own = has.cycle in omega (arith, own, e)

-- ---- the record

module _ (links : List Link) (m : State) (place datime : ℕ) (class : ClassDef) (low : place < 2 ^ 32) (soon : datime < 2 ^ 32)
    (is : AreRecordsOf (keyed_records links) m) (stated : is_stated_class class ≡ true) (e : refusal_of m (Class class) None ≡ None) where
  abbrev old : List KeyedRecord
  old = keyed_records links

  abbrev classes : List ClassDef
  classes = with_class m.classes class

  cycle_low : next_list_cycle (list_in links) ≤ length m.classes + 2
  cycle_low = low_cycle (info_key old) (length m.classes) is.stand.listed (ap length (sym is.stand.classes))

  one_longer : length classes ≡ length m.classes + 1
  one_longer = length-append m.classes _

  pub can : CanBeListed links place datime classes
  can = record {
    low = low;
    soon = soon;
    are = accepted m class e stated (classes_of_records old m is);
    short = short m class e;
    few = omega (arith, few m class e, one_longer);
    cycle_low = omega (arith, cycle_low, one_longer);
  }

  class_record : IsClassRecord (list_in links) m place datime class
  unfolding list_key list_record
  class_record = record {
    fit = words_fit links place datime classes can;
    whole = (new_list links place datime classes can).whole;
    read = (new_list links place datime classes can).key_read place;
    key = refl;
    long = list_long links place datime classes can;
  }

  abbrev r : KeyedRecord
  r = list links place datime classes can

  next_list : IsNextList old m (declared m.classes class) r
  next_list = record { key = refl; newer = newer links place datime classes can; list = is_list links place datime classes can }

  -- ---- the file

  abbrev new : List KeyedRecord
  new = keyed_records (with_record place r.bytes links)

  -- the classes of the file, with one more
  longer : state_classes (Some r) ≡ state_classes (info_key old) ++ declared m.classes class ∷ []
  longer = appended old new (info_key old) r (top_keys old) m (declared m.classes class) is.stand next_list.list

  picks : PicksStay (described_classes (info_key old)) (described_classes (Some r))
  picks = described_longer old new (info_key old) r (top_keys old) m (declared m.classes class) is.stand next_list.list (info_key old) is.stand.listed longer

  leaves : LeavesTrees (state_classes (info_key old)) (state_classes (Some r))
  leaves = one_class_more (state_classes (info_key old)) (state_classes (Some r)) (declared m.classes class) longer

  takes_effect : (file : List ℕ) → begins_at old place ≡ false → IsChain links file → IsDeclared links m place datime class
  unfolding list_key list_record
  takes_effect file free chain =
      let added = more links place datime classes can in
      record {
        records = next_list_takes_effect old new r m (declared m.classes class) added free next_list is;
        keys = λ heads are. list_keys_stay old new r heads added next_list.key are;
        info = ap info_head (counts links place datime classes can);
        old = λ at s there.
            let l = info_among old s there in
            list_unreferred new r s l.key (list_is_later file links s chain l) (counts links place datime classes can) (place_apart file place (length r.bytes) s links chain at l.among)
            (list_unnamed links place datime classes can m is leaves picks file chain s l);
        kept = keeps_one links place datime classes can m is leaves picks file chain;
      }

pub classes_have_records : ClassesHaveRecords
classes_have_records links m place datime class low soon is stated e = class_record links m place datime class low soon is stated e

pub class_takes_effect : ClassTakesEffect
class_takes_effect file links m place datime class low soon free chain is stated e = takes_effect links m place datime class low soon is stated e file free chain

-- ---- pending rows

pub classes_ignore_pending : ClassesIgnorePending
unfolding refusal_of saved_of
classes_ignore_pending m class = record { refused = λ mark. refl; behind = refl }
