-- What a stop leaves while a made file is opened.
use Rattle.std.proofs.Common.{◌≡◌, inl, inr, ⊎_elim, ℕ, List, Some, false, sym, subst, ◌∙◌}
use Rattle.byteorder.specs.Endian.{big_bytes}
use Rattle.rio_host.specs.{Host.{Elapses, IsLawful, IsQuiet, Leaves, OnDisk, View}, Image.{PutOrNot, Same}}
use Rattle.rio_host.proofs.Moments.{Outcomes, elapses_as, elapses_join, leaves_back}
use Rattle.rio_dir.specs.Unborn.{is_unborn}
use Rattle.rio_chain.specs.Stops.{IsWordOrNot}
use Rattle.rio_close.specs.EndWord.{SaysEnd}
use Rattle.rio_machine.specs.State.{State}
use Rattle.rio_recover.specs.{Cleaning.{IsCleaning}, Recovered.{IsRecovered}, declared.recovery.Recovered.{Recovered}}
use Rattle.rio_state.specs.{Left.{open_end}, Reads.{ReadsAsState}}
use Rattle.rio_session.specs.Opening.{IsFileOrUnclosed, LeavesFileOrUnclosed}
use Rattle.rio_session.proofs.{OpenMade.{image_open, image_reads, marked_by, marked_closed, marked_reads}, Opened.{IsOpenImage}, OpenMoments.{Stays, own_stays}}

-- ---- the mark

abbrev pub MarkedOrNot : View → List ℕ → Outcomes
MarkedOrNot v file = IsWordOrNot v file 12 (big_bytes 4 open_end)

-- a sync leaves nothing that might not have been left before
pub sync_none : (a b : View) (P : Outcomes) → IsLawful a → OnDisk Same a b → Elapses a b P
sync_none a b P law sync = record {
  later = sync.time.later;
  nothing_else = λ t i s le left. ⊎_elim (λ was. inl was)
      (λ after. inl (law.earlier t a.now i s le (subst (λ (f : List ℕ). Leaves a f s) (sym after.2) after.1)))
      (sync.time.nothing_else t i s le left);
  keeps = sync.time.keeps;
}

pub mark_time : (a b c : View) (file : List ℕ) → IsLawful a → OnDisk Same a b → Elapses b c (MarkedOrNot b file) → Elapses a c (MarkedOrNot a file)
mark_time a b c file law sync marks =
    elapses_join (MarkedOrNot b file) (sync_none a b (MarkedOrNot a file) law sync) marks
    (λ i s m. record { image_is = m.image_is; text = λ all told. m.text all (sync.said ∙ told) })

-- ---- a file that is recovered

module _ (file : List ℕ) (r : Recovered) (made : is_unborn file ≡ false) (rec : IsRecovered file r) (a : View) (quiet : IsQuiet a) (holds : a.holds ≡ Some file) where
  -- an image with the mark, or without it, stands for the state
  word_stays : (text : List ℕ) (m : State) → a.said ≡ Some text → ReadsAsState file m → (image said : List ℕ) → MarkedOrNot a file image said → Stays file m text image said
  word_stays text m told reads image said marks = by marks.image_is
    where
      by : PutOrNot 12 (big_bytes 4 open_end) file image → Stays file m text image said
      by (inl same) = own_stays file text m reads image said same (marks.text text told)
      by (inr says) = (marked_reads file r made rec image says m reads, λ was. marked_closed image m (marked_by file image says), marks.text text told)

  pub marking_time : (text : List ℕ) (m : State) → a.said ≡ Some text → ReadsAsState file m → (b : View) → Elapses a b (MarkedOrNot a file) → Elapses a b (Stays file m text)
  marking_time text m told reads b marks = elapses_as (Stays file m text) (MarkedOrNot a file) marks (word_stays text m told reads)

  word_unclosed : (image said : List ℕ) → MarkedOrNot a file image said → IsFileOrUnclosed file image
  word_unclosed image said marks = ⊎_elim (λ same. inl same) (λ says. inr (inr (marked_by file image says))) marks.image_is

  pub marked_unclosed : (b : View) → IsLawful b → Elapses a b (MarkedOrNot a file) → LeavesFileOrUnclosed file b
  marked_unclosed b law marks image said left = ⊎_elim (λ was. inl (quiet image said file was holds)) (word_unclosed image said) (leaves_back law marks image said left)

  -- ---- the garbage

  module _ (marked : List ℕ) (says : SaysEnd open_end file marked) where
    module _ (b : View) (m : State) (reads : ReadsAsState file m) where
      open_of : (image said : List ℕ) → IsCleaning b marked m image said → IsOpenImage r.nbytes_name m image
      open_of image said ic = image_open file r made rec marked says m reads ic.links image ic.front ic.chain ic.records

      cleaning_stays : (text : List ℕ) → b.said ≡ Some text → (image said : List ℕ) → IsCleaning b marked m image said → Stays file m text image said
      cleaning_stays text told image said ic =
          (image_reads file r made rec marked says m reads ic.links image ic.front ic.chain ic.records, λ was. marked_closed image m (open_of image said ic).reads.marked, ic.text text told)

    pub cleaning_time : (text : List ℕ) (m : State) → a.said ≡ Some text → ReadsAsState file m → (b c : View) → b.said ≡ a.said → Elapses a b (MarkedOrNot a file) → Elapses b c (IsCleaning b marked m) → Elapses a c (Stays file m text)
    cleaning_time text m told reads b c same marks cleans =
        elapses_join (IsCleaning b marked m) (marking_time text m told reads b marks) cleans (cleaning_stays b m reads text (same ∙ told))

    pub cleaned_unclosed : (b c : View) → IsLawful c → IsQuiet b → b.holds ≡ Some marked → Elapses b c (IsCleaning b marked rec.m) → LeavesFileOrUnclosed file c
    cleaned_unclosed b c law quiet_b told cleans image said left =
        ⊎_elim (λ was. inr (inr (marked_by file image (subst (SaysEnd open_end file) (sym (quiet_b image said marked was told)) says))))
        (λ ic. inr (inr (open_of b rec.m rec.reads image said ic).reads.marked))
        (leaves_back law cleans image said left)
