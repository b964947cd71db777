-- The saves of a close leave the records that the definition of runs on files tells.
use Rattle.std.proofs.Common.{◌≡◌, ◌∙◌, ◌==◌, ℕ, ◌+◌, ◌<◌, ◌^◌, List, [], ◌∷◌, ◌++◌, length, Bool, true, false, Option, Some, None, refl, sym, ap, subst, arith}
use Rattle.std.proofs.lemmas.{List.{length-append, Sums.{fold-append}}, Slice.Eq.{bytes_eq-Decides}}
use Rattle.std.specs.{Prelude.{if◌then◌else◌}, List.{find}, Option.{option_map_or}, Str.{bytes_eq}}
use Rattle.rio_key.specs.declared.head.KeyHead.{KeyHead}
use Rattle.rio_dir.specs.Table.{head_of}
use Rattle.rio_host.specs.Host.{View}
use Rattle.rio_chain.specs.{Adjoining.{AreSegments}, Segments.{IsChain, Link}, declared.segment.Segment.{Segment}}
use Rattle.rio_machine.specs.{State.{State, Tree}, declared.command.Command.{Command, TheVariants.{Save}}}
use Rattle.rio_fill.specs.Fill.{TreeFill}
use Rattle.rio_judge.proofs.KeysOfState.{first_is_found}
use Rattle.rio_step.specs.Step.{state_behind}
use Rattle.rio_effect.specs.{FileRuns.{FileRecords, all_changed, changes_of, put_after, records_after, records_behind, saved_records}, HeaderRecords.{HeadersHaveRecords}, TreeChanges.{changes_of_save}}
use Rattle.rio_session.specs.{Changing.{Changing, IsUnderway}, Closes.{AreSavesTold}, Due.{IsClosableWith}, Fillings.{Done, closing, pending_names, saving, saving_all}}
use Rattle.rio_session.specs.{Fills.{FilledTree, is_tree_of, places_of_trees, put_in, with_change}, Kept.{all_done, changes_by, kept_by}, Session.{StandsFor, file_records}, SessionState.{SessionState}}
use Rattle.rio_session.proofs.{ClosedStates.{HaveCycles}, ClosingStages.{AreMet, middle, next_good, next_stands, others_met, saves_of}, ClosingSteps.{CanBeClosing, change, closing_step, first_due, free, saving_same, shape}, ClosingTime.{all_links, held, reached_all, saves_are}}
use Rattle.rio_session.proofs.{FillLists.{ordered_of, own_found}, FilledChanges.{put_other, put_own}, FilledTrees.{tree_of_fill}, Follows.{saving_file}, KeepsGone.{key_begins, key_later}}
use Rattle.rio_session.proofs.{SaveCan.{is_savable, own_apart, own_sound}, SaveEffects.{all_is}, SaveKeys.{there}, StandsOn.{StandsOn, holds_on}, TreeFirst.{tree_first}}

-- ---- one save

-- it leaves the same records by the definition as by what is kept, with the same baskets of pending rows among them
abbrev pub IsSaveTold : SessionState → State → List ℕ → List Link → Type 0
IsSaveTold s m name links =
    records_after s.datime (file_records s links) m (Save name) ≡ file_records (kept_by s m (Save name)) (all_done (changes_by s m (Save name)) links)

module _ (headers : HeadersHaveRecords) (s : SessionState) (m : State) (file : List ℕ) (h : StandsOn s m file) (names : List (List ℕ)) (k : KeyHead) (t : FilledTree) (found_tree : find (is_tree_of k.name) s.trees ≡ Some t)
    (first : head_of k.name None s.heads ≡ Some k) (due : (t.fill.pending == 0) ≡ false) (good : CanBeClosing s m (k.name ∷ names)) where
  abbrev its_shape : AreSegments s.segments
  its_shape = shape headers s m file h names k t found_tree first due good

  links_here : all_changed h.links (changes_of s.datime (file_records s h.links) m (Save k.name)) ≡ all_done (changes_by s m (Save k.name)) h.links
  links_here =
      let sound = own_sound s m file h k t found_tree first good.closable in
      let can_be = is_savable s m file h k t found_tree first good.closable headers good.soon (free headers s m file h names k t found_tree first due good) in
      let found_key = first_is_found k.name s.heads k first in
      ap (λ (o : Option Tree). all_changed h.links (option_map_or (changes_of_save s.datime (file_records s h.links) m k.name) o [])) (there s m file h k t found_tree first)
      ∙ sym (all_is s m file h k t found_tree first sound can_be (own_apart s m file h k t found_tree first good.closable)
      (key_begins s.segments s.heads s.info (places_of_trees s.trees) s.name k its_shape good.closable.closable found_key)
      (key_later s.segments s.heads s.info (places_of_trees s.trees) s.name k its_shape good.closable.closable found_key))

  abbrev behind_save : TreeFill → TreeFill
  behind_save f = change headers s m file h names k t found_tree first due good f

  puts_here : (other : List ℕ) → put_after s.datime (file_records s h.links) m (Save k.name) other ≡ put_in (kept_by s m (Save k.name)).trees other
  puts_here other =
      by (bytes_eq other k.name) refl ∙ ap (λ (d : Done). put_in d.kept.trees other) (sym (saving_same headers s m file h names k t found_tree first due good))
    where
      by : (b : Bool) → bytes_eq other k.name ≡ b → (if b then [] else put_in s.trees other) ≡ put_in (with_change k.name behind_save s.trees) other
      by true is = sym (put_own k.name behind_save t s.trees found_tree) ∙ ap (put_in (with_change k.name behind_save s.trees)) (sym ((bytes_eq-Decides other k.name).0 is))
      by false is = sym (put_other k.name behind_save other s.trees is)

  told_here : IsSaveTold s m k.name h.links
  told_here = λ i. record { links = links_here i; put = λ other. puts_here other i }

save_told : HeadersHaveRecords → (s : SessionState) (m : State) (file : List ℕ) (name : List ℕ) (names : List (List ℕ)) (h : StandsOn s m file) → CanBeClosing s m (name ∷ names) → IsSaveTold s m name h.links
save_told headers s m file name names h good =
    let one = first_due name names s.trees good.due in
    let found = subst (λ (n : List ℕ). find (is_tree_of n) s.trees ≡ Some one.t) one.named (own_found one.t s.trees (ordered_of s.trees h.trees.ordered) one.among) in
    let own = tree_of_fill s m h.stands name one.t found in
    let key = tree_first s m file h name own.0 own.1.there in
    let found_key = subst (λ (n : List ℕ). find (is_tree_of n) s.trees ≡ Some one.t) (sym key.named) found in
    let first = subst (λ (n : List ℕ). head_of n None s.heads ≡ Some key.k) (sym key.named) key.first in
    let here = subst (λ (n : List ℕ). CanBeClosing s m (n ∷ names)) (sym key.named) good in
    subst (λ (n : List ℕ). IsSaveTold s m n h.links) key.named (told_here headers s m file h names key.k one.t found_key first one.due here)

-- ---- several

saves_told : HeadersHaveRecords → (names : List (List ℕ)) (s : SessionState) (m : State) (file image : List ℕ) (h : StandsOn s m file) → CanBeClosing s m names
    → AreMet (saving_all s names).changes (length (saving_all s names).changes) h.links → IsChain (all_done (saving_all s names).changes h.links) image
    → records_behind s.datime (file_records s h.links) m (saves_of names) ≡ file_records (saving_all s names).kept (all_done (saving_all s names).changes h.links)
saves_told headers [] s m file image h good met chain = refl
saves_told headers (name ∷ names) s m file image h good met chain =
    let own = (saving s name).changes in
    let others = (saving_all (saving s name).kept names).changes in
    let between : List Link = all_done own h.links in
    let kept : SessionState = kept_by s m (Save name) in
    let state : State = state_behind m (Save name) in
    let step = closing_step headers in
    let long = length-append own others in
    let mid = middle CanBeClosing step s m file name names h good image met chain in
    let front : AreMet (own ++ others) (length own) h.links = λ i low. met i (omega (arith, low, long)) in
    let stands = next_stands CanBeClosing step s m file name names h good mid.0 front mid.1 in
    let whole : all_done (own ++ others) h.links ≡ all_done others between = fold-append (λ l change. change l) h.links own others in
    let all : AreMet (own ++ others) (length own + length others) h.links = λ i low. met i (omega (arith, low, long)) in
    let rest = saves_told headers names kept state mid.0 image stands (next_good CanBeClosing step s m file name names h good)
    (others_met CanBeClosing step s m file name names h good (length others) all) (subst (λ (l : List Link). IsChain l image) whole chain) in
    ap (λ (r : FileRecords). records_behind s.datime r state (saves_of names)) (save_told headers s m file name names h good)
    ∙ ap (λ (d : ℕ). records_behind d (file_records kept between) state (saves_of names)) (sym (saving_file s name).datime)
    ∙ rest
    ∙ ap (λ (l : List Link). file_records (saving_all kept names).kept l) (sym whole)

-- ---- a close

module _ (headers : HeadersHaveRecords) (v : View) (s : SessionState) (m : State) (text : List ℕ) (stands : StandsFor v s m text) (closable : IsClosableWith s.segments s.heads s.trees s.info s.name) (soon : s.datime < 2 ^ 32) (low : HaveCycles m)
    (p : Changing) (changes : p.changes ≡ (closing s).changes) (silent : p.text ≡ []) (mid : View) (segments : List Segment) (u : IsUnderway p (length p.changes) v mid s segments) where
  abbrev good : CanBeClosing s m (pending_names s)
  good = record { due = refl; closable = closable; soon = soon; low = low }

  abbrev links : List Link
  links = stands.state.links

  pub closing_told : AreSavesTold s m stands.state.links
  unfolding saved_records
  closing_told =
      let step = closing_step headers in
      let on : StandsOn s m stands.file = holds_on s m stands.file stands.state in
      let file = held CanBeClosing step v s m text stands good p changes silent mid segments u in
      let chain = subst (λ (l : List Link). IsChain l file.0) (all_links CanBeClosing step v s m text stands good p changes silent mid segments u) file.2.chain in
      let told = saves_told headers (pending_names s) s m stands.file file.0 on good (reached_all CanBeClosing step v s m text stands good p changes silent mid segments u) chain in
      sym (ap (λ (r : FileRecords). r.links) told)
      ∙ ap (λ (cs : List Command). (records_behind s.datime (file_records s links) m cs).links) (saves_are CanBeClosing step v s m text stands good p changes silent)
