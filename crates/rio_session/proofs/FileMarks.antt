-- The steps by the records of a file are those by what is kept beside it, where its changes and marks agree.
use Rattle.std.proofs.Common.{◌≡◌, ℕ, ◌+◌, List, [], length, map, Option, Some, None, false, refl, sym, ap, ◌∙◌, arith}
use Rattle.std.specs.Prelude.{if◌then◌else◌, is_some}
use Rattle.rio_chain.specs.{Placing.{record_count}, Segments.{segment_of}}
use Rattle.rio_machine.specs.{State.{State}, declared.command.Command.{Command}, declared.refusal.Refusal.{Refusal}}
use Rattle.rio_state.specs.{Closing.{close_need, kept_with}, TreeLengths.{pending_in}}
use Rattle.rio_step.specs.{Refusing.{refusal_of}, Step.{by_refusal, state_behind, step}}
use Rattle.rio_effect.specs.FileRuns.{Change, FileRecords, FileStep, all_changed, changes_of, file_step, mark_of_changes, put_after, records_after}
use Rattle.rio_recover.specs.Closable.{list_count}
use Rattle.rio_session.specs.{FileSteps.{FollowsFile}, Fills.{put_in}, Kept.{LinksChange, all_done, changes_after, changes_by, kept_after, kept_by}}
use Rattle.rio_session.specs.{Marks.{basket_total, command_lengths, lists_after, mark_of_command, state_need, trees_after}, Session.{HoldsState, SessionState, file_records, next_of}, Sound.{IsSoundState}}
use Rattle.rio_session.proofs.{Agreeing.{AgreesWithFile}, FileNeeds.{mark_by, mark_by_file, mark_by_kept, need_of_state}, FilledFiles.{filled_now}, Needs.{baskets_counted}, Unmarked.{unmarked}}
use Rattle.rio_session.proofs.Refused.{changes_done, changes_refused, kept_done, kept_refused, refused_anyway}

-- ---- a step

mark_is : (datime : ℕ) (now : FileRecords) (m : State) (c : Command) → (file_step datime now m c).mark ≡ mark_of_changes (pending_in (state_behind m c)) now.links (changes_of datime now m c)
unfolding file_step
mark_is datime now m c = refl

records_are : (datime : ℕ) (now : FileRecords) (m : State) (c : Command)
    → (file_step datime now m c).records ≡ (if is_some (refusal_of m c (file_step datime now m c).mark) then now else records_after datime now m c)
unfolding file_step
records_are datime now m c = refl

module _ (s : SessionState) (m : State) (file : List ℕ) (h : HoldsState s m file) (c : Command) where
  abbrev now : FileRecords
  now = file_records s h.links

  -- ---- where they agree

  module _ (a : AgreesWithFile s m c h.links) where
    abbrev t : FileStep
    t = file_step s.datime (file_records s h.links) m c

    told : t.mark ≡ mark_of_changes (pending_in (state_behind m c)) h.links a.changes
    told = mark_is s.datime now m c ∙ ap (mark_of_changes (pending_in (state_behind m c)) h.links) a.changes_are

    refusals_alike : refusal_of m c t.mark ≡ refusal_of m c (mark_of_command s m c)
    refusals_alike = ap (refusal_of m c) told ∙ by (refusal_of m c None) refl
      where
        by : (o : Option Refusal) → refusal_of m c None ≡ o → refusal_of m c (mark_of_changes (pending_in (state_behind m c)) h.links a.changes) ≡ refusal_of m c (mark_of_command s m c)
        by (Some refusal) is = refused_anyway m c (mark_of_changes (pending_in (state_behind m c)) h.links a.changes) refusal is ∙ sym (refused_anyway m c (mark_of_command s m c) refusal is)
        by None is = ap (refusal_of m c) (a.mark is)

    next_alike : step m c t.mark ≡ next_of s m c
    unfolding step
    next_alike = ap (by_refusal m c) refusals_alike

    abbrev marked : FileRecords
    marked = record { links = all_changed h.links a.changes; put = put_after s.datime (file_records s h.links) m c }

    after_is : records_after s.datime (file_records s h.links) m c ≡ marked
    after_is = λ i. record { links = all_changed h.links (a.changes_are i); put = put_after s.datime now m c }

    -- the records after, by whether the session refuses
    after_alike : t.records ≡ (if is_some (refusal_of m c (mark_of_command s m c)) then file_records s h.links else marked)
    after_alike = records_are s.datime now m c ∙ (λ i. if is_some (refusals_alike i) then now else after_is i)

    links_alike : t.records.links ≡ all_done (changes_after s m c) h.links
    links_alike = ap (λ (r : FileRecords). r.links) after_alike ∙ by (refusal_of m c (mark_of_command s m c)) refl
      where
        by : (o : Option Refusal) → refusal_of m c (mark_of_command s m c) ≡ o → (if is_some o then file_records s h.links else marked).links ≡ all_done (changes_after s m c) h.links
        by (Some refusal) is = ap (λ (l : List LinksChange). all_done l h.links) (sym (changes_refused s m c refusal is))
        by None is = a.done (unmarked m c (mark_of_command s m c) is) ∙ ap (λ (l : List LinksChange). all_done l h.links) (sym (changes_done s m c is))

    puts_alike : (name : List ℕ) → t.records.put name ≡ put_in (kept_after s m c).trees name
    puts_alike name = ap (λ (r : FileRecords). r.put name) after_alike ∙ by (refusal_of m c (mark_of_command s m c)) refl
      where
        by : (o : Option Refusal) → refusal_of m c (mark_of_command s m c) ≡ o → (if is_some o then file_records s h.links else marked).put name ≡ put_in (kept_after s m c).trees name
        by (Some refusal) is = ap (λ (x : SessionState). put_in x.trees name) (sym (kept_refused s m c refusal is))
        by None is = a.puts (unmarked m c (mark_of_command s m c) is) name ∙ ap (λ (x : SessionState). put_in x.trees name) (sym (kept_done s m c is))

    segments_alike : map segment_of t.records.links ≡ (kept_after s m c).segments
    segments_alike = ap (λ (r : FileRecords). map segment_of r.links) after_alike ∙ by (refusal_of m c (mark_of_command s m c)) refl
      where
        by : (o : Option Refusal) → refusal_of m c (mark_of_command s m c) ≡ o → map segment_of (if is_some o then file_records s h.links else marked).links ≡ (kept_after s m c).segments
        by (Some refusal) is = sym h.chain.same ∙ ap (λ (x : SessionState). x.segments) (sym (kept_refused s m c refusal is))
        by None is = a.segments (unmarked m c (mark_of_command s m c) is) ∙ ap (λ (x : SessionState). x.segments) (sym (kept_done s m c is))

    pub follows_file : FollowsFile s m c h.links (file_step s.datime (file_records s h.links) m c)
    follows_file = record { next = next_alike; links_are = links_alike; puts_are = puts_alike; segments = segments_alike }

  -- ---- commands that only print

  module _ (sound : IsSoundState s) (fresh : s.failed ≡ false) (stays : state_behind m c ≡ m) (lengthless : command_lengths s m c ≡ []) (lists : lists_after s c ≡ list_count s.info)
      (trees : trees_after s m c ≡ s.trees) where
    still_need : close_need (kept_with (pending_in (state_behind m c)) h.links) ≡ state_need s.name (lists_after s c) (trees_after s m c) (state_behind m c)
    still_need =
        let kept = (sound.kept fresh).closable in
        let count : record_count s.segments ≡ 1 + list_count s.info + length s.heads + basket_total s.trees = omega (arith, kept.count, baskets_counted s.trees) in
        (λ i. close_need (kept_with (pending_in (stays i)) h.links))
        ∙ need_of_state s m h.links (filled_now s m file h (sound.kept fresh)) h.stands kept.sized (list_count s.info) count
        ∙ sym (λ i. state_need s.name (lists i) (trees i) (stays i))

    still_mark : mark_of_changes (pending_in (state_behind m c)) h.links [] ≡ mark_of_command s m c
    still_mark =
        mark_by_file (pending_in (state_behind m c)) h.links []
        ∙ (λ i. mark_by (sym h.chain.same i) (sym lengthless i) (still_need i))
        ∙ sym (mark_by_kept s m c)

    pub prints_agree : ◌≡◌ {A = List Change} (changes_of s.datime (file_records s h.links) m c) [] → ◌≡◌ {A = List LinksChange} (changes_by s m c) [] → kept_by s m c ≡ s
        → ((name : List ℕ) → put_after s.datime (file_records s h.links) m c name ≡ put_in s.trees name) → AgreesWithFile s m c h.links
    prints_agree none changeless same puts = record {
      changes = [];
      changes_are = none;
      done = λ free. ap (λ (l : List LinksChange). all_done l h.links) (sym changeless);
      segments = λ free. sym h.chain.same ∙ ap (λ (x : SessionState). x.segments) (sym same);
      puts = λ free name. puts name ∙ ap (λ (x : SessionState). put_in x.trees name) (sym same);
      mark = λ free. still_mark;
    }
