-- Commands that come one by one: a source has left those behind the ones that are done.
use Rattle.std.proofs.Common.{◌≡◌, ◌∙◌, ℕ, zero, suc, ◌+◌, ◌<◌, ◌≤◌, List, [], ◌∷◌, length, drop, get_or, Option, None, Some, IsSome, true, false, sym, refl, ap, arith}
use Rattle.std.proofs.lemmas.Option.{same_Some}
use Rattle.std.specs.List.{list_all}
use Rattle.rio_csv.specs.Unread.{TakesFirst}
use Rattle.rio_host.specs.Host.{View}
use Rattle.rio_machine.specs.declared.command.Command.{Command}
use Rattle.rio_session.specs.{Session.{IsReady, SessionState}, declared.replies.Replies.{Replies}}
use Rattle.rio_step.specs.Statable.{IsStatable, is_statable}
use Rattle.rootio.specs.Script.{commands_in}
use Rattle.rootio.proofs.{Doing.{Doing, nothing_yet}, StatableCommands.{statable_at}}

-- ---- taking

-- the first of what is left is the next one
taken : (all : List Command) (k : ℕ) (c : Command) (rest : List Command) → drop k all ≡ c ∷ rest
    → (k < length all) × (c ≡ get_or all k c) × (drop (suc k) all ≡ rest)
taken [] zero c rest e = absurd cc
taken [] (suc k) c rest e = absurd cc
taken (x ∷ all) zero c rest e =
    let head : x ≡ c = cc in
    let tail : all ≡ rest = cc in
    (omega arith, sym head, tail)
taken (x ∷ all) (suc k) c rest e =
    let t = taken all k c rest e in
    (omega (arith, t.0), t.1, t.2)

none_behind : (all : List Command) (k : ℕ) → drop k all ≡ [] → length all ≤ k
none_behind [] k e = omega arith
none_behind (x ∷ all) zero e = absurd cc
none_behind (x ∷ all) (suc k) e = let h = none_behind all k e in omega (arith, h)

-- ---- doing what is taken

-- The first k commands are done, nothing failed, and the source has the others left.
pub record DoingFrom (printing : Replies) (start v : View) (first s : SessionState) (all : List Command) (left : Option (List Command)) : Type 0 where
  pub k : ℕ
  pub doing : Doing printing start v first s all k
  pub within : k ≤ length all
  pub left_is : left ≡ Some (drop k all)

pub begins_from : (printing : Replies) (v : View) (first : SessionState) (left : Option (List Command)) → IsSome left → IsReady v first → first.failed ≡ false
    → DoingFrom printing v v first first (commands_in left) left
begins_from printing v first None some ready fresh = absurd cc
begins_from printing v first (Some all) some ready fresh =
    record { k = 0; doing = nothing_yet printing v first all ready fresh; within = omega arith; left_is = refl }

module _ (printing : Replies) (start v : View) (first s : SessionState) (all : List Command) (left new : Option (List Command)) (so : DoingFrom printing start v first s all left) where
  module _ (c : Command) (took : TakesFirst left (Some c) new) where
    next_one : (so.k < length all) × (c ≡ get_or all so.k c) × (drop (suc so.k) all ≡ took.0)
    next_one = taken all so.k c took.0 (same_Some (drop so.k all) (c ∷ took.0) (sym so.left_is ∙ took.1))

    pub next_within : so.k < length all
    next_within = next_one.0

    pub next_is : c ≡ get_or all so.k c
    next_is = next_one.1

    pub next_statable : list_all is_statable all ≡ true → IsStatable c
    next_statable are = statable_at all so.k c next_within next_is are

    pub goes_on : (next : View) (s1 : SessionState) → Doing printing start next first s1 all (so.k + 1) → DoingFrom printing start next first s1 all new
    goes_on next s1 doing =
        let e : suc so.k ≡ so.k + 1 = omega arith in
        let behind : took.0 ≡ drop (so.k + 1) all = sym next_one.2 ∙ ap (λ (n : ℕ). drop n all) e in
        record {
          k = so.k + 1;
          doing = doing;
          within = omega (arith, next_within);
          left_is = took.2 ∙ ap (λ (cs : List Command). let o : Option (List Command) = Some cs in o) behind;
        }

  pub none_left : (o : Option Command) → ((c : Command) → o ≡ Some c → ⊥) → TakesFirst left o new → length all ≤ so.k
  none_left None none took = none_behind all so.k (same_Some (drop so.k all) [] (sym so.left_is ∙ took.0))
  none_left (Some c) none took = absurd (none c refl)

pub fewer_left : (left new : Option (List Command)) (c : Command) → TakesFirst left (Some c) new → length (commands_in new) < length (commands_in left)
fewer_left left new c took = rw (took.1, took.2) (omega arith)
