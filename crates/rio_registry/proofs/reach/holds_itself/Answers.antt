use Rattle.std.proofs.{Common.{◌≡◌, ℕ, List, [], Bool, ◌||◌, sym, ap, ◌∙◌}, lemmas.Result.{IfOk-weaker}}
use Rattle.rio_num.specs.Word.{is_among}
use Rattle.rio_model.specs.Declaring.{has_within, holds}
use Rattle.rio_registry.specs.Reaching.{IsGrown}
use Rattle.rio_registry.proofs.{ClosedLaws.{new_name, tested}, Growth.{grown_first}, Ways.{comes_back, goes_out}}
use Rattle.rio_registry.proofs.reach.holds_itself.Goals as goal

-- the names that the class has within, where there were none
own_names : (empty names : List (List ℕ)) (f : List ℕ → Bool) (n : List ℕ) → empty ≡ [] → IsGrown empty names f → is_among names n ≡ f n
own_names empty names f n none grown = grown.names n ∙ ap (λ (xs : List (List ℕ)). is_among xs n || f n) none

pub returns-then-not-may_be_held : goal.returns-then-not-may_be_held
returns-then-not-may_be_held c =
    let class = c.args.class.now in
    c.contains.ensures
    ∙ ap (is_among c.add_within.new.names) c.as_slice-own.ensures
    ∙ own_names c.new-names.result c.add_within.new.names (has_within class) class.name c.new-names.ensures c.in_ok-add_within.ensures
    ∙ new_name c.args.classes.now class c.requires (rw c.as_slice-own.ensures at (sym c.may_be_held.ensures ∙ c.if-not-may_be_held.true))

pub comes_to-requires : goal.comes_to-requires
comes_to-requires c =
    (grown_first c.new-names.result c.add_within.new.names c.add_held.new.names _ _ c.new-names.ensures c.in_ok-add_within.ensures c.in_ok-add_held.ensures).1

pub returns : goal.returns
returns c =
    let cs = c.args.classes.now in
    let class = c.args.class.now in
    let held = rw c.as_slice-own.ensures at c.in_ok-add_held.ensures in
    let first = (grown_first c.new-names.result c.add_within.new.names c.add_held.new.names (has_within class) (holds cs class.name) c.new-names.ensures c.in_ok-add_within.ensures held).0 in
    let comes = rw c.as_slice-own.ensures at c.comes_to.ensures in
    IfOk-weaker c.comes_to.result _ _
    (λ b e. tested cs class b (λ t. comes_back cs class c.add_held.new.names first (e.0 t)) (λ h. e.1 (goes_out cs class c.add_held.new.names first h)))
    comes
