-- The refusal of a branch before any entry is looked at.
use Rattle.std.proofs.Common.{◌≡◌, true≢false, true, is_some, ℕ, List, Option, Some, None, refl, sym, ap, ◌∙◌}
use Rattle.std.specs.Option.{option_or}
use Rattle.rio_num.proofs.Cases.{or_none}
use Rattle.rio_format.specs.declared.class.ClassDef.{ClassDef}
use Rattle.rio_tree.specs.{declared.head.Branch.{Branch}, declared.refusal.BranchRefusal.{BranchRefusal, TheVariants.{NoCounter}}}
use Rattle.rio_entry.specs.{Counters.{counters_are_read}, Refusals.{branch_refusal, file_refusal, refused_first, refused_unless}}
use Rattle.rio_entry.specs.{StoredEntries.{baskets_refusal}, Sweeps.{refusal_before}}

or_again : (a u r x : Option BranchRefusal) → option_or a (option_or u (option_or r x)) ≡ option_or (option_or a (option_or u r)) x
or_again (Some y) u r x = refl
or_again None (Some y) r x = refl
or_again None None r x = refl

module _ (file : List ℕ) (classes : List ClassDef) (before : List Branch) (refused : List (Option BranchRefusal)) (b : Branch) where
  told_then_file : branch_refusal file classes 0 before refused b ≡ option_or (refusal_before refused b b.refused) (file_refusal file classes 0 before b)
  unfolding branch_refusal
  told_then_file = or_again (refused_first b.refused) (refused_unless (counters_are_read refused b) NoCounter) b.refused (file_refusal file classes 0 before b)

  -- told by the header and the branches before
  pub refusal_told : (o : Option BranchRefusal) (x : BranchRefusal) → o ≡ refusal_before refused b b.refused → o ≡ Some x → o ≡ branch_refusal file classes 0 before refused b
  refusal_told o x is some =
      some ∙ ap (λ (r : Option BranchRefusal). option_or r (file_refusal file classes 0 before b)) (sym some ∙ is) ∙ sym told_then_file

  -- and else by the baskets
  pub refusal_by_baskets : refusal_before refused b b.refused ≡ None → baskets_refusal file b ≡ branch_refusal file classes 0 before refused b
  refusal_by_baskets none =
      sym (or_none (baskets_refusal file b)) ∙ ap (λ (r : Option BranchRefusal). option_or r (file_refusal file classes 0 before b)) (sym none) ∙ sym told_then_file

  pub refusal_told_by : (o : Option BranchRefusal) → is_some o ≡ true → o ≡ refusal_before refused b b.refused → o ≡ branch_refusal file classes 0 before refused b
  refusal_told_by None some is = absurd (true≢false (sym some))
  refusal_told_by (Some x) some is = refusal_told (Some x) x is refl
