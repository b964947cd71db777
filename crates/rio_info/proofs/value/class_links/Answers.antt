use Rattle.std.proofs.Common.{◌≡◌, ◌+◌, ℕ, List, [], ◌∷◌, ◌++◌, length, drop, slice_get, suc, Some, sym, ap, ◌∙◌, append_assoc, arith}
use Rattle.rio_format.specs.{declared.class.Base.{Base}, declared.class.ClassDef.{ClassDef}, declared.class.Member.{Member}, declared.value.Value.{Value}}
use Rattle.rio_format.proofs.ChainLaws.{drop_at}
use Rattle.rio_format.specs.{Lists.{listed}, WrittenList.{class_links, class_pointer, label_count, linked}}
use Rattle.rio_info.proofs.value.class_links.Goals as goal

module _ (classes : List ClassDef) (links : List Value) (label k : ℕ) (c : ClassDef) (at : slice_get classes k ≡ Some c) (so_far : links ++ class_links classes label (drop k classes) ≡ class_links classes 0 classes) where
  abbrev item : Value
  item = linked (class_pointer classes label c)

  -- the next class has its item
  goes_on : (next : ℕ) → next ≡ label + label_count c → (links ++ item ∷ []) ++ class_links classes next (drop (k + 1) classes) ≡ class_links classes 0 classes
  unfolding class_links
  goes_on next is =
      let one : suc k ≡ k + 1 = omega arith in
      let more : drop k classes ≡ c ∷ drop (k + 1) classes = drop_at classes k c at ∙ ap (λ (n : ℕ). c ∷ drop n classes) one in
      append_assoc links (item ∷ []) (class_links classes next (drop (k + 1) classes))
      ∙ ap (λ (n : ℕ). links ++ item ∷ class_links classes n (drop (k + 1) classes)) is
      ∙ sym (ap (λ (cs : List ClassDef). links ++ class_links classes label cs) more)
      ∙ so_far

pub loop-k-preserved : goal.loop-k-preserved
loop-k-preserved c =
    let classes = listed c.args.classes.now in
    let class = c.in-Some.class.now in
    let at = sym (rw c.lists-in-loop-k.ensures at c.in-Some.ensures) in
    let bases = ap (λ (bs : List Base). length bs) c.as_slice.ensures in
    let members = ap (λ (ms : List Member). length ms) c.as_slice-in-loop-k.ensures in
    let next : c.in_ok-label.label ≡ c.loop-k.label + label_count class = omega (arith, c.in_ok-label.ensures, c.in_ok-label_after.ensures, bases, members) in
    let put = c.in_ok-push.ensures.ok ∙ ap (λ (v : Value). c.loop-k.links ++ v ∷ []) (c.in_ok-linked.ensures ∙ ap linked c.in_ok-class_pointer.ensures) in
    ap (λ (ls : List Value). ls ++ class_links classes c.in_ok-label.label (drop (c.loop-k.k + 1) classes)) put
    ∙ goes_on classes c.loop-k.links c.loop-k.label c.loop-k.k class at c.loop-k.invariant c.in_ok-label.label next
