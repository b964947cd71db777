use Rattle.std.proofs.{Common.{rules, ◌≡◌, ◌+◌, ℕ, List, [], ◌∷◌, ◌++◌, length, true, ap, ◌∙◌}, lemmas.List.{length-append}}
use Rattle.rio_num.specs.Room.{Room}
use Rattle.rio_key.specs.OpenBasket.{OpenBasket, cut_from, fits_entry, is_cut, with_entry}
use Rattle.rio_key.proofs.{CutLaws.{even_more}, OpenLaws.{cut_more, is_cut_more}}
use Rattle.rio_key.proofs.basket.Basket.add.Goals as goal

pub invariant_of-self-2 : goal.invariant_of-self-2
invariant_of-self-2 c =
    let b = c.self.inside in
    let items = b.ends.items in
    let entry = c.args.entry.now in
    let new = c.put.new.self.bytes in
    let items_is : c.push.new.self.items ≡ items ++ c.len.result ∷ [] = c.in_ok-push.ensures.items ∙ ap (λ (l : List ℕ). l ++ c.len.result ∷ []) c.in_ok-reserve.ensures.items in
    let bytes_is : new ≡ b.bytes.bytes ++ entry = ap (λ (r : Room). r.bytes) c.in_ok-put.ensures in
    let long : length new ≡ length b.bytes.bytes + length entry = ap length bytes_is ∙ length-append b.bytes.bytes entry in
    let cut : is_cut 0 c.push.new.self.items (length new) ≡ true =
    ap (λ (l : List ℕ). is_cut 0 l (length new)) items_is
    ∙ ap (λ (n : ℕ). is_cut 0 (items ++ n ∷ []) (length new)) (c.len.ensures ∙ long)
    ∙ ap (λ (n : ℕ). is_cut 0 (items ++ (length b.bytes.bytes + length entry) ∷ []) n) long
    ∙ is_cut_more 0 items (length b.bytes.bytes) (length entry) c.self.invariant.0 in
    let entries_are : cut_from 0 c.push.new.self.items new ≡ cut_from 0 items b.bytes.bytes ++ entry ∷ [] =
    ap (λ (l : List ℕ). cut_from 0 l new) items_is
    ∙ ap (λ (n : ℕ). cut_from 0 (items ++ n ∷ []) new) (c.len.ensures ∙ long)
    ∙ ap (λ (bytes : List ℕ). cut_from 0 (items ++ (length b.bytes.bytes + length entry) ∷ []) bytes) bytes_is
    ∙ cut_more 0 items b.bytes.bytes entry c.self.invariant.0 in
    let fits : fits_entry (record { offsets = b.offsets; entries = cut_from 0 items b.bytes.bytes; rooms = b.rooms; spare = b.bytes.spare }) entry ≡ true = ap (λ (o : OpenBasket). fits_entry o entry) c.self.view_is ∙ c.requires in
    (cut, search rules, even_more b.offsets (cut_from 0 items b.bytes.bytes) entry (cut_from 0 c.push.new.self.items new) entries_are fits)

pub returns : goal.returns
returns c =
    let b = c.self.inside in
    let items = b.ends.items in
    let entry = c.args.entry.now in
    let new = c.put.new.self.bytes in
    let items_is : c.push.new.self.items ≡ items ++ c.len.result ∷ [] = c.in_ok-push.ensures.items ∙ ap (λ (l : List ℕ). l ++ c.len.result ∷ []) c.in_ok-reserve.ensures.items in
    let bytes_is : new ≡ b.bytes.bytes ++ entry = ap (λ (r : Room). r.bytes) c.in_ok-put.ensures in
    let long : length new ≡ length b.bytes.bytes + length entry = ap length bytes_is ∙ length-append b.bytes.bytes entry in
    let entries_are : cut_from 0 c.push.new.self.items new ≡ cut_from 0 items b.bytes.bytes ++ entry ∷ [] =
    ap (λ (l : List ℕ). cut_from 0 l new) items_is
    ∙ ap (λ (n : ℕ). cut_from 0 (items ++ n ∷ []) new) (c.len.ensures ∙ long)
    ∙ ap (λ (bytes : List ℕ). cut_from 0 (items ++ (length b.bytes.bytes + length entry) ∷ []) bytes) bytes_is
    ∙ cut_more 0 items b.bytes.bytes entry c.self.invariant.0 in
    let rooms = c.saturating_sub-self-inside.ensures in
    let spare = ap (λ (r : Room). r.spare) c.in_ok-put.ensures in
    (λ i. record { offsets = b.offsets; entries = entries_are i; rooms = rooms i; spare = spare i }) ∙ ap (λ (o : OpenBasket). with_entry o entry) c.self.view_is
