use Rattle.std.proofs.Common.{◌≡◌, ◌↔◌, ◌∙◌, ℕ, List, Bool, sym, subst}
use Rattle.std.specs.Prelude.{IsTrue, MatchBool}
use Rattle.rio_chain.specs.{Found.{FindsKey, IsFirstBy, IsKeyOf}, Segments.{HoldsRecord, IsFirst, IsRecord}}
use Rattle.rio_chain.proofs.{Finding.{finds_whole_first, finds_no_whole}, Words.{has_same}}
use Rattle.rio_chain.proofs.found.first_key_at.Goals as goal

pub returns-then-is_whole_first-clause-whole : goal.returns-then-is_whole_first-clause-whole
returns-then-is_whole_first-clause-whole g c file told bytes long has =
    let read = c.in_ok-bytes.ensures.bytes file (c.word_at.ensures.calls.holds ∙ told) in
    let same = has_same file 100 c.in_ok-bytes.bytes.items bytes (c.in_ok-bytes.ensures.count ∙ sym long) read has in
    let key = subst (FindsKey bytes) c.in-Some.is (subst (λ l. FindsKey l c.in_ok-head.field-0) (c.deref.ensures.value ∙ same) c.in_ok-head.ensures.key) in
    subst (λ (b : Bool). MatchBool b (IsRecord 100 bytes × ((◌≡◌ {A = ℕ} 100 100) → IsFirst file bytes)) (¬ HoldsRecord file 100 bytes)) c.if-is_whole_first.true
    (finds_whole_first file bytes c.args.n c.in_ok-nbytes_name.nbytes_name c.in-Some.head c.is_whole_first.result c.requires.aligned long (c.in_ok-nbytes_name.ensures.word file told) key
    (subst (λ (l : List ℕ). IsTrue c.is_whole_first.result ↔ (IsKeyOf 100 c.args.n c.in-Some.head × IsFirstBy c.in_ok-nbytes_name.nbytes_name c.in-Some.head l)) (c.deref-in-Some.ensures.value ∙ same) c.is_whole_first.ensures))

pub returns-then-is_whole_first-clause-key : goal.returns-then-is_whole_first-clause-key
returns-then-is_whole_first-clause-key g c file told bytes long has =
    let read = c.in_ok-bytes.ensures.bytes file (c.word_at.ensures.calls.holds ∙ told) in
    let same = has_same file 100 c.in_ok-bytes.bytes.items bytes (c.in_ok-bytes.ensures.count ∙ sym long) read has in
    (subst (FindsKey bytes) c.in-Some.is (subst (λ l. FindsKey l c.in_ok-head.field-0) (c.deref.ensures.value ∙ same) c.in_ok-head.ensures.key)).found_is

pub returns-in-Some-clause-whole : goal.returns-in-Some-clause-whole
returns-in-Some-clause-whole g c file told bytes long has =
    let read = c.in_ok-bytes.ensures.bytes file (c.word_at.ensures.calls.holds ∙ told) in
    let same = has_same file 100 c.in_ok-bytes.bytes.items bytes (c.in_ok-bytes.ensures.count ∙ sym long) read has in
    let key = subst (FindsKey bytes) c.in-Some.is (subst (λ l. FindsKey l c.in_ok-head.field-0) (c.deref.ensures.value ∙ same) c.in_ok-head.ensures.key) in
    subst (λ (b : Bool). MatchBool b (IsRecord 100 bytes × ((◌≡◌ {A = ℕ} 100 100) → IsFirst file bytes)) (¬ HoldsRecord file 100 bytes)) c.if-is_whole_first.false
    (finds_whole_first file bytes c.args.n c.in_ok-nbytes_name.nbytes_name c.in-Some.head c.is_whole_first.result c.requires.aligned long (c.in_ok-nbytes_name.ensures.word file told) key
    (subst (λ (l : List ℕ). IsTrue c.is_whole_first.result ↔ (IsKeyOf 100 c.args.n c.in-Some.head × IsFirstBy c.in_ok-nbytes_name.nbytes_name c.in-Some.head l)) (c.deref-in-Some.ensures.value ∙ same) c.is_whole_first.ensures))

pub returns-clause-whole : goal.returns-clause-whole
returns-clause-whole g c file told bytes long has =
    let read = c.in_ok-bytes.ensures.bytes file (c.word_at.ensures.calls.holds ∙ told) in
    let same = has_same file 100 c.in_ok-bytes.bytes.items bytes (c.in_ok-bytes.ensures.count ∙ sym long) read has in
    finds_no_whole file bytes 100 (subst (FindsKey bytes) c.in-None.is (subst (λ l. FindsKey l c.in_ok-head.field-0) (c.deref.ensures.value ∙ same) c.in_ok-head.ensures.key))
