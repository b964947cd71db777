-- The line of a script that makes the tree of an import, put together word by word.
use Rattle.std.proofs.{Common.{◌≡◌, ◌<◌, ◌≤◌, ◌+◌, ◌++◌, ◌∷◌, ◌∙◌, ℕ, suc, List, length, drop, get_or, sym, ap, append_assoc, arith}, Math.Seq.{drop-cons}, lemmas.List.{append-nil, drop_all}}
use Rattle.std.specs.{List.{flat_map}, Prelude.{codes}}
use Rattle.rio_cmd.specs.ImportWords.{spec_word, tree_line}

-- the verb and the tree are put
pub line_begun : (text tree : List ℕ) (specs : List (List ℕ)) → text ≡ codes "tree " ++ tree → text ++ flat_map spec_word (drop 0 specs) ≡ tree_line tree specs
line_begun text tree specs is = ap (λ (l : List ℕ). l ++ flat_map spec_word specs) is ∙ append_assoc (codes "tree ") tree (flat_map spec_word specs)

-- the next SPEC is put
pub spec_put : (line next whole spec : List ℕ) (specs : List (List ℕ)) (k : ℕ) → k < length specs → spec ≡ get_or specs k spec → next ≡ line ++ spec_word spec
    → line ++ flat_map spec_word (drop k specs) ≡ whole → next ++ flat_map spec_word (drop (k + 1) specs) ≡ whole
spec_put line next whole spec specs k lt is word so_far =
    let rest = flat_map spec_word (drop (k + 1) specs) in
    let one : suc k ≡ k + 1 = omega arith in
    let more : drop k specs ≡ spec ∷ drop (k + 1) specs =
    drop-cons specs k spec lt ∙ ap (λ (x : List ℕ). x ∷ drop (suc k) specs) (sym is) ∙ ap (λ (n : ℕ). spec ∷ drop n specs) one in
    ap (λ (l : List ℕ). l ++ rest) word
    ∙ append_assoc line (spec_word spec) rest
    ∙ ap (λ (left : List (List ℕ)). line ++ flat_map spec_word left) (sym more)
    ∙ so_far

-- all of them are put
pub line_ended : (line whole : List ℕ) (specs : List (List ℕ)) (k : ℕ) → length specs ≤ k → line ++ flat_map spec_word (drop k specs) ≡ whole → line ≡ whole
line_ended line whole specs k all so_far =
    sym (append-nil line) ∙ ap (λ (left : List (List ℕ)). line ++ flat_map spec_word left) (sym (drop_all k specs all)) ∙ so_far
