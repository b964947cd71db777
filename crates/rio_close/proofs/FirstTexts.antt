-- Where the texts of a first record end depends on the bytes up to there alone.
use Rattle.std.proofs.Common.{◌≡◌, ℕ, ◌+◌, ◌-◌, Bool, false, cond, ltb, List, [], ◌++◌, length, drop, Result, Ok, Err, refl, sym, ap, subst, ◌∙◌, arith}
use Rattle.std.proofs.lemmas.Bool.{le-ltb}
use Rattle.rio_num.specs.{At.{At, standing_at}, Reading.{◌>>=◌, text_at}, declared.cursor.Short.{Short}}
use Rattle.rio_num.proofs.{ReadLaws.{bind_is, bind_ok, ok_is}, Front.{text_front, then_front}, Plain.{standing}}
use Rattle.rio_chain.specs.Segments.{texts_end_at}

abbrev Text : Type 0
Text = List ℕ × At

abbrev two_texts : At → Result Text Short
two_texts s = text_at s >>= λ name. text_at name.1

joined : {A B C E : Type 0} (r : Result A E) (f : A → Result B E) (g : B → Result C E) → (r >>= λ x. f x >>= g) ≡ ((r >>= f) >>= g)
joined (Ok x) f g = refl
joined (Err e) f g = refl

stands : (k : ℕ) (bytes : List ℕ) → standing_at 0 k bytes ≡ standing k (drop k bytes)
stands k bytes =
    let no : ltb k 0 ≡ false = le-ltb k 0 (omega arith) in
    let all : k - 0 ≡ k = omega arith in
    ap (λ (b : Bool). standing k (cond b [] (drop (k - 0) bytes))) no ∙ ap (λ (n : ℕ). standing k (drop n bytes)) all

abbrev end_of : Text → Result At Short
end_of title = Ok title.1

ends_are : (k : ℕ) (bytes : List ℕ) → texts_end_at k bytes ≡ (two_texts (standing k (drop k bytes)) >>= end_of)
unfolding texts_end_at
ends_are k bytes =
    joined (text_at (standing_at 0 k bytes)) (λ name. text_at name.1) end_of ∙ ap (λ (s : At). two_texts s >>= end_of) (stands k bytes)

-- the bytes of the texts, and what stands behind them
pub record HasTexts (k : ℕ) (bytes : List ℕ) (directory : At) : Type 0 where
  pub texts : List ℕ
  pub parts : drop k bytes ≡ texts ++ directory.rest
  pub place : directory.place ≡ k + length texts
  pub again : (other more : List ℕ) → drop k other ≡ texts ++ more → texts_end_at k other ≡ Ok (standing directory.place more)

pub has_texts : (k : ℕ) (bytes : List ℕ) (directory : At) → texts_end_at k bytes ≡ Ok directory → HasTexts k bytes directory
has_texts k bytes directory e =
    let s = standing k (drop k bytes) in
    let one = bind_ok (two_texts s) end_of directory (sym (ends_are k bytes) ∙ e) in
    let title = one.0 in
    let same : title.1 ≡ directory = ok_is {E = Short} title.1 directory one.2 in
    let two = bind_ok (text_at s) (λ name. text_at name.1) title one.1 in
    let name = two.0 in
    let t = then_front text_at (λ name. text_at name.1) s name.0 name.1 title.0 title.1 (text_front s name.0 name.1 two.1) (text_front name.1 title.0 title.1 two.2) in
    let made : HasTexts k bytes title.1 = record {
      texts = t.front;
      parts = t.parts;
      place = t.place;
      again = λ other more is.
          ends_are k other
          ∙ ap (λ (b : List ℕ). two_texts (standing k b) >>= end_of) is
          ∙ bind_is (two_texts (standing k (t.front ++ more))) (title.0, standing (k + length t.front) more) end_of (t.again more)
          ∙ ap (λ (p : ℕ). let r : Result At Short = Ok (standing p more) in r) (sym t.place);
    } in
    subst (HasTexts k bytes) same made
