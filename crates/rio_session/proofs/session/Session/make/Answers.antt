use Rattle.std.proofs.Common.{◌∙◌, ◌≤◌, ℕ, List, length, ap, sym, subst, arith}
use Rattle.rio_format.specs.declared.class.ClassDef.{ClassDef}
use Rattle.rio_chain.specs.{Record.{FitsWords}, declared.key_words.KeyWords.{KeyWords}}
use Rattle.rio_effect.specs.ObjectRecord.{object_data}
use Rattle.rio_session.specs.{Puts.{stored_words}, Session.{SessionState}}
use Rattle.rio_session.proofs.StoredRecords.{data_size, made_is, words_fit}
use Rattle.rio_session.proofs.session.Session.make.Goals as goal

pub record_of-requires-clause-fits : goal.record_of-requires-clause-fits
record_of-requires-clause-fits c =
    let s = c.args.self.now in
    let o = c.args.object.now in
    let date = ap (λ (s : SessionState). s.datime) c.self.view_is in
    let words = c.in_ok-words.ensures ∙ ap (λ (d : ℕ). stored_words c.args.place d o) date in
    let classes = c.classes.ensures ∙ ap (λ (s : SessionState). s.classes) c.self.view_is in
    let fit = words_fit s.classes c.args.place s.datime o c.requires.stored c.requires.low (omega (arith, date)) in
    subst (λ (x : KeyWords × List ClassDef). FitsWords x.0 (length (object_data x.1 x.0 o.value))) (λ i. (sym words i, sym classes i)) fit

pub record_of-requires-clause-short : goal.record_of-requires-clause-short
record_of-requires-clause-short c =
    let s = c.args.self.now in
    let o = c.args.object.now in
    let date = ap (λ (s : SessionState). s.datime) c.self.view_is in
    let words = c.in_ok-words.ensures ∙ ap (λ (d : ℕ). stored_words c.args.place d o) date in
    let classes = c.classes.ensures ∙ ap (λ (s : SessionState). s.classes) c.self.view_is in
    let size = data_size s.classes c.args.place s.datime o c.requires.stored in
    subst (λ (x : KeyWords × List ClassDef). length (object_data x.1 x.0 o.value) ≤ 16777216) (λ i. (sym words i, sym classes i)) (omega (arith, size, c.requires.stored.size_short))

pub returns : goal.returns
returns c =
    let s = c.args.self.now in
    let o = c.args.object.now in
    let date = ap (λ (s : SessionState). s.datime) c.self.view_is in
    let words = c.in_ok-words.ensures ∙ ap (λ (d : ℕ). stored_words c.args.place d o) date in
    let classes = c.classes.ensures ∙ ap (λ (s : SessionState). s.classes) c.self.view_is in
    made_is c.record_of.result s _ _ c.args.place o c.requires.stored c.requires.low (omega (arith, date)) words classes
    c.record_of.ensures.head c.record_of.ensures.bytes c.record_of.ensures.spare c.record_of.ensures.whole
