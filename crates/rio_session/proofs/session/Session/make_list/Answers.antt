use Rattle.std.proofs.Common.{◌∙◌, ap, subst, arith}
use Rattle.rio_num.specs.Room.{Room}
use Rattle.rio_format.specs.WrittenBytes.{written_list}
use Rattle.rio_model.specs.StateClasses.{StateClasses}
use Rattle.rio_effect.specs.ClassRecord.{list_words}
use Rattle.rio_session.specs.Session.{SessionState}
use Rattle.rio_session.proofs.{ListCalls.{few_classes}, ListMade.{made_fits, made_list}}
use Rattle.rio_session.proofs.session.Session.make_list.Goals as goal

pub new_record-requires : goal.new_record-requires
new_record-requires c =
    let s = c.args.self.now in
    let date = ap (λ (s : SessionState). s.datime) c.self.view_is in
    let classes = ap (λ (s : SessionState). s.classes) c.self.view_is in
    let few = few_classes s.classes (subst StateClasses classes c.self.invariant.classes) in
    let cycle = c.next_list_cycle.ensures.next in
    let words = c.in_ok-words.ensures ∙ (λ i. list_words c.args.place (date i) (cycle i)) in
    let listed = c.classes.ensures ∙ classes in
    let start = c.list_key_length.ensures in
    let written = c.as_slice.ensures ∙ ap (λ (r : Room). r.bytes) c.in_ok-contents.ensures.exact ∙ (λ i. written_list (start i) (listed i)) in
    made_fits s c.args.place c.requires.at (omega (arith, date)) few _ _ words written

pub returns : goal.returns
returns c =
    let s = c.args.self.now in
    let date = ap (λ (s : SessionState). s.datime) c.self.view_is in
    let classes = ap (λ (s : SessionState). s.classes) c.self.view_is in
    let few = few_classes s.classes (subst StateClasses classes c.self.invariant.classes) in
    let cycle = c.next_list_cycle.ensures.next in
    let words = c.in_ok-words.ensures ∙ (λ i. list_words c.args.place (date i) (cycle i)) in
    let listed = c.classes.ensures ∙ classes in
    let start = c.list_key_length.ensures in
    let written = c.as_slice.ensures ∙ ap (λ (r : Room). r.bytes) c.in_ok-contents.ensures.exact ∙ (λ i. written_list (start i) (listed i)) in
    made_list s c.args.place c.requires.at (omega (arith, date)) few _ _ words written
    c.new_record.result c.new_record.ensures.head c.new_record.ensures.bytes c.new_record.ensures.spare c.new_record.ensures.whole
