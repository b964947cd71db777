use Rattle.std.proofs.Common.{◌∙◌, sym}
use Rattle.rio_recover.proofs.NameTables.{note_object, note_tree}
use Rattle.rio_recover.proofs.names.NameIndex.note.Goals as goal

pub returns-in_ok-put_new : goal.returns-in_ok-put_new
returns-in_ok-put_new c tops is =
    note_tree tops c.args.self.now c.args.head.now c.put_new.new.table c.in_ok-put_new.field-0 (sym c.is_tree_key.ensures ∙ c.if-is_tree_key.true)
    c.in_ok-put_new.ensures.new c.in_ok-put_new.ensures.heads is

pub returns-in_ok-put_new-2 : goal.returns-in_ok-put_new-2
returns-in_ok-put_new-2 c tops is =
    note_object tops c.args.self.now c.args.head.now c.put_new-else-is_tree_key.new.table c.in_ok-put_new-2.field-0 (sym c.is_tree_key.ensures ∙ c.if-is_tree_key.false)
    c.in_ok-put_new-2.ensures.new c.in_ok-put_new-2.ensures.heads is
