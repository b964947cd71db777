use Rattle.rio_format.proofs.fault.ObjFault.put_text.Goals as goal

pub returns-in-UnknownClassWord : goal.returns-in-UnknownClassWord
returns-in-UnknownClassWord c = rw c.in-UnknownClassWord.is c.put_unknown.ensures
