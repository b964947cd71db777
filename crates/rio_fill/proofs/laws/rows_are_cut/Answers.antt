use Rattle.rio_key.proofs.CutAll.{cut_holds_all}
use Rattle.rio_fill.proofs.FillLaws.{entry_keeps_cut, fresh_is_cut, save_lists_baskets}
use Rattle.rio_fill.proofs.laws.rows_are_cut.Goals as goal

pub returns : goal.returns
returns c = record { fresh = fresh_is_cut; one_more = entry_keeps_cut; saves = save_lists_baskets; all = cut_holds_all }
