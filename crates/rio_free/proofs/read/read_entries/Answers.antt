use Rattle.std.proofs.{Common.{◌≡◌, ℕ, Option, None, Some, true, false, ap, sym, ◌∙◌}, lemmas.Result.{err_from_is_err_and}}
use Rattle.rio_num.specs.Room.{is_padding}
use Rattle.rio_free.specs.Entry.{is_above}
use Rattle.rio_free.proofs.EntryReads.{Behind, above_more, all_read, fails, goes_on, last_in, last_in-more, one_less}
use Rattle.rio_free.proofs.read.read_entries.Goals as goal

pub returns-in_err-entry-clause-exact : goal.returns-in_err-entry-clause-exact
returns-in_err-entry-clause-exact c =
    let p = err_from_is_err_and c.from_residual.result c.from_residual.ensures.1 in
    let more : is_padding c.loop-cursor.cursor.rest ≡ false = ap is_padding (sym c.rest.ensures) ∙ sym c.is_padding.ensures ∙ c.loop-cursor-test.true in
    rw (p.1, p.2) (λ ne. fails c.loop-cursor.entries (record { at = c.loop-cursor.cursor; words = c.loop-cursor.before }) _ c.loop-cursor.invariant.so_far c.in_err-entry.field-0.0 more c.in_err-entry.ensures.exact)

pub loop-cursor-preserved : goal.loop-cursor-preserved
loop-cursor-preserved c =
    let i = c.loop-cursor.invariant in
    let e = c.in_ok-entry.entry in
    let s : Behind = record { at = c.loop-cursor.cursor; words = c.loop-cursor.before } in
    let s' : Behind = record { at = c.take_entry.new.cursor; words = Some e.last } in
    let more : is_padding c.loop-cursor.cursor.rest ≡ false = ap is_padding (sym c.rest.ensures) ∙ sym c.is_padding.ensures ∙ c.loop-cursor-test.true in
    let above : is_above (last_in None c.loop-cursor.entries) e.first ≡ true = ap (λ (b : Option ℕ). is_above b e.first) (sym i.last) ∙ c.in_ok-entry.ensures.in_order.0 in
    rw c.in_ok-push.ensures.ok (record {
      so_far = goes_on c.loop-cursor.entries s _ i.so_far e s' i.fits more c.in_ok-entry.ensures.exact;
      fits = (one_less s e s' i.fits c.in_ok-entry.ensures.exact).fits;
      rise = above_more None c.loop-cursor.entries e i.rise above c.in_ok-entry.ensures.in_order.1 c.in_ok-entry.ensures.fits;
      last = sym (last_in-more None c.loop-cursor.entries e);
    })

pub returns-clause-exact : goal.returns-clause-exact
returns-clause-exact c =
    let ends : is_padding c.loop-cursor.cursor.rest ≡ true = ap is_padding (sym c.rest.ensures) ∙ sym c.is_padding.ensures ∙ c.loop-cursor-test.false in
    all_read c.loop-cursor.entries (record { at = c.loop-cursor.cursor; words = c.loop-cursor.before }) _ c.loop-cursor.invariant.so_far ends
