use Rattle.std.proofs.{Common.{rules, ℕ, List, SFits, sym, subst}, lemmas.Int.{to_z-of_z}}
use Rattle.std.specs.Int.{w128}
use Rattle.rio_format.specs.Written.{just}
use Rattle.rio_format.proofs.ValueCases.{out_int}
use Rattle.rio_write.specs.Sinks.{Accepted}
use Rattle.rio_write.proofs.SinkLaws.{nothing_accepted}
use Rattle.rio_entry.proofs.PutValues.{nothing_single, out_bits32, out_bits64, out_truth}
use Rattle.rio_entry.proofs.put.put_single.Goals as goal

pub returns-in-Int : goal.returns-in-Int
returns-in-Int g c = λ names.
    let fits : SFits w128 c.in-Int.n = search rules in
    rw (c.in-Int.is, out_int) (simp to_z-of_z at (c.write_prim.ensures names))

pub returns-in-Bits32 : goal.returns-in-Bits32
returns-in-Bits32 g c = λ names. rw (c.in-Bits32.is, out_bits32) (c.take_u32.ensures names)

pub returns-in-Bits64 : goal.returns-in-Bits64
returns-in-Bits64 g c = λ names. rw (c.in-Bits64.is, out_bits64) (c.take_u64.ensures names)

pub returns-in-Bool : goal.returns-in-Bool
returns-in-Bool g c = λ names. rw (c.in-Bool.is, out_truth) (c.write_bool.ensures names)

pub returns-in_default : goal.returns-in_default
returns-in_default g c = λ names.
    subst (λ (bytes : List ℕ). Accepted g.S.Sink.stands (just bytes) (c.args.sink.now, names) (c.args.sink.now, names)) (sym (nothing_single c.args.of c.args.value.now c.in_default.not-Int c.in_default.not-Bits32 c.in_default.not-Bits64 c.in_default.not-Bool))
    (nothing_accepted g.S.Sink.stands (c.args.sink.now, names))
