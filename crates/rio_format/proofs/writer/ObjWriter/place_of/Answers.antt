use Rattle.std.proofs.Common.{◌≡◌, ℕ, ◌+◌, ◌^◌, ◌<◌, ap, ◌∙◌}
use Rattle.std.specs.{List.{find}, Option.{option_map}, Str.{bytes_eq}}
use Rattle.rio_format.specs.Writer.{WriterState, spelled}
use Rattle.rio_format.proofs.Spelled.{place_found, place_holds}
use Rattle.rio_format.proofs.writer.ObjWriter.place_of.Goals as goal

pub returns : goal.returns
returns c =
    let names = spelled c.self.inside.names in
    let found : c.copied.result ≡ option_map (λ e. e.0) (find (λ e. bytes_eq e.1 c.args.class.now) names) = c.copied.ensures ∙ c.get.ensures.value ∙ place_found c.args.class.now c.self.inside.names.entries in
    record {
      value = found ∙ ap (λ (w : WriterState). option_map (λ e. e.0) (find (λ e. bytes_eq e.1 c.args.class.now) w.words.names)) c.self.view_is;
      low = rw found (place_holds (λ (place : ℕ). place < 2 ^ 30 + 2) (λ e. bytes_eq e.1 c.args.class.now) names c.self.invariant.3);
    }
