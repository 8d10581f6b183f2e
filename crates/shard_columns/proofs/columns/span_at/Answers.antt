use Rattle.std.proofs.Common.{List, Option, sym, ◌∙◌, ap}
use Rattle.std.specs.Option.{option_map_or}
use Rattle.shard_columns.specs.declared.values.Held.{Held}
use Rattle.shard_columns.specs.declared.columns.Spans.{Spans}
use Rattle.shard_columns.specs.Values.{no_span, span_in, span_of}
use Rattle.shard_columns.proofs.columns.span_at.Goals as goal

pub returns-in-Some-find_held : goal.returns-in-Some-find_held
returns-in-Some-find_held c =
    sym (ap (λ (s : Spans). span_of c.args.homes.now s c.args.row) c.in-OfSome.is
    ∙ (ap (λ (hs : List Held). span_in hs c.args.row) (sym c.as_slice-in-OfSome.ensures.value) ∙ ap (λ (o : Option Held). option_map_or (λ (h : Held). h.span) o no_span) (sym c.in-Some-find_held.ensures)))

pub returns-in-None-find_held : goal.returns-in-None-find_held
returns-in-None-find_held c =
    c.no_span-in-None-find_held.ensures
    ∙ sym (ap (λ (s : Spans). span_of c.args.homes.now s c.args.row) c.in-OfSome.is
    ∙ (ap (λ (hs : List Held). span_in hs c.args.row) (sym c.as_slice-in-OfSome.ensures.value) ∙ ap (λ (o : Option Held). option_map_or (λ (h : Held). h.span) o no_span) (sym c.in-None-find_held.ensures)))
