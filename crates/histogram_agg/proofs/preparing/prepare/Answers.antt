use Rattle.std.proofs.Common.{refl}
use Rattle.agg_model.specs.declared.aggregation.Spacing.TheVariants.{Numbers}
use Rattle.agg_model.specs.Options.{HistogramOptions}
use Rattle.histogram_agg.proofs.preparing.prepare.Goals as goal

pub returns : goal.returns
returns c =
    let options : HistogramOptions = record {
      field = c.in-Histogram.field;
      spacing = Numbers c.in-Histogram.interval c.in-Histogram.offset;
      min_doc_count = c.in-Histogram.min_doc_count;
      extended = c.in-Histogram.extended;
      hard = c.in-Histogram.hard;
      keyed = c.in-Histogram.keyed;
      order = c.in-Histogram.order;
      missing = c.in-Histogram.missing;
    } in
    record {
      options = options;
      kind_is = c.in-Histogram.is;
      field_is = refl;
      spacing_is = refl;
      hard_is = refl;
      missing = c.code_of_missing-missing.ensures;
    }
