-- The dates of the tests: a document with two instants, a millisecond apart, of two months in a zone an hour ahead of UTC.
use Rattle.std.specs.Prelude.{List, [], ◌∷◌, None, false, pos, codes}
use Rattle.date_spec.specs.declared.period.Period.TheVariants.{Month}
use Rattle.agg_model.specs.declared.aggregation.Agg.{Agg, roll-Agg}
use Rattle.agg_model.specs.declared.aggregation.Bounds.{Bounds}
use Rattle.agg_model.specs.declared.aggregation.Kind.TheVariants as kind
use Rattle.agg_model.specs.declared.aggregation.OrderBy.TheVariants as by
use Rattle.agg_model.specs.declared.mapping.FieldKind.TheVariants.{Date}
use Rattle.agg_model.specs.declared.mapping.Mapping.{Mapping}
use Rattle.agg_model.specs.declared.row.Document.{Document}
use Rattle.agg_model.specs.declared.row.Row.{roll-Row}
use Rattle.agg_model.specs.declared.row.Scalar.TheVariants.{Whole}

-- a date `d`
abbrev pub dated_mapping : Mapping
dated_mapping = record {
  fields = record { path = codes "d"; kind = Date; ignore_above = None; context = 0 } ∷ [];
  nested = [];
  objects = [];
  strict = false;
}

abbrev pub dated_documents : List Document
dated_documents =
    record {
      id = codes "1";
      routing = codes "1";
      root = roll-Row (record { values = record { field = 0; values = Whole (pos 1709247599999) ∷ Whole (pos 1709247600000) ∷ [] } ∷ []; children = [] });
    } ∷ []

abbrev pub unbounded : Bounds
unbounded = record { min = None; max = None }

-- the months of `d` in that zone
abbrev pub months_agg : Agg
months_agg = roll-Agg (record {
  name = codes "months";
  kind = kind.DateHistogram 0 Month (pos 3_600_000) 0 unbounded unbounded false (record { by = by.Key; descending = false } ∷ []) None;
  children = [];
})
