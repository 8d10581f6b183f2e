use Rattle.std.proofs.Common.{⊎_elim, sym, subst}
use Rattle.filters_agg.specs.Filtering.{IsFiltering}
use Rattle.date_agg.proofs.Made.{ready-dates}
use Rattle.growing_tree.proofs.ReadyLaws.{terms-made, histogram-made, dates-made, filters-made}
use Rattle.growing_tree.proofs.preparing.prepare_kind.Goals as goal

pub prepare-requires : goal.prepare-requires
prepare-requires c =
    let t = c.in-Terms in
    terms-made c.args.shard.now c.args.kind.now
    (record {
      field = t.field;
      size = t.size;
      shard_size = t.shard_size;
      min_doc_count = t.min_doc_count;
      order = t.order;
      include = t.include;
      exclude = t.exclude;
      missing = t.missing;
      show_error = t.show_error;
    })
    t.is c.requires

pub prepare-requires-in-Histogram : goal.prepare-requires-in-Histogram
prepare-requires-in-Histogram c =
    let h = c.in-Histogram in
    histogram-made c.args.shard.now c.args.kind.now h.field h.interval h.offset h.min_doc_count h.extended h.hard h.keyed h.order h.missing h.is c.requires

pub prepare-requires-in-DateHistogram : goal.prepare-requires-in-DateHistogram
prepare-requires-in-DateHistogram c =
    let h = c.in-DateHistogram in
    (dates-made c.args.shard.now c.args.kind.now h.field h.period h.zone h.min_doc_count h.extended h.hard h.keyed h.order h.missing h.is c.requires).0

pub returns-in-DateHistogram : goal.returns-in-DateHistogram
returns-in-DateHistogram c =
    let shard = c.args.shard.now in
    let h = c.in-DateHistogram in
    let over = (dates-made shard c.args.kind.now h.field h.period h.zone h.min_doc_count h.extended h.hard h.keyed h.order h.missing h.is c.requires).1 in
    let ready = c.prepare-in-DateHistogram.ensures in
    (ready, ready-dates shard c.args.kind.now c.prepare-in-DateHistogram.result ready over)

pub prepare-requires-in-Filters-clause-filtering : goal.prepare-requires-in-Filters-clause-filtering
prepare-requires-in-Filters-clause-filtering c =
    ⊎_elim (λ h. filters-made c.args.shard.now c.args.kind.now h.0 h.1 h.2 h.3 c.requires)
    (⊎_elim (λ h. subst IsFiltering (sym h.1) tt) (λ h. subst IsFiltering (sym h.1) tt)) c.in-Filters.is
