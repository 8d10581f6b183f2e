-- The code of a page, as a tuple of its parts.
use Rattle.std.specs.Prelude.{ℕ, refl, List, Option}
use Rattle.std.specs.Coded.{Coded, code_by, coded×, coded_list, coded_option, coded_ℕ}
use Rattle.agg_model.specs.declared.key.Key.{Key}
use Rattle.agg_model.specs.declared.partial.Bucket.{Bucket}
use Rattle.agg_model.specs.declared.aggregation.CompositeSource.{CompositeSource}
use Rattle.agg_model.specs.contracts.key.Key as key
use Rattle.agg_model.specs.contracts.partial.Bucket as bucket
use Rattle.agg_model.specs.contracts.aggregation.CompositeSource as source
use Rattle.composite_agg.specs.FirstPages.{FirstPage}

abbrev pub page_code : Coded FirstPage
page_code =
    code_by ((List CompositeSource × ℕ) × (Option Key × List Bucket)) (coded× (coded× (coded_list source.the_row.coded) coded_ℕ) (coded× (coded_option key.the_row.coded) (coded_list bucket.the_row.coded)))
    (λ p. ((p.sources, p.size), (p.after, p.buckets))) (λ t. record { sources = t.0.0; size = t.0.1; after = t.1.0; buckets = t.1.1 }) (λ _. refl)
