use Rattle.std.proofs.Common.{List, arith, ap}
use Rattle.agg_evaluation.specs.Rows.{PlacedRow}
use Rattle.agg_spec.specs.Index.{Index}
use Rattle.column_loading.specs.Loadings.{store_of}
use Rattle.agg_bulk.proofs.IndexLemmas.{of_shards}
use Rattle.agg_bulk.proofs.index.index_from.Goals as goal

pub finish-requires : goal.finish-requires
finish-requires c = record { ordered = c.requires.indexed.ordered; loading = c.requires.loading }

pub invariant_of-result : goal.invariant_of-result
invariant_of-result c =
    let line = c.args.line in
    let given = c.requires.indexed in
    let made = of_shards line (store_of line.mapping c.args.loading) c.args.loading.shards c.in_ok-shards.shards given c.requires.shards c.in_ok-shards.ensures in
    let number = made.number in
    let some = given.some in
    let at_most = given.at_most in
    record {
      some_shards = omega (arith, number, some);
      few_shards = omega (arith, number, at_most);
      ordered = given.ordered;
      paths = given.paths;
      built = ∣ made.built ∣₁;
      light = made.light;
    }

pub returns : goal.returns
returns c =
    let line = c.args.line in
    let made = of_shards line (store_of line.mapping c.args.loading) c.args.loading.shards c.in_ok-shards.shards c.requires.indexed c.requires.shards c.in_ok-shards.ensures in
    let with_shards : List (List PlacedRow) → Index = λ shards. record { name = line.name; mapping = line.mapping; shards = shards } in
    ap with_shards made.rows
