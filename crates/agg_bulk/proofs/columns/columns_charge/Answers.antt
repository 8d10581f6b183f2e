use Rattle.std.proofs.Common.{◌∙◌, ap, arith}
use Rattle.agg_bulk.specs.ColumnBytes.{all_bytes}
use Rattle.agg_bulk.proofs.ColumnLemmas.{index_few, charge_is}
use Rattle.agg_bulk.proofs.columns.columns_charge.Goals as goal

pub bytes_of-bytes-requires : goal.bytes_of-bytes-requires
bytes_of-bytes-requires c = index_few c.args.index.now (all_bytes c.as_slice.result.now) (ap all_bytes c.as_slice.ensures)

pub overflow_mul-result : goal.overflow_mul-result
overflow_mul-result c = let few = index_few c.args.index.now c.bytes_of-bytes.result (c.bytes_of-bytes.ensures ∙ ap all_bytes c.as_slice.ensures) in omega (arith, few)

pub overflow_add-result : goal.overflow_add-result
overflow_add-result c = let few = index_few c.args.index.now c.bytes_of-bytes.result (c.bytes_of-bytes.ensures ∙ ap all_bytes c.as_slice.ensures) in omega (arith, few)

pub returns-clause-charge : goal.returns-clause-charge
returns-clause-charge c = charge_is c.args.index.now c.bytes_of-bytes.result (c.bytes_of-bytes.ensures ∙ ap all_bytes c.as_slice.ensures)

pub returns-clause-bound : goal.returns-clause-bound
returns-clause-bound c = let few = index_few c.args.index.now c.bytes_of-bytes.result (c.bytes_of-bytes.ensures ∙ ap all_bytes c.as_slice.ensures) in omega (arith, few)
