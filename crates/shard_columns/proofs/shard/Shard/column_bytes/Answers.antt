use Rattle.std.proofs.Common.{◌+◌, ◌*◌, ◌∙◌, arith}
use Rattle.shard_columns.proofs.Reading.{stored-are, stored-few, bytes-are, bytes-light, few-dictionaries}
use Rattle.shard_columns.proofs.shard.Shard.column_bytes.Goals as goal

pub overflow_mul-result : goal.overflow_mul-result
overflow_mul-result c = omega (arith, stored-few c.self.inside c.args.self.now c.self.view_is c.self.invariant)

pub all_bytes-requires : goal.all_bytes-requires
all_bytes-requires c = record {
  few = few-dictionaries c.self.inside c.args.self.now c.self.view_is c.self.invariant c.as_slice.result.now c.as_slice.ensures.value;
  light = bytes-light c.self.inside c.args.self.now c.self.view_is c.self.invariant c.as_slice.result.now c.as_slice.ensures.value;
}

pub overflow_add-result : goal.overflow_add-result
overflow_add-result c = omega (arith, stored-few c.self.inside c.args.self.now c.self.view_is c.self.invariant, c.all_bytes.ensures.bound)

pub returns : goal.returns
returns c =
    let count = stored-are c.self.inside c.args.self.now c.self.view_is c.self.invariant in
    let bytes = c.all_bytes.ensures.sum ∙ bytes-are c.self.inside c.args.self.now c.self.view_is c.self.invariant c.as_slice.result.now c.as_slice.ensures.value in
    (λ i. 8 * count i + bytes i)
