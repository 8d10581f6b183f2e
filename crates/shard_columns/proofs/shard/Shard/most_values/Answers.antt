use Rattle.std.proofs.Common.{ℕ, List, get_or, ap, arith}
use Rattle.std.proofs.lemmas.List.{get_or_past}
use Rattle.shard_columns.proofs.Counting.{most-each}
use Rattle.shard_columns.proofs.Reading.{most-is}
use Rattle.shard_columns.proofs.shard.Shard.most_values.Goals as goal

pub returns-in-Some-clause-each : goal.returns-in-Some-clause-each
returns-in-Some-clause-each c = λ n.
    let field = c.args.field in
    let most = most-is c.self.inside c.args.self.now c.self.view_is c.self.invariant field in
    omega (arith, most-each field n c.args.self.now.rows, most, c.in-Some.ensures.lookup.3.1 0, ap (λ (xs : List ℕ). get_or xs field 0) c.deref.ensures.value)

pub returns-in-None-clause-each : goal.returns-in-None-clause-each
returns-in-None-clause-each c = λ n.
    let field = c.args.field in
    let most = most-is c.self.inside c.args.self.now c.self.view_is c.self.invariant field in
    omega (arith, most-each field n c.args.self.now.rows, most, get_or_past c.deref.result.now field 0 c.in-None.ensures.lookup.3, ap (λ (xs : List ℕ). get_or xs field 0) c.deref.ensures.value)
