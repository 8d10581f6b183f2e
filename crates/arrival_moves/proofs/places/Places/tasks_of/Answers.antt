use Rattle.std.proofs.Common.{arith}
use Rattle.arrival_moves.proofs.Starts.{next_start}
use Rattle.arrival_moves.proofs.places.Places.tasks_of.Goals as goal

pub overflow_sub-result : goal.overflow_sub-result
overflow_sub-result c = let a = next_start c.args.self.now c.args.search in let s = c.start.ensures.value in let t = c.start-2.ensures.value in omega arith

pub returns-clause-value : goal.returns-clause-value
returns-clause-value c = let a = next_start c.args.self.now c.args.search in let s = c.start.ensures.value in let t = c.start-2.ensures.value in omega arith
