use Rattle.std.proofs.Common.{◌≡◌, ◌-◌, suc, arith}
use Rattle.std.proofs.lemmas.Result.{err_from_is_err_and}
use Rattle.agg_reading.proofs.Steps.{fails_bind}
use Rattle.agg_reading.specs.Query.{bool_at}
use Rattle.agg_query.proofs.Levels.{stopped, begun}
use Rattle.agg_query.proofs.query.Reader.+read.Goals as goal

pub bool_query-returns-in_err-check_names-clause-value : goal.bool_query-returns-in_err-check_names-clause-value
unfolding bool_at
bool_query-returns-in_err-check_names-clause-value t c =
    let p = err_from_is_err_and c.from_residual-in_err-check_names.result c.from_residual-in_err-check_names.ensures.1 in
    rw (p.1, p.2, c.in_ok-members.ensures) (fails_bind _ _ _ c.in_err-check_names.ensures)

pub bool_query-returns-clause-value : goal.bool_query-returns-clause-value
unfolding bool_at
bool_query-returns-clause-value t c = rw (c.in_ok-members.ensures, c.in_ok-check_names.ensures) c.clauses.ensures.value

pub query-returns-then-left-eq0-clause-value : goal.query-returns-then-left-eq0-clause-value
query-returns-then-left-eq0-clause-value t c = rw (stopped c.args.left c.args.self.now.mapping.now c.args.context c.args.before _ _ c.then-left-eq0.either) c.refuse.ensures

pub query-returns-in_err-members-clause-value : goal.query-returns-in_err-members-clause-value
query-returns-in_err-members-clause-value t c =
    let p = err_from_is_err_and c.from_residual.result c.from_residual.ensures.1 in
    let left : c.args.left ≡ suc (c.args.left - 1) = omega arith in
    rw (p.1, p.2, begun c.args.left (c.args.left - 1) c.args.self.now.mapping.now c.args.context c.args.before _ _ left c.if-before-ge-MAX_QUERIES.false) (fails_bind _ _ _ c.in_err-members.ensures)

pub query-returns-in_err-name-clause-value : goal.query-returns-in_err-name-clause-value
query-returns-in_err-name-clause-value t c =
    let p = err_from_is_err_and c.from_residual-in_err-name.result c.from_residual-in_err-name.ensures.1 in
    let left : c.args.left ≡ suc (c.args.left - 1) = omega arith in
    rw (p.1, p.2, begun c.args.left (c.args.left - 1) c.args.self.now.mapping.now c.args.context c.args.before _ _ left c.if-before-ge-MAX_QUERIES.false, c.in_ok-members.ensures) (fails_bind _ _ _ c.in_err-name.ensures)

pub query-returns-clause-value : goal.query-returns-clause-value
query-returns-clause-value t c =
    let left : c.args.left ≡ suc (c.args.left - 1) = omega arith in
    rw (begun c.args.left (c.args.left - 1) c.args.self.now.mapping.now c.args.context c.args.before _ _ left c.if-before-ge-MAX_QUERIES.false, c.in_ok-members.ensures, c.in_ok-name.ensures) c.named.ensures.value
