use Rattle.std.proofs.Common.{◌≡◌, Bool, List, IfOk, sym, ◌∙◌, subst}
use Rattle.column_query.proofs.Ready.{no-roots, said-roots}
use Rattle.column_query.proofs.matched_rows.matched_roots.Goals as goal

pub returns : goal.returns
returns c =
    subst (λ (bs : List Bool). IfOk c.said.result (λ bits. bits ≡ bs)) (said-roots c.args.shard.now c.args.query.now c.in_ok-prepared.prepared c.in_ok-prepared.ensures) c.said.ensures

pub returns-then-roots-eq0 : goal.returns-then-roots-eq0
returns-then-roots-eq0 c = c.new.ensures.items ∙ no-roots c.args.shard.now c.args.query.now (sym c.roots.ensures ∙ c.if-roots-eq0.true)
