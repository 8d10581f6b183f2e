use Rattle.std.proofs.Common.{◌∙◌, Option, Some, None, ap, subst, map}
use Rattle.std.specs.Prelude.{IfSome, option_to_list}
use Rattle.growing_tree.specs.Codes.{code_key}
use Rattle.growing_tree.specs.Readiness.{IsKindReady}
use Rattle.growing_tree.proofs.Codes.{where-codes}
use Rattle.growing_tree.proofs.kinds.lone_code.Goals as goal

-- what follows from two facts of what an option has
both-some : {A : Type 0} (o : Option A) (P Q R : A → Type 0) → ((x : A) → P x → Q x → R x) → IfSome o P → IfSome o Q → IfSome o R
both-some None P Q R f p q = tt
both-some (Some x) P Q R f p q = f x p q

pub returns-in-Terms : goal.returns-in-Terms
returns-in-Terms c =
    let shard = c.args.shard.now in
    let kind = c.args.kind.now in
    let ready = subst (IsKindReady shard kind) c.in-Terms.is c.requires.ready in
    both-some c.lone_code.result _ _ _
    (λ code keys codes. ap (λ r. map (code_key shard r) (option_to_list code)) c.in-Terms.is ∙ where-codes shard c.in-Terms.terms (option_to_list code) (codes kind ready) ∙ keys kind ready)
    c.lone_code.ensures.keys c.lone_code.ensures.codes

pub lone_code-requires-in-DateHistogram-clause-dates : goal.lone_code-requires-in-DateHistogram-clause-dates
lone_code-requires-in-DateHistogram-clause-dates c = (subst (IsKindReady c.args.shard.now c.args.kind.now) c.in-DateHistogram.is c.requires.ready).1
