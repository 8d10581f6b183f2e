use Rattle.std.proofs.Common.{ℕ, ◌+◌, ◌≡◌, List, [], ◌∷◌, ◌++◌, sym, ◌∙◌, ap, subst, arith}
use Rattle.shard_columns.specs.Contexts.{AreNumbered}
use Rattle.shard_columns.proofs.Numbering.{AreNumbered-empty, AreNumbered-push}
use Rattle.shard_columns.proofs.contexts.no_numbers.Goals as goal

pub loop-context-init : goal.loop-context-init
loop-context-init c = subst (λ (ns : List (List ℕ)). AreNumbered 0 [] ns) (sym c.new-numbers.ensures.items) AreNumbered-empty

pub loop-context-preserved : goal.loop-context-preserved
loop-context-preserved c =
    subst (λ (ns : List (List ℕ)). AreNumbered (c.loop-context._context + 1) [] ns) (sym (c.in_ok-push.ensures.items ∙ ap (λ (x : List ℕ). c.loop-context.numbers.items ++ x ∷ []) c.new.ensures))
    (AreNumbered-push c.loop-context._context c.loop-context.numbers.items c.loop-context.invariant)

pub returns : goal.returns
returns c = subst (λ (n : ℕ). AreNumbered n [] c.loop-context.numbers.items) (let e : c.loop-context._context ≡ c.args.count = omega arith in e) c.loop-context.invariant
