use Rattle.std.proofs.Common.{ℕ, Bool, false, Option, refl, sym, ◌∙◌, ap, arith}
use Rattle.std.specs.Prelude.{◌&&◌, ◌==◌}
use Rattle.std.specs.Option.{option_map_or}
use Rattle.list_laws.proofs.Booleans.{and_false}
use Rattle.agg_evaluation.specs.Rows.{row_of}
use Rattle.nested_agg.proofs.Apart.{without_self, self_alone}
use Rattle.nested_agg.proofs.around.around.Goals as goal

pub loop-inner-init : goal.loop-inner-init
loop-inner-init c = record { below = c.requires.in_range; same = λ n below. refl }

pub context-requires : goal.context-requires
context-requires c = c.loop-inner.invariant.below

pub parent-requires : goal.parent-requires
parent-requires c = c.loop-inner.invariant.below

pub returns-in_err-inner-clause-only : goal.returns-in_err-inner-clause-only
returns-in_err-inner-clause-only c =
    let rows = c.args.shard.now.rows in
    λ n below. c.loop-inner.invariant.same n below
    ∙ (ap (λ (b : Bool). ((row_of rows n).context == c.args.context) && b) (c.in_err-inner.ensures.enclosed n below)
    ∙ (without_self rows c.args.context c.loop-inner.inner n _ (λ own. c.loop-inner-test.true (c.context.ensures ∙ own))
    ∙ (and_false ((row_of rows n).context == c.args.context)
    ∙ sym (ap (λ (r : Option ℕ). option_map_or (λ (outer : ℕ). n == outer) r false) c.from_residual.ensures))))

pub loop-inner-smaller : goal.loop-inner-smaller
loop-inner-smaller c = c.in_ok-inner.ensures.before

pub loop-inner-preserved : goal.loop-inner-preserved
loop-inner-preserved c =
    let rows = c.args.shard.now.rows in
    record {
      below = omega (arith, c.in_ok-inner.ensures.before, c.loop-inner.invariant.below);
      same = λ n below.
          c.loop-inner.invariant.same n below
          ∙ (ap (λ (b : Bool). ((row_of rows n).context == c.args.context) && b) (c.in_ok-inner.ensures.enclosed n below)
          ∙ without_self rows c.args.context c.loop-inner.inner n _ (λ own. c.loop-inner-test.true (c.context.ensures ∙ own)));
    }

pub returns-clause-number : goal.returns-clause-number
returns-clause-number c = c.loop-inner.invariant.below

pub returns-clause-only : goal.returns-clause-only
returns-clause-only c =
    λ n below. c.loop-inner.invariant.same n below
    ∙ self_alone c.args.shard.now.rows c.args.context c.requires.apart c.loop-inner.inner n c.loop-inner.invariant.below below (sym c.context.ensures ∙ c.loop-inner-test.false)
