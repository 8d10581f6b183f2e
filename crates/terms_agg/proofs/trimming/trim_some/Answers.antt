use Rattle.std.proofs.Common.{◌≡◌, sym, ap, subst, IfOk}
use Rattle.agg_model.specs.Options.{options_of}
use Rattle.agg_model.specs.declared.aggregation.Agg.{out-Agg}
use Rattle.agg_model.specs.declared.aggregation.Kind.{Kind}
use Rattle.agg_model.specs.declared.partial.Node.{Node}
use Rattle.bucket_order.specs.Kinds.{child_kinds}
use Rattle.terms_agg.specs.Trim.{trimmed_by}
use Rattle.terms_agg.proofs.trimming.trim_some.Goals as goal

pub returns-in-Terms : goal.returns-in-Terms
returns-in-Terms c =
    let kinds = child_kinds (out-Agg c.args.agg.now).children in
    subst (λ (m : Node). IfOk c.trim_buckets.result (λ n. n ≡ m)) (sym (ap (λ (k : Kind). trimmed_by kinds (options_of k) c.args.total c.args.buckets.items) c.in-Terms.is)) c.trim_buckets.ensures
