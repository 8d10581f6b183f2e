use Rattle.std.proofs.Common.{sym, ◌∙◌, ap}
use Rattle.std.specs.Prelude.{unwrap_or, option_copied}
use Rattle.agg_evaluation.specs.Orders.{bucket_count}
use Rattle.terms_agg.proofs.LastLaws.{last_or-map}
use Rattle.terms_agg.proofs.trimming.last_kept_count.Goals as goal

pub returns-in-Some : goal.returns-in-Some
returns-in-Some c = ap (λ o. unwrap_or o 0) (sym (last_or-map bucket_count c.args.kept.now c.in-Some.bucket.now (sym c.last.ensures.value ∙ ap option_copied c.in-Some.is)))
