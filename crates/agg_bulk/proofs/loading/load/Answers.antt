use Rattle.agg_bulk.proofs.EndLemmas.{ends_as, columns_end}
use Rattle.agg_bulk.proofs.loading.load.Goals as goal

pub returns-in-Err-clause-script : goal.returns-in-Err-clause-script
returns-in-Err-clause-script g c bytes is = ends_as c.args.settings.now.limits bytes c.in-Err.fault _ _ c.end_of.ensures (c.in-Err.ensures.script bytes is)

pub returns-in-Err-open_charged-clause-script : goal.returns-in-Err-open_charged-clause-script
returns-in-Err-open_charged-clause-script g c bytes is =
    columns_end c.args.settings.now.limits bytes c.in-Ok.loaded _ _ _ _ _ c.in-Err-open_charged.end _ (c.in-Ok.ensures.script bytes is) c.columns_charge-charge.ensures.charge c.in-Err-open_charged.ensures.refused
