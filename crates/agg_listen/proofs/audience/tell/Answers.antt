use Rattle.agg_listen.proofs.Telling.{all_heard, tells_at}
use Rattle.agg_listen.proofs.audience.tell.Goals as goal

pub returns : goal.returns
returns g c =
    all_heard _ _ _ _ _ _ c.retain_mut.ensures.filtered
    (λ x b t y r. tells_at _ _ _ _ x y _ _ b t r.shows r.leaves (record { kept = r.called.met.0; heard = r.called.met.1.0; same = r.called.met.1.1 }))
