use Rattle.agg_spec.proofs.SoloLaws.{refused-at}
use Rattle.agg_spec.proofs.laws.a_refusal_has_one_place.Goals as goal

pub returns : goal.returns
returns c limits steps start t none some = refused-at limits steps start t none some
