use Rattle.std.proofs.Common.{refl}
use Rattle.solo_charges.proofs.Merges.{free-stands, merged-stands, refused-merge-ends}
use Rattle.agg_evaluation.specs.Cost.{cost}
use Rattle.agg_evaluation.specs.Whole.{whole}
use Rattle.std.specs.Prelude.{◌∷◌}
use Rattle.solo_charges.proofs.laws.merges_end_as_their_runs.Goals as goal

pub returns-clause-free : goal.returns-clause-free
returns-clause-free c l before v r search p q rest stands none = free-stands l before v r stands search p q rest none

pub returns-clause-done : goal.returns-clause-done
returns-clause-done c l before v u r search p q rest stands some merged =
    merged-stands l before v r stands search p q rest (cost (whole search (p ∷ q ∷ rest))) u some refl merged

pub returns-clause-refused : goal.returns-clause-refused
returns-clause-refused c l before v u r search p q rest t stands whole_cap some refused = refused-merge-ends l before v r stands search p q rest t u whole_cap some refused
