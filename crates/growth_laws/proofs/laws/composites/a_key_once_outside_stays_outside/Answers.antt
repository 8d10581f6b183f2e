use Rattle.list_laws.proofs.Booleans.{holds}
use Rattle.growth_laws.proofs.PageKeys.{page-insert, page-more}
use Rattle.growth_laws.proofs.laws.composites.a_key_once_outside_stays_outside.Goals as goal

pub returns-clause-outside : goal.returns-clause-outside
returns-clause-outside c = λ all sources size after rows more. page-more all sources size after rows more

pub returns-clause-one_more : goal.returns-clause-one_more
returns-clause-one_more c = λ sources size after k ks up composite composite_k.
    page-insert sources size after k ks (record { up = holds _ up; composite = holds _ composite }) (holds _ composite_k)
