use Rattle.list_laws.proofs.Booleans.{holds}
use Rattle.count_laws.proofs.Descent.{whole-at}
use Rattle.count_laws.proofs.laws.an_uncut_path_reaches_the_whole_of_its_rows.Goals as goal

pub returns : goal.returns
returns c = λ m request shards path place a fit uncut at. whole-at m request shards path place a (holds _ fit) (holds _ uncut) at
