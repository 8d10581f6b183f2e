use Rattle.list_laws.proofs.Booleans.{holds}
use Rattle.count_laws.proofs.ScanLaws.{page-first}
use Rattle.count_laws.proofs.laws.a_page_has_the_first_groups.Goals as goal

pub returns : goal.returns
returns c = λ m request shards a size page fit at sized answered. page-first m request shards a size page (holds _ fit) at sized answered
