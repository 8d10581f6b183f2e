use Rattle.list_laws.proofs.Booleans.{holds}
use Rattle.count_laws.proofs.ScanLaws.{next-groups}
use Rattle.count_laws.proofs.laws.the_next_page_goes_on.Goals as goal

pub returns : goal.returns
returns c = λ m request shards a size l fit alone sized last. next-groups m request shards a size l (holds _ fit) alone sized last
