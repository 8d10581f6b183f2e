use Rattle.list_laws.proofs.Booleans.{holds}
use Rattle.count_laws.proofs.AllPages.{fewer-groups}
use Rattle.count_laws.proofs.laws.each_page_leaves_fewer_groups.Goals as goal

pub returns : goal.returns
returns c = λ m request shards a size key fit alone sized last. fewer-groups m request shards a size key (holds _ fit) alone sized last
