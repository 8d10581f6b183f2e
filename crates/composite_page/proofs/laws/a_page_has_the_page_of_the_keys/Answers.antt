use Rattle.composite_page.proofs.PageOrder.{page-keys}
use Rattle.composite_page.proofs.laws.a_page_has_the_page_of_the_keys.Goals as goal

pub returns : goal.returns
returns c = page-keys
