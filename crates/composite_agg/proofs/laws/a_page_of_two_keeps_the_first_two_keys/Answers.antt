use Rattle.composite_agg.proofs.PageExample.{answers-are, keys-are}
use Rattle.composite_agg.proofs.laws.a_page_of_two_keeps_the_first_two_keys.Goals as goal

pub returns-clause-answers : goal.returns-clause-answers
returns-clause-answers c = answers-are

pub returns-clause-keys : goal.returns-clause-keys
returns-clause-keys c = keys-are
