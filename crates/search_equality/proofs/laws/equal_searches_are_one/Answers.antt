use Rattle.search_equality.proofs.EqualSearches.{searches-one}
use Rattle.search_equality.proofs.laws.equal_searches_are_one.Goals as goal

pub returns : goal.returns
returns c = searches-one
