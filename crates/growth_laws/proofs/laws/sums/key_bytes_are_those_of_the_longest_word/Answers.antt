use Rattle.list_laws.proofs.Booleans.{holds}
use Rattle.growth_laws.proofs.KeyBytes.{eight-bytes, longest-word}
use Rattle.growth_laws.proofs.laws.sums.key_bytes_are_those_of_the_longest_word.Goals as goal

pub returns-clause-words : goal.returns-clause-words
returns-clause-words c = longest-word

pub returns-clause-others : goal.returns-clause-others
returns-clause-others c = λ kinds all f missing least others. eight-bytes kinds all f missing least (holds _ others)
