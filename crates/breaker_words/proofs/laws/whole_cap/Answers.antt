use Rattle.std.proofs.Common.{arith}
use Rattle.breaker_words.specs.Moves.{run}
use Rattle.breaker_words.proofs.Runs.{sound_run}
use Rattle.breaker_words.proofs.WholeCap.{alone, own_word, own_seen}
use Rattle.breaker_words.proofs.laws.whole_cap.Goals as goal

pub returns-clause-others : goal.returns-clause-others
returns-clause-others c = λ l ms i j v u here living whole there apart. alone l (run l ms) (sound_run l ms) i v here whole (omega arith) j u apart there

pub returns-clause-word : goal.returns-clause-word
returns-clause-word c = λ l ms i v here living whole rest x. own_word l (run l ms) (sound_run l ms) i v here whole (omega arith) rest x

pub returns-clause-seen : goal.returns-clause-seen
returns-clause-seen c = λ l ms i v here living whole x. own_seen l (run l ms) (sound_run l ms) i v here whole (omega arith) x
