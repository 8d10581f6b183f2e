use Rattle.agg_model.specs.declared.breaker.Which.TheVariants.{Parent}
use Rattle.agg_model.specs.Breakers.{which_of}
use Rattle.breaker_words.specs.Moves.{run}
use Rattle.breaker_words.proofs.Runs.{sound_run}
use Rattle.breaker_words.proofs.OneMove.{try_step, parent_step, take_step, take_parent_step, give_parent_step, give_child_step, split_step, word_small}
use Rattle.breaker_words.proofs.laws.one_move_each.Goals as goal

pub returns-clause-try_child : goal.returns-clause-try_child
returns-clause-try_child w = λ l ms s i v c a at rest some room. (try_step l (run l ms) (sound_run l ms) s at.state i v at.view c a rest some room).0

pub returns-clause-take_back_child : goal.returns-clause-take_back_child
returns-clause-take_back_child w = λ l ms s i v at returning. take_step l (run l ms) (sound_run l ms) s at.state i v at.view returning (word_small l (run l ms) (sound_run l ms) s at.state i v at.view (which_of v.child))

pub returns-clause-try_parent : goal.returns-clause-try_parent
returns-clause-try_parent w = λ l ms s i v at granted. (parent_step l (run l ms) (sound_run l ms) s at.state i v at.view granted).0

pub returns-clause-take_back_parent : goal.returns-clause-take_back_parent
returns-clause-take_back_parent w = λ l ms s i v at refused. take_parent_step l (run l ms) (sound_run l ms) s at.state i v at.view refused (word_small l (run l ms) (sound_run l ms) s at.state i v at.view Parent)

pub returns-clause-give_parent : goal.returns-clause-give_parent
returns-clause-give_parent w = λ l ms s i v c a at rest some held. give_parent_step l (run l ms) (sound_run l ms) s at.state i v at.view c a rest some held (word_small l (run l ms) (sound_run l ms) s at.state i v at.view Parent)

pub returns-clause-give_child : goal.returns-clause-give_child
returns-clause-give_child w = λ l ms s i v at given. give_child_step l (run l ms) (sound_run l ms) s at.state i v at.view given (word_small l (run l ms) (sound_run l ms) s at.state i v at.view (which_of v.child))

pub returns-clause-split : goal.returns-clause-split
returns-clause-split w = λ l ms s i v k at rest living room. split_step l (run l ms) (sound_run l ms) s at.state i v at.view k rest living room
