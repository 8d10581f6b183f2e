use Rattle.std.specs.Prelude.{◌*◌}
use Rattle.answer_laws.proofs.SoloHeld.{solo-held, more-given_back, requests-hold}
use Rattle.answer_laws.proofs.laws.a_search_by_one_worker_gives_all_back.Goals as goal

pub returns-clause-holds : goal.returns-clause-holds
returns-clause-holds c = solo-held

pub returns-clause-given_back : goal.returns-clause-given_back
returns-clause-given_back c settings index start request granted = more-given_back _ (2 * request.bytes) start.holds _ (solo-held settings index start request granted)

pub returns-clause-before_the_next : goal.returns-clause-before_the_next
returns-clause-before_the_next c = requests-hold
