use Rattle.wave_answers.proofs.Going.{next-ran}
use Rattle.wave_answers.proofs.answering.answer_next.Goals as goal

pub returns-in-Some-pop_front-clause-next : goal.returns-in-Some-pop_front-clause-next
returns-in-Some-pop_front-clause-next c =
    next-ran c.args.words.now.limits c.args.index.now c.args.max_buckets c.args.pass.now.view c.answer_end.new.pass.view c.args.asks
    c.args.searches.now.items c.pop_front.new.self.items c.args.ends.now.items c.pop_front-in-Runs.new.self.items c.in-Some.search c.in-Some-pop_front.end
    c.in-Runs.is c.in-Some.ensures.items c.in-Some-pop_front.ensures.items c.answer_end.result
    c.answer_end.ensures.given c.answer_end.ensures.parent c.answer_end.ensures.answer c.answer_end.ensures.next
