use Rattle.std.specs.Vec.Iter.{into_iter_items}
use Rattle.solo_charges.specs.Alone.{IsAlone}
use Rattle.wave_answers.proofs.Going.{IsGoing}
use Rattle.wave_answers.proofs.answering.answer_all.Given as goal

-- the bodies that are answered, and those that are still to be
abbrev pub invariant-loop-asks : goal.invariant-loop-asks
invariant-loop-asks l = record {
  next : (goal.iterator-loop-asks).can_next l.asks-iterator;
  finite : (goal.iterator-loop-asks).is_finite l.asks-iterator;
  alone : IsAlone l.words l.pass;
  going : IsGoing l.words.limits l.index l.max_buckets l.initial.pass.view l.fn.asked l.fn.searches l.fn.ends l.pass.view (into_iter_items l.asks-iterator) l.searches.items l.ends.items l.pages;
}
