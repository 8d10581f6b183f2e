-- An output so far: the bytes that its sink has, where the sink tells, and what its listeners heard.
use Rattle.std.specs.Prelude.{ℕ, Bool, true, false, List, [], ◌∷◌, length, Option}
use Rattle.agg_listen.specs.Hearing.{Hearing, next_line}
use Rattle.agg_listen.specs.Standing.{all_having_heard}
use Rattle.agg_listen.specs.declared.listener.Told.{Told}
use Rattle.agg_model.specs.declared.outcome.Answered.{Answered}
use Rattle.agg_spec.specs.Written.{Line, answer, answer_text, status_of}

pub record Output : Type 0 where
  pub bytes : Option (List ℕ)
  pub hearing : Hearing

abbrev pub so_far : Option (List ℕ) → Hearing → Output
so_far bytes hearing = record { bytes = bytes; hearing = hearing }

-- what is told of an answer whose line has this number
abbrev pub told_of : ℕ → Answered → Told
told_of line a = record { line = line; status = status_of a.outcome; bytes = length (answer_text a.outcome a.failures) }

abbrev pub is_answer : Line → Bool
is_answer (answer a) = true
is_answer _ = false

-- a line was written: listeners are told of the answers to searches alone
abbrev pub after_hearing : Line → Hearing → Hearing
after_hearing (answer a) h = record { line = next_line h.line; listeners = all_having_heard (told_of h.line a) h.listeners }
after_hearing _ h = record { line = next_line h.line; listeners = h.listeners }

-- these lines were written, one after another
abbrev pub after_all : List Line → Hearing → Hearing
after_all [] h = h
after_all (line ∷ later) h = after_all later (after_hearing line h)
