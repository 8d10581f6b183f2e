use Rattle.script_lines.proofs.line.take_line.Goals as goal

pub returns-in-Some-clause-front : goal.returns-in-Some-clause-front
returns-in-Some-clause-front g c bytes front h = rw c.in-Some.is at c.in_ok-line.ensures.front bytes front h
