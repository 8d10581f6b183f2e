use Rattle.std.proofs.Common.{ap, ◌∙◌, ◌∷◌, []}
use Rattle.std.specs.Io.KnownBytes.{append_known}
use Rattle.std.proofs.lemmas.Result.{on_err_weaker}
use Rattle.script_answers.proofs.Putting.{front_of_both}
use Rattle.script_answers.proofs.writing.write_ended.Goals as goal

pub returns-clause-front : goal.returns-clause-front
returns-clause-front g c =
    let old = g.K.Sink.written c.args.sink.now in
    let mid = g.K.Sink.written c.write_all.new.sink in
    let new = g.K.Sink.written c.write_all-2.new.sink in
    on_err_weaker c.write_all-2.result
    (front_of_both old mid new c.args.text.now (10 ∷ []) (c.in_ok-write_all.ensures.all ∙ ap (append_known old) (c.as_bytes.ensures.value ∙ c.as_str.ensures)))
    c.write_all-2.ensures.front
