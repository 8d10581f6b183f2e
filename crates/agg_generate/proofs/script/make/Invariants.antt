use Rattle.std.proofs.Common.{◌≡◌, ◌++◌, ◌-◌, string_bytes}
use Rattle.agg_spec.specs.Generator.{documents_from}
use Rattle.agg_generate.specs.Documents.{ended}
use Rattle.agg_generate.proofs.script.make.Given as goal

abbrev pub invariant-loop-id : goal.invariant-loop-id
invariant-loop-id l =
    string_bytes l.script ++ ended (documents_from (l.generate.documents - l.id) l.id l.draws.state)
    ≡ string_bytes l.initial.script ++ ended (documents_from l.generate.documents 0 l.generate.number)
