use Rattle.std.proofs.Common.{sym, ap, ◌∙◌, arith}
use Rattle.std.proofs.lemmas.Str.{is_utf8-from_IsUtf8}
use Rattle.serde_json.specs.Read.{read}
use Rattle.agg_reading.specs.Json.{reading}
use Rattle.lent_json.proofs.NoJson.{no_reading}
use Rattle.lent_json.proofs.bytes.reading.Goals as goal

pub returns-in_default : goal.returns-in_default
returns-in_default c = sym (no_reading c.args.bytes.now (λ utf8. absurd (c.in_default.ensures.cases.0 utf8)))

pub returns-in-Ok-read_all : goal.returns-in-Ok-read_all
unfolding reading
returns-in-Ok-read_all c = rw (is_utf8-from_IsUtf8 _ c.in-Ok.ensures.cases.1, sym c.in-Ok.ensures.cases.0, c.in-Ok-read_all.ensures.ok)

pub returns-in-Err-NotJson : goal.returns-in-Err-NotJson
returns-in-Err-NotJson c = sym (no_reading c.args.bytes.now (λ utf8. ap read (sym c.in-Ok.ensures.cases.0) ∙ c.read_all.ensures.err (grind arith)))
