-- Action lines are refused with their own numbers: never as bytes that are no JSON.
use Rattle.std.proofs.Common.{◌≡◌, ◌≢◌, subst}
use Rattle.std.specs.Prelude.{[], Ok, Err, Option, Some, IfErr}
use Rattle.serde_json.specs.Data.{Data}
use Rattle.agg_model.specs.declared.script_refusal.TheConstants.{MALFORMED_ACTION}
use Rattle.agg_reading.specs.declared.fault.RequestFault.TheVariants.{NotJson, Bad, Memory}
use Rattle.agg_reading.specs.declared.parts.Heading.{Heading}
use Rattle.agg_reading.specs.Reading.{Reading, ◌>>=◌, or_refuse, Gives}
use Rattle.agg_reading.specs.Refusals.{action_refusals}
use Rattle.agg_reading.proofs.Refusing.{Refusing, not_json}

kept : (result read : Reading Heading) → Refusing action_refusals read → Gives (λ x. x) result read → IfErr result (λ e. e ≢ NotJson)
kept (Ok x) read h g = tt
kept (Err NotJson) read h g = absurd (not_json read h g)
kept (Err (Bad code at)) read h g = λ q. cc
kept (Err Memory) read h g = λ q. cc

-- the answer to a value that was read
pub never_no_json : (found : Option Data) (d : Data) (f : Data → Reading Heading) (result : Reading Heading) → found ≡ Some d →
    Refusing action_refusals (or_refuse MALFORMED_ACTION [] found >>= f) → Gives (λ x. x) result (f d) → IfErr result (λ e. e ≢ NotJson)
never_no_json found d f result is h g = kept result (f d) (subst (λ (o : Option Data). Refusing action_refusals (or_refuse MALFORMED_ACTION [] o >>= f)) is h) g
