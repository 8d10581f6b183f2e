-- The format pads with zeros.
use Rattle.std.proofs.Common.{◌≡◌, ◌∙◌, ap, subst, IfOk, string_bytes}
use Rattle.std.specs.Fmt.{styled_decimal}
use Rattle.agg_response.proofs.SixDigits.{six_padded}
use Rattle.agg_response.proofs.numbers.six_digits.Goals as goal

pub returns : goal.returns
returns c = subst (λ bs. IfOk c.format.result (λ s. string_bytes s ≡ bs))
    (ap (λ s. styled_decimal s c.args.n) c.laid_out.ensures ∙ six_padded c.args.n) c.format.ensures.ok
