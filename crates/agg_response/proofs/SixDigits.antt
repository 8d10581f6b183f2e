-- A number that the format pads with zeros to six digits.
use Rattle.std.specs.Prelude.{◌≡◌, ℕ, ◌-◌, ◌^◌, [], ◌++◌, length, replicate, decimal}
use Rattle.std.proofs.Common.{◌∙◌, ap, append-nil, arith}
use Rattle.std.specs.Fmt.{padded_integral, char_count, styled_decimal, format_spec}
use Rattle.agg_spec.specs.Average.{six_digits}

pub six_padded : (n : ℕ) → styled_decimal (format_spec 32 0 4 6 (2 ^ 64 - 1)) n ≡ six_digits n
unfolding padded_integral char_count
six_padded n =
    let missing : 6 - length (decimal n) - 0 - 0 ≡ 6 - length (decimal n) = omega arith in
    ap (λ k. replicate k 48 ++ (decimal n ++ [])) missing ∙ ap (λ xs. replicate (6 - length (decimal n)) 48 ++ xs) (append-nil (decimal n))
