use Rattle.std.proofs.Common.{◌≡◌, sym, ◌∙◌, ap, arith}
use Rattle.document_rows.specs.Roles.{kind_in}
use Rattle.document_rows.proofs.Places.{kind_found}
use Rattle.document_rows.proofs.roles.role_of.Goals as goal

pub returns-in-Some-clause-known : goal.returns-in-Some-clause-known
returns-in-Some-clause-known c =
    let found = kind_found 0 c.args.mapping.now.fields c.args.path.now c.in-Some.field c.in-Some.found.now (sym c.in-Some.ensures) in
    let place : found.0 ≡ c.in-Some.field = omega (arith, found.1) in
    found.2 ∙ ap (kind_in c.args.mapping.now.fields) place
