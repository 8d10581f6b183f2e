use Rattle.std.proofs.Common.{◌∙◌, ap, rules, to_z, of_z}
use mir.Syntax.{w64}
use Rattle.std.proofs.lemmas.Int.{to_z-of_z}
use Rattle.column_query.specs.Numbers.{is_among}
use Rattle.column_query.proofs.Searching.{search-finds}
use Rattle.column_query.proofs.ascending.is_listed.Goals as goal

pub returns : goal.returns
returns c =
    c.is_ok.ensures.value
    ∙ (search-finds c.args.numbers.now c.requires (to_z w64 (of_z w64 c.args.number)) c.binary_search.result c.binary_search.ensures.bound c.binary_search.ensures.position
    ∙ ap (is_among c.args.numbers.now) (to_z-of_z w64 c.args.number (search rules)))
