-- What instants print as, computed by the definitions and compared with values from outside.
use Rattle.std.specs.Prelude.{◌≡◌, refl, pos, negsuc, neg_ℤ, [], ◌∷◌, map, codes}
use Rattle.date_spec.specs.DateTexts.{printed, printed_with}
use Rattle.date_spec.proofs.Computing.{computing}

instants_print_as_texts :
    map printed (pos 1709243999999 ∷ pos 0 ∷ negsuc 0 ∷ pos 1704067200000 ∷ neg_ℤ (pos 62167219200000) ∷ pos 253402214399999 ∷ neg_ℤ (pos 2203891200001) ∷ [])
    ≡ codes "2024-02-29T21:59:59.999Z" ∷ codes "1970-01-01T00:00:00.000Z" ∷ codes "1969-12-31T23:59:59.999Z" ∷ codes "2024-01-01T00:00:00.000Z"
    ∷ codes "0000-01-01T00:00:00.000Z" ∷ codes "9999-12-30T23:59:59.999Z" ∷ codes "1900-02-28T23:59:59.999Z" ∷ []
unfolding computing
instants_print_as_texts = refl

an_offset_in_the_place_of_z :
    printed_with (codes "+01:00") (pos 1706745600000) ≡ codes "2024-02-01T00:00:00.000+01:00"
unfolding computing
an_offset_in_the_place_of_z = refl
