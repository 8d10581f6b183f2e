-- What texts read as, computed by the definitions and compared with values from outside.
use Rattle.std.specs.Prelude.{◌≡◌, refl, pos, negsuc, [], ◌∷◌, map, Ok, Err, codes}
use Rattle.date_spec.specs.declared.fault.DateFault.TheVariants.{Malformed, OutOfRange}
use Rattle.date_spec.specs.DateTexts.{read_date}
use Rattle.date_spec.proofs.Computing.{computing}

years_months_and_days :
    map read_date (codes "2024" ∷ codes "1970" ∷ codes "0000" ∷ codes "9999" ∷ codes "2024-02" ∷ codes "2024-12" ∷ codes "2024-02-29" ∷ codes "0000-01-01" ∷ codes "1969-12-31" ∷ codes "9999-12-30" ∷ codes "9999-12-31" ∷ codes "0000-12-31" ∷ [])
    ≡ Ok (pos 1704067200000) ∷ Ok (pos 0) ∷ Ok (negsuc 62167219199999) ∷ Ok (pos 253370764800000) ∷ Ok (pos 1706745600000) ∷ Ok (pos 1733011200000) ∷ Ok (pos 1709164800000) ∷ Ok (negsuc 62167219199999) ∷ Ok (negsuc 86399999) ∷ Ok (pos 253402128000000) ∷ Err OutOfRange ∷ Ok (negsuc 62135683199999) ∷ []
unfolding computing
years_months_and_days = refl

times_of_day :
    map read_date (codes "2024-02-29T23:59" ∷ codes "2024-02-29T23:59:59" ∷ codes "2024-02-29T00:00:00.0" ∷ codes "2024-02-29T23:59:59.9" ∷ codes "2024-02-29T23:59:59.99" ∷ codes "2024-02-29T23:59:59.999" ∷ codes "2024-02-29T23:59:59.9999" ∷ codes "2024-02-29T23:59:59.12345" ∷ codes "2024-02-29T23:59:59.123456" ∷ codes "2024-02-29T23:59:59.1234567" ∷ codes "2024-02-29T23:59:59.12345678" ∷ codes "2024-02-29T23:59:59.999999999" ∷ [])
    ≡ Ok (pos 1709251140000) ∷ Ok (pos 1709251199000) ∷ Ok (pos 1709164800000) ∷ Ok (pos 1709251199900) ∷ Ok (pos 1709251199990) ∷ Ok (pos 1709251199999) ∷ Ok (pos 1709251199999) ∷ Ok (pos 1709251199123) ∷ Ok (pos 1709251199123) ∷ Ok (pos 1709251199123) ∷ Ok (pos 1709251199123) ∷ Ok (pos 1709251199999) ∷ []
unfolding computing
times_of_day = refl

offsets :
    map read_date (codes "2024-02-29T23:59:59.999Z" ∷ codes "2024-02-29T23:59:59.999+02:00" ∷ codes "2024-02-29T23:59:59.999-02:00" ∷ codes "2024-02-29T23:59:59+0230" ∷ codes "2024-02-29T23:59-0230" ∷ codes "2024-02-29T23:59+02" ∷ codes "2024-02-29T23:59:59-02" ∷ codes "2024-02-29T23:59+00:00" ∷ codes "2024-02-29T23:59-00:00" ∷ codes "2024-02-29T00:00+18:00" ∷ codes "2024-02-29T00:00-18:00" ∷ codes "2024-02-29T23:59Z" ∷ codes "2024-02-29T23:59:59.1Z" ∷ [])
    ≡ Ok (pos 1709251199999) ∷ Ok (pos 1709243999999) ∷ Ok (pos 1709258399999) ∷ Ok (pos 1709242199000) ∷ Ok (pos 1709260140000) ∷ Ok (pos 1709243940000) ∷ Ok (pos 1709258399000) ∷ Ok (pos 1709251140000) ∷ Ok (pos 1709251140000) ∷ Ok (pos 1709100000000) ∷ Ok (pos 1709229600000) ∷ Ok (pos 1709251140000) ∷ Ok (pos 1709251199100) ∷ []
unfolding computing
offsets = refl

milliseconds :
    map read_date (codes "00000" ∷ codes "12345" ∷ codes "-12345" ∷ codes "-00001" ∷ codes "1709251199999" ∷ codes "-62167219200000" ∷ codes "-62167219200001" ∷ codes "253402214399999" ∷ codes "253402214400000" ∷ codes "9223372036854775807" ∷ codes "9223372036854775808" ∷ codes "9999999999999999999" ∷ codes "-9999999999999999999" ∷ codes "0000000000000000001" ∷ [])
    ≡ Ok (pos 0) ∷ Ok (pos 12345) ∷ Ok (negsuc 12344) ∷ Ok (negsuc 0) ∷ Ok (pos 1709251199999) ∷ Ok (negsuc 62167219199999) ∷ Err OutOfRange ∷ Ok (pos 253402214399999) ∷ Err OutOfRange ∷ Err OutOfRange ∷ Err OutOfRange ∷ Err OutOfRange ∷ Err OutOfRange ∷ Ok (pos 1) ∷ []
unfolding computing
milliseconds = refl

ends_of_the_range :
    map read_date (codes "0000-01-01T00:00:00.000Z" ∷ codes "0000-01-01T00:00:00+00:01" ∷ codes "0000-01-01T00:00:00.001+00:01" ∷ codes "0000-01-01T00:00-18" ∷ codes "9999-12-30T23:59:59.999Z" ∷ codes "9999-12-31T00:00Z" ∷ codes "9999-12-31T00:00+00:01" ∷ codes "9999-12-31T17:59:59.999+18:00" ∷ codes "9999-12-30T23:59:59.999-00:01" ∷ [])
    ≡ Ok (negsuc 62167219199999) ∷ Err OutOfRange ∷ Err OutOfRange ∷ Ok (negsuc 62167154399999) ∷ Ok (pos 253402214399999) ∷ Err OutOfRange ∷ Ok (pos 253402214340000) ∷ Ok (pos 253402214399999) ∷ Err OutOfRange ∷ []
unfolding computing
ends_of_the_range = refl

days_that_are_not :
    map read_date (codes "2024-02-30" ∷ codes "2023-02-29" ∷ codes "1900-02-29" ∷ codes "2000-02-29" ∷ codes "2100-02-29" ∷ codes "2400-02-29" ∷ codes "2024-04-31" ∷ codes "2024-01-32" ∷ codes "2024-00" ∷ codes "2024-13" ∷ codes "2024-01-00" ∷ codes "2024-00-01" ∷ codes "2024-12-31" ∷ [])
    ≡ Err Malformed ∷ Err Malformed ∷ Err Malformed ∷ Ok (pos 951782400000) ∷ Err Malformed ∷ Ok (pos 13574563200000) ∷ Err Malformed ∷ Err Malformed ∷ Err Malformed ∷ Err Malformed ∷ Err Malformed ∷ Err Malformed ∷ Ok (pos 1735603200000) ∷ []
unfolding computing
days_that_are_not = refl

times_that_are_not :
    map read_date (codes "2024-02-29T24:00" ∷ codes "2024-02-29T23:60" ∷ codes "2024-02-29T23:59:60" ∷ codes "2024-02-29T23:59:59." ∷ codes "2024-02-29T23:59:59.1234567890" ∷ codes "2024-02-29T23" ∷ codes "2024-02-29T" ∷ codes "2024-02-29T23:5" ∷ codes "2024-02-29T23:59:5" ∷ codes "2024-02-29T2:59" ∷ codes "2024-02-29T23:59.5" ∷ codes "2024-02-29 23:59" ∷ codes "2024-02-29t23:59" ∷ codes "2024-02-29T23:59:59,5" ∷ [])
    ≡ Err Malformed ∷ Err Malformed ∷ Err Malformed ∷ Err Malformed ∷ Err Malformed ∷ Err Malformed ∷ Err Malformed ∷ Err Malformed ∷ Err Malformed ∷ Err Malformed ∷ Err Malformed ∷ Err Malformed ∷ Err Malformed ∷ Err Malformed ∷ []
unfolding computing
times_that_are_not = refl

offsets_that_are_not :
    map read_date (codes "2024-02-29T23:59+18:01" ∷ codes "2024-02-29T23:59-18:01" ∷ codes "2024-02-29T23:59+19" ∷ codes "2024-02-29T23:59+2" ∷ codes "2024-02-29T23:59+02:0" ∷ codes "2024-02-29T23:59+02:60" ∷ codes "2024-02-29T23:59+020" ∷ codes "2024-02-29T23:59+02:000" ∷ codes "2024-02-29T23:59+" ∷ codes "2024-02-29T23:59z" ∷ codes "2024-02-29T23:59ZZ" ∷ codes "2024-02-29T23:59Z " ∷ codes "2024-02-29Z" ∷ codes "2024-02-29+01:00" ∷ codes "2024-02Z" ∷ codes "2024Z" ∷ codes "2024-02-29TZ" ∷ [])
    ≡ Err Malformed ∷ Err Malformed ∷ Err Malformed ∷ Err Malformed ∷ Err Malformed ∷ Err Malformed ∷ Err Malformed ∷ Err Malformed ∷ Err Malformed ∷ Err Malformed ∷ Err Malformed ∷ Err Malformed ∷ Err Malformed ∷ Err Malformed ∷ Err Malformed ∷ Err Malformed ∷ Err Malformed ∷ []
unfolding computing
offsets_that_are_not = refl

other_texts :
    map read_date (codes "" ∷ codes " " ∷ codes "2024 " ∷ codes " 2024" ∷ codes "+2024" ∷ codes "-2024" ∷ codes "02024-01-01" ∷ codes "-0001-01-01" ∷ codes "+2024-01-01" ∷ codes "2024-1-01" ∷ codes "2024-01-1" ∷ codes "24-01-01" ∷ codes "2024-" ∷ codes "2024-02-" ∷ codes "20240229" ∷ codes "2024/02/29" ∷ codes "1" ∷ codes "1234" ∷ codes "-1234" ∷ codes "12345678901234567890" ∷ codes "-12345678901234567890" ∷ codes "+12345" ∷ codes "--12345" ∷ codes "12345-" ∷ codes "-" ∷ codes "1e12345" ∷ codes "12345.6" ∷ codes "2024-02-29T23:59:59.999Z0" ∷ codes "2024-W09-4" ∷ codes "2024-060" ∷ codes "now" ∷ [])
    ≡ Err Malformed ∷ Err Malformed ∷ Err Malformed ∷ Err Malformed ∷ Err Malformed ∷ Err Malformed ∷ Err Malformed ∷ Err Malformed ∷ Err Malformed ∷ Err Malformed ∷ Err Malformed ∷ Err Malformed ∷ Err Malformed ∷ Err Malformed ∷ Ok (pos 20240229) ∷ Err Malformed ∷ Err Malformed ∷ Ok (negsuc 23225875199999) ∷ Err Malformed ∷ Err Malformed ∷ Err Malformed ∷ Err Malformed ∷ Err Malformed ∷ Err Malformed ∷ Err Malformed ∷ Err Malformed ∷ Err Malformed ∷ Err Malformed ∷ Err Malformed ∷ Err Malformed ∷ Err Malformed ∷ []
unfolding computing
other_texts = refl
