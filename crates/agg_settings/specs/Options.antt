-- What each option says, or its refusal with key and value (Elasticsearch Reference 8, 'Search': batched_reduce_size; 'Multi search API': max_concurrent_searches).
use Rattle.std.specs.Prelude.{ℕ, ◌==◌, ◌&&◌, List, [], ◌++◌, Option, Some, None, option_map, Ok, Bool, false, not, if◌then◌else◌, codes, unwrap_or, find}
use Rattle.std.specs.Option.{option_map_or}
use Rattle.std.specs.Str.{bytes_eq}
use Rattle.clap.specs.Walk.{Row, Text, all_of, first_of}
use Rattle.agg_model.specs.declared.settings.Generate.{Generate}
use Rattle.agg_settings.specs.Usages.{Reading, refuse, or_refuse}
use Rattle.agg_settings.specs.Numbers.{number_in}
use Rattle.agg_settings.specs.Entries.{is_entry, key_of, value_of}
use Rattle.agg_settings.specs.Generating.{generate_of}

abbrev pub number_or : Text → ℕ → ℕ → ℕ → Option Text → Reading ℕ
number_or name least most default None = Ok default
number_or name least most default (Some value) = or_refuse (codes "--" ++ name) value (number_in least most value)

-- the number of `--name`, from least to most, or its default
unfoldable pub number_at : Text → ℕ → ℕ → ℕ → List Row → Reading ℕ
number_at name least most default rows = number_or name least most default (first_of name rows)

abbrev pub unless_refused : List Text → Option Text → Reading (List Text)
unless_refused entries None = Ok entries
unless_refused entries (Some entry) = refuse (key_of entry) (value_of entry)

-- the entries of `-E` in order, or the first that is none
unfoldable pub entries_at : List Row → Reading (List Text)
entries_at rows =
    let entries = unwrap_or (all_of (codes "entry") rows) [] in
    unless_refused entries (find (λ entry. not (is_entry entry)) entries)

-- the flag is given
unfoldable pub is_given : Text → List Row → Bool
is_given name rows = option_map_or (λ value. bytes_eq value (codes "true")) (first_of name rows) false

-- `--scan`, only where one search runs at a time
unfoldable pub scan_at : ℕ → List Row → Reading Bool
scan_at width rows =
    let scan = is_given (codes "scan") rows in
    if scan && not (width == 1) then refuse (codes "--scan") [] else Ok scan

abbrev pub generate_or : Option Text → Reading (Option Generate)
generate_or None = Ok None
generate_or (Some value) = or_refuse (codes "--generate") value (option_map Some (generate_of value))

-- `--generate`
unfoldable pub generate_at : List Row → Reading (Option Generate)
generate_at rows = generate_or (first_of (codes "generate") rows)
