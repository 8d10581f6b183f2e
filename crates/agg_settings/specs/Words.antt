-- The command line: one simple command of `clap` with five options and a flag, and no help or version.
use Rattle.std.specs.Prelude.{List, [], ◌∷◌, Some, Bool, true, false, codes}
use Rattle.clap.specs.Walk.{Row, Rule, Text}
use Rattle.clap.specs.Simple.{App, matches_of, new_app, new_rule, on_top, with_rule}
use Rattle.clap.specs.Faults.{fault_of}
use Rattle.clap.specs.Kinds.{Kinds}
use Rattle.clap.specs.declared.builder.action.ArgAction.TheVariants.{Append, SetTrue}

-- an option `--name` that may be given once
abbrev pub option_named : Text → Rule
option_named name = record (new_rule name) { long = Some name }

-- `-E`, any number of times
abbrev pub entry_option : Rule
entry_option = record (new_rule (codes "entry")) { short = Some 69; action = Some Append }

-- `--scan`
abbrev pub scan_flag : Rule
scan_flag = record (option_named (codes "scan")) { action = Some SetTrue }

abbrev pub bare_command : App
bare_command = on_top (λ s. record s { no_binary_name = true; disable_help_flag = true; disable_version_flag = true }) (new_app (codes "aggs"))

unfoldable pub command : App
command =
    with_rule (with_rule (with_rule (with_rule (with_rule (with_rule bare_command
    (option_named (codes "workers"))) (option_named (codes "batched-reduce-size"))) (option_named (codes "concurrent-searches")))
    entry_option) scan_flag) (option_named (codes "generate"))

abbrev pub is_faultless : Kinds → Bool
is_faultless [] = true
is_faultless (kind ∷ kinds) = false

-- the command takes the words: no step of its parse fails
unfoldable pub is_command : List Text → Bool
is_command words = is_faultless (fault_of command words)

-- what was given for each option
unfoldable pub rows_in : List Text → List Row
rows_in words = matches_of command words
