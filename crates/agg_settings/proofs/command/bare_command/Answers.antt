use Rattle.std.proofs.Common.{ap, true, ◌∙◌}
use Rattle.clap.specs.Simple.{Shape, app_of_fields, on_top}
use Rattle.agg_settings.proofs.command.bare_command.Goals as goal

abbrev unnamed : Shape → Shape
unnamed s = record s { no_binary_name = true }

abbrev helpless : Shape → Shape
helpless s = record s { disable_help_flag = true }

abbrev versionless : Shape → Shape
versionless s = record s { disable_version_flag = true }

pub returns : goal.returns
returns c =
    ap app_of_fields c.disable_version_flag.ensures ∙ ap (on_top versionless)
    (ap app_of_fields c.disable_help_flag.ensures ∙ ap (on_top helpless)
    (ap app_of_fields c.no_binary_name.ensures ∙ ap (on_top unnamed) c.new.ensures.app))
