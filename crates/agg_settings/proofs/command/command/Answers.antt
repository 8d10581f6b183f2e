use Rattle.std.proofs.Common.{ap₂, ◌∙◌}
use Rattle.std.proofs.lemmas.Result.{IfOk-weaker}
use Rattle.clap.specs.Simple.{with_rule}
use Rattle.agg_settings.specs.Words.{command}
use Rattle.agg_settings.proofs.command.command.Goals as goal

pub returns : goal.returns
unfolding command
returns c =
    let workers = c.in_ok-arg.ensures.shape c.option_named.ensures.local ∙ ap₂ with_rule c.bare_command.ensures c.option_named.ensures.rule in
    let batch = c.in_ok-arg-2.ensures.shape c.option_named-2.ensures.local ∙ ap₂ with_rule workers c.option_named-2.ensures.rule in
    let width = c.in_ok-arg-3.ensures.shape c.option_named-3.ensures.local ∙ ap₂ with_rule batch c.option_named-3.ensures.rule in
    let entry = c.in_ok-arg-4.ensures.shape c.entry_option.ensures.local ∙ ap₂ with_rule width c.entry_option.ensures.rule in
    let scan = c.in_ok-arg-5.ensures.shape c.scan_flag.ensures.local ∙ ap₂ with_rule entry c.scan_flag.ensures.rule in
    IfOk-weaker c.arg-6.result _ _ (λ made added. added.shape c.option_named-4.ensures.local ∙ ap₂ with_rule scan c.option_named-4.ensures.rule) c.arg-6.ensures
