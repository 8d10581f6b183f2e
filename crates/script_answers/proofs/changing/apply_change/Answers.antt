use Rattle.std.proofs.Common.{◌∙◌, ap}
use Rattle.agg_model.specs.declared.settings.Settings.{Settings}
use Rattle.agg_settings.proofs.ChangesKeep.{changed-keeps}
use Rattle.script_answers.proofs.changing.apply_change.Goals as goal

pub reopen-next-requires-clause-same_workers : goal.reopen-next-requires-clause-same_workers
reopen-next-requires-clause-same_workers g c =
    (changed-keeps _ _ _ _ c.in-Ok.ensures.changed).2 ∙ ap (λ (s : Settings). s.workers) c.settings.ensures

pub reopen-next-requires-clause-same_width : goal.reopen-next-requires-clause-same_width
reopen-next-requires-clause-same_width g c =
    (changed-keeps _ _ _ _ c.in-Ok.ensures.changed).0 ∙ ap (λ (s : Settings). s.width) c.settings.ensures

pub reopen-next-requires-clause-same_scan : goal.reopen-next-requires-clause-same_scan
reopen-next-requires-clause-same_scan g c =
    (changed-keeps _ _ _ _ c.in-Ok.ensures.changed).1 ∙ ap (λ (s : Settings). s.scan) c.settings.ensures

pub returns-in_ok-settings_line-in-Taken-clause-width : goal.returns-in_ok-settings_line-in-Taken-clause-width
returns-in_ok-settings_line-in-Taken-clause-width g c =
    let taken = rw c.in-Taken.is at c.reopen-next.ensures.taken in
    ap (λ (s : Settings). s.width) taken.1 ∙ (changed-keeps _ _ _ _ c.in-Ok.ensures.changed).0 ∙ ap (λ (s : Settings). s.width) c.settings.ensures
