use Rattle.std.proofs.Common.{ap, ◌∙◌}
use Rattle.std.specs.FinMap as finite
use Rattle.site_reader.specs.Placing.{config_path}
use Rattle.site_reader.specs.Sites.{config_in}
use Rattle.site_reader.proofs.Weights.{file_found}
use Rattle.site_reader.proofs.configuration.told_of.Goals as goal

pub returns-clause-told : goal.returns-clause-told
returns-clause-told c =
    let held = c.args.held.now in
    ap config_in (c.get_shared.ensures ∙ ap (finite.get held) c.in_ok-path.ensures) ∙ file_found config_path (config_in (finite.get held config_path)) c.args.config.now c.requires
