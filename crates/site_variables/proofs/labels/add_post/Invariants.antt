use Rattle.std.proofs.Common.{◌≡◌, drop}
use Rattle.std.specs.Prelude.{fold}
use Rattle.site_base.specs.View.{items_of}
use Rattle.site_config.specs.Config.{texts_in}
use Rattle.site_variables.specs.Gathering.{behind_others}
use Rattle.site_variables.specs.Lists.{named}
use Rattle.site_variables.proofs.labels.add_post.Given as goal

abbrev pub invariant-loop-label : goal.invariant-loop-label
invariant-loop-label l =
    fold (behind_others (named l.post)) l.groups (texts_in (items_of (drop l.label-index l.label-items)))
    ≡ fold (behind_others (named l.post)) l.initial.groups (texts_in (items_of l.label-items))
