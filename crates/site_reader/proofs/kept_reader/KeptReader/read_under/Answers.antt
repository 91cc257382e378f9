use Rattle.std.proofs.Common.{◌≡◌, sym, ap, ap₂, ◌∙◌}
use Rattle.site_base.specs.Places.{Files}
use Rattle.site_reader.specs.Configured.{config_in}
use Rattle.site_reader.specs.Kept.{Kept, parsed_under}
use Rattle.site_reader.specs.Placements.{bytes_in}
use Rattle.site_reader.proofs.kept_reader.KeptReader.read_under.Goals as goal

pub kept_site-requires-clause-told : goal.kept_site-requires-clause-told
kept_site-requires-clause-told g c = ap config_in c.in_ok-renewed.ensures.under.bytes ∙ c.in_ok-told.ensures.told

pub kept_site-requires-clause-drafts : goal.kept_site-requires-clause-drafts
kept_site-requires-clause-drafts g c = c.in_ok-renewed.ensures.under.drafts ∙ c.in_ok-told.ensures.drafts ∙ c.builds_drafts.ensures

pub returns-in-Ok-clause-parsed : goal.returns-in-Ok-clause-parsed
returns-in-Ok-clause-parsed g c =
    let kept : bytes_in c.self.inside.files.files ≡ c.args.self.now.kept = ap (λ (k : Kept). k.kept) c.self.view_is in
    sym (c.in_ok-renewed.ensures.parsed ∙ ap₂ (λ drafts (files : Files). parsed_under c.args.config drafts files c.args.held.now) (c.in_ok-told.ensures.drafts ∙ c.builds_drafts.ensures) kept)
