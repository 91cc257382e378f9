use Rattle.std.proofs.Common.{◌≡◌, Bor, IfSome, map, subst, sym}
use Rattle.std.specs.Prelude.{MatchResult, Ok, Option, Result}
use Rattle.site_items.specs.Matter.{outcome_of}
use Rattle.site_items.specs.Outcomes.{IsFault, Outcome}
use Rattle.site_items.specs.Seeking.{ruled_now, ruled_timeless}
use Rattle.site_items.specs.declared.item_error.LineFault.{LineFault}
use Rattle.site_items.specs.declared.timeless.Timeless.{Timeless}
use Rattle.site_reader.proofs.items.read_item.Goals as goal

pub returns-in-Some : goal.returns-in-Some
returns-in-Some c =
    let rules = c.args.rules.now in
    let kind = c.args.kind in
    let path = c.args.file.now.path.now in
    let known = c.known_as.ensures rules.config.now (map (λ s. s.now) rules.scopes.now) c.requires.known in
    let is : ruled_timeless rules kind path c.args.file.now.content ≡ outcome_of c.in-Some.made.now =
    subst (λ (kept : Option (Bor (Result Timeless LineFault))). IfSome kept (λ made. ruled_timeless rules kind path c.args.file.now.content ≡ outcome_of made.now)) c.in-Some.is known in
    subst (λ (found : Outcome Timeless). MatchResult c.item_at.result (λ item. ruled_now rules kind path found ≡ Ok item) (IsFault (ruled_now rules kind path found))) (sym is) c.item_at.ensures
