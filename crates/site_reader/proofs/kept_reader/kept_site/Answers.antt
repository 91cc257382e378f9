use Rattle.std.proofs.Common.{◌≡◌, ap, arith, length, map, subst, sym, ◌∙◌}
use Rattle.std.specs.FinMap.{entries, len-entries}
use Rattle.std.specs.Prelude.{MatchResult, Ok}
use Rattle.std.proofs.lemmas.Int.{to_z-of_z}
use Rattle.std.proofs.lemmas.List.{length-map}
use Rattle.site_items.specs.Defaults.{by_strength}
use Rattle.site_reader.specs.Found.{Found, IsFirst}
use Rattle.site_reader.specs.Placements.{AreKnown, bytes_in}
use Rattle.site_reader.specs.Placing.{builds_drafts, placed, seen}
use Rattle.site_reader.specs.Sites.{placed_site}
use Rattle.site_reader.specs.declared.site.Site.{Site}
use Rattle.site_reader.proofs.PlacementLaws.{all_known, all_seen}
use Rattle.site_reader.proofs.kept_reader.kept_site.Goals as goal

pub placed_site-requires-clause-few : goal.placed_site-requires-clause-few
placed_site-requires-clause-few c =
    let kept = c.args.kept.now in
    let files = c.in_ok-files.files.items in
    omega (
      arith,
      c.requires.few,
      ap length (all_seen kept.told kept.drafts c.args.config c.requires.told files kept.files c.in_ok-files.ensures c.requires.sound),
      length-map files seen,
      length-map (entries (bytes_in kept.files)) (placed c.args.config kept.drafts),
      len-entries (bytes_in kept.files),
    )

pub placed_site-requires-clause-known : goal.placed_site-requires-clause-known
placed_site-requires-clause-known c =
    let kept = c.args.kept.now in
    subst (AreKnown c.args.config (by_strength c.args.config.defaults)) (sym c.deref.ensures.value) (all_known kept.told kept.drafts c.args.config c.requires.told c.in_ok-files.files.items _ c.in_ok-files.ensures c.requires.sound)

pub returns-clause-read : goal.returns-clause-read
returns-clause-read c =
    let kept = c.args.kept.now in
    let config = c.args.config in
    let all : map seen c.deref.result.now ≡ map (placed config (builds_drafts config c.args.settings.now)) (entries (bytes_in kept.files)) =
    ap (map seen) c.deref.ensures.value
    ∙ all_seen kept.told kept.drafts config c.requires.told c.in_ok-files.files.items kept.files c.in_ok-files.ensures c.requires.sound
    ∙ ap (λ drafts. map (placed config drafts) (entries (bytes_in kept.files))) c.requires.drafts in
    subst (λ (found : Found Site). MatchResult c.placed_site.result (λ made. found ≡ Ok made) (IsFirst found)) (λ i. placed_site config c.args.moment (c.builds_future-future.ensures i) (all i)) (simp (to_z-of_z, c.ranges.moment) at c.placed_site.ensures.read)
