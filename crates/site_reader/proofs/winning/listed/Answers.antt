use Rattle.std.proofs.Common.{◌≡◌, subst, sym}
use Rattle.site_base.specs.Places.{PathsRise}
use Rattle.site_reader.proofs.EachLaws.{all_taken}
use Rattle.site_reader.proofs.RisingLaws.{rises}
use Rattle.site_reader.proofs.winning.listed.Goals as goal

pub returns-clause-rise : goal.returns-clause-rise
returns-clause-rise c =
    let all : c.loop-entry.entries.items ≡ c.args.won.entries = all_taken c.loop-entry.entries.items c.loop-entry.entry-iterator c.args.won.entries c.in-None.ensures.steps.0 c.loop-entry.invariant in
    subst (λ es. PathsRise es) (sym all) (rises c.args.won.entries c.len.ensures.ordered)
