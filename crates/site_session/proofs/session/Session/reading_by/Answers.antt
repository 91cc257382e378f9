use Rattle.std.proofs.Common.{◌∙◌, ap}
use Rattle.std.proofs.Math.Facts.{to_z-of_z}
use Rattle.site_session.specs.Looking.{bytes_of}
use Rattle.site_session.proofs.Looking.{bytes_of_none}
use Rattle.site_session.proofs.session.Session.reading_by.Goals as goal

-- no page was looked at
pub returns : goal.returns
returns c =
    let scanned = ap bytes_of c.new-3.ensures ∙ bytes_of_none in
    λ i. record {
      files = c.args.held;
      moment = to_z-of_z c.ranges.moment i;
      settings = c.args.settings;
      kept = c.new.ensures i;
      belief = c.open.ensures i;
      base = c.new-2.ensures i;
      scanned = scanned i;
    }
