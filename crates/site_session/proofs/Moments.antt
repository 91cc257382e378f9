-- The moments of a session.
use Rattle.std.proofs.Common.{◌≡◌, true, leb-true, arith}
use Rattle.std.specs.Prelude.{ℤ, ◌≤ℤ◌, pos, negsuc}
use lib.Dec.{le→leb}
use Rattle.site_base.specs.Limits.{last_moment}
use Rattle.site_dates.specs.Moment.{IsMoment}
use Rattle.site_script.specs.Line.{is_moment}

pub moment : (m : ℤ) → is_moment m ≡ true → IsMoment m
moment (pos n) e = (record { le = tt }, record { le = le→leb n last_moment (leb-true n last_moment e) })
moment (negsuc n) e = absurd (cc (e))

-- no moment of a session is before 1970
pub since-1970 : (m : ℤ) → is_moment m ≡ true → pos 0 ≤ℤ m
since-1970 (pos n) e = record { le = le→leb 0 n (omega arith) }
since-1970 (negsuc n) e = absurd (cc (e))
