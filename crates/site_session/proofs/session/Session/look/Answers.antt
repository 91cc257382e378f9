use Rattle.std.proofs.Common.{◌≡◌, subst, sym}
use Rattle.out_tree.specs.Belief.{believed}
use Rattle.site_session.specs.Looking.{bytes_of}
use Rattle.site_session.specs.Pages.{pages, unseen}
use Rattle.site_session.specs.Standing.{Standing}
use Rattle.site_session.proofs.Looking.{unseen_none}
use Rattle.site_session.proofs.Resting.{rests_looked}
use Rattle.site_session.proofs.session.Session.look.Goals as goal

-- what was looked at is what is believed
pub returns-then-self-clause-told : goal.returns-then-self-clause-told
returns-then-self-clause-told c =
    let old = c.self.inside in
    let same : bytes_of old.table ≡ pages (believed old.keeper) = c.self.invariant.2 c.if-self.true in
    subst (λ (s : Standing). 0 ≡ unseen s.scanned (believed s.belief)) c.self.view_is (sym (unseen_none old.table (believed old.keeper) same))

-- a build that has nothing to do has nothing to do still
pub invariant_of-self : goal.invariant_of-self
invariant_of-self c =
    let old = c.self.inside in
    let first : Standing = record { files = old.held; moment = old.moment; settings = old.settings; kept = old.memo; belief = old.keeper; base = old.base; scanned = bytes_of old.table } in (
      c.self.invariant.0,
      rests_looked old.resting first (bytes_of c.look.new.table) c.self.invariant.1,
      λ e. absurd (cc (c.if-self.false, e)),
    )

pub invariant_of-self-2 : goal.invariant_of-self-2
invariant_of-self-2 c =
    let old = c.self.inside in
    let first : Standing = record { files = old.held; moment = old.moment; settings = old.settings; kept = old.memo; belief = old.keeper; base = old.base; scanned = bytes_of old.table } in (
      c.self.invariant.0,
      rests_looked old.resting first (bytes_of c.look.new.table) c.self.invariant.1,
      λ _. c.in_ok-count.ensures.ok,
    )
