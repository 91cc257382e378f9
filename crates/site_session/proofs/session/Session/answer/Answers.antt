use Rattle.std.proofs.Common.{ap, refl, subst, sym}
use Rattle.std.specs.Result.{IfOk}
use Rattle.out_tree.specs.Belief.{believed}
use Rattle.site_script.specs.declared.line.Line.{Line}
use Rattle.site_session.specs.Rounds.{in_any_order}
use Rattle.site_session.specs.Scenes.{output_seen, source_seen}
use Rattle.site_session.specs.Session.{Answers, BadLine, Fine}
use Rattle.site_session.specs.Standing.{Standing}
use Rattle.site_session.specs.Tallied.{LineTallied}
use Rattle.site_session.proofs.Lines.{build_line, build_spares, if_ok, if_ok_with, if_short, looks_at_none, quiet_line, scan_line, scan_spares, spares_all}
use Rattle.site_session.proofs.session.Session.answer.Goals as goal

pub returns-in-Scan-clause-answers : goal.returns-in-Scan-clause-answers
returns-in-Scan-clause-answers g c = λ given told h.
    subst (λ (l : Line). IfOk c.answer_scan.result (λ reply. Answers given c.args.self.now c.args.number l reply c.answer_scan.new.self)) (sym c.in-Scan.is)
    (c.answer_scan.ensures.answers given told)

pub returns-in-Put-clause-answers : goal.returns-in-Put-clause-answers
returns-in-Put-clause-answers g c = λ given told h.
    subst (λ (l : Line). IfOk c.put_line.result (λ reply. Answers given c.args.self.now c.args.number l reply c.put_line.new.self)) (sym c.in-Put.is)
    (c.put_line.ensures.answers given)

pub returns-in-Delete-clause-answers : goal.returns-in-Delete-clause-answers
returns-in-Delete-clause-answers g c = λ given told h.
    subst (λ (l : Line). Answers given c.args.self.now c.args.number l c.delete_line.result c.delete_line.new.self) (sym c.in-Delete.is)
    (c.delete_line.ensures.answers given)

pub returns-in-Build-clause-answers : goal.returns-in-Build-clause-answers
returns-in-Build-clause-answers g c = λ given told h.
    subst (λ (l : Line). IfOk c.build_line.result (λ reply. Answers given c.args.self.now c.args.number l reply c.build_line.new.self)) (sym c.in-Build.is)
    (c.build_line.ensures.answers given h)

pub returns-in-Links-clause-answers : goal.returns-in-Links-clause-answers
returns-in-Links-clause-answers g c = λ given told h.
    subst (λ (l : Line). IfOk c.links_line.result (λ reply. Answers given c.args.self.now c.args.number l reply c.links_line.new.self)) (sym c.in-Links.is)
    (c.links_line.ensures.answers given c.args.number)

-- what each line leaves, and what it spares where memory is wanting

pub returns-in-Scan-clause-leaves : goal.returns-in-Scan-clause-leaves
returns-in-Scan-clause-leaves g c =
    let out = output_seen g.O.OutTree.contents g.O.OutTree.calls g.O.OutTree.failures c.args.out.now in
    if_ok c.answer_scan.result (λ reply left. scan_line c.args.self.now c.args.line reply c.answer_scan.new.self.belief _ _ out c.args.tally.now c.in-Scan.is c.answer_scan.ensures.belief left.0 left.1) c.answer_scan.ensures.leaves

pub returns-in-Scan-clause-spares : goal.returns-in-Scan-clause-spares
returns-in-Scan-clause-spares g c =
    let out = output_seen g.O.OutTree.contents g.O.OutTree.calls g.O.OutTree.failures c.args.out.now in
    if_short c.answer_scan.result (λ same. scan_spares c.args.self.now c.args.line _ _ out c.args.tally.now c.in-Scan.is same.0 same.1) c.answer_scan.ensures.spares

pub returns-in-Put-clause-leaves : goal.returns-in-Put-clause-leaves
returns-in-Put-clause-leaves g c =
    if_ok c.put_line.result (λ reply quiet. quiet_line c.args.self.now c.args.line reply c.put_line.new.self.belief _ c.put_line.ensures.belief quiet.0 quiet.1 (subst (λ (l : Line). LineTallied in_any_order c.args.self.now l c.args.tally.now c.args.tally.now) (sym c.in-Put.is) refl)) c.put_line.ensures.quiet

pub returns-in-Put-clause-spares : goal.returns-in-Put-clause-spares
returns-in-Put-clause-spares g c = if_short c.put_line.result (λ _. spares_all c.args.self.now c.args.line _) c.put_line.ensures.err

pub returns-in-Delete-clause-leaves : goal.returns-in-Delete-clause-leaves
returns-in-Delete-clause-leaves g c =
    quiet_line c.args.self.now c.args.line c.delete_line.result c.delete_line.new.self.belief _ c.delete_line.ensures.belief c.delete_line.ensures.quiet.0 c.delete_line.ensures.quiet.1
    (subst (λ (l : Line). LineTallied in_any_order c.args.self.now l c.args.tally.now c.args.tally.now) (sym c.in-Delete.is) refl)

pub returns-in-Time-clause-leaves : goal.returns-in-Time-clause-leaves
returns-in-Time-clause-leaves g c =
    quiet_line c.args.self.now c.args.line Fine c.set_moment.new.self.belief _ (ap (λ (s : Standing). s.belief) c.set_moment.ensures) (record { called = refl; failures = refl }) refl
    (subst (λ (l : Line). LineTallied in_any_order c.args.self.now l c.args.tally.now c.args.tally.now) (sym c.in-Time.is) refl)

pub returns-in-Build-clause-leaves : goal.returns-in-Build-clause-leaves
returns-in-Build-clause-leaves g c =
    let source = source_seen g.S.SourceTree.files g.S.SourceTree.failures c.args.source.now in
    if_ok_with c.build_line.result (λ reply left tallied. build_line c.args.self.now c.args.line reply c.build_line.new.self.belief source _ _ c.args.tally.now c.build_line.new.tally c.in-Build.is left.0 left.1 tallied)
    c.build_line.ensures.leaves c.build_line.ensures.tallied

pub returns-in-Build-clause-spares : goal.returns-in-Build-clause-spares
returns-in-Build-clause-spares g c =
    let source = source_seen g.S.SourceTree.files g.S.SourceTree.failures c.args.source.now in
    if_short c.build_line.result (λ left. build_spares c.args.self.now c.args.line source _ _ c.args.tally.now c.build_line.new.tally c.in-Build.is left.0 left.1) c.build_line.ensures.spares

pub returns-in-Links-clause-leaves : goal.returns-in-Links-clause-leaves
returns-in-Links-clause-leaves g c =
    if_ok c.links_line.result (λ reply quiet. quiet_line c.args.self.now c.args.line reply c.links_line.new.self.belief _ c.links_line.ensures.belief quiet.0 quiet.1 (subst (λ (l : Line). LineTallied in_any_order c.args.self.now l c.args.tally.now c.args.tally.now) (sym c.in-Links.is) refl)) c.links_line.ensures.quiet

pub returns-in-Links-clause-spares : goal.returns-in-Links-clause-spares
returns-in-Links-clause-spares g c = if_short c.links_line.result (λ _. spares_all c.args.self.now c.args.line _) c.links_line.ensures.err

pub returns-in-Bad-clause-leaves : goal.returns-in-Bad-clause-leaves
returns-in-Bad-clause-leaves g c =
    quiet_line c.args.self.now c.args.line (BadLine c.in-Bad.at c.in-Bad.kind) c.args.self.now.belief _ refl (record { called = refl; failures = refl }) refl
    (subst (λ (l : Line). LineTallied in_any_order c.args.self.now l c.args.tally.now c.args.tally.now) (sym c.in-Bad.is) refl)

-- which pages count as looked at where memory is wanting

pub returns-in-Scan-clause-looked : goal.returns-in-Scan-clause-looked
returns-in-Scan-clause-looked g c =
    if_short c.answer_scan.result (λ same. looks_at_none c.args.self.now.scanned c.answer_scan.new.self.scanned (believed c.args.self.now.belief) (ap (λ (s : Standing). s.scanned) same)) c.answer_scan.ensures.err

pub returns-in-Put-clause-looked : goal.returns-in-Put-clause-looked
returns-in-Put-clause-looked g c =
    if_short c.put_line.result (λ same. looks_at_none c.args.self.now.scanned c.put_line.new.self.scanned (believed c.args.self.now.belief) (ap (λ (s : Standing). s.scanned) same)) c.put_line.ensures.err

pub returns-in-Build-clause-looked : goal.returns-in-Build-clause-looked
returns-in-Build-clause-looked g c =
    if_short c.build_line.result (looks_at_none c.args.self.now.scanned c.build_line.new.self.scanned (believed c.args.self.now.belief)) c.build_line.ensures.looked
