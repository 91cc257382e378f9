use Rattle.std.proofs.Common.{◌≡◌, ◌∙◌, [], Some, ap, refl, subst}
use Rattle.std.proofs.Math.Facts.{to_z-of_z}
use Rattle.site_base.specs.Ends.{SinkState}
use Rattle.source_tree.specs.Memory.{SourceState}
use Rattle.out_tree.specs.Memory.{OutState}
use Rattle.site_session.specs.Scenes.{OutputSeen}
use Rattle.site_session.specs.Session.{start}
use Rattle.site_session.specs.Standing.{Standing}
use Rattle.site_program.specs.Checks.{CheckTook, Checked}
use Rattle.site_program.specs.Once.{after_scan, once_order}
use Rattle.site_tests.specs.Scenarios.{given_of}
use Rattle.site_tests.proofs.Told.{ended, took}
use Rattle.site_tests.proofs.scenario.Scenario.run.Goals as goal

-- the ends tell what the scenario gives them, and the moment is handed on as the same number

pub returns-clause-once : goal.returns-clause-once
returns-clause-once c = λ settings is.
    let same = to_z-of_z c.ranges.moment in
    let order = ap (λ m. once_order c.in_ok-words.words m) same ∙ ap (λ w. once_order w c.args.moment) c.in_ok-words.ensures.words ∙ is in
    let source = ap (λ (s : SourceState). Some s.files) c.in_ok-ends.ensures.source in
    let out = ap (λ (o : OutState). Some o.files) c.in_ok-ends.ensures.out in
    ended (given_of c.args.self.now) _ _ _ _ _ _ (ap (start settings) same) out ((c.run_once-status.ensures.once settings order).1.told (given_of c.args.self.now) source out)

pub returns-clause-once_took : goal.returns-clause-once_took
returns-clause-once_took c = λ settings is.
    let same = to_z-of_z c.ranges.moment in
    let order = ap (λ m. once_order c.in_ok-words.words m) same ∙ ap (λ w. once_order w c.args.moment) c.in_ok-words.ensures.words ∙ is in
    let source = ap (λ (s : SourceState). Some s.files) c.in_ok-ends.ensures.source in
    let out = ap (λ (o : OutState). Some o.files) c.in_ok-ends.ensures.out in
    let sink = ap (λ (s : SinkState). Some s.taken) c.in_ok-ends.ensures.sink in
    took (given_of c.args.self.now) _ _ _ _ (ap (start settings) same) ((c.run_once-status.ensures.once settings order).1.took (given_of c.args.self.now) [] refl source out sink)

pub returns-clause-check : goal.returns-clause-check
returns-clause-check c = λ settings is.
    let same = to_z-of_z c.ranges.moment in
    let order = ap (λ m. once_order c.in_ok-words.words m) same ∙ ap (λ w. once_order w c.args.moment) c.in_ok-words.ensures.words ∙ is in
    let source = ap (λ (s : SourceState). Some s.files) c.in_ok-ends.ensures.source in
    let given = given_of c.args.self.now in
    subst (λ (s : Standing). Checked (after_scan given s) c.run_once-status.result) (ap (start settings) same) ((c.run_once-status.ensures.check settings order).done.told given source)

pub returns-clause-check_took : goal.returns-clause-check_took
returns-clause-check_took c = λ settings is.
    let same = to_z-of_z c.ranges.moment in
    let order = ap (λ m. once_order c.in_ok-words.words m) same ∙ ap (λ w. once_order w c.args.moment) c.in_ok-words.ensures.words ∙ is in
    let source = ap (λ (s : SourceState). Some s.files) c.in_ok-ends.ensures.source in
    let sink = ap (λ (s : SinkState). Some s.taken) c.in_ok-ends.ensures.sink in
    let given = given_of c.args.self.now in
    subst (λ (s : Standing). CheckTook given (after_scan given s) [] (Some c.run_once-status.new.sink.taken) c.run_once-status.result) (ap (start settings) same)
    ((c.run_once-status.ensures.check settings order).done.took given [] source sink)

pub returns-clause-check_untouched : goal.returns-clause-check_untouched
returns-clause-check_untouched c = λ settings is.
    let same = to_z-of_z c.ranges.moment in
    let order = ap (λ m. once_order c.in_ok-words.words m) same ∙ ap (λ w. once_order w c.args.moment) c.in_ok-words.ensures.words ∙ is in
    ap (λ (o : OutputSeen OutState). o.value.files) (c.run_once-status.ensures.check settings order).output ∙ ap (λ (o : OutState). o.files) c.in_ok-ends.ensures.out
