use Rattle.std.proofs.Common.{◌≡◌, ◌∙◌, [], Some, ap, refl}
use Rattle.std.proofs.Math.Facts.{to_z-of_z}
use Rattle.site_base.specs.Ends.{InputState, SinkState}
use Rattle.source_tree.specs.Memory.{SourceState}
use Rattle.out_tree.specs.Memory.{OutState}
use Rattle.site_session.specs.Session.{start}
use Rattle.site_program.specs.Once.{jobs_order}
use Rattle.site_tests.specs.Scenarios.{given_of, memory_stage, told_of}
use Rattle.site_tests.proofs.Told.{ended, session, took}
use Rattle.site_tests.proofs.scenario.Scenario.run_jobs.Goals as goal

-- the ends tell what the scenario gives them, and the moment is handed on as the same number

pub returns-clause-build : goal.returns-clause-build
returns-clause-build g c = λ options is.
    let same = to_z-of_z c.ranges.moment in
    let order = ap (λ m. jobs_order c.in_ok-words.words m) same ∙ ap (λ w. jobs_order w c.args.moment) c.in_ok-words.ensures.words ∙ is in
    let source = ap (λ (s : SourceState). Some s.files) c.in_ok-ends.ensures.source in
    let out = ap (λ (o : OutState). Some o.files) c.in_ok-ends.ensures.out in
    ended (given_of c.args.self.now) _ _ _ _ _ _ (ap (start options.settings) same) out ((c.run_jobs-status.ensures.build options order).0.told (given_of c.args.self.now) source out)

pub returns-clause-build_took : goal.returns-clause-build_took
returns-clause-build_took g c = λ options is.
    let same = to_z-of_z c.ranges.moment in
    let order = ap (λ m. jobs_order c.in_ok-words.words m) same ∙ ap (λ w. jobs_order w c.args.moment) c.in_ok-words.ensures.words ∙ is in
    let source = ap (λ (s : SourceState). Some s.files) c.in_ok-ends.ensures.source in
    let out = ap (λ (o : OutState). Some o.files) c.in_ok-ends.ensures.out in
    let sink = ap (λ (s : SinkState). Some s.taken) c.in_ok-ends.ensures.sink in
    let given = told_of c.args.self.now options in
    took given _ _ _ _ (ap (start options.settings) same) ((c.run_jobs-status.ensures.build options order).0.took given [] refl source out sink)

pub returns-clause-session : goal.returns-clause-session
returns-clause-session g c = λ options is.
    let same = to_z-of_z c.ranges.moment in
    let order = ap (λ m. jobs_order c.in_ok-words.words m) same ∙ ap (λ w. jobs_order w c.args.moment) c.in_ok-words.ensures.words ∙ is in
    let source = ap (λ (s : SourceState). Some s.files) c.in_ok-ends.ensures.source in
    let out = ap (λ (o : OutState). Some o.files) c.in_ok-ends.ensures.out in
    let input = ap (λ (i : InputState). Some i.left) c.in_ok-ends.ensures.input in
    let sink = ap (λ (s : SinkState). Some s.taken) c.in_ok-ends.ensures.sink in
    let given = told_of c.args.self.now options in
    let none = c.new-tally.ensures in (
      c.run_jobs-status.new.tally,
      session given _ _ c.args.self.now.script.now _ _ _ _ _ (ap (start options.settings) same)
          (λ i. memory_stage (c.in_ok-ends.ensures.source i) (c.in_ok-ends.ensures.out i) (none i) (c.in_ok-ends.ensures.sink i))
          ((c.run_jobs-status.ensures.session options order).run given c.args.self.now.script.now [] refl source out input sink),
    )
