use Rattle.std.proofs.Common.{◌≡◌, ◌∙◌, ◌++◌, ap, refl, sym, subst, Some, arith}
use Rattle.std.proofs.Math.Facts.{to_z-of_z}
use Rattle.std.specs.FinMap.{empty}
use Rattle.out_tree.proofs.ClashLemmas.{none_differ}
use Rattle.out_tree.specs.Memory.{OutState}
use Rattle.site_generator.specs.Generator.{edited_site}
use Rattle.site_session.specs.Session.{first_fault, start}
use Rattle.site_session.specs.Standing.{Standing, Holds}
use Rattle.site_program.specs.Checks.{EndsAs, Said, verdict_status}
use Rattle.site_program.specs.Makes.{build_bytes, built, edited, made, make_settings}
use Rattle.site_program.specs.declared.status.Status.{Status}
use Rattle.site_program.proofs.Making.{done_none, done_took, first_ends, first_only, none_there, then_ends, then_second}
use Rattle.site_program.proofs.make.make.Goals as goal

pub new-out-requires-clause-differ : goal.new-out-requires-clause-differ
new-out-requires-clause-differ g c = none_differ c.new.result.items c.new.ensures.items

pub tell_build-requires : goal.tell_build-requires
tell_build-requires g c =
    let files : c.new-out.result.files ≡ empty = ap (λ (o : OutState). o.files) c.new-out.ensures ∙ none_there c.new.result.items c.new.ensures.items in
    subst (λ (s : Standing). Holds (Some c.new-out.result.files) s.belief empty) (sym c.holding-session.ensures) (record { there = empty; told_is = ap Some files; is_true = refl })

pub returns-in_default-tell_build : goal.returns-in_default-tell_build
returns-in_default-tell_build g c =
    let number = c.args.number in let count = c.args.count in let moment = c.args.moment in
    let made_is : c.holding-session.result ≡ made number count moment = c.holding-session.ensures ∙ (λ i. record (start make_settings (to_z-of_z c.ranges.moment i)) { files = c.in-Ok.ensures i }) in
    let first = first_fault (made number count moment) in
    let second = first_fault (edited number count moment) in
    record {
      ends = first_ends first second c.tell_build.result c.in_default-tell_build.not-Done (subst (λ (s : Standing). EndsAs (verdict_status (first_fault s)) c.tell_build.result) made_is c.tell_build.ensures.ends);
      took = λ before w. first_only (build_bytes (made number count moment)) (build_bytes (edited number count moment)) first second before _ c.tell_build.result c.in_default-tell_build.not-Done
          (subst (λ (s : Standing). Said (build_bytes s) (verdict_status (first_fault s)) before (g.K.ByteSink.taken c.tell_build.new.sink) c.tell_build.result) made_is (c.tell_build.ensures.took before w));
      sink_fault = c.tell_build.ensures.sink_fault;
    }

pub returns-in-Ok-edit : goal.returns-in-Ok-edit
returns-in-Ok-edit g c =
    let number = c.args.number in let count = c.args.count in let moment = c.args.moment in
    let made_is : c.holding-session.result ≡ made number count moment = c.holding-session.ensures ∙ (λ i. record (start make_settings (to_z-of_z c.ranges.moment i)) { files = c.in-Ok.ensures i }) in
    let edited_is : c.edit.new.session ≡ edited number count moment = c.in-Ok-edit.ensures ∙ ap (λ (s : Standing). record s { files = edited_site number count }) (c.tell_build.ensures.new c.in-Done.is ∙ ap (λ s. (built s).0) made_is) in
    let none = done_none (first_fault (made number count moment)) (subst (λ (s : Status). EndsAs (verdict_status (first_fault (made number count moment))) s) c.in-Done.is
    (subst (λ (s : Standing). EndsAs (verdict_status (first_fault s)) c.tell_build.result) made_is c.tell_build.ensures.ends)) in
    record {
      ends = then_ends (first_fault (made number count moment)) (first_fault (edited number count moment)) c.tell_build-in-Ok-edit.result none
          (subst (λ (s : Standing). EndsAs (verdict_status (first_fault s)) c.tell_build-in-Ok-edit.result) edited_is c.tell_build-in-Ok-edit.ensures.ends);
      took = λ before w.
          let first = build_bytes (made number count moment) in
          let mid = done_took first (verdict_status (first_fault (made number count moment))) before _
          (subst (λ (s : Status). Said first (verdict_status (first_fault (made number count moment))) before (g.K.ByteSink.taken c.tell_build.new.sink) s) c.in-Done.is
          (subst (λ (s : Standing). Said (build_bytes s) (verdict_status (first_fault s)) before (g.K.ByteSink.taken c.tell_build.new.sink) c.tell_build.result) made_is (c.tell_build.ensures.took before w))) in
          then_second first (build_bytes (edited number count moment)) (first_fault (made number count moment)) (first_fault (edited number count moment)) before _ c.tell_build-in-Ok-edit.result none
          (subst (λ (s : Standing). Said (build_bytes s) (verdict_status (first_fault s)) (before ++ first) (g.K.ByteSink.taken c.tell_build-in-Ok-edit.new.sink) c.tell_build-in-Ok-edit.result) edited_is
          (c.tell_build-in-Ok-edit.ensures.took (before ++ first) mid));
      sink_fault = λ e. (let rose = c.tell_build-in-Ok-edit.ensures.sink_fault e in omega (arith, rose, c.tell_build.ensures.later));
    }
