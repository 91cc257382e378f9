use Rattle.std.proofs.Common.{◌≡◌, ◌∙◌, Err, ap, arith, refl, rules}
use Rattle.site_session.specs.Scenes.{source_seen}
use Rattle.site_session.specs.Session.{start}
use Rattle.site_session.specs.Standing.{Standing}
use Rattle.site_session.proofs.Rebuilding.{in_some_order}
use Rattle.site_program.specs.Stages.{sink_seen, stage}
use Rattle.site_program.proofs.OneBuilds.{ends_built, ends_cut, ends_early, ends_unscanned, told_bare}
use Rattle.site_program.proofs.one_build.build_one_by_one.Goals as goal

pub returns-in-Err : goal.returns-in-Err
returns-in-Err g c =
    let opened : c.for_one_build-session.result ≡ start c.args.options.settings c.args.moment = search (c.for_one_build-session.ensures, rules) in
    let at = stage g.S.SourceTree.files g.S.SourceTree.failures g.O.OutTree.contents g.O.OutTree.calls g.O.OutTree.failures g.K.ByteSink.taken g.K.ByteSink.failures in
    ends_early (start c.args.options.settings c.args.moment) c.for_one_build-session.result opened refl c.args.options.why (at c.args.source.now c.args.out.now c.args.tally.now c.args.sink.now)
    _ (source_seen g.S.SourceTree.files g.S.SourceTree.failures c.tell_scan.new.source) (sink_seen g.K.ByteSink.taken g.K.ByteSink.failures c.tell_scan.new.sink)
    c.status.result c.in-Err.ensures.told c.status.ensures.cases c.status.ensures.short c.status.ensures.memory (λ e. c.tell_scan.ensures.cause (c.in-Err.is ∙ ap Err (c.status.ensures.sink e)))

pub returns-in_default : goal.returns-in_default
returns-in_default g c =
    let opened : c.for_one_build-session.result ≡ start c.args.options.settings c.args.moment = search (c.for_one_build-session.ensures, rules) in
    let at = stage g.S.SourceTree.files g.S.SourceTree.failures g.O.OutTree.contents g.O.OutTree.calls g.O.OutTree.failures g.K.ByteSink.taken g.K.ByteSink.failures in
    ends_unscanned (start c.args.options.settings c.args.moment) c.for_one_build-session.result opened refl c.args.options.why (at c.args.source.now c.args.out.now c.args.tally.now c.args.sink.now)
    (source_seen g.S.SourceTree.files g.S.SourceTree.failures c.tell_scan.new.source) (sink_seen g.K.ByteSink.taken g.K.ByteSink.failures c.tell_scan.new.sink)
    c.status_of.result _ c.in-Ok.scanned c.in-Ok.ensures.told c.in_default.not-Scanned c.status_of.ensures

pub returns-in-Ok-tell_build : goal.returns-in-Ok-tell_build
returns-in-Ok-tell_build g c =
    let opened : c.for_one_build-session.result ≡ start c.args.options.settings c.args.moment = search (c.for_one_build-session.ensures, rules) in
    let bare = told_bare c.args.options.why _ _ _ _ _ _ _ (ap (λ (s : Standing). s.kept) opened) c.in-Ok.ensures.told in
    ends_built (start c.args.options.settings c.args.moment) c.for_one_build-session.result opened refl c.args.options.why g.O.OutTree.contents g.O.OutTree.calls g.O.OutTree.failures
    (source_seen g.S.SourceTree.files g.S.SourceTree.failures c.args.source.now) (source_seen g.S.SourceTree.files g.S.SourceTree.failures c.tell_scan.new.source) c.args.out.now _ c.args.tally.now _
    (sink_seen g.K.ByteSink.taken g.K.ByteSink.failures c.args.sink.now) _ _ c.in-Ok.scanned _ c.in-Scanned.is _ bare _ (in_some_order g.O.OutTree.contents g.O.OutTree.calls g.O.OutTree.failures _ _ _ _ _ _ _ c.build_once-rebuilt.ensures.1)
    (sink_seen g.K.ByteSink.taken g.K.ByteSink.failures c.tell_build.new.sink) c.status_of-in-Ok-tell_build.result c.in-Ok-tell_build.reply c.in-Ok-tell_build.ensures.told c.status_of-in-Ok-tell_build.ensures

pub returns-in-Err-tell_build : goal.returns-in-Err-tell_build
returns-in-Err-tell_build g c =
    let opened : c.for_one_build-session.result ≡ start c.args.options.settings c.args.moment = search (c.for_one_build-session.ensures, rules) in
    let bare = told_bare c.args.options.why _ _ _ _ _ _ _ (ap (λ (s : Standing). s.kept) opened) c.in-Ok.ensures.told in
    ends_cut (start c.args.options.settings c.args.moment) c.for_one_build-session.result opened refl c.args.options.why g.O.OutTree.contents g.O.OutTree.calls g.O.OutTree.failures
    (source_seen g.S.SourceTree.files g.S.SourceTree.failures c.args.source.now) (source_seen g.S.SourceTree.files g.S.SourceTree.failures c.tell_scan.new.source) c.args.out.now _ c.args.tally.now _
    (sink_seen g.K.ByteSink.taken g.K.ByteSink.failures c.args.sink.now) _ _ c.in-Ok.scanned _ c.in-Scanned.is _ bare _ (in_some_order g.O.OutTree.contents g.O.OutTree.calls g.O.OutTree.failures _ _ _ _ _ _ _ c.build_once-rebuilt.ensures.1)
    _ (sink_seen g.K.ByteSink.taken g.K.ByteSink.failures c.tell_build.new.sink) c.status-in-Err-tell_build.result c.in-Err-tell_build.ensures.told c.status-in-Err-tell_build.ensures.cases c.status-in-Err-tell_build.ensures.short c.status-in-Err-tell_build.ensures.memory
    (λ e.
    let rose = c.tell_build.ensures.cause (c.in-Err-tell_build.is ∙ ap Err (c.status-in-Err-tell_build.ensures.sink e)) in
    omega (arith, rose, c.tell_scan.ensures.later))
