use Rattle.link_check.proofs.NoteLaws.{set_right}
use Rattle.link_check.proofs.notes.push_told.Goals as goal

pub returns-then-not-found-clause-right : goal.returns-then-not-found-clause-right
returns-then-not-found-clause-right g c =
    set_right (g.P.Paths.paths c.args.paths.now) c.args.base.now c.in-Some.value.now c.as_str.result.now c.args.values.now c.args.notes.now.items c.set_note.new.notes.items c.args.number c.in_ok-found.found.note c.requires.right c.in-Some.ensures c.as_str.ensures c.in_ok-found.ensures.right c.set_note.ensures

pub returns-in_err-copy-clause-right : goal.returns-in_err-copy-clause-right
returns-in_err-copy-clause-right g c =
    set_right (g.P.Paths.paths c.args.paths.now) c.args.base.now c.in-Some.value.now c.as_str.result.now c.args.values.now c.args.notes.now.items c.set_note.new.notes.items c.args.number c.in_ok-found.found.note c.requires.right c.in-Some.ensures c.as_str.ensures c.in_ok-found.ensures.right c.set_note.ensures

pub returns-in_err-share-clause-right : goal.returns-in_err-share-clause-right
returns-in_err-share-clause-right g c =
    set_right (g.P.Paths.paths c.args.paths.now) c.args.base.now c.in-Some.value.now c.as_str.result.now c.args.values.now c.args.notes.now.items c.set_note.new.notes.items c.args.number c.in_ok-found.found.note c.requires.right c.in-Some.ensures c.as_str.ensures c.in_ok-found.ensures.right c.set_note.ensures

pub returns-clause-right : goal.returns-clause-right
returns-clause-right g c =
    set_right (g.P.Paths.paths c.args.paths.now) c.args.base.now c.in-Some.value.now c.as_str.result.now c.args.values.now c.args.notes.now.items c.set_note.new.notes.items c.args.number c.in_ok-found.found.note c.requires.right c.in-Some.ensures c.as_str.ensures c.in_ok-found.ensures.right c.set_note.ensures
