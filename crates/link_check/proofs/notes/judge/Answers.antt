use Rattle.std.proofs.Common.{◌≡◌, subst, sym}
use Rattle.std.proofs.lemmas.Result.{IfOk-weaker}
use Rattle.link_check.specs.Answered.{is_broken}
use Rattle.link_check.specs.Notes.{IsRight, note_of}
use Rattle.link_check.proofs.NoteLaws.{right_note}
use Rattle.link_check.proofs.notes.judge.Goals as goal

pub returns-in_default-clause-right : goal.returns-in_default-clause-right
returns-in_default-clause-right g c =
    let has = g.P.Paths.paths c.args.paths.now in
    let base = c.args.base.now in
    let value = c.args.value.now in
    let spot = c.args.spot in
    IfOk-weaker c.follow.result
    (λ found. (found.is_broken ≡ is_broken has spot.path.now value base) × (found.note ≡ note_of value spot.folder found.is_broken))
    (λ found. IsRight has base value found.note)
    (λ found h. subst (IsRight has base value) (sym h.1) (right_note has base value spot.folder found.is_broken spot.path.now c.requires.spot.folder h.0))
    c.follow.ensures
