use Rattle.std.proofs.Common.{◌∙◌, ◌++◌, [], append-nil, inl, inr, ap, sym, subst, refl, Some, take}
use Rattle.site_session.specs.Bytes.{reply_bytes}
use Rattle.site_session.specs.Standing.{Holds}
use Rattle.site_program.proofs.line.do_line.Goals as goal

pub returns-in-Err-clause-stopped : goal.returns-in-Err-clause-stopped
returns-in-Err-clause-stopped g c = λ given before why told h w. (
  [],
  inl (record { memory = refl; spares = c.in-Err.ensures.spares; output = subst (λ files. Holds files c.args.session.now.belief given.output) (sym c.in-Err.ensures.spares.output.files) h; nothing = refl }),
  w ∙ ap Some (sym (append-nil before)),
  λ _. refl,
)

pub returns-in-Err-write_reply-clause-stopped : goal.returns-in-Err-write_reply-clause-stopped
returns-in-Err-write_reply-clause-stopped g c = λ given before why told h w.
    let p = c.in-Err-write_reply.ensures.err before w in (
      take p.0 (reply_bytes given.why c.in-Ok.reply),
      inr (record {
        reply = c.in-Ok.reply;
        new = c.answer.new.self;
        answers = c.in-Ok.ensures.answers given told h;
        output = c.in-Ok.ensures.belief given.output h;
        leaves = c.in-Ok.ensures.leaves;
        taken = p.0;
        part_is = refl;
      }),
      p.1 ∙ ap (λ b. Some (before ++ take p.0 (reply_bytes b c.in-Ok.reply))) (sym why),
      λ e. ap (λ k. take k (reply_bytes given.why c.in-Ok.reply)) (p.2 e),
    )
