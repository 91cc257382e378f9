use Rattle.std.proofs.Common.{◌≡◌, List, [], map, refl, sym, ap, subst, ◌∙◌}
use Rattle.clap.specs.Words.{HasKind, app_of, fault_of, found_of, is_simple, is_simple_and_free, matches_of, rows_of}
use Rattle.site_words.specs.Commands.{options_app}
use Rattle.site_words.specs.Words.{Text, has_jobs, nothing_given}
use Rattle.site_words.proofs.Matching.{refused, taken}
use Rattle.site_words.proofs.Parsed.{simple, simple_and_free}
use Rattle.site_words.proofs.Walks.{with_dashes}
use Rattle.site_words.proofs.options.read_options.Goals as goal

pub returns-then-has_dashes : goal.returns-then-has_dashes
returns-then-has_dashes c = (refl, with_dashes (has_jobs c.args.takes) (map (λ w. w.now) c.args.words.now) nothing_given (sym c.has_dashes.ensures ∙ c.if-has_dashes.true))

pub returns-in-Ok-try_get_matches_from : goal.returns-in-Ok-try_get_matches_from
returns-in-Ok-try_get_matches_from c =
    let words : List Text = map (λ w. w.now) c.args.words.now in
    let app : app_of c.in-Ok.command ≡ options_app (has_jobs c.args.takes) = c.in-Ok.ensures in
    let fine : fault_of (options_app (has_jobs c.args.takes)) words ≡ [] =
    ap (λ a. fault_of a words) (sym app) ∙ c.in-Ok-try_get_matches_from.ensures.kinds (ap is_simple_and_free app ∙ simple_and_free (has_jobs c.args.takes)) in
    let rows : rows_of (found_of c.in-Ok-try_get_matches_from.matches) ≡ matches_of (options_app (has_jobs c.args.takes)) words =
    (c.in-Ok-try_get_matches_from.ensures.matches (ap is_simple app ∙ simple (has_jobs c.args.takes))).0 ∙ ap (λ a. matches_of a words) app in
    taken (has_jobs c.args.takes) words c.in-Ok-try_get_matches_from.matches c.options_given.result (sym c.has_dashes.ensures ∙ c.if-has_dashes.false) fine rows c.options_given.ensures

pub returns-in-Err : goal.returns-in-Err
returns-in-Err c =
    let words : List Text = map (λ w. w.now) c.args.words.now in
    let app : app_of c.in-Ok.command ≡ options_app (has_jobs c.args.takes) = c.in-Ok.ensures in
    let has : HasKind (fault_of (options_app (has_jobs c.args.takes)) words) c.in-Err.error =
    subst (λ a. HasKind (fault_of a words) c.in-Err.error) app (c.in-Err.ensures.kinds (ap is_simple_and_free app ∙ simple_and_free (has_jobs c.args.takes))) in
    refused (has_jobs c.args.takes) words c.in-Err.error c.kind.result c.refusal.result c.kind.ensures (sym c.has_dashes.ensures ∙ c.if-has_dashes.false) has c.refusal.ensures
