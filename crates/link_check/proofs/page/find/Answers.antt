use Rattle.std.proofs.Common.{◌∙◌, ap, arith, get_or, sym}
use Rattle.std.proofs.lemmas.List.{get_or_read}
use Rattle.site_base.specs.Places.{count_below}
use Rattle.site_base.proofs.Entries.{missing, other_text, same_text}
use Rattle.link_check.proofs.page.find.Goals as goal
use Rattle.link_check.proofs.page.find.Goals.{else-place-pages-via-then-place-pages+else-has_path, else-place-pages-via-else-place-pages}

pub returns-then-has_path : goal.returns-then-has_path
returns-then-has_path c =
    let es = c.args.pages.now in
    record {
      place_is = c.place_of-place.ensures.is ∙ ap (λ k. count_below k es) c.as_bytes.ensures.bytes;
      bound = omega arith;
      path_is = λ d. ap (λ e. e.0) (sym (get_or_read es _ _ (omega arith) c.index-pages-place.is d)) ∙ same_text c.index-pages-place.result.0 c.args.path.now (sym c.has_path.ensures ∙ c.if-has_path.true);
    }

pub returns-else-place-pages : goal.returns-else-place-pages
returns-else-place-pages c =
    let es = c.args.pages.now in
    let k = c.args.path.now in
    let at = c.place_of-place.ensures.is ∙ ap (λ k. count_below k es) c.as_bytes.ensures.bytes in
    record {
      place_is = at;
      bound = omega (arith, c.place_of-place.ensures.bound);
      none = missing k es c.requires (λ d lt is.
          elim c.else-place-pages.branch [
            | else-place-pages-via-then-place-pages+else-has_path w ↦ other_text w.index-pages-place.result.0 k (sym w.has_path.ensures ∙ w.if-has_path.false) (ap (λ e. e.0) (get_or_read es _ _ (omega arith) w.index-pages-place.is d ∙ ap (λ i. get_or es i d) at) ∙ is)
            | else-place-pages-via-else-place-pages w ↦ omega arith
          ]);
    }
