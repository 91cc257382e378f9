use Rattle.std.proofs.Common.{◌≡◌, None, ap, subst, sym, ◌∙◌}
use Rattle.std.specs.FinMap as map
use Rattle.site_base.specs.Places.{Files}
use Rattle.source_tree.specs.Put.{put_refusal}
use Rattle.site_generator.specs.Generator.{layout_bytes, layout_path, page_bytes, page_path}
use Rattle.site_generator.proofs.Fits.{layout-put, page-put}
use Rattle.site_generator.proofs.site.without_posts.Goals as goal

put_layout : (none held : Files) → none ≡ map.empty → held ≡ map.insert none layout_path layout_bytes → held ≡ map.insert map.empty layout_path layout_bytes
put_layout none held is put = put ∙ ap (λ (m : Files). map.insert m layout_path layout_bytes) is

pub put_text-requires-clause-held : goal.put_text-requires-clause-held
put_text-requires-clause-held c = subst (λ (m : Files). put_refusal m layout_path layout_bytes ≡ None) (sym c.new-held.ensures) layout-put

pub put_text-requires-2-clause-held : goal.put_text-requires-2-clause-held
put_text-requires-2-clause-held c =
    subst (λ (m : Files). put_refusal m page_path page_bytes ≡ None) (sym (put_layout _ _ c.new-held.ensures c.in_ok-put_text.ensures)) page-put

pub returns : goal.returns
returns c =
    c.in_ok-put_text-2.ensures ∙ ap (λ (m : Files). map.insert m page_path page_bytes) (put_layout _ _ c.new-held.ensures c.in_ok-put_text.ensures)
