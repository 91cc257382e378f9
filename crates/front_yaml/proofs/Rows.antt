-- Worked rows: front matter, computed at small files.
use Rattle.std.proofs.Common.{◌≡◌, ◌∷◌, codes, refl}
use Rattle.site_base.specs.Lines.{lines}
use Rattle.front_yaml.specs.declared.front_matter.Front.TheVariants.{Page, Open, Plain}
use Rattle.front_yaml.specs.Front.{front}

page : front (codes "---\ntitle: Hi\n---\n<h1>") ≡ Page 4 14 18
unfolding lines
page = refl

blank_lines : front (codes "--- \t\na: b\n... \n\n \t\n\nb") ≡ Page 6 11 21
unfolding lines
blank_lines = refl

line_ends : front (codes "---\r\na: b\r---\r\n\r\nx") ≡ Page 5 10 17
unfolding lines
line_ends = refl

no_text : front (codes "---\n---") ≡ Page 4 4 7
unfolding lines
no_text = refl

marked : front (0xEF ∷ 0xBB ∷ 0xBF ∷ codes "---\na: b\n---\n") ≡ Page 7 12 16
unfolding lines
marked = refl

never_closed : front (codes "---\na: b\n----\n") ≡ Open
unfolding lines
never_closed = refl

plain : front (codes "---") ≡ Plain
unfolding lines
plain = refl
