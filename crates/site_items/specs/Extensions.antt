-- The extensions of outputs, after Jekyll 4's manual, "Configuration Options".
use Rattle.std.specs.Prelude.{ℕ, Bool, ◌||◌, List, codes, if◌then◌else◌}
use Rattle.std.specs.Str.{bytes_eq}
use Rattle.site_text.specs.Extensions.{is_listed}

abbrev pub html : List ℕ
html = codes ".html"

-- HTML where the extension is Markdown's, and else the extension itself
abbrev pub output_ext : List ℕ → List ℕ → List ℕ
output_ext markdown ext = if is_listed markdown ext then html else ext

abbrev pub is_page_ext : List ℕ → Bool
is_page_ext ext = bytes_eq ext html || bytes_eq ext (codes ".xhtml") || bytes_eq ext (codes ".htm")
