-- The rule for what starts a block of HTML, in parts: CommonMark 0.31.2, section 4.6.
use Rattle.std.specs.Prelude.{List, codes, drop, if◌then◌else◌, not, ℕ, ◌&&◌}
use Rattle.site_text.specs.Bytes.{is_letter}
use Rattle.site_text.specs.Fronts.{begins_with, first_byte}
use Rattle.markdown_grammar.specs.Fronts.{has}
use Rattle.markdown_grammar.specs.HtmlStarts.{alone, is_among, name_in, starts_listed, tag_text, verbatim_names}
use Rattle.markdown_grammar.specs.Places.{Place, is_fresh}
use Rattle.markdown_grammar.specs.Starts.{Start, html_start, text_start}
use Rattle.markdown_grammar.specs.declared.html_kind.HtmlKind.TheVariants.{Cdata, Comment, Declaration, Instruction, Listed, Lone}

-- kinds 6 and 7
abbrev pub tagged_at : Place → List ℕ → Start
tagged_at place t =
    if starts_listed (tag_text t) then html_start Listed
    else if (is_fresh place && has (alone t)) && not (is_among verbatim_names (name_in (tag_text t))) then html_start Lone
    else text_start

-- kinds 2 to 5, and those behind them
abbrev pub marked_at : Place → List ℕ → Start
marked_at place t =
    if begins_with (codes "<!--") t then html_start Comment
    else if begins_with (codes "<?") t then html_start Instruction
    else if begins_with (codes "<!") t && is_letter (first_byte (drop 2 t)) then html_start Declaration
    else if begins_with (codes "<![CDATA[") t then html_start Cdata
    else tagged_at place t
