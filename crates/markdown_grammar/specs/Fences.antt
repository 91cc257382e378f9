-- The lines before and after fenced code: CommonMark 0.31.2, section 4.5.
use Rattle.std.specs.Prelude.{Bool, List, drop, if◌then◌else◌, nat_le, nat_lt, not, ℕ, ◌&&◌, ◌==◌, ◌||◌}
use Rattle.site_text.specs.Bytes.{backtick, tilde}
use Rattle.site_text.specs.Fronts.{first_byte, has_one, run_len}
use Rattle.markdown_grammar.specs.Columns.{indent}
use Rattle.markdown_grammar.specs.Lines.{is_blank, trim, trim_front}
use Rattle.markdown_grammar.specs.Starts.{Start, fence_start, text_start}

-- at least three backticks or tildes; the info string behind backticks has none
abbrev pub fence_at : ℕ → List ℕ → Start
fence_at i t =
    let c = first_byte t in
    let n = run_len (λ d. d == c) t in
    if (((c == backtick) || (c == tilde)) && nat_lt 2 n) && not ((c == backtick) && has_one (λ d. d == backtick) (drop n t)) then fence_start i c n (trim (drop n t)) else text_start

-- a closing fence: at least as many of the mark, and nothing else
abbrev pub closes_fence : ℕ → ℕ → ℕ → List ℕ → Bool
closes_fence mark len col t =
    let u = trim_front t in
    let n = run_len (λ d. d == mark) u in
    (nat_lt (indent col t) 4 && nat_le len n) && is_blank (drop n u)
