-- One byte of a bare destination: what `bare_len` does with it.
use Rattle.std.specs.Prelude.{◌≤◌, ℕ, suc, ◌-◌, Bool, false, ◌&&◌, ◌||◌, List, Option, Some, None, nat_lt, ◌==◌, if◌then◌else◌}
use Rattle.site_text.specs.Bytes.{is_control, is_punct}
use Rattle.markdown_grammar.specs.Readers.{plus}
use Rattle.markdown_grammar.specs.Destinations.{bare_len}
use Rattle.cm_links.specs.declared.destinations.Next.{Next}
use Rattle.cm_links.specs.declared.destinations.Next.TheVariants.{Go, Stop, Refuse}

abbrev pub ended : ℕ → Next
ended depth = if depth == 0 then Stop else Refuse

abbrev pub bare_next : Bool → ℕ → ℕ → Next
bare_next escaped depth c =
    if escaped && is_punct c then Go false depth
    else if (c == 32) || is_control c then ended depth
    else if c == 40 then (if nat_lt depth 32 then Go false (suc depth) else Refuse)
    else if c == 41 then (if depth == 0 then Stop else Go false (depth - 1))
    else Go (c == 92) depth

-- what the byte and those behind it make
abbrev pub going : Next → List ℕ → Option ℕ
going (Go is_escaped depth) cs = plus 1 (bare_len is_escaped depth cs)
going Stop cs = Some 0
going Refuse cs = None

abbrev pub IsSmall : Next → Type 0
IsSmall (Go escaped depth) = depth ≤ 32
IsSmall Stop = Unit {0}
IsSmall Refuse = Unit {0}

abbrev pub IsStop : Next → Type 0
IsStop (Go is_escaped depth) = ⊥
IsStop Stop = Unit {0}
IsStop Refuse = ⊥
