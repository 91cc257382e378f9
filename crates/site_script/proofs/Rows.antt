-- Worked lines of scripts.
use Rattle.std.proofs.Common.{◌≡◌, [], ◌∷◌, refl}
use Rattle.std.specs.Prelude.{codes, pos}
use Rattle.std.specs.Str.{is_utf8, chars}
use Rattle.site_script.specs.Script.{first_line}
use Rattle.site_script.specs.declared.line.Line.TheVariants as line
use Rattle.site_script.specs.declared.line.ScriptKind.TheVariants as kind

-- the input ends in a body
cut : first_line 1 (codes "put x.md 10\nabcd") ≡ (line.Bad 1 kind.Cut, [])
unfolding is_utf8 chars lib.Utf8.encode
cut = refl

put_with_line_ends : first_line 1 (codes "put a b.md 3\r\nx\ny\nend\n") ≡ (line.Put (codes "a b.md") (codes "x\ny"), codes "\nend\n")
unfolding is_utf8 chars lib.Utf8.encode
put_with_line_ends = refl

unknown : first_line 1 (codes "x\n") ≡ (line.Bad 1 kind.Unknown, [])
unfolding is_utf8 chars lib.Utf8.encode
unknown = refl

links : first_line 1 (codes "links\r\nend\n") ≡ (line.Links, codes "end\n")
unfolding is_utf8 chars lib.Utf8.encode
links = refl

links_of : first_line 1 (codes "links x\n") ≡ (line.Bad 1 kind.Unknown, [])
unfolding is_utf8 chars lib.Utf8.encode
links_of = refl

links_with_capital : first_line 1 (codes "Links\n") ≡ (line.Bad 1 kind.Unknown, [])
unfolding is_utf8 chars lib.Utf8.encode
links_with_capital = refl

links_behind_space : first_line 1 (codes " links\n") ≡ (line.Bad 1 kind.Unknown, [])
unfolding is_utf8 chars lib.Utf8.encode
links_behind_space = refl

empty_line : first_line 7 (codes "\nscan\n") ≡ (line.Bad 7 kind.Unknown, codes "scan\n")
unfolding is_utf8 chars lib.Utf8.encode
empty_line = refl

no_second_space : first_line 1 (codes "put a\n") ≡ (line.Bad 1 kind.Unknown, [])
unfolding is_utf8 chars lib.Utf8.encode
no_second_space = refl

no_path : first_line 1 (codes "put a/../b 01\n") ≡ (line.Bad 1 kind.Path, [])
unfolding is_utf8 chars lib.Utf8.encode
no_path = refl

leading_zero : first_line 1 (codes "put a 01\nx") ≡ (line.Bad 1 kind.Length, codes "x")
unfolding is_utf8 chars lib.Utf8.encode
leading_zero = refl

too_large : first_line 1 (codes "put a 16777217\n") ≡ (line.Bad 1 kind.Length, [])
unfolding is_utf8 chars lib.Utf8.encode
too_large = refl

not_text : first_line 1 (255 ∷ 10 ∷ []) ≡ (line.Bad 1 kind.NotText, [])
unfolding is_utf8 chars lib.Utf8.encode
not_text = refl

last_moment : first_line 1 (codes "time 253402214399") ≡ (line.Time (pos 253402214399), [])
unfolding is_utf8 chars lib.Utf8.encode
last_moment = refl

later_moment : first_line 1 (codes "time 253402214400") ≡ (line.Bad 1 kind.Seconds, [])
unfolding is_utf8 chars lib.Utf8.encode
later_moment = refl

delete_with_space : first_line 1 (codes "delete x y\r\nbuild") ≡ (line.Delete (codes "x y"), codes "build")
unfolding is_utf8 chars lib.Utf8.encode
delete_with_space = refl

no_lines : first_line 1 [] ≡ (line.Eof, [])
no_lines = refl
