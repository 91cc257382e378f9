use Rattle.std.proofs.Common.{◌≡◌, ◌++◌, IsUtf8}
use Rattle.std.specs.Str.Iter.{chars_rest}
use Rattle.std.specs.String.{string_bytes}
use Rattle.site_sentences.specs.Shown.{shown}
use Rattle.site_sentences.proofs.showing.push_shown.Given as goal

abbrev pub invariant-loop-character : goal.invariant-loop-character
invariant-loop-character l = record {
  readable : IsUtf8 (chars_rest l.character-iterator);
  so_far : string_bytes l.made ++ shown (chars_rest l.character-iterator) ≡ string_bytes l.fn.made ++ shown l.text;
}
