use Rattle.std.proofs.Common.{◌≡◌, ◌++◌, map, IsUtf8, string_bytes}
use Rattle.std.specs.Str.Iter.{chars_rest}
use Rattle.liquid_tags.specs.Highlights.{class_byte}
use Rattle.liquid_tags.proofs.highlights.push_class.Given as goal

abbrev pub invariant-loop-character : goal.invariant-loop-character
invariant-loop-character l = record {
  readable : IsUtf8 (chars_rest l.character-iterator);
  so_far : string_bytes l.text ++ map class_byte (chars_rest l.character-iterator) ≡ string_bytes l.initial.text ++ map class_byte l.fn.name;
}
