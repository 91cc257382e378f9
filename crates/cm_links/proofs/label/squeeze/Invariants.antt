use Rattle.std.proofs.Common.{◌≡◌, ◌++◌, false, IsUtf8, chars, string_bytes, encode_utf8_all}
use Rattle.std.specs.Str.Iter.{chars_rest}
use Rattle.markdown_grammar.specs.Labels.{squeezed}
use Rattle.cm_links.proofs.label.squeeze.Given as goal

abbrev pub invariant-loop-c : goal.invariant-loop-c
invariant-loop-c l = record {
  readable : IsUtf8 (chars_rest l.c-iterator);
  so_far : string_bytes l.out ++ encode_utf8_all (squeezed l.has_begun l.has_gap (chars (chars_rest l.c-iterator))) ≡ encode_utf8_all (squeezed false false (chars l.fn.label));
}
