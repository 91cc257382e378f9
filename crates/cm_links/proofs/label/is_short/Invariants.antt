use Rattle.std.proofs.Common.{◌≡◌, ◌+◌, ◌≤◌, length, IsUtf8, chars}
use Rattle.std.specs.Str.Iter.{chars_rest}
use Rattle.cm_links.proofs.label.is_short.Given as goal

abbrev pub invariant-loop-c : goal.invariant-loop-c
invariant-loop-c l = record {
  readable : IsUtf8 (chars_rest l._c-iterator);
  small : l.count ≤ 999;
  counted : l.count + length (chars (chars_rest l._c-iterator)) ≡ length (chars l.fn.text);
}
