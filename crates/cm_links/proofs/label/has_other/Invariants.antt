use Rattle.std.proofs.Common.{◌≡◌, not, IsUtf8, chars}
use Rattle.std.specs.Str.Iter.{chars_rest}
use Rattle.site_text.specs.Bytes.{is_white}
use Rattle.site_text.specs.Fronts.{has_one}
use Rattle.cm_links.proofs.label.has_other.Given as goal

abbrev pub invariant-loop-c : goal.invariant-loop-c
invariant-loop-c l = record {
  readable : IsUtf8 (chars_rest l.c-iterator);
  so_far : has_one (λ c. not (is_white c)) (chars (chars_rest l.c-iterator)) ≡ has_one (λ c. not (is_white c)) (chars l.fn.text);
}
