-- A line that sets the moment sets one within the limits.
use Rattle.std.proofs.Common.{◌≡◌, ℕ, Bool, true, false, cond, ◌&&◌, List, drop, length, refl, Option, Some, None}
use Rattle.std.proofs.lemmas.Bool.{and_parts}
use Rattle.std.specs.Prelude.{codes, nat_eq, nat_le, nat_lt, not, pos}
use Rattle.std.specs.List.{list_any, starts_with, before_last, after_last}
use Rattle.std.specs.Option.{is_some, option_map_or}
use Rattle.std.specs.Str.{bytes_eq, is_utf8}
use Rattle.std.specs.Str.Parse.{digits_value}
use Rattle.site_base.specs.Limits.{last_moment, most_bytes}
use Rattle.site_base.specs.Path.{path_refusal}
use Rattle.site_script.specs.Line.{HasTime}
use Rattle.site_script.specs.Number.{is_number, number_up_to}
use Rattle.site_script.specs.Script.{is_space, delete_form, form_of, head_of, long_form, put_form, put_of, time_form}
use Rattle.site_script.specs.declared.head.Head.{Head}
use Rattle.site_script.specs.declared.head.Head.TheVariants as head
use Rattle.site_script.specs.declared.line.ScriptKind.TheVariants as kind

either : (b : Bool) (x y : Head) → HasTime x → HasTime y → HasTime (cond b x y)
either true x y hx hy = hx
either false x y hx hy = hy

put_time : (path : List ℕ) (count : Option ℕ) → HasTime (option_map_or (λ n. head.Put path n) count (head.Bad kind.Length))
put_time path None = tt
put_time path (Some n) = tt

number_time : (b : Bool) (n : ℕ) → (b ≡ true → nat_le n last_moment ≡ true) → HasTime (option_map_or (λ n. head.Time (pos n)) (cond b (Some n) None) (head.Bad kind.Seconds))
number_time true n h = h refl
number_time false n h = tt

time_time : (seconds : List ℕ) → HasTime (time_form seconds)
time_time seconds =
    number_time (is_number seconds && nat_le (digits_value 10 seconds) last_moment) (digits_value 10 seconds) (λ e. (and_parts (is_number seconds) (nat_le (digits_value 10 seconds) last_moment) e).1)

put_form_time : (rest : List ℕ) → HasTime (put_form rest)
put_form_time rest =
    either (list_any is_space rest) (put_of (before_last is_space rest) (after_last is_space rest)) (head.Bad kind.Unknown)
    (either (is_some (path_refusal (before_last is_space rest))) (head.Bad kind.Path) _ tt (put_time (before_last is_space rest) (number_up_to most_bytes (after_last is_space rest)))) tt

long_time : (line : List ℕ) → HasTime (long_form line)
long_time line =
    either (starts_with nat_eq line (codes "put ")) (put_form (drop 4 line)) _ (put_form_time (drop 4 line))
    (either (starts_with nat_eq line (codes "delete ")) (delete_form (drop 7 line)) _ (either (is_some (path_refusal (drop 7 line))) (head.Bad kind.Path) (head.Delete (drop 7 line)) tt tt)
    (either (starts_with nat_eq line (codes "time ")) (time_form (drop 5 line)) (head.Bad kind.Unknown) (time_time (drop 5 line)) tt))

form_time : (line : List ℕ) → HasTime (form_of line)
form_time line =
    either (bytes_eq line (codes "scan")) head.Scan _ tt
    (either (bytes_eq line (codes "build")) head.Build _ tt
    (either (bytes_eq line (codes "links")) head.Links _ tt (either (bytes_eq line (codes "end")) head.End (long_form line) tt (long_time line))))

pub head_time : (line : List ℕ) → HasTime (head_of line)
head_time line =
    either (nat_lt 2048 (length line)) (head.Bad kind.LongLine) _ tt (either (not (is_utf8 line)) (head.Bad kind.NotText) (form_of line) tt (form_time line))
