-- Worked command lines.
use Rattle.std.proofs.Common.{◌≡◌, [], ◌∷◌, refl, true, false}
use Rattle.std.specs.Prelude.{codes, Ok, Err}
use Rattle.site_words.specs.Words.{words_order}
use Rattle.site_words.specs.declared.orders.Order.TheVariants as order
use Rattle.site_words.specs.declared.faults.UsageKind.TheVariants as kind

no_words : words_order [] ≡ Err kind.Missing
no_words = refl

no_command : words_order (codes "--drafts" ∷ codes "build" ∷ []) ≡ Err kind.Command
no_command = refl

build_alone : words_order (codes "build" ∷ []) ≡ Ok (order.Build (record { jobs = 1; settings = record { drafts = false; future = false }; why = false }))
build_alone = refl

build_with_jobs : words_order (codes "build" ∷ codes "--jobs=4" ∷ codes "--why" ∷ []) ≡ Ok (order.Build (record { jobs = 4; settings = record { drafts = false; future = false }; why = true }))
build_with_jobs = refl

jobs_in_the_next_word : words_order (codes "session" ∷ codes "--future" ∷ codes "--jobs" ∷ codes "+7" ∷ codes "--drafts" ∷ []) ≡ Ok (order.Session (record { jobs = 7; settings = record { drafts = true; future = true }; why = false }))
jobs_in_the_next_word = refl

no_jobs : words_order (codes "build" ∷ codes "--jobs" ∷ codes "0" ∷ []) ≡ Err kind.Option
no_jobs = refl

many_jobs : words_order (codes "build" ∷ codes "--jobs" ∷ codes "065" ∷ []) ≡ Err kind.Option
many_jobs = refl

jobs_with_a_leading_zero : words_order (codes "build" ∷ codes "--jobs" ∷ codes "064" ∷ []) ≡ Ok (order.Build (record { jobs = 64; settings = record { drafts = false; future = false }; why = false }))
jobs_with_a_leading_zero = refl

jobs_at_the_end : words_order (codes "build" ∷ codes "--why" ∷ codes "--jobs" ∷ []) ≡ Err kind.Option
jobs_at_the_end = refl

an_option_is_no_number : words_order (codes "build" ∷ codes "--jobs" ∷ codes "--why" ∷ []) ≡ Err kind.Option
an_option_is_no_number = refl

option_given_twice : words_order (codes "build" ∷ codes "--jobs" ∷ codes "2" ∷ codes "--jobs=2" ∷ []) ≡ Err kind.Option
option_given_twice = refl

flag_given_twice : words_order (codes "once" ∷ codes "--drafts" ∷ codes "--drafts" ∷ []) ≡ Err kind.Option
flag_given_twice = refl

once_has_no_jobs : words_order (codes "once" ∷ codes "--jobs" ∷ codes "2" ∷ []) ≡ Err kind.Option
once_has_no_jobs = refl

once_with_options : words_order (codes "once" ∷ codes "--future" ∷ []) ≡ Ok (order.Once (record { drafts = false; future = true }))
once_with_options = refl

two_hyphens : words_order (codes "check" ∷ codes "--" ∷ []) ≡ Err kind.Option
two_hyphens = refl

two_hyphens_are_no_number : words_order (codes "build" ∷ codes "--jobs" ∷ codes "--" ∷ []) ≡ Err kind.Option
two_hyphens_are_no_number = refl

flag_with_a_value : words_order (codes "check" ∷ codes "--drafts=true" ∷ []) ≡ Err kind.Option
flag_with_a_value = refl

make_both : words_order (codes "make" ∷ codes "18446744073709551615" ∷ codes "+1000" ∷ []) ≡ Ok (order.Make 18446744073709551615 1000)
make_both = refl

number_too_large : words_order (codes "make" ∷ codes "18446744073709551616" ∷ codes "1" ∷ []) ≡ Err kind.Number
number_too_large = refl

no_count : words_order (codes "make" ∷ codes "1" ∷ codes "0" ∷ []) ≡ Err kind.Number
no_count = refl

count_too_large : words_order (codes "make" ∷ codes "1" ∷ codes "1001" ∷ []) ≡ Err kind.Number
count_too_large = refl

three_numbers : words_order (codes "make" ∷ codes "1" ∷ codes "2" ∷ codes "3" ∷ []) ≡ Err kind.Number
three_numbers = refl

hyphen_before_number : words_order (codes "make" ∷ codes "x" ∷ codes "-1" ∷ []) ≡ Err kind.Option
hyphen_before_number = refl
