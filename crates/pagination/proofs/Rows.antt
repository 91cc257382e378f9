-- Worked rows: counts and paths of pages.
use Rattle.std.proofs.Common.{◌≡◌, codes, refl}
use Rattle.std.specs.Fmt.{digits}
use Rattle.pagination.specs.Pages.{page_count, page_path}

none : page_count 0 5 ≡ 0
none = refl

full : page_count 10 5 ≡ 2
full = refl

one_more : page_count 11 5 ≡ 3
one_more = refl

usual : page_path (codes "/page:num") 2 ≡ codes "/page2"
unfolding digits
usual = refl

without_slash : page_path (codes "blog/p:num/of:number:num:") 12 ≡ codes "/blog/p12/of12ber12:"
unfolding digits
without_slash = refl

number_alone : page_path (codes ":num") 3 ≡ codes "/3"
unfolding digits
number_alone = refl

two_colons : page_path (codes "::num:nu:") 3 ≡ codes "/:3:nu:"
unfolding digits
two_colons = refl
