-- Worked rows of numbers.
use Rattle.std.specs.Prelude.{◌≡◌, pos, negsuc, [], ◌∷◌, Ok, Err, codes, refl}
use Rattle.site_base.specs.Plain.{nil, int, text}
use Rattle.site_base.specs.declared.faults.FaultKind.TheVariants.{FilterArgument, DividedByZero, Overflow, Fraction}
use Rattle.filter_base.specs.Numerals.{num}
use Rattle.liquid_filters.specs.Numbers.{number_filter}
use Rattle.liquid_filters.specs.declared.numbers.NumberFilter.TheVariants.{Abs, AtMost, DividedBy, Modulo, Plus, Times}

row-1 : number_filter DividedBy (int (negsuc 6)) (int (pos 2) ∷ []) ≡ Ok (negsuc 3)
row-1 = refl

row-2 : number_filter DividedBy (int (pos 7)) (int (negsuc 1) ∷ []) ≡ Ok (negsuc 3)
row-2 = refl

row-3 : number_filter DividedBy (int (negsuc 6)) (int (negsuc 1) ∷ []) ≡ Ok (pos 3)
row-3 = refl

row-4 : number_filter Modulo (int (negsuc 6)) (int (pos 3) ∷ []) ≡ Ok (pos 2)
row-4 = refl

row-5 : number_filter Modulo (int (pos 7)) (int (negsuc 2) ∷ []) ≡ Ok (negsuc 1)
row-5 = refl

row-6 : number_filter Plus (int (pos 9223372036854775807)) (int (pos 1) ∷ []) ≡ Err Overflow
row-6 = refl

row-7 : number_filter Abs (int (negsuc 9223372036854775807)) [] ≡ Err Overflow
row-7 = refl

row-8 : number_filter DividedBy (int (pos 1)) (int (pos 0) ∷ []) ≡ Err DividedByZero
row-8 = refl

row-9 : number_filter Plus (text (codes "1.5")) (int (pos 1) ∷ []) ≡ Err Fraction
row-9 = refl

row-10 : number_filter Plus (text (codes "-12")) (nil ∷ []) ≡ Ok (negsuc 11)
row-10 = refl

row-11 : number_filter Plus (int (pos 1)) [] ≡ Err FilterArgument
row-11 = refl

row-12 : num (text (codes "+1")) ≡ Ok (pos 0)
row-12 = refl

row-13 : num (text (codes "1.")) ≡ Ok (pos 0)
row-13 = refl

row-14 : num (text (codes "9223372036854775808")) ≡ Err Overflow
row-14 = refl

row-15 : num (text (codes "-9223372036854775808")) ≡ Ok (negsuc 9223372036854775807)
row-15 = refl

row-16 : number_filter Modulo (int (negsuc 6)) (int (negsuc 2) ∷ []) ≡ Ok (negsuc 0)
row-16 = refl

row-17 : number_filter Times (int (pos 4294967296)) (int (pos 2147483648) ∷ []) ≡ Err Overflow
row-17 = refl

row-18 : number_filter AtMost (int (pos 4)) (int (pos 3) ∷ []) ≡ Ok (pos 3)
row-18 = refl
